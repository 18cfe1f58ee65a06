-- What waits in the channels of lines after one line changed.
use Rattle.std.proofs.Common.{◌≡◌, Bool, not, sym, true, false, cond, List, [], Option, Some, None, refl, ap, ◌∙◌}
use Rattle.std.specs.Prelude.{is_some, ◌&&◌, option_map, unwrap_or, ℕ}
use Rattle.std.specs.Cmp.{IsTotalOrder}
use Rattle.std.specs.declared.cmp.Ordering.{Ordering}
use Rattle.std.specs.Ordering.{is_eq}
use Rattle.key_map.specs.Entries.{map_get, map_set, map_put, map_remove}
use Rattle.key_map.proofs.EntriesLemmas.{map_get-same, map_get-set, map_set-missing, map_get-put, map_get-remove, eq-flip}
use Rattle.broadcast_channel.specs.Queue.{PlainQueue, waiting, waiting_after, empty_queue}
use Rattle.broadcast_channel.proofs.MapLemmas.{itself}
use Rattle.broadcast_channel.specs.Hearers.{queues_of, waiting_at, are_these, ChangesAt, WaitsAsBefore, TellsLine, AreOwned}

-- nothing waits, and none was lost
abbrev pub emptied_wait : List (List ℕ) × ℕ → List (List ℕ) × ℕ
emptied_wait w = ([], 0)

module _ {L I : Type 0} (line_cmp : L → L → Ordering) (line_order : IsTotalOrder line_cmp) (id_cmp : I → I → Ordering) (id_order : IsTotalOrder id_cmp) where
  -- what waits in a channel of these queues
  abbrev waits : I → Option (List (I × PlainQueue)) → Option (List (List ℕ) × ℕ)
  waits i o = option_map waiting (map_get id_cmp i (unwrap_or o []))

  found_step : (b : Bool) (i : I) (new : List (I × PlainQueue)) (o : Option (List (I × PlainQueue)))
      → waits i (cond b (Some new) o) ≡ cond b (option_map waiting (map_get id_cmp i new)) (waits i o)
  found_step true i new o = refl
  found_step false i new o = refl

  -- what waits where the queues of a line are these now
  pub waits-set : (line : L) (here new : List (I × PlainQueue)) (lines : List (L × List (I × PlainQueue))) → Some here ≡ map_get line_cmp line lines → (l : L) (i : I)
      → waiting_at line_cmp id_cmp l i (map_set line_cmp line new lines)
      ≡ cond (is_eq (line_cmp l line)) (option_map waiting (map_get id_cmp i new)) (waiting_at line_cmp id_cmp l i lines)
  waits-set line here new lines found l i =
      ap (waits i) (map_get-set line_cmp line_order l line new lines (ap is_some (sym found)))
      ∙ found_step (is_eq (line_cmp l line)) i new (map_get line_cmp l lines)

  -- what waits in the line that was found
  pub waits-here : (line : L) (here : List (I × PlainQueue)) (lines : List (L × List (I × PlainQueue))) → Some here ≡ map_get line_cmp line lines → (l : L) (i : I)
      → is_eq (line_cmp l line) ≡ true → waiting_at line_cmp id_cmp l i lines ≡ option_map waiting (map_get id_cmp i here)
  waits-here line here lines found l i same = ap (waits i) (map_get-same line_cmp line_order l line lines same ∙ sym found)

  -- equal lines and equal channels have the same queue
  pub waits-same : (line l : L) (id i : I) (lines : List (L × List (I × PlainQueue))) → is_eq (line_cmp l line) ≡ true → is_eq (id_cmp id i) ≡ true
      → waiting_at line_cmp id_cmp l i lines ≡ waiting_at line_cmp id_cmp line id lines
  waits-same line l id i lines line_same id_same =
      ap (waits i) (map_get-same line_cmp line_order l line lines line_same)
      ∙ ap (option_map waiting) (sym (map_get-same id_cmp id_order id i (queues_of line_cmp id_cmp line lines) id_same))

  -- a line of which one channel changed
  pub changes-set : (line : L) (id : I) (value : Option (List (List ℕ) × ℕ)) (here new : List (I × PlainQueue)) (lines : List (L × List (I × PlainQueue)))
      → Some here ≡ map_get line_cmp line lines
      → ((i : I) → option_map waiting (map_get id_cmp i new) ≡ cond (is_eq (id_cmp id i)) value (option_map waiting (map_get id_cmp i here)))
      → ChangesAt line_cmp id_cmp line id value lines (map_set line_cmp line new lines)
  changes-set line id value here new lines found each = λ l i.
      waits-set line here new lines found l i ∙ step l i (is_eq (line_cmp l line)) refl
    where
      step : (l : L) (i : I) (b : Bool) → is_eq (line_cmp l line) ≡ b
          → cond b (option_map waiting (map_get id_cmp i new)) (waiting_at line_cmp id_cmp l i lines)
          ≡ cond (b && is_eq (id_cmp id i)) value (waiting_at line_cmp id_cmp l i lines)
      step l i true same = each i ∙ ap (λ w. cond (is_eq (id_cmp id i)) value w) (sym (waits-here line here lines found l i same))
      step l i false same = refl

  -- nothing changes where a channel has what it had
  pub changes-none : (line : L) (id : I) (value : Option (List (List ℕ) × ℕ)) (lines : List (L × List (I × PlainQueue)))
      → waiting_at line_cmp id_cmp line id lines ≡ value → ChangesAt line_cmp id_cmp line id value lines lines
  changes-none line id value lines is = λ l i. step l i (is_eq (line_cmp l line)) (is_eq (id_cmp id i)) refl refl
    where
      step : (l : L) (i : I) (a b : Bool) → is_eq (line_cmp l line) ≡ a → is_eq (id_cmp id i) ≡ b
          → waiting_at line_cmp id_cmp l i lines ≡ cond (a && b) value (waiting_at line_cmp id_cmp l i lines)
      step l i true true line_same id_same = waits-same line l id i lines line_same id_same ∙ is
      step l i true false line_same id_same = refl
      step l i false b line_same id_same = refl

  -- changes after which all waits as before
  pub changes-then : (line : L) (id : I) (value : Option (List (List ℕ) × ℕ)) (old mid new : List (L × List (I × PlainQueue)))
      → ChangesAt line_cmp id_cmp line id value old mid → WaitsAsBefore line_cmp id_cmp mid new → ChangesAt line_cmp id_cmp line id value old new
  changes-then line id value old mid new changes same = λ l i. same l i ∙ changes l i

  -- changes before which all waits as before
  pub changes-after : (line : L) (id : I) (value : Option (List (List ℕ) × ℕ)) (old mid new : List (L × List (I × PlainQueue)))
      → WaitsAsBefore line_cmp id_cmp old mid → ChangesAt line_cmp id_cmp line id value mid new → ChangesAt line_cmp id_cmp line id value old new
  changes-after line id value old mid new same changes = λ l i.
      changes l i ∙ ap (λ w. cond (are_these line_cmp id_cmp line id l i) value w) (same l i)

  -- a queue that is put at a channel
  pub put-each : (id : I) (queue : PlainQueue) (here : List (I × PlainQueue)) (i : I)
      → option_map waiting (map_get id_cmp i (map_put id_cmp id queue here))
      ≡ cond (is_eq (id_cmp id i)) (Some (waiting queue)) (option_map waiting (map_get id_cmp i here))
  put-each id queue here i =
      ap (option_map waiting) (map_get-put id_cmp id_order i id queue here)
      ∙ step (is_eq (id_cmp i id)) (is_eq (id_cmp id i)) (eq-flip id_cmp id_order i id)
    where
      step : (a b : Bool) → a ≡ b → option_map waiting (cond a (Some queue) (map_get id_cmp i here))
          ≡ cond b (Some (waiting queue)) (option_map waiting (map_get id_cmp i here))
      step true true is = refl
      step true false is = absurd (cc is)
      step false true is = absurd (cc is)
      step false false is = refl

  -- a channel that is taken out
  pub remove-each : (id : I) (here : List (I × PlainQueue)) (i : I)
      → option_map waiting (map_get id_cmp i (map_remove id_cmp id here))
      ≡ cond (is_eq (id_cmp id i)) None (option_map waiting (map_get id_cmp i here))
  remove-each id here i =
      ap (option_map waiting) (map_get-remove id_cmp id_order i id here) ∙ step (is_eq (id_cmp id i))
    where
      step : (b : Bool) → option_map waiting (cond b None (map_get id_cmp i here))
          ≡ cond b None (option_map waiting (map_get id_cmp i here))
      step true = refl
      step false = refl

  -- a line that goes with its last channel
  pub gone-empty : (line : L) (lines : List (L × List (I × PlainQueue))) → queues_of line_cmp id_cmp line lines ≡ []
      → WaitsAsBefore line_cmp id_cmp lines (map_remove line_cmp line lines)
  gone-empty line lines empty = λ l i.
      ap (waits i) (map_get-remove line_cmp line_order l line lines) ∙ step l i (is_eq (line_cmp line l)) refl
    where
      step : (l : L) (i : I) (b : Bool) → is_eq (line_cmp line l) ≡ b → waits i (cond b None (map_get line_cmp l lines)) ≡ waits i (map_get line_cmp l lines)
      step l i true same =
          sym (ap (λ qs. option_map waiting (map_get id_cmp i qs)) (ap (λ o. unwrap_or o []) (sym (map_get-same line_cmp line_order line l lines same)) ∙ empty))
      step l i false same = refl

  -- a line that is made without channels
  pub made-empty : (line : L) (lines : List (L × List (I × PlainQueue))) → map_get line_cmp line lines ≡ None
      → WaitsAsBefore line_cmp id_cmp lines (map_put line_cmp line [] lines)
  made-empty line lines missing = λ l i.
      ap (waits i) (map_get-put line_cmp line_order l line [] lines) ∙ step l i (is_eq (line_cmp l line)) refl
    where
      step : (l : L) (i : I) (b : Bool) → is_eq (line_cmp l line) ≡ b → waits i (cond b (Some []) (map_get line_cmp l lines)) ≡ waits i (map_get line_cmp l lines)
      step l i true same = sym (ap (waits i) (map_get-same line_cmp line_order l line lines same ∙ missing))
      step l i false same = refl

  swapped : (c : Bool) (x y : Option (List (List ℕ) × ℕ)) → cond c x y ≡ cond (not c) y x
  swapped true x y = refl
  swapped false x y = refl

  -- a line in which a text came to all others
  pub tells-set : (line : L) (from : I) (text : List ℕ) (here new : List (I × PlainQueue)) (lines : List (L × List (I × PlainQueue)))
      → Some here ≡ map_get line_cmp line lines
      → ((i : I) → option_map waiting (map_get id_cmp i new)
      ≡ cond (is_eq (id_cmp from i)) (option_map waiting (map_get id_cmp i here)) (option_map (waiting_after text) (option_map waiting (map_get id_cmp i here))))
      → TellsLine line_cmp id_cmp line from text lines (map_set line_cmp line new lines)
  tells-set line from text here new lines found each = λ l i.
      waits-set line here new lines found l i ∙ step l i (is_eq (line_cmp l line)) refl
    where
      step : (l : L) (i : I) (b : Bool) → is_eq (line_cmp l line) ≡ b
          → cond b (option_map waiting (map_get id_cmp i new)) (waiting_at line_cmp id_cmp l i lines)
          ≡ cond (b && not (is_eq (id_cmp from i))) (option_map (waiting_after text) (waiting_at line_cmp id_cmp l i lines)) (waiting_at line_cmp id_cmp l i lines)
      step l i true same =
          each i
          ∙ ap (λ w. cond (is_eq (id_cmp from i)) w (option_map (waiting_after text) w)) (sym (waits-here line here lines found l i same))
          ∙ swapped (is_eq (id_cmp from i)) (waiting_at line_cmp id_cmp l i lines) (option_map (waiting_after text) (waiting_at line_cmp id_cmp l i lines))
      step l i false same = refl

  -- a line that is not there tells nobody
  pub tells-none : (line : L) (from : I) (text : List ℕ) (lines : List (L × List (I × PlainQueue))) → map_get line_cmp line lines ≡ None
      → TellsLine line_cmp id_cmp line from text lines lines
  tells-none line from text lines missing = λ l i. step l i (is_eq (line_cmp l line)) refl
    where
      told_none : (c : Bool) (w : Option (List (List ℕ) × ℕ)) → w ≡ None → w ≡ cond c (option_map (waiting_after text) w) w
      told_none true w is = is ∙ sym (ap (option_map (waiting_after text)) is)
      told_none false w is = refl

      step : (l : L) (i : I) (b : Bool) → is_eq (line_cmp l line) ≡ b
          → waiting_at line_cmp id_cmp l i lines
          ≡ cond (b && not (is_eq (id_cmp from i))) (option_map (waiting_after text) (waiting_at line_cmp id_cmp l i lines)) (waiting_at line_cmp id_cmp l i lines)
      step l i true same =
          told_none (not (is_eq (id_cmp from i))) (waiting_at line_cmp id_cmp l i lines) (ap (waits i) (map_get-same line_cmp line_order l line lines same ∙ missing))
      step l i false same = refl

  -- where a line changed back to the same, all waits as before
  pub same-set : (line : L) (here new : List (I × PlainQueue)) (lines : List (L × List (I × PlainQueue))) → Some here ≡ map_get line_cmp line lines
      → ((i : I) → option_map waiting (map_get id_cmp i new) ≡ option_map waiting (map_get id_cmp i here))
      → WaitsAsBefore line_cmp id_cmp lines (map_set line_cmp line new lines)
  same-set line here new lines found each = λ l i.
      waits-set line here new lines found l i ∙ step l i (is_eq (line_cmp l line)) refl
    where
      step : (l : L) (i : I) (b : Bool) → is_eq (line_cmp l line) ≡ b
          → cond b (option_map waiting (map_get id_cmp i new)) (waiting_at line_cmp id_cmp l i lines) ≡ waiting_at line_cmp id_cmp l i lines
      step l i true same = each i ∙ sym (waits-here line here lines found l i same)
      step l i false same = refl

  -- ---- which channels are those of an owner

  -- where no channel is open that was not, each is still one of its owner
  pub owned-fewer : (own : List (I × L)) (old new : List (L × List (I × PlainQueue)))
      → ((l : L) (i : I) → is_some (waiting_at line_cmp id_cmp l i new) ≡ true → is_some (waiting_at line_cmp id_cmp l i old) ≡ true)
      → AreOwned line_cmp id_cmp own old → AreOwned line_cmp id_cmp own new
  owned-fewer own old new fewer owned = λ l i there. owned l i (fewer l i there)

  -- the queues of a line that was set
  pub queues-set : (line : L) (here new : List (I × PlainQueue)) (lines : List (L × List (I × PlainQueue))) → Some here ≡ map_get line_cmp line lines
      → queues_of line_cmp id_cmp line (map_set line_cmp line new lines) ≡ new
  queues-set line here new lines found =
      ap (λ o. unwrap_or o []) (map_get-set line_cmp line_order line line new lines (ap is_some (sym found)) ∙ ap (λ o. cond (is_eq o) (Some new) (map_get line_cmp line lines)) (itself line_cmp line_order line))

  set_step : (id i : I) (here : List (I × PlainQueue)) (o : Option PlainQueue) → map_get id_cmp id here ≡ o → (b : Bool) → is_eq (id_cmp id i) ≡ b
      → option_map waiting (map_get id_cmp i (map_set id_cmp id empty_queue here))
      ≡ cond b (option_map emptied_wait (option_map waiting o)) (option_map waiting (map_get id_cmp i here))
  set_step id i here None is true same =
      ap (λ queues. option_map waiting (map_get id_cmp i queues)) (map_set-missing id_cmp id_order id empty_queue here is)
      ∙ ap (option_map waiting) (sym (map_get-same id_cmp id_order id i here same) ∙ is)
  set_step id i here None is false same =
      ap (λ queues. option_map waiting (map_get id_cmp i queues)) (map_set-missing id_cmp id_order id empty_queue here is)
  set_step id i here (Some q) is b same =
      ap (option_map waiting) (map_get-set id_cmp id_order i id empty_queue here (ap is_some is))
      ∙ ap (λ c. option_map waiting (cond c (Some empty_queue) (map_get id_cmp i here))) (eq-flip id_cmp id_order i id ∙ same) ∙ split b
    where
      split : (b : Bool) → option_map waiting (cond b (Some empty_queue) (map_get id_cmp i here)) ≡ cond b (Some ([], 0)) (option_map waiting (map_get id_cmp i here))
      split true = refl
      split false = refl

  -- a queue of which all was given
  pub set-each : (id : I) (here : List (I × PlainQueue)) (i : I)
      → option_map waiting (map_get id_cmp i (map_set id_cmp id empty_queue here))
      ≡ cond (is_eq (id_cmp id i)) (option_map emptied_wait (option_map waiting (map_get id_cmp id here))) (option_map waiting (map_get id_cmp i here))
  set-each id here i = set_step id i here (map_get id_cmp id here) refl (is_eq (id_cmp id i)) refl
