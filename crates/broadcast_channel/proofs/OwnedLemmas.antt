-- Each channel that is there is one of its owner, whatever is opened, closed, posted or dropped; and
-- how many channels hear a post.
use Rattle.std.proofs.Common.{◌≡◌, Bool, not, sym, true, false, cond, List, [], ◌∷◌, map, Option, Some, None, refl, ap, ◌∙◌, ℕ, suc}
use Rattle.std.specs.Prelude.{is_some, ◌&&◌, ◌||◌, filter, option_map, length, count_by}
use Rattle.std.specs.List.{AllByRecursion, list_any}
use Rattle.std.specs.List.Sorted.{IsStrictlySortedBy}
use Rattle.std.specs.Map.{keys_of}
use Rattle.std.specs.Cmp.{IsTotalOrder, eq_by_cmp_equiv}
use Rattle.std.specs.declared.cmp.Ordering.{Ordering}
use Rattle.std.specs.Ordering.{is_eq, eq_by_cmp}
use Rattle.std.specs.declared.rc.Rc.{Rc}
use Rattle.std.proofs.lemmas.Map.Made.{length-from_same_keys, is_some-lookup, IsDistinct-keys_filter}
use Rattle.std.proofs.lemmas.Map.Keys.{IsDistinct-from_sorted}
use Rattle.std.proofs.lemmas.List.Sums.{length-filter}
use Rattle.key_map.specs.Entries.{map_get, map_put, map_remove}
use Rattle.key_map.proofs.EntriesLemmas.{map_get-put, map_get-remove, map_get-same, eq-flip}
use Rattle.broadcast_channel.specs.Channel.{hears}
use Rattle.broadcast_channel.specs.Queue.{PlainQueue, waiting, waiting_after}
use Rattle.broadcast_channel.specs.Hearers.{channel_of, channels_of, queues_of, waiting_at, are_these, ChangesAt, TellsLine, AreOwned, by_id, by_line}
use Rattle.broadcast_channel.specs.declared.hearers.ChannelId.{ChannelId}
use Rattle.broadcast_channel.specs.declared.hearers.Line.{Line}
use Rattle.broadcast_channel.proofs.MapLemmas.{itself, eq-along, only-found, apart-missing}
use Rattle.broadcast_channel.proofs.LineLemmas.{waits-same}
use Rattle.broadcast_channel.proofs.ViewLemmas.{by_id_total, by_line_total}

module _ {L I : Type 0} (rows : L → L → Ordering) (rows_total : IsTotalOrder rows) (ids : I → I → Ordering) (ids_total : IsTotalOrder ids) where
  abbrev Lines : Type 0
  Lines = List (L × List (I × PlainQueue))

  abbrev waits : L → I → Lines → Option (List (List ℕ) × ℕ)
  waits = waiting_at rows ids

  -- a channel that was opened is one of its owner
  pub owned-opened : (line : L) (id : I) (own : List (I × L)) (old new : Lines) → map_get ids id own ≡ None → ChangesAt rows ids line id (Some ([], 0)) old new
      → AreOwned rows ids own old → AreOwned rows ids (map_put ids id line own) new
  owned-opened line id own old new missing changes owned = λ l i there.
      ap (option_map (λ at. is_eq (rows l at))) (map_get-put ids ids_total i id line own)
      ∙ step l i (is_eq (rows l line)) (is_eq (ids id i)) (is_eq (ids i id)) refl refl (eq-flip ids ids_total i id) (ap is_some (sym (changes l i)) ∙ there)
    where
      step : (l : L) (i : I) (a b c : Bool) → is_eq (rows l line) ≡ a → is_eq (ids id i) ≡ b → c ≡ is_eq (ids id i)
          → is_some (cond (a && b) (Some ([], 0)) (waits l i old)) ≡ true
          → option_map (λ at. is_eq (rows l at)) (cond c (Some line) (map_get ids i own)) ≡ Some true
      step l i true true true here same flip there = ap Some here
      step l i false true true here same flip there =
          absurd (cc (ap (option_map (λ at. is_eq (rows l at))) (sym missing ∙ map_get-same ids ids_total id i own same) ∙ owned l i there))
      step l i a true false here same flip there = absurd (cc (flip ∙ same))
      step l i a false true here same flip there = absurd (cc (flip ∙ same))
      step l i true false false here same flip there = owned l i there
      step l i false false false here same flip there = owned l i there

  -- the channels that are left are those of their owners where one goes
  pub owned-dropped : (line : L) (id : I) (own : List (I × L)) (old new : Lines) → map_get ids id own ≡ Some line → ChangesAt rows ids line id None old new
      → AreOwned rows ids own old → AreOwned rows ids (map_remove ids id own) new
  owned-dropped line id own old new found changes owned = λ l i there.
      ap (option_map (λ at. is_eq (rows l at))) (map_get-remove ids ids_total i id own)
      ∙ step l i (is_eq (rows l line)) (is_eq (ids id i)) refl refl (ap is_some (sym (changes l i)) ∙ there)
    where
      step : (l : L) (i : I) (a b : Bool) → is_eq (rows l line) ≡ a → is_eq (ids id i) ≡ b → is_some (cond (a && b) None (waits l i old)) ≡ true
          → option_map (λ at. is_eq (rows l at)) (cond b None (map_get ids i own)) ≡ Some true
      step l i true true here same there = absurd (cc there)
      step l i false true here same there =
          absurd (cc (sym (ap Some here) ∙ ap (option_map (λ at. is_eq (rows l at))) (sym found ∙ map_get-same ids ids_total id i own same) ∙ owned l i there))
      step l i true false here same there = owned l i there
      step l i false false here same there = owned l i there

  -- no channel is there that was not, where one closed
  pub fewer-closed : (line : L) (id : I) (old new : Lines) → ChangesAt rows ids line id None old new → (l : L) (i : I)
      → is_some (waits l i new) ≡ true → is_some (waits l i old) ≡ true
  fewer-closed line id old new changes l i there = step (are_these rows ids line id l i) (ap is_some (sym (changes l i)) ∙ there)
    where
      step : (b : Bool) → is_some (cond b None (waits l i old)) ≡ true → is_some (waits l i old) ≡ true
      step true there = absurd (cc there)
      step false there = there

  -- nor where what waited was received
  pub fewer-received : (line : L) (id : I) (old new : Lines) → ChangesAt rows ids line id (option_map (λ _. ([], 0)) (waits line id old)) old new → (l : L) (i : I)
      → is_some (waits l i new) ≡ true → is_some (waits l i old) ≡ true
  fewer-received line id old new changes l i there = step (is_eq (rows l line)) (is_eq (ids id i)) refl refl (ap is_some (sym (changes l i)) ∙ there)
    where
      empty : List (List ℕ) × ℕ → List (List ℕ) × ℕ
      empty w = ([], 0)

      some_map : (w : Option (List (List ℕ) × ℕ)) → is_some (option_map empty w) ≡ true → is_some w ≡ true
      some_map None there = there
      some_map (Some w) there = refl

      step : (a b : Bool) → is_eq (rows l line) ≡ a → is_eq (ids id i) ≡ b → is_some (cond (a && b) (option_map (λ _. ([], 0)) (waits line id old)) (waits l i old)) ≡ true
          → is_some (waits l i old) ≡ true
      step true true here same there = ap is_some (waits-same rows rows_total ids ids_total line l id i old here same) ∙ some_map (waits line id old) there
      step true false here same there = there
      step false b here same there = there

  -- nor where a text came
  pub fewer-told : (line : L) (from : I) (text : List ℕ) (old new : Lines) → TellsLine rows ids line from text old new → (l : L) (i : I)
      → is_some (waits l i new) ≡ true → is_some (waits l i old) ≡ true
  fewer-told line from text old new tells l i there =
      step (is_eq (rows l line) && not (is_eq (ids from i))) (waits l i old) (ap is_some (sym (tells l i)) ∙ there)
    where
      step : (b : Bool) (w : Option (List (List ℕ) × ℕ)) → is_some (cond b (option_map (waiting_after text) w) w) ≡ true → is_some w ≡ true
      step true None there = absurd (cc there)
      step false None there = absurd (cc there)
      step b (Some w) there = refl

-- ---- how many hear a post

filter_step : {K V : Type 0} (test : K → Bool) (p : K × V → Bool) (e : K × V) (es : List (K × V)) (b c : Bool)
    → list_any test (keys_of (filter p es)) ≡ list_any (λ e. test e.0 && p e) es → test e.0 ≡ c
    → list_any test (keys_of (cond b (e ∷ filter p es) (filter p es))) ≡ (c && b) || list_any (λ e. test e.0 && p e) es
filter_step test p e es true true later is = rw is refl
filter_step test p e es true false later is = rw is later
filter_step test p e es false true later is = later
filter_step test p e es false false later is = later

-- a key among those of the entries that pass
any_filter : {K V : Type 0} (test : K → Bool) (p : K × V → Bool) (es : List (K × V)) → list_any test (keys_of (filter p es)) ≡ list_any (λ e. test e.0 && p e) es
any_filter test p [] = refl
any_filter test p (e ∷ es) = filter_step test p e es (p e) (test e.0) (any_filter test p es) refl

any_none : {K V : Type 0} (test : K → Bool) (p : K × V → Bool) (es : List (K × V)) → AllByRecursion (λ k. test k ≡ false) (keys_of es)
    → list_any (λ e. test e.0 && p e) es ≡ false
any_none test p [] all = refl
any_none test p (e ∷ es) all = rw all.0 (any_none test p es all.1)

fails_step : {K V : Type 0} (test : K → Bool) (p : K × V → Bool) (e : K × V) (c : Bool) → test e.0 ≡ c → (test e.0 ≡ true → p e ≡ false) → c && p e ≡ false
fails_step test p e true is none = none is
fails_step test p e false is none = refl

any_fails : {K V : Type 0} (test : K → Bool) (p : K × V → Bool) (es : List (K × V)) → AllByRecursion (λ e. test e.0 ≡ true → p e ≡ false) es
    → list_any (λ e. test e.0 && p e) es ≡ false
any_fails test p [] all = refl
any_fails test p (e ∷ es) all = rw (fails_step test p e (test e.0) refl all.0) (any_fails test p es all.1)

one_step : {K V : Type 0} (test : K → Bool) (p : K × V → Bool) (b : Bool) (e : K × V) (es : List (K × V)) (c : Bool) → test e.0 ≡ c
    → (test e.0 ≡ true → p e ≡ b) → AllByRecursion (λ e. test e.0 ≡ true → p e ≡ b) es
    → (list_any test (keys_of es) ≡ true → list_any (λ e. test e.0 && p e) es ≡ b) → c || list_any test (keys_of es) ≡ true
    → (c && p e) || list_any (λ e. test e.0 && p e) es ≡ b
one_step test p true e es true is here all later there = rw (here is) refl
one_step test p false e es true is here all later there = rw (here is) (any_fails test p es all)
one_step test p b e es false is here all later there = later there

-- where all entries of a key are alike, and there is one
any_one : {K V : Type 0} (test : K → Bool) (p : K × V → Bool) (b : Bool) (es : List (K × V)) → AllByRecursion (λ e. test e.0 ≡ true → p e ≡ b) es
    → list_any test (keys_of es) ≡ true → list_any (λ e. test e.0 && p e) es ≡ b
any_one test p b [] all there = absurd (cc there)
any_one test p b (e ∷ es) all there = one_step test p b e es (test e.0) refl all.0 all.1 (any_one test p b es all.1) there

all_given : {A : Type 0} (P Q : A → Type 0) → ((x : A) → P x → Q x) → (xs : List A) → AllByRecursion P xs → AllByRecursion Q xs
all_given P Q f [] all = tt
all_given P Q f (x ∷ xs) all = (f x all.0, all_given P Q f xs all.1)

filtered_step : {A B : Type 0} (f : A → B) (x : A) (b : Bool) (ys : List B) (xs : List A) → length ys ≡ length xs → length (cond b (f x ∷ ys) ys) ≡ length (cond b (x ∷ xs) xs)
filtered_step f x true ys xs later = ap suc later
filtered_step f x false ys xs later = later

filtered : {A B : Type 0} (p : B → Bool) (f : A → B) (xs : List A) → length (filter p (map f xs)) ≡ length (filter (λ x. p (f x)) xs)
filtered p f [] = refl
filtered p f (x ∷ xs) = filtered_step f x (p (f x)) (filter p (map f xs)) (filter (λ x. p (f x)) xs) (filtered p f xs)

count_map : {A B : Type 0} (p : B → Bool) (f : A → B) (xs : List A) → count_by p (map f xs) ≡ count_by (λ x. p (f x)) xs
count_map p f xs = sym (length-filter p (map f xs)) ∙ filtered p f xs ∙ length-filter (λ x. p (f x)) xs

key_count : {A V : Type 0} (es : List (A × V)) → length (keys_of es) ≡ length es
key_count [] = refl
key_count (e ∷ es) = ap suc (key_count es)

some_waiting : (o : Option PlainQueue) → is_some (option_map waiting o) ≡ is_some o
some_waiting None = refl
some_waiting (Some q) = refl

module _ {O K : Type 0} (Z : Type 0) (by_owner : O → O → Ordering) (owner_order : IsTotalOrder by_owner) (by_key : K → K → Ordering) (key_order : IsTotalOrder by_key) where
  abbrev idc : ChannelId O → ChannelId O → Ordering
  idc = by_id by_owner

  abbrev linec : Rc (Line K) Z → Rc (Line K) Z → Ordering
  linec = by_line by_key

  abbrev open_in : Rc (Line K) Z → ChannelId O → List (Rc (Line K) Z × List (ChannelId O × PlainQueue)) → Option (List (List ℕ) × ℕ)
  open_in = waiting_at linec idc

  idc_total : IsTotalOrder idc
  idc_total = by_id_total by_owner owner_order

  linec_total : IsTotalOrder linec
  linec_total = by_line_total Z by_key key_order

  module _ (line : Rc (Line K) Z) (id stored : ChannelId O) (w : Option (List (List ℕ) × ℕ)) (own : List (ChannelId O × Rc (Line K) Z))
      (lines : List (Rc (Line K) Z × List (ChannelId O × PlainQueue)))
      (same : is_eq (idc id stored) ≡ true) (sorted : IsStrictlySortedBy idc (keys_of own)) (owned : AreOwned linec idc own lines) where
    -- whether an entry is that of a channel that hears
    abbrev hearing : ChannelId O × Rc (Line K) Z → Bool
    hearing e = is_some (open_in e.1 e.0 lines) && (is_eq (linec line e.1) && not (is_eq (idc stored e.0)))

    abbrev queues : List (ChannelId O × PlainQueue)
    queues = queues_of linec idc line lines

    alike : (q other : ChannelId O) → is_eq (idc q other) ≡ true → is_eq (idc stored other) ≡ is_eq (idc id q)
    alike q other tie =
        sym (eq-along idc idc_total stored q other tie)
        ∙ eq-flip idc idc_total stored q ∙ sym (eq-along idc idc_total q id stored same) ∙ eq-flip idc idc_total q id

    -- an entry of the id q, under the line at
    hearing_at : (q : ChannelId O) (at : Rc (Line K) Z) (e : ChannelId O × Rc (Line K) Z) → (is_eq (idc q e.0) ≡ true → e.1 ≡ at) → is_eq (idc q e.0) ≡ true
        → hearing e ≡ is_some (open_in at q lines) && (is_eq (linec line at) && not (is_eq (idc id q)))
    hearing_at q at e only tie =
        rw (only tie, alike q e.0 tie, waits-same linec linec_total idc idc_total at at q e.0 lines (ap is_eq (itself linec linec_total at)) tie) refl

    apart_line : (q : ChannelId O) (at : Rc (Line K) Z) (x : Bool) → is_some (open_in line q lines) ≡ x → is_eq (linec line at) ≡ false → map_get idc q own ≡ Some at → x ≡ false
    apart_line q at false there apart found = refl
    apart_line q at true there apart found =
        absurd (cc (sym (ap Some apart) ∙ ap (option_map (λ a. is_eq (linec line a))) (sym found) ∙ owned line q there))

    flip_line : (q : ChannelId O) (at : Rc (Line K) Z) (b : Bool) → is_eq (linec line at) ≡ b → map_get idc q own ≡ Some at
        → is_some (open_in line q lines) ≡ is_some (open_in at q lines) && (b && true)
    flip_line q at true is found =
        ap is_some (waits-same linec linec_total idc idc_total at line q q lines is (ap is_eq (itself idc idc_total q))) ∙ and_true (is_some (open_in at q lines))
      where
        and_true : (b : Bool) → b ≡ b && (true && true)
        and_true true = refl
        and_true false = refl
    flip_line q at false is found = apart_line q at (is_some (open_in line q lines)) refl is found ∙ and_no (is_some (open_in at q lines))
      where
        and_no : (b : Bool) → false ≡ b && (false && true)
        and_no true = refl
        and_no false = refl

    there_step : (q : ChannelId O) (at : Rc (Line K) Z) (b : Bool) → is_eq (idc id q) ≡ b → map_get idc q own ≡ Some at
        → is_some (cond b None (map_get idc q queues)) ≡ is_some (open_in at q lines) && (is_eq (linec line at) && not b)
    there_step q at true is found = none (is_some (open_in at q lines)) (is_eq (linec line at))
      where
        none : (a b : Bool) → false ≡ a && (b && false)
        none true true = refl
        none true false = refl
        none false b = refl
    there_step q at false is found = sym (some_waiting (map_get idc q queues)) ∙ flip_line q at (is_eq (linec line at)) refl found

    closed_step : (q : ChannelId O) (b x : Bool) → is_some (open_in line q lines) ≡ x → map_get idc q own ≡ None → is_some (cond b None (map_get idc q queues)) ≡ false
    closed_step q true x is missing = refl
    closed_step q false true is missing = absurd (cc (ap (option_map (λ a. is_eq (linec line a))) (sym missing) ∙ owned line q is))
    closed_step q false false is missing = sym (some_waiting (map_get idc q queues)) ∙ is

    member_step : (q : ChannelId O) (o : Option (Rc (Line K) Z)) → map_get idc q own ≡ o
        → is_some (cond (is_eq (idc id q)) None (map_get idc q queues)) ≡ list_any (λ e. is_eq (idc q e.0) && hearing e) own
    member_step q None is =
        closed_step q (is_eq (idc id q)) (is_some (open_in line q lines)) refl is
        ∙ sym (any_none (λ k. is_eq (idc q k)) hearing own (apart-missing idc idc_total q own is))
    member_step q (Some at) is =
        there_step q at (is_eq (idc id q)) refl is
        ∙ sym (any_one (λ k. is_eq (idc q k)) hearing (is_some (open_in at q lines) && (is_eq (linec line at) && not (is_eq (idc id q)))) own
        (all_given (λ e. is_eq (idc q e.0) ≡ true → e.1 ≡ at) (λ e. is_eq (idc q e.0) ≡ true → hearing e ≡ is_some (open_in at q lines) && (is_eq (linec line at) && not (is_eq (idc id q))))
        (hearing_at q at) own (only-found idc idc_total q at own sorted is))
        (sym (is_some-lookup (λ k. is_eq (idc q k)) own) ∙ ap is_some is))

    -- the other channels of the line are those that hear
    pub count-told : IsStrictlySortedBy idc (keys_of queues)
        → length (map_remove idc id queues) ≡ count_by (hears by_owner by_key (channel_of by_owner by_key stored line w)) (channels_of by_owner by_key own lines)
    count-told queues_sorted =
        sym (key_count (map_remove idc id queues))
        ∙ length-from_same_keys (eq_by_cmp_equiv idc_total) (keys_of (map_remove idc id queues)) (keys_of (filter hearing own))
        (IsDistinct-keys_filter (eq_by_cmp idc) (λ e. not (is_eq (idc id e.0))) queues (IsDistinct-from_sorted idc (keys_of queues) queues_sorted))
        (IsDistinct-keys_filter (eq_by_cmp idc) hearing own (IsDistinct-from_sorted idc (keys_of own) sorted))
        (λ q. sym (is_some-lookup (λ k. is_eq (idc q k)) (map_remove idc id queues)) ∙ ap is_some (map_get-remove idc idc_total q id queues)
        ∙ member_step q (map_get idc q own) refl ∙ sym (any_filter (λ k. is_eq (idc q k)) hearing own))
        ∙ key_count (filter hearing own)
        ∙ length-filter hearing own
        ∙ sym (count_map (hears by_owner by_key (channel_of by_owner by_key stored line w)) (λ e. channel_of by_owner by_key e.0 e.1 (open_in e.1 e.0 lines)) own)
