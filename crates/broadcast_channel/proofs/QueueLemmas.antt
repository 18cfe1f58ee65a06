-- The queues of a line after a text was offered, and came.
use Rattle.std.proofs.Common.{◌≡◌, ℕ, ◌⊎◌, inl, inr, Bool, true, false, cond, List, [], ◌∷◌, Option, Some, None, refl, ap, ◌∙◌}
use Rattle.std.specs.Prelude.{nat_lt, length, is_some, ◌&&◌, option_map}
use Rattle.std.specs.List.{AllZip, list_all}
use Rattle.std.specs.Map.{values_of}
use Rattle.std.specs.Cmp.{IsTotalOrder}
use Rattle.std.specs.declared.cmp.Ordering.{Ordering}
use Rattle.std.specs.Ordering.{is_eq}
use Rattle.key_map.specs.Entries.{map_get}
use Rattle.broadcast_channel.proofs.MapLemmas.{eq-along}
use Rattle.broadcast_channel.specs.Channel.{most_messages}
use Rattle.broadcast_channel.specs.Queue.{PlainQueue, waiting, waiting_after, is_ready, accepted, put_last, IsTold, WaitsSame}
use Rattle.broadcast_channel.specs.Hearers.{IsOfferedTo, IsSettled}

last_step : (text : List ℕ) (q : PlainQueue) (o : Option (List ℕ)) → (o ≡ Some text) ⊎ (o ≡ None) → is_some o ≡ true
    → waiting (put_last q o) ≡ waiting (put_last q (Some text))
last_step text q None either ready = absurd (cc ready)
last_step text q (Some t) (inl is) ready = ap (λ o. waiting (put_last q o)) is
last_step text q (Some t) (inr is) ready = absurd (cc is)

heard_step : (text : List ℕ) (q : PlainQueue) (b : Bool) → nat_lt (length q.messages) most_messages ≡ b → is_ready q ≡ true
    → (q.offered ≡ Some text) ⊎ (q.offered ≡ None) → waiting (accepted q) ≡ waiting_after text (waiting q)
heard_step text q true is ready either = rw is (last_step text q q.offered either (rw is at ready))
heard_step text q false is ready either = rw is refl

-- the text that a queue was offered came, where the queue was ready
pub heard : (text : List ℕ) (q : PlainQueue) → is_ready q ≡ true → (q.offered ≡ Some text) ⊎ (q.offered ≡ None)
    → waiting (accepted q) ≡ waiting_after text (waiting q)
heard text q ready either = heard_step text q (nat_lt (length q.messages) most_messages) refl ready either

both : (a b : Bool) → a && b ≡ true → (a ≡ true) × (b ≡ true)
both true true is = (refl, refl)
both true false is = absurd (cc is)
both false b is = absurd (cc is)

module _ {I : Type 0} (cmp : I → I → Ordering) (from : I) (text : List ℕ) where
  settle_step : (b : Bool) (e m f : I × PlainQueue) → is_eq (cmp from m.0) ≡ b → IsOfferedTo text e m → is_ready m.1 ≡ true → IsSettled cmp from true m f
      → IsTold cmp from text e f
  settle_step true e m f is offered ready settles =
      (settles.0 ∙ offered.0, rw (settles.1, ← offered.0, is) offered.1.same)
  settle_step false e m f is offered ready settles =
      (settles.0 ∙ offered.0, rw (settles.1, ← offered.0, is) (heard text m.1 ready offered.1.offered ∙ ap (waiting_after text) offered.1.same))

  -- a text that was offered to queues that are all ready came to all others
  pub told-settled : (es ms fs : List (I × PlainQueue)) → AllZip (IsOfferedTo text) es ms → list_all is_ready (values_of ms) ≡ true
      → AllZip (IsSettled cmp from true) ms fs → AllZip (IsTold cmp from text) es fs
  told-settled [] [] [] offered ready settles = tt
  told-settled [] [] (f ∷ fs) offered ready settles = absurd settles
  told-settled [] (m ∷ ms) fs offered ready settles = absurd offered
  told-settled (e ∷ es) [] fs offered ready settles = absurd offered
  told-settled (e ∷ es) (m ∷ ms) [] offered ready settles = absurd settles
  told-settled (e ∷ es) (m ∷ ms) (f ∷ fs) offered ready settles =
      let all = both (is_ready m.1) (list_all is_ready (values_of ms)) ready in (
        settle_step (is_eq (cmp from m.0)) e m f refl offered.0 all.0 settles.0,
        told-settled es ms fs offered.1 all.1 settles.1,
      )

  -- what waits is as it was where a text that was offered is withdrawn
  pub same-settled : (es ms fs : List (I × PlainQueue)) → AllZip (IsOfferedTo text) es ms
      → AllZip (IsSettled cmp from false) ms fs → AllZip WaitsSame es fs
  same-settled [] [] [] offered settles = tt
  same-settled [] [] (f ∷ fs) offered settles = absurd settles
  same-settled [] (m ∷ ms) fs offered settles = absurd offered
  same-settled (e ∷ es) [] fs offered settles = absurd offered
  same-settled (e ∷ es) (m ∷ ms) [] offered settles = absurd settles
  same-settled (e ∷ es) (m ∷ ms) (f ∷ fs) offered settles = (
    (settles.0.0 ∙ offered.0.0, rw settles.0.1 offered.0.1.same),
    same-settled es ms fs offered.1 settles.1,
  )

-- ---- what waits in one channel

module _ {I : Type 0} (cmp : I → I → Ordering) where
  same_step : (b : Bool) (x y : PlainQueue) (r s : Option PlainQueue) → waiting y ≡ waiting x → option_map waiting s ≡ option_map waiting r
      → option_map waiting (cond b (Some y) s) ≡ option_map waiting (cond b (Some x) r)
  same_step true x y r s here later = ap Some here
  same_step false x y r s here later = later

  -- where what waits is the same, so is what waits in one channel
  pub same-get : (q : I) (es fs : List (I × PlainQueue)) → AllZip WaitsSame es fs
      → option_map waiting (map_get cmp q fs) ≡ option_map waiting (map_get cmp q es)
  same-get q [] [] zip = refl
  same-get q [] (f ∷ fs) zip = absurd zip
  same-get q (e ∷ es) [] zip = absurd zip
  same-get q (e ∷ es) (f ∷ fs) zip =
      rw zip.0.0 (same_step (is_eq (cmp q e.0)) e.1 f.1 (map_get cmp q es) (map_get cmp q fs) zip.0.1 (same-get q es fs zip.1))

module _ {I : Type 0} (cmp : I → I → Ordering) (order : IsTotalOrder cmp) (from : I) (text : List ℕ) where
  some_told : (c : Bool) (w v : List (List ℕ) × ℕ) → w ≡ cond c v (waiting_after text v)
      → ◌≡◌ {A = Option (List (List ℕ) × ℕ)} (Some w) (cond c (Some v) (Some (waiting_after text v)))
  some_told true w v is = ap Some is
  some_told false w v is = ap Some is

  told_step : (q : I) (e : I × PlainQueue) (y : PlainQueue) (r s : Option PlainQueue) (b : Bool) → is_eq (cmp q e.0) ≡ b
      → waiting y ≡ cond (is_eq (cmp from e.0)) (waiting e.1) (waiting_after text (waiting e.1))
      → option_map waiting s ≡ cond (is_eq (cmp from q)) (option_map waiting r) (option_map (waiting_after text) (option_map waiting r))
      → option_map waiting (cond b (Some y) s)
      ≡ cond (is_eq (cmp from q)) (option_map waiting (cond b (Some e.1) r)) (option_map (waiting_after text) (option_map waiting (cond b (Some e.1) r)))
  told_step q e y r s true is here later =
      rw (eq-along cmp order from q e.0 is) (some_told (is_eq (cmp from e.0)) (waiting y) (waiting e.1) here)
  told_step q e y r s false is here later = later

  none_told : (b : Bool) → ◌≡◌ {A = Option (List (List ℕ) × ℕ)} None (cond b None None)
  none_told true = refl
  none_told false = refl

  -- where a text came to all others, it came to a channel that is not the one that it is posted on
  pub told-get : (q : I) (es fs : List (I × PlainQueue)) → AllZip (IsTold cmp from text) es fs
      → option_map waiting (map_get cmp q fs)
      ≡ cond (is_eq (cmp from q)) (option_map waiting (map_get cmp q es)) (option_map (waiting_after text) (option_map waiting (map_get cmp q es)))
  told-get q [] [] zip = none_told (is_eq (cmp from q))
  told-get q [] (f ∷ fs) zip = absurd zip
  told-get q (e ∷ es) [] zip = absurd zip
  told-get q (e ∷ es) (f ∷ fs) zip =
      rw zip.0.0
      (told_step q e f.1 (map_get cmp q es) (map_get cmp q fs) (is_eq (cmp q e.0)) refl zip.0.1 (told-get q es fs zip.1))

-- what waits is the same as itself
pub same-all : {I : Type 0} (es : List (I × PlainQueue)) → AllZip WaitsSame es es
same-all [] = tt
same-all (e ∷ es) = ((refl, refl), same-all es)
