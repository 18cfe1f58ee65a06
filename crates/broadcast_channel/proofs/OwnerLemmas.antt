-- The first channel of an owner, and the channels that are left where one goes.
use Rattle.std.proofs.Common.{◌≡◌, Bool, not, sym, true, false, cond, List, [], ◌∷◌, Option, Some, refl, ap, ◌∙◌, ℕ, zero, suc, arith, length, ◌<◌}
use Rattle.std.specs.Prelude.{is_some, filter, find, nat_lt}
use Rattle.std.proofs.lemmas.Bool.Decides.{nat_tests}
use Rattle.std.specs.List.{AllByRecursion}
use Rattle.std.specs.List.Sorted.{IsStrictlySortedBy}
use Rattle.std.specs.Map.{keys_of}
use Rattle.std.specs.Cmp.{IsTotalOrder, nat_cmp_total, Equal-is}
use Rattle.std.specs.declared.cmp.Ordering.{Ordering}
use Rattle.std.specs.declared.cmp.Ordering.TheVariants.{Less, Equal, Greater}
use Rattle.std.specs.Ordering.{is_eq, is_le, nat_cmp, ordering_then}
use Rattle.std.proofs.lemmas.List.Filters.{length-filter_both}
use Rattle.key_map.specs.Entries.{map_get, entries_from}
use Rattle.broadcast_channel.specs.Channel.{PlainChannel, is_channel_of, without_owner}
use Rattle.broadcast_channel.specs.Hearers.{by_id}
use Rattle.broadcast_channel.specs.declared.hearers.ChannelId.{ChannelId}
use Rattle.broadcast_channel.proofs.MapLemmas.{itself}
use Rattle.broadcast_channel.proofs.ViewLemmas.{by_id_total}

module _ {A : Type 0} (p q : A → Bool) where
  again_step : (x : A) (a b : Bool) (kept all : List A) → p x ≡ a → (b ≡ false → a ≡ false) → filter p kept ≡ all
      → filter p (cond b (x ∷ kept) kept) ≡ cond a (x ∷ all) all
  again_step x true true kept all is drops later = rw is (ap (λ r. x ∷ r) later)
  again_step x false true kept all is drops later = rw is later
  again_step x true false kept all is drops later = absurd (cc (drops refl))
  again_step x false false kept all is drops later = later

  -- a filter after one that drops nothing else
  pub filter_again : ((x : A) → q x ≡ false → p x ≡ false) → (xs : List A) → filter p (filter q xs) ≡ filter p xs
  filter_again drops [] = refl
  filter_again drops (x ∷ xs) = again_step x (p x) (q x) (filter q xs) (filter p xs) refl (drops x) (filter_again drops xs)

module _ {A : Type 0} (p : A → Bool) where
  pass_step : (x : A) (b : Bool) (kept : List A) (rest : Option A) → (is_some rest ≡ true → 0 < length kept) → is_some (cond b (Some x) rest) ≡ true
      → 0 < length (cond b (x ∷ kept) kept)
  pass_step x true kept rest later there = grind arith
  pass_step x false kept rest later there = later there

  some_pass : (xs : List A) → is_some (find p xs) ≡ true → 0 < length (filter p xs)
  some_pass [] there = absurd (cc there)
  some_pass (x ∷ xs) there = pass_step x (p x) (filter p xs) (find p xs) (some_pass xs) there

  -- fewer are left where one is found
  pub fewer_left : (xs : List A) → is_some (find p xs) ≡ true → length (filter (λ x. not (p x)) xs) < length xs
  fewer_left xs there = grind (arith, length-filter_both p (λ x. not (p x)) (λ x. refl) xs, some_pass xs there)

owned_step : (a b : Ordering) → not (is_eq (ordering_then a b)) ≡ false → not (is_eq a) ≡ false
owned_step Less b is = is
owned_step Equal b is = refl
owned_step Greater b is = is

module _ {O K : Type 0} (by_owner : O → O → Ordering) where
  -- where one channel of an owner goes, those of all others are the same
  pub others-left : (owner : O) (id : ℕ) (channels : List (PlainChannel O K))
      → without_owner by_owner owner (filter (λ c. not (is_channel_of by_owner owner id c)) channels) ≡ without_owner by_owner owner channels
  others-left owner id channels =
      filter_again (λ c. not (is_eq (by_owner owner c.owner))) (λ c. not (is_channel_of by_owner owner id c))
      (λ c. owned_step (by_owner owner c.owner) (nat_cmp id c.id)) channels

zero_least : (n : ℕ) → is_le (nat_cmp 0 n) ≡ true
zero_least zero = refl
zero_least (suc n) =
    let less : nat_lt 0 (suc n) ≡ true = grind (arith, nat_tests) in
    rw less refl

before_step : (o : Ordering) (n : ℕ) → is_le (ordering_then o (nat_cmp 0 n)) ≡ false → is_eq o ≡ false
before_step Less n is = refl
before_step Equal n is = absurd (cc (sym is ∙ zero_least n))
before_step Greater n is = refl

less_step : (o p : Ordering) → is_le (ordering_then o p) ≡ true → is_eq o ≡ false → o ≡ Less
less_step Less p le apart = refl
less_step Equal p le apart = absurd (cc apart)
less_step Greater p le apart = absurd (cc le)

module _ {O : Type 0} (by_owner : O → O → Ordering) (owner_order : IsTotalOrder by_owner) (owner : O) where
  abbrev ids : ChannelId O → ChannelId O → Ordering
  ids = by_id by_owner

  -- the least id that the owner can have
  abbrev least : ChannelId O
  least = record { owner = owner; id = 0 }

  -- these are channels of other owners
  abbrev pub AreOthers : List (ChannelId O) → Type 0
  AreOthers keys = AllByRecursion (λ k. is_eq (by_owner owner k.owner) ≡ false) keys

  later_step : (x y : ChannelId O) → by_owner owner x.owner ≡ Less → ids x y ≡ Less → (o : Ordering) → by_owner owner y.owner ≡ o → is_eq o ≡ false
  later_step x y less ascends Less is = refl
  later_step x y less ascends Greater is = refl
  later_step x y less ascends Equal is =
      absurd (cc (sym (ap is_eq ((by_id_total by_owner owner_order).trans (record { owner = owner; id = y.id }) x y (ap (λ o. ordering_then o (nat_cmp y.id x.id)) less) ascends))
      ∙ ap (λ o. is_eq (ordering_then o (nat_cmp y.id y.id))) is ∙ ap is_eq (itself nat_cmp nat_cmp_total y.id)))

  all_later : (x : ChannelId O) → by_owner owner x.owner ≡ Less → (ks : List (ChannelId O)) → AllByRecursion (λ y. ids x y ≡ Less) ks → AreOthers ks
  all_later x less [] all = tt
  all_later x less (y ∷ ys) all = (later_step x y less all.0 (by_owner owner y.owner) refl, all_later x less ys all.1)

  -- an owner's own channel of an id
  pub tied : (k : ChannelId O) → is_eq (by_owner owner k.owner) ≡ true → is_eq (ids (record { owner = owner; id = k.id }) k) ≡ true
  tied k tie = rw ((Equal-is (by_owner owner k.owner)).0 tie) (ap is_eq (itself nat_cmp nat_cmp_total k.id))

  module _ {V : Type 0} where
    first_step : (e x : ChannelId O × V) (es kept rest : List (ChannelId O × V)) (b : Bool) → is_le (ids least e.0) ≡ b
        → AllByRecursion (λ y. ids e.0 y ≡ Less) (keys_of es) → (kept ≡ x ∷ rest → AreOthers (keys_of es)) → is_eq (by_owner owner x.0.owner) ≡ false
        → cond b (e ∷ kept) kept ≡ x ∷ rest → AreOthers (e.0 ∷ keys_of es)
    first_step e x es kept rest true is all later other starts =
        let at : e ≡ x = cc starts in
        let apart = ap (λ y. is_eq (by_owner owner y.0.owner)) at ∙ other in
        (apart, all_later e.0 (less_step (by_owner owner e.0.owner) (nat_cmp 0 e.0.id) is apart) (keys_of es) all)
    first_step e x es kept rest false is all later other starts = (before_step (by_owner owner e.0.owner) e.0.id is, later starts)

    -- where the first entry from the owner's least id on is that of another owner, so are all
    pub others-first : (es : List (ChannelId O × V)) (x : ChannelId O × V) (rest : List (ChannelId O × V)) → IsStrictlySortedBy ids (keys_of es)
        → entries_from ids least es ≡ x ∷ rest → is_eq (by_owner owner x.0.owner) ≡ false → AreOthers (keys_of es)
    unfolding IsStrictlySortedBy
    others-first [] x rest sorted starts other = absurd (cc starts)
    others-first (e ∷ es) x rest sorted starts other =
        first_step e x es (entries_from ids least es) rest (is_le (ids least e.0)) refl sorted.0 (λ s. others-first es x rest sorted.1 s other) other starts

    none_step : (e : ChannelId O × V) (es kept : List (ChannelId O × V)) (b : Bool) → is_le (ids least e.0) ≡ b → (kept ≡ [] → AreOthers (keys_of es))
        → cond b (e ∷ kept) kept ≡ [] → AreOthers (e.0 ∷ keys_of es)
    none_step e es kept true is later none = absurd (cc none)
    none_step e es kept false is later none = (before_step (by_owner owner e.0.owner) e.0.id is, later none)

    -- and where there is none from there on
    pub others-none : (es : List (ChannelId O × V)) → entries_from ids least es ≡ [] → AreOthers (keys_of es)
    others-none [] none = tt
    others-none (e ∷ es) none = none_step e es (entries_from ids least es) (is_le (ids least e.0)) refl (others-none es) none

    there_step : (q : ChannelId O) (e x : ChannelId O × V) (es kept rest : List (ChannelId O × V)) (b c : Bool) → is_eq (ids q e.0) ≡ c → is_eq (ids q x.0) ≡ true
        → (kept ≡ x ∷ rest → is_some (map_get ids q es) ≡ true) → cond b (e ∷ kept) kept ≡ x ∷ rest → is_some (cond c (Some e.1) (map_get ids q es)) ≡ true
    there_step q e x es kept rest b true is tie later starts = refl
    there_step q e x es kept rest true false is tie later starts =
        let at : e ≡ x = cc starts in
        absurd (cc (sym is ∙ ap (λ y. is_eq (ids q y.0)) at ∙ tie))
    there_step q e x es kept rest false false is tie later starts = later starts

    -- an entry that is first among some is there
    pub first-there : (q : ChannelId O) (p : ChannelId O × V → Bool) (es : List (ChannelId O × V)) (x : ChannelId O × V) (rest : List (ChannelId O × V))
        → filter p es ≡ x ∷ rest → is_eq (ids q x.0) ≡ true → is_some (map_get ids q es) ≡ true
    first-there q p [] x rest starts tie = absurd (cc starts)
    first-there q p (e ∷ es) x rest starts tie =
        there_step q e x es (filter p es) rest (p e) (is_eq (ids q e.0)) refl tie (λ s. first-there q p es x rest s tie) starts
