-- Bytes that are written again where a cut may have left any.
use Rattle.std.proofs.Common.{◌≡◌, inl, ◌⊎◌, ⊎_elim, ℕ, zero, suc, ◌+◌, ◌-◌, ◌≤◌, ◌<◌, List, length, take, arith, refl, sym, ◌∙◌, ap, subst}
use Rattle.std.specs.Prelude.{Option, Some, None, Result, Ok, Err, IfOk, OnOk, ◌∷◌, [], ◌++◌, slice_index}
use Rattle.std.proofs.lemmas.List.{get_or-take}
use Rattle.std.proofs.lemmas.List.Elements.{All-append, All-weaker}
use Rattle.std.proofs.lemmas.Grind.{same_number_lists}
use Rattle.disk_model.specs.Disk.{View, Torn, Goes, Follows, Elapses, Stays}
use Rattle.disk_model.specs.RawFile.{HoldsFirst, WrittenFirst, IsTornIn, StaysTorn, AreTorn, WritesBack}
use Rattle.disk_model.proofs.Pieces.{time_then}

-- after a call that reads
pub still_back : (v w : View) → Stays v w → WritesBack v w
still_back v w s = record {
  no_more = s.no_more;
  no_fewer = s.no_fewer;
  time = record {
    later = omega (arith, s.moment);
    nothing_else = λ t c le left. inl (s.no_more_since t c left);
    keeps = λ t c le left. s.no_fewer_since t c left;
  };
  tells = s.tells;
}

pub then_back : (v w x : View) → WritesBack v w → WritesBack w x → WritesBack v x
then_back v w x one two = record {
  no_more = λ c left. one.no_more c (two.no_more c left);
  no_fewer = λ c left. two.no_fewer c (one.no_fewer c left);
  time = time_then v w x one.time two.no_fewer two.time;
  tells = two.tells ∙ one.tells;
}

-- torn in a part of a range is torn in it
pub torn_within : (at n at' n' : ℕ) (c d : List ℕ) → at ≤ at' → at' + n' ≤ at + n → Torn at' n' c d → Torn at n c d
torn_within at n at' n' c d from to torn = record {
  no_shorter = torn.no_shorter;
  no_longer = omega (arith, torn.no_longer, to);
  below = λ i within low. torn.below i within (omega (arith, low, from));
  above = λ i within high. torn.above i within (omega (arith, high, to));
}

pub is_torn_within : (at n at' n' : ℕ) (images : List ℕ → Type 0) → at ≤ at' → at' + n' ≤ at + n → IsTornIn at n images → IsTornIn at' n' images
is_torn_within at n at' n' images from to torn c d left part = torn c d left (torn_within at n at' n' c d from to part)

-- the same images are torn alike
pub torn_along : (v w : View) → WritesBack v w → StaysTorn v.may_leave w.may_leave
torn_along v w back at n torn c d left part = back.no_fewer d (torn c d (back.no_more c left) part)

pub torn_stays : (v w : View) → Stays v w → StaysTorn v.may_leave w.may_leave
torn_stays v w s = torn_along v w (still_back v w s)

pub are_torn : (ranges : List (ℕ × ℕ)) (old new : List ℕ → Type 0) → StaysTorn old new → AreTorn ranges old → AreTorn ranges new
are_torn ranges old new stays =
    All-weaker (λ r. 0 < r.1 → IsTornIn r.0 r.1 old) (λ r. 0 < r.1 → IsTornIn r.0 r.1 new) (λ r torn some. stays r.0 r.1 (torn some)) ranges

-- one range more
one_torn : (at n : ℕ) (images : List ℕ → Type 0) → (0 < n → IsTornIn at n images) → AreTorn ((at, n) ∷ []) images
one_torn at n images torn zero d below some = torn some
one_torn at n images torn (suc k) d below some = absurd (omega (arith, below))

pub torn_push : (ranges : List (ℕ × ℕ)) (at n : ℕ) (old new : List ℕ → Type 0) → StaysTorn old new → AreTorn ranges old → (0 < n → IsTornIn at n new)
    → AreTorn (ranges ++ (at, n) ∷ []) new
torn_push ranges at n old new stays before now =
    All-append (λ r. 0 < r.1 → IsTornIn r.0 r.1 new) ranges ((at, n) ∷ []) (are_torn ranges old new stays before) (one_torn at n new now)

-- the first piece of a write tears the whole range, and each later one leaves it so
pub torn_on : (at n done m : ℕ) (mid new : List ℕ → Type 0) → m ≡ n - done → (0 < done → IsTornIn at n mid) → StaysTorn mid new → IsTornIn (at + done) m new → IsTornIn at n new
torn_on at n zero m mid new is before stays now =
    let all : m ≡ n = omega (arith, is) in
    let here : at + 0 ≡ at = omega arith in
    subst (λ (k : ℕ). IsTornIn at k new) all (subst (λ (k : ℕ). IsTornIn k m new) here now)
torn_on at n (suc done) m mid new is before stays now = stays at n (before (omega arith))

-- a write into a range where a cut may leave any bytes
pub piece_back : (v w : View) (at n m : ℕ) → m ≤ n → IsTornIn at n v.may_leave → Follows (Torn at m) v.may_leave w.may_leave
    → ((c : List ℕ) → v.may_leave c → w.may_leave c) → Elapses v w → w.tells ≡ v.tells → WritesBack v w
piece_back v w at n m le torn follows kept time tells = record {
  no_more = λ c left. let d = follows c left in torn d.0 c d.1 (torn_within at n at m d.0 c (omega arith) (omega (arith, le)) d.2);
  no_fewer = kept;
  time = time;
  tells = tells;
}

-- the bytes that a read gave, written in their place
module _ (c d piece : List ℕ) (at read n : ℕ) (holds : HoldsFirst c at read piece) (le : n ≤ read) (w : WrittenFirst at (take read piece) n c d) where
  size : length d ≡ length c
  size = omega (arith, w.len, holds.within, le)

  there : (k : ℕ) → k < length c → at ≤ k → k < at + n → slice_index d k ≡ slice_index c k
  there k below from to =
      let is : at + (k - at) ≡ k = omega (arith, from) in
      subst (λ (i : ℕ). slice_index d i ≡ slice_index c i) is
      (w.each (k - at) (omega (arith, from, to)) ∙ get_or-take read piece (k - at) 0 (omega (arith, from, to, le)) ∙ sym (holds.each (k - at) (omega (arith, from, to, le))))

  places : (k : ℕ) → (k < at) ⊎ ((at + n ≤ k) ⊎ ((at ≤ k) × (k < at + n)))
  places k = grind arith

  pub bytes_back : d ≡ c
  bytes_back =
      same_number_lists d c size
      (λ k below. let within : k < length c = omega (arith, size, below) in ⊎_elim
      (λ (low : k < at). w.below k within low)
      (λ (rest : (at + n ≤ k) ⊎ ((at ≤ k) × (k < at + n))). ⊎_elim (λ (high : at + n ≤ k). w.above k within high) (λ (m : (at ≤ k) × (k < at + n)). there k within m.0 m.1) rest)
      (places k))

pub contents_back : (old new : Option (List ℕ)) (piece : List ℕ) (at read n : ℕ) → n ≤ read
    → ((c : List ℕ) → old ≡ Some c → HoldsFirst c at read piece) → Goes (WrittenFirst at (take read piece) n) old new → new ≡ old
contents_back None new piece at read n le holds goes = goes
contents_back (Some c) new piece at read n le holds goes =
    goes.1 ∙ ap (λ (l : List ℕ). Some l) (bytes_back c goes.0 piece at read n (holds c refl) le goes.2)

pub answered_ok : {E : Type 0} (r : Result ℕ E) (A B : ℕ → Type 0) (C : Type 0) → IfOk r A → IfOk r B → ((n : ℕ) → A n → B n → C) → OnOk r C
answered_ok (Ok n) A B C a b to = to n a b
answered_ok (Err e) A B C a b to = tt
