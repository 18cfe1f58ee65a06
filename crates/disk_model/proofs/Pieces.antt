-- Pieces of a read or a write, one behind another.
use Rattle.std.proofs.Common.{◌≡◌, inl, inr, ◌⊎◌, ⊎_elim, ℕ, ◌+◌, ◌-◌, ◌≤◌, ◌<◌, List, length, take, drop, length-take, length-drop, slice_index, arith, refl, sym, ◌∙◌, subst}
use Rattle.std.specs.Prelude.{Option, Some, None}
use Rattle.std.proofs.lemmas.List.{get_or-drop}
use Rattle.disk_model.specs.Disk.{View, Torn, Goes, Follows, Elapses}
use Rattle.disk_model.specs.RawFile.{WrittenFirst}

-- time goes on by a piece that leaves what might have been left before it
pub time_then : (v w x : View) → Elapses v w → ((c : List ℕ) → w.may_leave c → x.may_leave c) → Elapses w x → Elapses v x
time_then v w x one kept two = record {
  later = omega (arith, one.later, two.later);
  nothing_else = λ t c le left. ⊎_elim
      (λ (was : w.left_since t c). ⊎_elim (λ (past : v.left_since t c). inl past) (λ (then : w.may_leave c). inr (kept c then)) (one.nothing_else t c le was))
      (λ (now : x.may_leave c). inr now)
      (two.nothing_else t c (omega (arith, le, one.later)) left);
  keeps = λ t c le left. two.keeps t c (omega (arith, le, one.later)) (one.keeps t c le left);
}

torn_then : (at n done : ℕ) (c d e : List ℕ) → done ≤ n → Torn at n c d → Torn (at + done) (n - done) d e → Torn at n c e
torn_then at n done c d e le one two = record {
  no_shorter = omega (arith, one.no_shorter, two.no_shorter);
  no_longer = omega (arith, one.no_longer, two.no_longer, le);
  below = λ i within low. two.below i (omega (arith, within, one.no_shorter)) (omega (arith, low)) ∙ one.below i within low;
  above = λ i within high. two.above i (omega (arith, within, one.no_shorter)) (omega (arith, high, le)) ∙ one.above i within high;
}

pub images_then : (at n done m : ℕ) (old mid new : List ℕ → Type 0) → done ≤ n → m ≡ n - done → Follows (Torn at n) old mid → Follows (Torn (at + done) m) mid new → Follows (Torn at n) old new
images_then at n done m old mid new le is one two e left =
    let d = two e left in
    let c = one d.0 d.1 in
    (c.0, c.1, torn_then at n done c.0 d.0 e le c.2 (subst (λ (k : ℕ). Torn (at + done) k d.0 e) is d.2))

-- how long a piece is
pub piece_len : (bytes : List ℕ) (done : ℕ) → length (take (length bytes - done) (drop done bytes)) ≡ length bytes - done
piece_len bytes done = omega (arith, length-take (length bytes - done) (drop done bytes), length-drop done bytes)

written_then : (at done n : ℕ) (bytes piece c d e : List ℕ) → ((i : ℕ) → slice_index piece i ≡ slice_index bytes (done + i))
    → WrittenFirst at bytes done c d → WrittenFirst (at + done) piece n d e → WrittenFirst at bytes (done + n) c e
written_then at done n bytes piece c d e same one two = record {
  len = omega (arith, one.len, two.len);
  each = λ i below. ⊎_elim
      (λ (low : i < done). two.below (at + i) (omega (arith, one.len, low)) (omega (arith, low)) ∙ one.each i low)
      (λ (high : done ≤ i).
      let at_i : at + done + (i - done) ≡ at + i = omega (arith, high) in
      let of_i : done + (i - done) ≡ i = omega (arith, high) in
      sym (subst (λ (k : ℕ). slice_index e k ≡ slice_index e (at + i)) (sym at_i) refl)
      ∙ two.each (i - done) (omega (arith, below, high)) ∙ same (i - done) ∙ subst (λ (k : ℕ). slice_index bytes k ≡ slice_index bytes i) (sym of_i) refl)
      (sides i done);
  below = λ i within low. two.below i (omega (arith, within, one.len)) (omega (arith, low)) ∙ one.below i within low;
  above = λ i within high. two.above i (omega (arith, within, one.len)) (omega (arith, high)) ∙ one.above i within (omega (arith, high));
}
  where
    sides : (m n : ℕ) → (m < n) ⊎ (n ≤ m)
    sides m n = grind arith

goes_from : (step : List ℕ → List ℕ → Type 0) (old new : Option (List ℕ)) (c : List ℕ) → Goes step old new → old ≡ Some c → (d : List ℕ) × (new ≡ Some d) × step c d
goes_from step old new c goes is = subst (λ (o : Option (List ℕ)). Goes step o new) is goes

goes_both : (one two both : List ℕ → List ℕ → Type 0) (old mid new : Option (List ℕ)) → Goes one old mid → Goes two mid new → ((c d e : List ℕ) → one c d → two d e → both c e) → Goes both old new
goes_both one two both None mid new first second joins = subst (λ (o : Option (List ℕ)). Goes two o new) first second
goes_both one two both (Some c) mid new first second joins =
    let next = goes_from two mid new first.0 second first.1 in
    (next.0, next.1, joins c first.0 next.0 first.2 next.2)

pub piece_written : (at done n : ℕ) (bytes piece : List ℕ) (old mid new : Option (List ℕ)) → piece ≡ drop done bytes
    → Goes (WrittenFirst at bytes done) old mid → Goes (WrittenFirst (at + done) piece n) mid new → Goes (WrittenFirst at bytes (done + n)) old new
piece_written at done n bytes piece old mid new is first second =
    goes_both (WrittenFirst at bytes done) (WrittenFirst (at + done) piece n) (WrittenFirst at bytes (done + n)) old mid new first second
    (λ c d e one two. written_then at done n bytes piece c d e (λ i. subst (λ (l : List ℕ). slice_index l i ≡ slice_index bytes (done + i)) (sym is) (get_or-drop done bytes i 0)) one two)
