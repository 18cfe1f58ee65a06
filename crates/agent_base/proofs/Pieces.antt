-- Pieces that are given or taken one after another.
use Rattle.std.proofs.Common.{◌≡◌, ℕ, ◌+◌, ◌≤◌, List, [], ◌++◌, length, take, drop, subst, Option, Some, None, ap, ◌∙◌, sym, append_assoc, take-add, append-nil, ◌-◌, arith, length-drop, length-take}
use Rattle.std.proofs.lemmas.List.{take_all, take_at, take-append-drop, drop-drop}
use Rattle.std.proofs.Math.Seq.{drop-append_seam}
use Rattle.agent_base.specs.Streams.{Gives, Shortens, Takes}

-- some was taken, and then a piece more
pub takes_append : (a b c : Option (List ℕ)) (first bytes : List ℕ) → Takes a b first → Takes b c bytes → Takes a c (first ++ bytes)
takes_append None b c first bytes one two = tt
takes_append (Some a) (Some b) (Some c) first bytes one two = two ∙ ap (λ x. x ++ bytes) one ∙ append_assoc a first bytes
takes_append (Some a) None c first bytes one two = absurd one
takes_append (Some a) (Some b) None first bytes one two = absurd two

-- what was taken up to here, and then a piece more
pub takes_more : (a b c : Option (List ℕ)) (bytes : List ℕ) (at n : ℕ) → Takes a b (take at bytes) → Takes b c (take n (drop at bytes)) → Takes a c (take (at + n) bytes)
takes_more a b c bytes at n first more = subst (Takes a c) (sym (take-add at n bytes)) (takes_append a b c (take at bytes) (take n (drop at bytes)) first more)

-- the whole of what is left
pub same_piece : (bytes : List ℕ) (at : ℕ) → take (length bytes - at) (drop at bytes) ≡ drop at bytes
same_piece bytes at = take_all (length bytes - at) (drop at bytes) (omega (arith, length-drop at bytes))

-- what was given is the front of what was left
pub shortens_by : (a b : Option (List ℕ)) (bytes : List ℕ) → Gives a b bytes → Shortens a b
shortens_by None b bytes gives = tt
shortens_by (Some a) (Some b) bytes gives =
    (length bytes, sym (ap (λ x. drop (length bytes) x) gives ∙ drop-append_seam bytes b))
shortens_by (Some a) None bytes gives = absurd gives

-- some was given, and then a piece more
pub gives_more : (a b c : Option (List ℕ)) (first bytes : List ℕ) → Gives a b first → Gives b c bytes → Gives a c (first ++ bytes)
gives_more None b c first bytes one two = tt
gives_more (Some a) (Some b) (Some c) first bytes one two = one ∙ ap (λ x. first ++ x) two ∙ sym (append_assoc first bytes c)
gives_more (Some a) None c first bytes one two = absurd one
gives_more (Some a) (Some b) None first bytes one two = absurd two

-- bytes that stand in front of a buffer are the front of what was left, and the rest stays
pub given_front : (bytes buffer piece : List ℕ) (at n : ℕ) → n ≤ length (drop at bytes) → piece ≡ take n (take (length bytes - at) (drop at bytes)) → drop at bytes ≡ take n (piece ++ drop n buffer) ++ drop (at + n) bytes
given_front bytes buffer piece at n fits is_front =
    let same : piece ≡ take n (drop at bytes) = is_front ∙ ap (λ x. take n x) (same_piece bytes at) in
    let front : take n (piece ++ drop n buffer) ≡ piece =
    take_at piece (drop n buffer) n (omega (arith, length-take n (drop at bytes), ap (λ x. length x) same)) in
    sym (ap (λ x. x ++ drop (at + n) bytes) (front ∙ same)
    ∙ ap (λ x. take n (drop at bytes) ++ x) (sym (drop-drop n at bytes)) ∙ take-append-drop n (drop at bytes))

-- nothing was taken
pub takes_none : (a : Option (List ℕ)) → Takes a a []
takes_none None = tt
takes_none (Some a) = sym (append-nil a)
