use Rattle.std.proofs.Common.{◌≡◌, ◌+◌, ◌%◌, ◌^◌, Bool, true, false, List, ℕ, length, inl, inr, arith, sym, ◌∙◌, subst, rules}
use Rattle.std.specs.Prelude.{◌⊎◌}
use Rattle.journal.specs.Frame.{Frame}
use Rattle.journal.specs.Region.{TakesOf, RefusesOf, IsFrameAt, IsFaultAt, IsRightLast}
use Rattle.journal.specs.ReaderAnswers.{IsTaken}
use Rattle.journal.specs.declared.region.Taken.{Taken}
use Rattle.journal.proofs.Reading.{body_is}
use Rattle.journal.proofs.region.take_frame.Goals as goal
use Rattle.journal.proofs.region.take_frame.Goals.{else-not-snapshot-via-then-not-snapshot+else-next-last, else-not-snapshot-via-else-not-snapshot}

-- a frame that stands there, and what its body leads to
module _ {S : Type 0} (takes : TakesOf S) (refuses : RefusesOf S) (file : List ℕ) (at : ℕ) (fresh : Bool) (s : S) (snapshot : Bool) (next list size : ℕ) (body : List ℕ) (f : Frame) (is_frame : IsFrameAt file at fresh f)
    (is_snapshot : f.snapshot ≡ snapshot) (is_next : f.last ≡ next) (is_list : length f.list ≡ list) (is_body : f.body ≡ body) where
  took : (t : S) (n : ℕ) → takes s snapshot body t n → takes s f.snapshot f.body t n
  took t n is =
      let K = λ (k : Bool). takes s k body t n in
      let B = λ (b : List ℕ). takes s f.snapshot b t n in
      subst B (sym is_body) (subst K (sym is_snapshot) is)

  refused : (o : ℕ) → refuses s snapshot body o → refuses s f.snapshot f.body o
  refused o is =
      let K = λ (k : Bool). refuses s k body o in
      let B = λ (b : List ℕ). refuses s f.snapshot b o in
      subst B (sym is_body) (subst K (sym is_snapshot) is)

  right_last : (kind : Bool) (last n m : ℕ) → (kind ≡ true) ⊎ (m ≡ (last + n) % 2 ^ 64) → IsRightLast kind last n m
  right_last true last n m is = tt
  right_last false last n m (inl snap) = absurd (cc)
  right_last false last n m (inr is) = is

  pub is_taken : (last n : ℕ) (t : S) (total : ℕ) → takes s snapshot body t n → length f.list + length f.body ≡ total → (snapshot ≡ true) ⊎ (next ≡ (last + n) % 2 ^ 64)
      → (taken : Taken) → taken ≡ record { snapshot = snapshot; last = next; size = total; changes = n } → IsTaken takes file at fresh s t last taken
  is_taken last n t total is is_size right taken same = subst (λ (x : Taken). IsTaken takes file at fresh s t last x) (sym same) (
    f,
    is_frame,
    took t n is,
    right_last f.snapshot last n f.last (elim right [
      | inl snap ↦ inl (is_snapshot ∙ snap)
      | inr sum ↦ inr (is_next ∙ sum)
    ]),
    is_snapshot,
    is_next,
    is_size,
  )

  wrong_last : (kind : Bool) (last n m : ℕ) → kind ≡ false → (m ≡ (last + n) % 2 ^ 64 → ⊥) → IsRightLast kind last n m → ⊥
  wrong_last true last n m is wrong right = absurd (cc)
  wrong_last false last n m is wrong right = wrong right

  pub is_wrong_last : (last n : ℕ) (t : S) (o : ℕ) → takes s snapshot body t n → snapshot ≡ false → (next ≡ (last + n) % 2 ^ 64 → ⊥) → o ≡ at + 2 → IsFaultAt takes refuses file at fresh s last o
  is_wrong_last last n t o is changes wrong place = inr (inr (inr (inr (f, is_frame, (t, n, took t n is, wrong_last f.snapshot last n f.last (is_snapshot ∙ changes) (λ e. wrong (sym is_next ∙ e)), place)))))

  pub is_refused : (last o p : ℕ) → refuses s snapshot body p → o ≡ at + 18 + list + p → IsFaultAt takes refuses file at fresh s last o
  is_refused last o p is place = inr (inr (inr (inl (f, is_frame, (p, refused p is, omega (arith, place, is_list))))))

pub returns-then-next-last-clause-bad : goal.returns-then-next-last-clause-bad
returns-then-next-last-clause-bad g c = λ o is.
    let R = g.R.Replay in
    let by = R.rules c.args.into.now in
    let w = c.in-Whole in
    let file = c.args.bytes.now in
    let f = w.ensures.0 in
    let place : o ≡ c.args.at + 2 = cc in
    is_wrong_last (R.takes by) (R.refuses by) file c.args.at c.args.fresh (R.state c.args.into.now) w.snapshot w.next w.list w.size _ f w.ensures.1 w.ensures.2 w.ensures.3 w.ensures.4 (body_is file c.args.at w.list w.size c.args.fresh f w.ensures.1 w.ensures.4 w.ensures.5)
    c.args.last c.in-Ok.changes (R.state c.frame.new.self) o c.in-Ok.ensures.takes c.if-not-snapshot.true c.if-next-last.true place

pub returns-else-not-snapshot-clause-taken : goal.returns-else-not-snapshot-clause-taken
returns-else-not-snapshot-clause-taken g c = λ t is.
    let R = g.R.Replay in
    let by = R.rules c.args.into.now in
    let w = c.in-Whole in
    let file = c.args.bytes.now in
    let f = w.ensures.0 in
    let same : t ≡ record { snapshot = w.snapshot; last = w.next; size = w.size; changes = c.in-Ok.changes } = cc in
    let right : (w.snapshot ≡ true) ⊎ (w.next ≡ (c.args.last + c.in-Ok.changes) % 2 ^ 64) = elim c.else-not-snapshot.branch [
      | else-not-snapshot-via-then-not-snapshot+else-next-last v ↦ inr v.if-next-last.false
      | else-not-snapshot-via-else-not-snapshot v ↦ inl v.if-not-snapshot.false
    ] in
    is_taken (R.takes by) (R.refuses by) file c.args.at c.args.fresh (R.state c.args.into.now) w.snapshot w.next w.list w.size _ f w.ensures.1 w.ensures.2 w.ensures.3 w.ensures.4 (body_is file c.args.at w.list w.size c.args.fresh f w.ensures.1 w.ensures.4 w.ensures.5)
    c.args.last c.in-Ok.changes (R.state c.frame.new.self) w.size c.in-Ok.ensures.takes w.ensures.5 right t same

pub returns-in-Err-Bad-clause-bad : goal.returns-in-Err-Bad-clause-bad
returns-in-Err-Bad-clause-bad g c = λ o is.
    let R = g.R.Replay in
    let by = R.rules c.args.into.now in
    let w = c.in-Whole in
    let file = c.args.bytes.now in
    let f = w.ensures.0 in
    let place : o ≡ c.args.at + 18 + w.list + c.in-Err-Bad.offset = cc in
    let refuses = c.in-Err-Bad.ensures.refuses c.in-Err-Bad.offset (search rules) in
    is_refused (R.takes by) (R.refuses by) file c.args.at c.args.fresh (R.state c.args.into.now) w.snapshot w.next w.list w.size _ f w.ensures.1 w.ensures.2 w.ensures.3 w.ensures.4 (body_is file c.args.at w.list w.size c.args.fresh f w.ensures.1 w.ensures.4 w.ensures.5)
    c.args.last o c.in-Err-Bad.offset refuses place
