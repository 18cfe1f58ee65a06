-- A region of frames has no fault, and a region has one first fault.
use Rattle.std.proofs.Common.{◌≡◌, ◌≢◌, ◌⊎◌, inl, inr, ℕ, ◌+◌, ◌%◌, ◌^◌, ◌<◌, ◌≤◌, ◌∙◌, Bool, true, false, List, [], ◌∷◌, length, slice_index, arith, refl, sym, ap, subst}
use Rattle.std.specs.Prelude.{if◌then◌else◌}
use Rattle.disk_model.specs.Disk.{Holds}
use Rattle.journal.specs.Frame.{Frame, encoded, frame_len, frames_len, AreSound, IsFirst, IsSecond, IsListed, snapshot_kind}
use Rattle.journal.specs.Store.{IsClosed, IsOpen, FramesAt}
use Rattle.journal.specs.Region.{OpensAt, Runs, IsRightKind, IsRightLast, IsCut, IsSized, IsWrongKind, IsShort, IsFrameAt, IsFaultAt, IsFault, is_first}
use Rattle.journal.proofs.Unique.{fields, frame_unique, number_unique, number_wraps}
use Rattle.journal.proofs.Frames.{length-encoded}

abbrev pub fresh_behind : Bool → List Frame → Bool
fresh_behind fresh [] = fresh
fresh_behind fresh (f ∷ frames) = false

still_false : (frames : List Frame) → false ≡ fresh_behind false frames
still_false [] = refl
still_false (f ∷ frames) = refl

pub first_is : (frames : List Frame) → is_first frames ≡ fresh_behind true frames
first_is [] = refl
first_is (f ∷ frames) = refl

module _ {S : Type 0} (takes : S → Bool → List ℕ → S → ℕ → Type 0) (refuses : S → Bool → List ℕ → ℕ → Type 0)
    (one_state : (s : S) (k : Bool) (b : List ℕ) (t u : S) (m n : ℕ) → takes s k b t m → takes s k b u n → t ≡ u)
    (one_count : (s : S) (k : Bool) (b : List ℕ) (t u : S) (m n : ℕ) → takes s k b t m → takes s k b u n → m ≡ n)
    (one_fault : (s : S) (k : Bool) (b : List ℕ) (o p : ℕ) → refuses s k b o → refuses s k b p → o ≡ p)
    (apart : (s : S) (k : Bool) (b : List ℕ) (t : S) (n o : ℕ) → takes s k b t n → refuses s k b o → ⊥) where
  -- at a closed gate there is no fault
  at_end : (file : List ℕ) (at : ℕ) (fresh : Bool) (s : S) (last offset : ℕ) → IsClosed file at → IsFaultAt takes refuses file at fresh s last offset → ⊥
  at_end file at fresh s last offset shut (inl (inl past, is)) = omega (arith, shut.0)
  at_end file at fresh s last offset shut (inl (inr cut, is)) = cut.0.1 shut.1
  at_end file at fresh s last offset shut (inr (inl (kind, is))) = kind.1.0.1 shut.1
  at_end file at fresh s last offset shut (inr (inr (inl (inl none, is)))) = none.0.0.1 shut.1
  at_end file at fresh s last offset shut (inr (inr (inl (inr cut, is)))) = cut.1.0.1 shut.1
  at_end file at fresh s last offset shut (inr (inr (inr (inl (g, is_frame, rest))))) = is_frame.0.1 shut.1
  at_end file at fresh s last offset shut (inr (inr (inr (inr (g, is_frame, rest))))) = is_frame.0.1 shut.1

  first_second : (file : List ℕ) → IsFirst file → IsSecond file → ⊥
  first_second file first second = second first

  -- the kind of a right frame is not wrong
  kind_right : (file : List ℕ) (fresh snapshot : Bool) (list body : List ℕ) (k : ℕ) → IsRightKind fresh snapshot body → (list ≡ []) ⊎ ((snapshot ≡ true) × (length list ≡ 32) × IsSecond file) → k ≡ (if snapshot then snapshot_kind list else 1)
      → k ≢ 1 → (k ≡ 2 → fresh ≡ false) → (k ≡ 3 → (fresh ≡ false) ⊎ IsFirst file) → ⊥
  kind_right file fresh false list body k right listed is not_one not_two not_three = not_one is
  kind_right file fresh true [] body k right listed is not_one not_two not_three = let e = sym right ∙ not_two is in cc
  kind_right file fresh true (x ∷ list) body k right listed is not_one not_two not_three = elim (not_three is) [
    | inl late ↦ (let e = sym right ∙ late in absurd (cc))
    | inr first ↦ elim listed [
      | inl none ↦ absurd (cc)
      | inr some ↦ first_second file first some.2
    ]
  ]

  -- and what stands behind its front is not too short
  some_body : (fresh snapshot : Bool) (list body : List ℕ) (k : ℕ) → IsRightKind fresh snapshot body → k ≡ (if snapshot then snapshot_kind list else 1) → k ≡ 1 → length list + length body ≡ 0 → ⊥
  some_body fresh true [] body k right is one none = omega arith
  some_body fresh true (x ∷ list) body k right is one none = omega arith
  some_body fresh false list body k right is one none = omega arith

  whole_digest : (snapshot : Bool) (list body : List ℕ) (k : ℕ) (P : Type 0) → (list ≡ []) ⊎ ((snapshot ≡ true) × (length list ≡ 32) × P) → k ≡ (if snapshot then snapshot_kind list else 1) → k ≡ 3 → length list + length body < 32 → ⊥
  whole_digest true [] body k P listed is three short = omega arith
  whole_digest true (x ∷ list) body k P (inl none) is three short = absurd (cc)
  whole_digest true (x ∷ list) body k P (inr some) is three short = omega (arith, some.1)
  whole_digest false list body k P listed is three short = omega arith

  -- at a right frame there is none
  at_frame : (file : List ℕ) (at : ℕ) (fresh : Bool) (s : S) (last offset : ℕ) (f : Frame) (m : S) (n : ℕ) → IsOpen file at → Holds file (at + 1) (encoded f) → f.last < 2 ^ 64 → length f.list + length f.body < 2 ^ 64 → IsListed file f
      → IsRightKind fresh f.snapshot f.body → takes s f.snapshot f.body m n → IsRightLast f.snapshot last n f.last → IsFaultAt takes refuses file at fresh s last offset → ⊥
  at_frame file at fresh s last offset f m n gate holds fl fb fn kind took right (inl (inl past, is)) = omega (arith, gate.0)
  at_frame file at fresh s last offset f m n gate holds fl fb fn kind took right (inl (inr (op, inl short), is)) = omega (arith, holds.within, length-encoded f)
  at_frame file at fresh s last offset f m n gate holds fl fb fn kind took right (inl (inr (op, inr (size, small, says, short)), is)) =
      let same = number_unique file (at + 10) size (length f.list + length f.body) small fb says (fields file at f holds).size in
      omega (arith, holds.within, length-encoded f, same)
  at_frame file at fresh s last offset f m n gate holds fl fb fn kind took right (inr (inl (wrong, is))) =
      kind_right file fresh f.snapshot f.list f.body (slice_index file (at + 1)) kind fn (fields file at f holds).kind wrong.2 wrong.3 wrong.4
  at_frame file at fresh s last offset f m n gate holds fl fb fn kind took right (inr (inr (inl (inl (sized, one), is)))) =
      let same = number_unique file (at + 10) (length f.list + length f.body) 0 fb (omega arith) (fields file at f holds).size sized.1 in
      some_body fresh f.snapshot f.list f.body (slice_index file (at + 1)) kind (fields file at f holds).kind one same
  at_frame file at fresh s last offset f m n gate holds fl fb fn kind took right (inr (inr (inl (inr cut, is)))) =
      let same = number_unique file (at + 10) (length f.list + length f.body) cut.0 fb (omega (arith, cut.5)) (fields file at f holds).size cut.1.1 in
      whole_digest f.snapshot f.list f.body (slice_index file (at + 1)) (IsSecond file) fn (fields file at f holds).kind cut.2 (omega (arith, same, cut.5))
  at_frame file at fresh s last offset f m n gate holds fl fb fn kind took right (inr (inr (inr (inl (g, is_frame, (o, refused, is)))))) =
      let same = frame_unique file at g f (fields file at g is_frame.1) (fields file at f holds) is_frame.4 fl is_frame.5 fb is_frame.6 fn in
      let Q = λ (x : Frame). refuses s x.snapshot x.body o in
      apart s f.snapshot f.body m n o took (subst Q same refused)
  at_frame file at fresh s last offset f m n gate holds fl fb fn kind took right (inr (inr (inr (inr (g, is_frame, (t, k, taken, wrong, is)))))) =
      let same = frame_unique file at g f (fields file at g is_frame.1) (fields file at f holds) is_frame.4 fl is_frame.5 fb is_frame.6 fn in
      let Q = λ (x : Frame). takes s x.snapshot x.body t k in
      let R = λ (x : Frame). IsRightLast x.snapshot last k x.last → ⊥ in
      let count = one_count s f.snapshot f.body m t n k took (subst Q same taken) in
      let T = λ (c : ℕ). IsRightLast f.snapshot last c f.last in
      subst R same wrong (subst T count right)

  pub no_fault : (frames others : List Frame) (file : List ℕ) (at end : ℕ) (fresh : Bool) (s t u : S) (last lt lu offset : ℕ) → AreSound file frames → AreSound file others
      → FramesAt file at frames → Runs takes fresh s last frames t lt → OpensAt file at others → Runs takes fresh s last others u lu → end ≡ at + frames_len others
      → IsFaultAt takes refuses file end (fresh_behind fresh others) u lu offset → ⊥
  no_fault [] [] file at end fresh s t u last lt lu offset fs gs here runs opens other is fault =
      let place : end ≡ at = omega arith in
      let A = λ (k : ℕ). IsFaultAt takes refuses file k fresh u lu offset in
      at_end file at fresh u lu offset here (subst A place fault)
  no_fault (f ∷ frames) [] file at end fresh s t u last lt lu offset fs gs here runs opens other is fault =
      let place : end ≡ at = omega arith in
      let A = λ (k : ℕ). IsFaultAt takes refuses file k fresh u lu offset in
      let B = λ (x : S). IsFaultAt takes refuses file at fresh x lu offset in
      let C = λ (k : ℕ). IsFaultAt takes refuses file at fresh s k offset in
      at_frame file at fresh s last offset f runs.0 runs.1 here.0 here.1 fs.0 fs.1 fs.2 runs.2 runs.3 runs.4 (subst C (sym other.1) (subst B (sym other.0) (subst A place fault)))
  no_fault [] (g ∷ others) file at end fresh s t u last lt lu offset fs gs here runs opens other is fault = opens.0.1 here.1
  no_fault (f ∷ frames) (g ∷ others) file at end fresh s t u last lt lu offset fs gs here runs opens other is fault =
      let same = frame_unique file at g f (fields file at g opens.1) (fields file at f here.1) gs.0 fs.0 gs.1 fs.1 gs.2 fs.2 in
      let P = λ (x : Frame). OpensAt file at (x ∷ others) in
      let Q = λ (x : Frame). Runs takes fresh s last (x ∷ others) u lu in
      let opens' = subst P same opens in
      let other' = subst Q same other in
      let state = one_state s f.snapshot f.body other'.0 runs.0 other'.1 runs.1 other'.3 runs.3 in
      let R = λ (x : S). Runs takes false x f.last others u lu in
      let size : frame_len g ≡ frame_len f = ap (λ (x : Frame). frame_len x) same in
      let F = λ (b : Bool). IsFaultAt takes refuses file end b u lu offset in
      no_fault frames others file (at + frame_len f) end false runs.0 t u f.last lt lu offset fs.3 gs.3 here.2 runs.5 opens'.2 (subst R state other'.5) (omega arith) (subst F (still_false others) fault)

  -- a size that lies within the file is not one that is cut off
  not_cut : (file : List ℕ) (at size : ℕ) → IsSized file at size → IsCut file at → ⊥
  not_cut file at size sized (inl past) = omega (arith, past, sized.2)
  not_cut file at size sized (inr (op, inl short)) = omega (arith, short, sized.2)
  not_cut file at size sized (inr (op, inr (n, small, says, short))) =
      let same : n ≡ size % 2 ^ 64 = number_wraps file (at + 10) n size small says sized.1 in
      omega (arith, same, short, sized.2, at_most size)
    where
      at_most : (size : ℕ) → size % 2 ^ 64 ≤ size
      at_most size = omega arith

  frame_sized : (file : List ℕ) (at : ℕ) (fresh : Bool) (f : Frame) → IsFrameAt file at fresh f → IsSized file at (length f.list + length f.body)
  frame_sized file at fresh f is = (is.0, (fields file at f is.1).size, omega (arith, is.3))

  not_kind : (file : List ℕ) (at : ℕ) (fresh : Bool) (f : Frame) → IsFrameAt file at fresh f → IsWrongKind file at fresh → ⊥
  not_kind file at fresh f is wrong = kind_right file fresh f.snapshot f.list f.body (slice_index file (at + 1)) is.2 is.6 (fields file at f is.1).kind wrong.2 wrong.3 wrong.4

  not_short : (file : List ℕ) (at : ℕ) (fresh : Bool) (f : Frame) → IsFrameAt file at fresh f → IsShort file at fresh → ⊥
  not_short file at fresh f is (inl none) =
      let same = number_unique file (at + 10) (length f.list + length f.body) 0 is.5 (omega arith) (fields file at f is.1).size none.0.1 in
      some_body fresh f.snapshot f.list f.body (slice_index file (at + 1)) is.2 (fields file at f is.1).kind none.1 same
  not_short file at fresh f is (inr cut) =
      let same = number_unique file (at + 10) (length f.list + length f.body) cut.0 is.5 (omega (arith, cut.5)) (fields file at f is.1).size cut.1.1 in
      whole_digest f.snapshot f.list f.body (slice_index file (at + 1)) (IsSecond file) is.6 (fields file at f is.1).kind cut.2 (omega (arith, same, cut.5))

  -- a body that is too short is of a right kind
  kind_or_short : (file : List ℕ) (at : ℕ) (fresh : Bool) → IsWrongKind file at fresh → IsShort file at fresh → ⊥
  kind_or_short file at fresh wrong (inl none) = wrong.2 none.1
  kind_or_short file at fresh wrong (inr cut) = elim (wrong.4 cut.2) [
    | inl late ↦ (let e = sym cut.3 ∙ late in absurd (cc))
    | inr first ↦ first_second file first cut.4
  ]

  short_sized : (file : List ℕ) (at : ℕ) (fresh : Bool) → IsShort file at fresh → IsCut file at → ⊥
  short_sized file at fresh (inl none) cut = not_cut file at 0 none.0 cut
  short_sized file at fresh (inr short) cut = not_cut file at short.0 short.1 cut

  same_frame : (file : List ℕ) (at : ℕ) (fresh : Bool) (f g : Frame) → IsFrameAt file at fresh f → IsFrameAt file at fresh g → f ≡ g
  same_frame file at fresh f g one two = frame_unique file at f g (fields file at f one.1) (fields file at g two.1) one.4 two.4 one.5 two.5 one.6 two.6

  -- a body is taken or refused
  not_taken : (f g : Frame) (s t : S) (n o : ℕ) → f ≡ g → refuses s f.snapshot f.body o → takes s g.snapshot g.body t n → ⊥
  not_taken f g s t n o same refused took = let Q = λ (x : Frame). refuses s x.snapshot x.body o in apart s g.snapshot g.body t n o took (subst Q same refused)

  same_offset : (f g : Frame) (s : S) (o p : ℕ) → f ≡ g → refuses s f.snapshot f.body o → refuses s g.snapshot g.body p → o ≡ p
  same_offset f g s o p same one two = let Q = λ (x : Frame). refuses s x.snapshot x.body o in one_fault s g.snapshot g.body o p (subst Q same one) two

  -- at one place there is one first fault
  fault_at : (file : List ℕ) (at : ℕ) (fresh : Bool) (s : S) (last a b : ℕ) → IsFaultAt takes refuses file at fresh s last a → IsFaultAt takes refuses file at fresh s last b → a ≡ b
  fault_at file at fresh s last a b (inl (cut, is)) (inl (cut', is')) = is ∙ sym is'
  fault_at file at fresh s last a b (inl (cut, is)) (inr (inl (kind, is'))) = absurd (not_cut file at kind.0 kind.1 cut)
  fault_at file at fresh s last a b (inl (cut, is)) (inr (inr (inl (short, is')))) = absurd (short_sized file at fresh short cut)
  fault_at file at fresh s last a b (inl (cut, is)) (inr (inr (inr (inl (f, is_frame, rest))))) = absurd (not_cut file at (length f.list + length f.body) (frame_sized file at fresh f is_frame) cut)
  fault_at file at fresh s last a b (inl (cut, is)) (inr (inr (inr (inr (f, is_frame, rest))))) = absurd (not_cut file at (length f.list + length f.body) (frame_sized file at fresh f is_frame) cut)
  fault_at file at fresh s last a b (inr (inl (kind, is))) (inl (cut, is')) = absurd (not_cut file at kind.0 kind.1 cut)
  fault_at file at fresh s last a b (inr (inl (kind, is))) (inr (inl (kind', is'))) = is ∙ sym is'
  fault_at file at fresh s last a b (inr (inl (kind, is))) (inr (inr (inl (short, is')))) = absurd (kind_or_short file at fresh kind short)
  fault_at file at fresh s last a b (inr (inl (kind, is))) (inr (inr (inr (inl (f, is_frame, rest))))) = absurd (not_kind file at fresh f is_frame kind)
  fault_at file at fresh s last a b (inr (inl (kind, is))) (inr (inr (inr (inr (f, is_frame, rest))))) = absurd (not_kind file at fresh f is_frame kind)
  fault_at file at fresh s last a b (inr (inr (inl (short, is)))) (inl (cut, is')) = absurd (short_sized file at fresh short cut)
  fault_at file at fresh s last a b (inr (inr (inl (short, is)))) (inr (inl (kind, is'))) = absurd (kind_or_short file at fresh kind short)
  fault_at file at fresh s last a b (inr (inr (inl (short, is)))) (inr (inr (inl (short', is')))) = is ∙ sym is'
  fault_at file at fresh s last a b (inr (inr (inl (short, is)))) (inr (inr (inr (inl (f, is_frame, rest))))) = absurd (not_short file at fresh f is_frame short)
  fault_at file at fresh s last a b (inr (inr (inl (short, is)))) (inr (inr (inr (inr (f, is_frame, rest))))) = absurd (not_short file at fresh f is_frame short)
  fault_at file at fresh s last a b (inr (inr (inr (inl (f, is_frame, rest))))) (inl (cut, is')) = absurd (not_cut file at (length f.list + length f.body) (frame_sized file at fresh f is_frame) cut)
  fault_at file at fresh s last a b (inr (inr (inr (inl (f, is_frame, rest))))) (inr (inl (kind, is'))) = absurd (not_kind file at fresh f is_frame kind)
  fault_at file at fresh s last a b (inr (inr (inr (inl (f, is_frame, rest))))) (inr (inr (inl (short, is')))) = absurd (not_short file at fresh f is_frame short)
  fault_at file at fresh s last a b (inr (inr (inr (inl (f, is_frame, (o, refused, is)))))) (inr (inr (inr (inl (g, is_frame', (p, refused', is')))))) =
      let frames = same_frame file at fresh f g is_frame is_frame' in
      let same = same_offset f g s o p frames refused refused' in
      let lists : length f.list ≡ length g.list = ap (λ (x : Frame). length x.list) frames in
      omega (arith, is, is', same, lists)
  fault_at file at fresh s last a b (inr (inr (inr (inl (f, is_frame, (o, refused, is)))))) (inr (inr (inr (inr (g, is_frame', rest))))) =
      absurd (not_taken f g s rest.0 rest.1 o (same_frame file at fresh f g is_frame is_frame') refused rest.2)
  fault_at file at fresh s last a b (inr (inr (inr (inr (f, is_frame, rest))))) (inl (cut, is')) = absurd (not_cut file at (length f.list + length f.body) (frame_sized file at fresh f is_frame) cut)
  fault_at file at fresh s last a b (inr (inr (inr (inr (f, is_frame, rest))))) (inr (inl (kind, is'))) = absurd (not_kind file at fresh f is_frame kind)
  fault_at file at fresh s last a b (inr (inr (inr (inr (f, is_frame, rest))))) (inr (inr (inl (short, is')))) = absurd (not_short file at fresh f is_frame short)
  fault_at file at fresh s last a b (inr (inr (inr (inr (f, is_frame, rest))))) (inr (inr (inr (inl (g, is_frame', (o, refused, is')))))) =
      absurd (not_taken g f s rest.0 rest.1 o (same_frame file at fresh g f is_frame' is_frame) refused rest.2)
  fault_at file at fresh s last a b (inr (inr (inr (inr (f, is_frame, (t, n, took, wrong, is)))))) (inr (inr (inr (inr (g, is_frame', (t', n', took', wrong', is')))))) = is ∙ sym is'

  moved_fault : (file : List ℕ) (from at : ℕ) (fresh : Bool) (t s : S) (lt last offset : ℕ) → from ≡ at → (s ≡ t) × (last ≡ lt) → IsFaultAt takes refuses file from fresh t lt offset → IsFaultAt takes refuses file at fresh s last offset
  moved_fault file from at fresh t s lt last offset place same fault =
      let A = λ (k : ℕ). IsFaultAt takes refuses file k fresh t lt offset in
      let B = λ (x : S). IsFaultAt takes refuses file at fresh x lt offset in
      let C = λ (k : ℕ). IsFaultAt takes refuses file at fresh s k offset in
      subst C (sym same.1) (subst B (sym same.0) (subst A place fault))

  -- a region has one first fault
  fault_in : (frames others : List Frame) (file : List ℕ) (at end stop : ℕ) (fresh : Bool) (s t u : S) (last lt lu a b : ℕ) → AreSound file frames → AreSound file others
      → OpensAt file at frames → Runs takes fresh s last frames t lt → OpensAt file at others → Runs takes fresh s last others u lu → end ≡ at + frames_len frames → stop ≡ at + frames_len others
      → IsFaultAt takes refuses file end (fresh_behind fresh frames) t lt a → IsFaultAt takes refuses file stop (fresh_behind fresh others) u lu b → a ≡ b
  fault_in [] [] file at end stop fresh s t u last lt lu a b fs gs opens runs opens' other is is' fault fault' =
      fault_at file at fresh s last a b (moved_fault file end at fresh t s lt last a (omega arith) runs fault) (moved_fault file stop at fresh u s lu last b (omega arith) other fault')
  fault_in [] (g ∷ others) file at end stop fresh s t u last lt lu a b fs gs opens runs opens' other is is' fault fault' =
      absurd (at_frame file at fresh s last a g other.0 other.1 opens'.0 opens'.1 gs.0 gs.1 gs.2 other.2 other.3 other.4 (moved_fault file end at fresh t s lt last a (omega arith) runs fault))
  fault_in (f ∷ frames) [] file at end stop fresh s t u last lt lu a b fs gs opens runs opens' other is is' fault fault' =
      absurd (at_frame file at fresh s last b f runs.0 runs.1 opens.0 opens.1 fs.0 fs.1 fs.2 runs.2 runs.3 runs.4 (moved_fault file stop at fresh u s lu last b (omega arith) other fault'))
  fault_in (f ∷ frames) (g ∷ others) file at end stop fresh s t u last lt lu a b fs gs opens runs opens' other is is' fault fault' =
      let same = frame_unique file at g f (fields file at g opens'.1) (fields file at f opens.1) gs.0 fs.0 gs.1 fs.1 gs.2 fs.2 in
      let P = λ (x : Frame). OpensAt file at (x ∷ others) in
      let Q = λ (x : Frame). Runs takes fresh s last (x ∷ others) u lu in
      let opens'' = subst P same opens' in
      let other' = subst Q same other in
      let state = one_state s f.snapshot f.body other'.0 runs.0 other'.1 runs.1 other'.3 runs.3 in
      let R = λ (x : S). Runs takes false x f.last others u lu in
      let size : frame_len g ≡ frame_len f = ap (λ (x : Frame). frame_len x) same in
      let F = λ (c : Bool). IsFaultAt takes refuses file end c t lt a in
      let G = λ (c : Bool). IsFaultAt takes refuses file stop c u lu b in
      fault_in frames others file (at + frame_len f) end stop false runs.0 t u f.last lt lu a b fs.3 gs.3 opens.2 runs.5 opens''.2 (subst R state other'.5) (omega arith) (omega (arith, is', size)) (subst F (still_false frames) fault) (subst G (still_false others) fault')

  pub fault_unique : (file : List ℕ) (begin : ℕ) (empty : S) (a b : ℕ) → IsFault takes refuses file begin empty a → IsFault takes refuses file begin empty b → a ≡ b
  fault_unique file begin empty a b one two =
      let F = λ (c : Bool). IsFaultAt takes refuses file (begin + frames_len one.0) c one.1 one.2 a in
      let G = λ (c : Bool). IsFaultAt takes refuses file (begin + frames_len two.0) c two.1 two.2 b in
      fault_in one.0 two.0 file begin (begin + frames_len one.0) (begin + frames_len two.0) true empty one.1 two.1 0 one.2 two.2 a b one.4 two.4 one.3 one.5 two.3 two.5 refl refl
      (subst F (first_is one.0) one.6) (subst G (first_is two.0) two.6)

  -- and a region of right frames has none
  pub region_right : (file : List ℕ) (begin : ℕ) (empty : S) (frames : List Frame) (t : S) (n offset : ℕ) → AreSound file frames → FramesAt file begin frames → Runs takes true empty 0 frames t n → IsFault takes refuses file begin empty offset → ⊥
  region_right file begin empty frames t n offset sized here runs fault =
      let F = λ (c : Bool). IsFaultAt takes refuses file (begin + frames_len fault.0) c fault.1 fault.2 offset in
      no_fault frames fault.0 file begin (begin + frames_len fault.0) true empty t fault.1 0 n fault.2 offset sized fault.4 here runs fault.3 fault.5 refl (subst F (first_is fault.0) fault.6)
