-- What each kind of line makes of a course: held, answered, down, and a flush between lines.
use Rattle.std.proofs.Common.{◌≡◌, ◌⊎◌, inl, inr, ⊎_elim, ℕ, ◌+◌, ◌*◌, ◌%◌, ◌<◌, true, List}
use Rattle.std.proofs.Common.{[], ◌∷◌, ◌++◌, Option, Some, None, length, sym, ap, subst, ◌∙◌}
use Rattle.std.proofs.Common.{append_assoc, append-nil, arith}
use Rattle.std.proofs.lemmas.Bool.{true≢false}
use Rattle.std.proofs.lemmas.List.{length-append}
use Rattle.std.proofs.Math.Nat.{mul-mod_right}
use Rattle.unwinding.specs.Machine.{Machine}
use Rattle.unwinding.specs.Durable.{Keeping, DurableOf}
use Rattle.unwinding.specs.Admissible.{Step, Acts, Reopens, OpeningOf, interrupted_line}
use Rattle.unwinding.specs.Course.{Course, executed_lines, IsAt, AtBase, wait, answer_all, down_one}
use Rattle.unwinding.specs.CourseSteps.{SeenOf, MayFind, holding, committed, GoesDown, last_opening}
use Rattle.unwinding.specs.CourseSteps.{base_of, stands, MayKeep, IsOn}
use Rattle.unwinding.proofs.CourseSums.{holding_stands, committed_stands, length_held, world_rest}
use Rattle.unwinding.proofs.CourseSums.{base_is}

module _
    {Site Cell Cells Partition Content Rest Line Event Reply Change KeptPartition KeptCell KeptCells
    : Type 0}
    (m : Machine Site Cell Cells Partition Content Rest Line Event Reply Change)
    (k : Keeping Site Cell Cells Partition Content Rest Change KeptPartition KeptCell KeptCells)
    (batch : ℕ) (x : OpeningOf m k) where
  pub last_more : (ds : List (Step Line)) (e : Step Line) (l : Line) → interrupted_line ds ≡ Some l → interrupted_line (ds ++ e ∷ []) ≡ Some l
  last_more [] e l is = none_some is
    where
      none_some : ◌≡◌ {A = Option Line} None (Some l) → interrupted_line (e ∷ []) ≡ Some l
      none_some e = cc
  last_more (Acts j ∷ ds) e l is = is
  last_more (Reopens ∷ ds) e l is = is

  pub keeps_down : (r : Course Line) (e : Step Line) (d : DurableOf k) (n : ℕ) → MayKeep m k batch (last_opening m k x r) r d n → MayKeep m k batch (last_opening m k x r) (down_one r e) d n
  keeps_down r e d n (inl at) = inl at
  keeps_down r e d n (inr one) = inr (one.0, last_more r.downs e one.0 one.1, one.2, one.3)

  -- the course with these lines answered with a device fault
  abbrev with_downs : Course Line → List (Step Line) → Course Line
  with_downs r downs = record { closed = r.closed; answered = r.answered; waiting = r.waiting; downs = downs }

  -- down, where what a restart may find is told
  goes_down : (r : Course Line) (downs : List (Step Line)) (a b : SeenOf m k) (may may' other : MayFind m k)
      → IsOn m k batch x r a may → GoesDown m k a b may may' other
      → ((d : DurableOf k) (n : ℕ) → may d n ⊎ other d n → MayKeep m k batch (last_opening m k x r) (with_downs r downs) d n) → IsOn m k batch x (with_downs r downs) b may'
  goes_down r downs a b may may' other on goes kept = record {
    admissible = on.admissible;
    batches = on.batches;
    whole = on.whole;
    short = on.short;
    rest = goes.rest ∙ on.rest;
    up = λ is. absurd (true≢false (sym is ∙ goes.down));
    images = λ d n left. kept d n (goes.images d n left);
  }

  -- held
  pub on_held : (r : Course Line) (l : Line) (a b : SeenOf m k) (may may' : MayFind m k)
      → IsOn m k batch x r a may → a.up ≡ true → length a.held + 1 < batch → b ≡ holding m k a l → AtBase b.base may' → IsOn m k batch x (wait r l) b may'
  on_held r l a b may may' on up less is at_base =
      let was = on.up up in
      let same : b ≡ stands m k (last_opening m k x r) (wait r l) = is ∙ ap (λ s. holding m k s l) was.1 ∙ holding_stands m k (last_opening m k x r) r l in
      record {
        admissible = on.admissible;
        batches = on.batches;
        whole = on.whole;
        short = omega (arith, length-append r.waiting (l ∷ []), less, length_held m k (last_opening m k x r) r a was.1);
        rest = world_rest m k (last_opening m k x r) (wait r l) b same;
        up = λ e. (was.0, same);
        images = λ d n left. inl (subst (λ s. IsAt s d n) (ap (λ s. s.base) same ∙ base_is m k (last_opening m k x r) (wait r l)) (at_base d n left));
      }

  -- answered, with those that waited
  pub on_replies : (r : Course Line) (l : Line) (a b : SeenOf m k) (may may' : MayFind m k)
      → IsOn m k batch x r a may → a.up ≡ true → length a.held + 1 ≡ batch → b ≡ committed m k (holding m k a l) → AtBase b.base may' → IsOn m k batch x (answer_all (wait r l)) b may'
  on_replies r l a b may may' on up full is at_base =
      let was = on.up up in
      let same : b ≡ stands m k (last_opening m k x r) (answer_all (wait r l)) = is ∙ ap (λ s. committed m k (holding m k s l)) was.1 ∙ ap (committed m k) (holding_stands m k (last_opening m k x r) r l) ∙ committed_stands m k (last_opening m k x r) (wait r l) in
      let more : batch * (on.batches + 1) ≡ batch * on.batches + batch = omega arith in
      record {
        admissible = on.admissible;
        batches = on.batches + 1;
        whole = omega (arith, more, on.whole, length-append r.answered (r.waiting ++ l ∷ []), length-append r.waiting (l ∷ []), full, length_held m k (last_opening m k x r) r a was.1);
        short = omega (arith, full);
        rest = world_rest m k (last_opening m k x r) (answer_all (wait r l)) b same;
        up = λ e. (was.0, same);
        images = λ d n left. inl (subst (λ s. IsAt s d n) (ap (λ s. s.base) same ∙ base_is m k (last_opening m k x r) (answer_all (wait r l))) (at_base d n left));
      }

  -- answered with down
  pub on_down : (r : Course Line) (e : Step Line) (a b : SeenOf m k) (may may' other : MayFind m k)
      → IsOn m k batch x r a may → GoesDown m k a b may may' other → ((d : DurableOf k) (n : ℕ) → other d n → MayKeep m k batch (last_opening m k x r) (down_one r e) d n) → IsOn m k batch x (down_one r e) b may'
  on_down r e a b may may' other on goes here =
      goes_down r (r.downs ++ e ∷ []) a b may may' other on goes (λ d n. ⊎_elim (λ was. keeps_down r e d n (on.images d n was)) (here d n))

  -- down, with no line answered
  pub on_quiet_down : (r : Course Line) (a b : SeenOf m k) (may may' : MayFind m k)
      → IsOn m k batch x r a may → GoesDown m k a b may may' (λ d n. ⊥) → IsOn m k batch x r b may'
  on_quiet_down r a b may may' on goes =
      goes_down r r.downs a b may may' (λ d n. ⊥) on goes (λ d n. ⊎_elim (on.images d n) (λ no. absurd no))

  -- where a line ends a batch, and its commit fails
  pub tried_keeps : (r : Course Line) (l : Line) (a : SeenOf m k) (may : MayFind m k) (d : DurableOf k) (n : ℕ)
      → IsOn m k batch x r a may → a.up ≡ true → length a.held + 1 ≡ batch → IsAt (committed m k (holding m k a l)).base d n → MayKeep m k batch (last_opening m k x r) (down_one r (Acts l)) d n
  tried_keeps r l a may d n on up full at =
      let was = on.up up in
      let same = ap (λ s. committed m k (holding m k s l)) was.1 ∙ ap (committed m k) (holding_stands m k (last_opening m k x r) r l) ∙ committed_stands m k (last_opening m k x r) (wait r l) in
      let last : interrupted_line (r.downs ++ Acts l ∷ []) ≡ Some l = ap (λ ds. interrupted_line (ds ++ Acts l ∷ [])) was.0 in
      let more : batch * (on.batches + 1) ≡ batch * on.batches + batch = omega arith in
      let count : length (executed_lines r) + 1 ≡ batch * (on.batches + 1) = omega (arith, more, on.whole, length-append r.answered r.waiting, full, length_held m k (last_opening m k x r) r a was.1) in
      let base = ap (λ s. s.base) same ∙ base_is m k (last_opening m k x r) (answer_all (wait r l)) ∙ ap (base_of m k (last_opening m k x r)) (sym (append_assoc r.answered r.waiting (l ∷ []))) in
      inr (l, last, times_mod batch (on.batches + 1) _ count, subst (λ b. IsAt b d n) base at)
    where
      times_mod : (b j n : ℕ) → n ≡ b * j → n % b ≡ 0
      times_mod b j n is = ap (λ i. i % b) is ∙ mul-mod_right b j

  -- with nothing that waits, all lines are answered already
  none_waits : (r : Course Line) → r.waiting ≡ [] → answer_all r ≡ r
  none_waits r none = λ i. record { closed = r.closed; answered = (ap (λ ls. r.answered ++ ls) none ∙ append-nil r.answered) i; waiting = sym none i; downs = r.downs }

  -- and a commit leaves the agent where it stands
  flushed : (r : Course Line) (a : SeenOf m k) → r.waiting ≡ [] → a ≡ stands m k (last_opening m k x r) r → committed m k a ≡ stands m k (last_opening m k x r) r
  flushed r a none was = ap (committed m k) was ∙ committed_stands m k (last_opening m k x r) r ∙ ap (stands m k (last_opening m k x r)) (none_waits r none)

  -- a flush with nothing that waits
  pub on_flush : (r : Course Line) (a b : SeenOf m k) (may may' : MayFind m k)
      → IsOn m k batch x r a may → r.waiting ≡ [] → a.up ≡ true → b ≡ committed m k a → AtBase b.base may' → IsOn m k batch x r b may'
  on_flush r a b may may' on none up is at_base =
      let was = on.up up in
      let same : b ≡ stands m k (last_opening m k x r) r = is ∙ flushed r a none was.1 in
      record {
        admissible = on.admissible;
        batches = on.batches;
        whole = on.whole;
        short = on.short;
        rest = world_rest m k (last_opening m k x r) r b same;
        up = λ e. (was.0, same);
        images = λ d n left. inl (subst (λ s. IsAt s d n) (ap (λ s. s.base) same ∙ base_is m k (last_opening m k x r) r) (at_base d n left));
      }

  pub on_flush_down : (r : Course Line) (a b : SeenOf m k) (may may' : MayFind m k)
      → IsOn m k batch x r a may → r.waiting ≡ [] → GoesDown m k a b may may' (λ d n. (a.up ≡ true) × IsAt (committed m k a).base d n) → IsOn m k batch x r b may'
  on_flush_down r a b may may' on none goes =
      goes_down r r.downs a b may may' (λ d n. (a.up ≡ true) × IsAt (committed m k a).base d n) on goes (λ d n. ⊎_elim (on.images d n) (λ other.
      inl (subst (λ s. IsAt s d n) (ap (λ s. s.base) (flushed r a none (on.up other.0).1) ∙ base_is m k (last_opening m k x r) r) other.1)))
