-- The script so far, after each kind of line.
use Rattle.std.proofs.Common.{◌≡◌, ℕ, List, [], ◌∷◌, ◌++◌, map, sym, ap, ◌∙◌, append_assoc}
use Rattle.std.proofs.Common.{append-nil}
use Rattle.std.proofs.lemmas.List.{map-append}
use Rattle.unwinding.specs.Admissible.{Step, Acts, Reopens, Stretch, stretch_steps, closed_steps}
use Rattle.unwinding.specs.Course.{Course, executed_lines, wait, answer_all, down_one, stretch_of}
use Rattle.unwinding.specs.Course.{reopen, course_steps}

pub closed_steps_more : {Line : Type 0} (ss : List (Stretch Line)) (s : Stretch Line) → closed_steps (ss ++ s ∷ []) ≡ closed_steps ss ++ (stretch_steps s ++ Reopens ∷ [])
closed_steps_more [] s = append-nil _
closed_steps_more (t ∷ ss) s = ap (λ r. (stretch_steps t ++ Reopens ∷ []) ++ r) (closed_steps_more ss s) ∙ sym (append_assoc (stretch_steps t ++ Reopens ∷ []) (closed_steps ss) _)

module _ {Line : Type 0} where
  -- the script so far
  pub steps_wait : (r : Course Line) (l : Line) → r.downs ≡ [] → course_steps (wait r l) ≡ course_steps r ++ Acts l ∷ []
  steps_wait r l none =
      let c = closed_steps r.closed in
      let no_downs : (ls : List Line) → c ++ (map (λ j. Acts j) ls ++ r.downs) ≡ c ++ map (λ j. Acts j) ls = λ ls. ap (λ ds. c ++ (map (λ j. Acts j) ls ++ ds)) none ∙ ap (λ ts. c ++ ts) (append-nil (map (λ j. Acts j) ls)) in
      no_downs (executed_lines (wait r l)) ∙ ap (λ ls. c ++ map (λ j. Acts j) ls) (sym (append_assoc r.answered r.waiting (l ∷ []))) ∙ ap (λ ts. c ++ ts) (map-append (λ j. Acts j) (executed_lines r) (l ∷ []))
      ∙ sym (append_assoc c _ (Acts l ∷ [])) ∙ sym (ap (λ ts. ts ++ Acts l ∷ []) (no_downs (executed_lines r)))

  pub steps_answered : (r : Course Line) → course_steps (answer_all r) ≡ course_steps r
  steps_answered r = ap (λ ls. closed_steps r.closed ++ (map (λ l. Acts l) ls ++ r.downs)) (append-nil (executed_lines r))

  pub steps_down : (r : Course Line) (e : Step Line) → course_steps (down_one r e) ≡ course_steps r ++ e ∷ []
  steps_down r e = ap (λ ts. closed_steps r.closed ++ ts) (sym (append_assoc (map (λ l. Acts l) (executed_lines r)) r.downs (e ∷ []))) ∙ sym (append_assoc (closed_steps r.closed) _ (e ∷ []))

  pub steps_reopened : (r : Course Line) (kept : ℕ) → course_steps (reopen r kept) ≡ course_steps r ++ Reopens ∷ []
  steps_reopened r kept = append-nil _ ∙ closed_steps_more r.closed (stretch_of r kept) ∙ sym (append_assoc (closed_steps r.closed) (stretch_steps (stretch_of r kept)) (Reopens ∷ []))
