-- A line that runs after one try, or after two.
use Rattle.std.proofs.Common.{◌≡◌, ⊎_elim, ℕ, ◌+◌, ◌<◌, ◌≤◌, cond, ltb, List, ◌∷◌, [], ◌++◌, length, refl, sym, ap, subst, ◌∙◌, arith}
use Rattle.std.specs.Prelude.{◌⊎◌, Err, Ok, OnErr, Result}
use Rattle.std.proofs.lemmas.Bool.Decides.{nat_tests}
use Rattle.unwinding.proofs.CourseCounts.{line_few}
use Rattle.reply_lines.specs.Reply.{PlainReply}
use Rattle.unwinding.specs.Durable.{line_changes}
use Rattle.unwinding.specs.World.{line_reply, world_step}
use Rattle.suffix_list.specs.Suffix.{Rule}
use Rattle.script_actions.specs.Action.{PlainAction}
use Rattle.agent_model.specs.Isolation.{printed}
use Rattle.agent_model.specs.Lines.{AgentWorld}
use Rattle.agent_model.specs.TheMachine.{machine}
use Rattle.agent_memory.specs.AgentState.{AgentState, world_of}
use Rattle.agent_memory.specs.Written.{AgentChange, AreWritten}
use Rattle.agent_core.specs.Batch.{HasNotRun, HasRun, PlainBatch}
use Rattle.agent_core.proofs.BatchLemmas.{line_count}

-- nothing ran, and nothing ran again
pub not_run_then : (l m n : AgentState) (a b c : PlainBatch) → HasNotRun l m a b
    → HasNotRun m n b c → HasNotRun l n a c
not_run_then l m n a b c first second = record {
  world = second.world ∙ first.world;
  rules = second.rules ∙ first.rules;
  held = second.held ∙ first.held;
  body = second.body ∙ first.body;
  changes = second.changes ∙ first.changes;
  size = second.size ∙ first.size;
}

-- a line that ran at the second try ran
pub run_after : (line : PlainAction) (l m n : AgentState) (a b c : PlainBatch)
    → HasNotRun l m a b → HasRun line m n b c → HasRun line l n a c
run_after line l m n a b c first second =
    let Step = λ (r : List Rule) (w : AgentWorld). world_step (machine r) w line in
    let Told = λ (r : List Rule) (w : AgentWorld). printed (line_reply (machine r) w line) in
    let Made = λ (r : List Rule) (w : AgentWorld). line_changes (machine r) w line in
    record {
      world = second.world
          ∙ ap (λ (r : List Rule). Step r (world_of m)) first.rules
          ∙ ap (λ (w : AgentWorld). Step l.rules w) first.world;
      rules = second.rules ∙ first.rules;
      held = second.held
          ∙ ap (λ front. front ++ Told m.rules (world_of m) ∷ []) first.held
          ∙ ap (λ (r : List Rule). a.held ++ Told r (world_of m) ∷ []) first.rules
          ∙ ap (λ (w : AgentWorld). a.held ++ Told l.rules w ∷ []) first.world;
      written =
          subst (λ (w : AgentWorld). AreWritten (Made l.rules w) a.body c.body) first.world
          (subst (λ (r : List Rule). AreWritten (Made r (world_of m)) a.body c.body) first.rules
          (subst (λ (front : List ℕ). AreWritten (Made m.rules (world_of m)) front c.body)
          first.body second.written));
      changes = second.changes
          ∙ ap (λ (n : ℕ). n + length (Made m.rules (world_of m))) first.changes
          ∙ ap (λ (r : List Rule). a.changes + length (Made r (world_of m))) first.rules
          ∙ ap (λ (w : AgentWorld). a.changes + length (Made l.rules w)) first.world;
      size = second.size ∙ first.size;
    }

-- nothing ran but that a batch has another limit or another room for replies
pub unchanged_run : (m : AgentState) (a b : PlainBatch) (limit spare : ℕ)
    → b ≡ record a { limit = limit; spare = spare } → HasNotRun m m a b
unchanged_run m a b limit spare same = record {
  world = refl;
  rules = refl;
  held = ap (λ (x : PlainBatch). x.held) same;
  body = ap (λ (x : PlainBatch). x.body) same;
  changes = ap (λ (x : PlainBatch). x.changes) same;
  size = ap (λ (x : PlainBatch). x.size) same;
}

-- ---- a line ran

-- as many changes as the body tells
grown : (before after n : ℕ) → ((before < after) × (n ≡ 1)) ⊎ ((after ≤ before) × (n ≡ 0))
    → cond (ltb before after) 1 0 ≡ n
grown before after n =
    ⊎_elim (λ (is : (before < after) × (n ≡ 1)). more is.0 is.1)
    (λ (is : (after ≤ before) × (n ≡ 0)). none is.0 is.1)
  where
    more : before < after → n ≡ 1 → cond (ltb before after) 1 0 ≡ n
    more longer is = grind (arith, nat_tests)

    none : after ≤ before → n ≡ 0 → cond (ltb before after) 1 0 ≡ n
    none no_longer is = grind (arith, nat_tests)

pub ran_once : (line : PlainAction) (m n : AgentState) (a b : PlainBatch) (reply : PlainReply)
    (body : List ℕ) (before after : ℕ)
    → world_of n ≡ world_step (machine m.rules) (world_of m) line → n.rules ≡ m.rules
    → reply ≡ printed (line_reply (machine m.rules) (world_of m) line)
    → AreWritten (line_changes (machine m.rules) (world_of m) line) a.body body
    → before ≡ length a.body → after ≡ length body
    → b.held ≡ a.held ++ reply ∷ [] → b.changes ≡ a.changes + cond (ltb before after) 1 0
    → b.body ≡ body → b.size ≡ a.size → HasRun line m n a b
ran_once line m n a b reply body before after world rules told written front back held changes same size =
    let made : List AgentChange = line_changes (machine m.rules) (world_of m) line in
    let few : length made ≤ 1 = line_few (machine m.rules) (world_of m) line in
    let longer : cond (ltb (length a.body) (length body)) 1 0 ≡ length made =
    grown (length a.body) (length body) (length made)
    (line_count made a.body body few written) in
    record {
      world = world;
      rules = rules;
      held = held ∙ ap (λ (r : PlainReply). a.held ++ r ∷ []) told;
      written =
          subst (λ (c : List ℕ). AreWritten (line_changes (machine m.rules) (world_of m) line) a.body c)
          (sym same) written;
      changes = changes
          ∙ ap (λ (i : ℕ). a.changes + cond (ltb i after) 1 0) front
          ∙ ap (λ (i : ℕ). a.changes + cond (ltb (length a.body) i) 1 0) back
          ∙ ap (λ (i : ℕ). a.changes + i) longer;
      size = size;
    }

-- what holds is so at a failure
pub at_err : {T E : Type 0} (r : Result T E) (P : Type 0) → P → OnErr r P
at_err (Ok x) P holds = tt
at_err (Err e) P holds = holds

-- a line did not run
pub ran_not : (m n : AgentState) (a b : PlainBatch) → world_of n ≡ world_of m
    → n.rules ≡ m.rules → b.held ≡ a.held → b.body ≡ a.body → b.changes ≡ a.changes
    → b.size ≡ a.size → HasNotRun m n a b
ran_not m n a b world rules held body changes size = record {
  world = world;
  rules = rules;
  held = held;
  body = body;
  changes = changes;
  size = size;
}
