-- A flush for which room was made in the store, or could not be had.
use Rattle.std.proofs.Common.{◌≡◌, ℕ, true, [], refl, ap, ◌∙◌}
use Rattle.disk_model.specs.Disk.{LeavesOnly, View}
use Rattle.disk_model.specs.DiskLaws.{IsLawful}
use Rattle.journal.specs.Journal.{JournalView}
use Rattle.open_store.specs.Standing.{IsRoomier}
use Rattle.agent_memory.specs.AgentState.{AgentState}
use Rattle.agent_core.specs.AgentView.{AgentView, may_of}
use Rattle.agent_core.specs.Batch.{PlainBatch}
use Rattle.agent_core.specs.Flushing.{Flushes, KeepsOptions}
use Rattle.agent_core.specs.Calls.{IsTidy, OutcomeDevice}
use Rattle.agent_core.specs.Means.{IsBeforeOrAfter}
use Rattle.agent_core.specs.Seen.{AgentSeen, IsUp}
use Rattle.agent_core.specs.Standing.{Finishes}
use Rattle.agent_core.specs.declared.agent.Power.{Power}
use Rattle.agent_core.specs.declared.agent.Power.TheVariants.{Up}
use Rattle.agent_core.specs.declared.outcome.Outcome.{Outcome}
use Rattle.agent_core.specs.declared.outcome.Outcome.TheVariants as outcome
use Rattle.agent_core.proofs.LineLemmas.{flush_ends, flush_leaves, memory_down, same_run, up_moments, wanting}
use Rattle.agent_core.proofs.OutcomeLemmas.{device_before, device_none, idle_roomier}
use Rattle.agent_core.proofs.SeenLemmas.{from_parts}

module _ {D : Type 0} (m : AgentState) (b : PlainBatch) (j j' : JournalView)
    (now opened checkpoint : ℕ) (power : Power) (disk disk' : D) (v w : View) (laws : IsLawful v)
    (roomier : IsRoomier j j' v w) (calls : ℕ) where
  -- memory was wanting for it, and no call was made
  pub flush_wants : Flushes calls (from_parts m now b j opened checkpoint power disk) v
      (from_parts m now b j' opened checkpoint power disk') w outcome.NoMemory
  flush_wants = record {
    means = λ a seen.
        wanting m m b b j j' now opened checkpoint power disk disk' v w a (same_run m b) roomier
        seen;
    any_moment = λ a seen is_up tells.
        up_moments (from_parts m now b j opened checkpoint power disk) v w a a laws roomier.stays
        (seen.standing is_up);
    rules = (refl, ap (λ (i : JournalView). i.digest) roomier.journal, refl, refl);
    device = device_none j j' v w w roomier calls outcome.NoMemory memory_down;
    spares = λ _. idle_roomier (from_parts m now b j opened checkpoint power disk)
        (from_parts m now b j' opened checkpoint power disk') v w refl roomier;
    tidy = λ _. tt;
  }

  -- room was made, and then what is held was committed, or a checkpoint made
  pub flush_goes : power ≡ Up → (new : AgentView D) (x : View) (result : Outcome)
      → ((a : AgentSeen) → IsUp (from_parts m now b j' opened checkpoint power disk') w a
      → a.world.rest.now ≡ now
      → Finishes m.rules now a (may_of (from_parts m now b j' opened checkpoint power disk') w)
      new x (may_of new x) result)
      → ((a : AgentSeen) → IsUp (from_parts m now b j' opened checkpoint power disk') w a
      → w.tells ≡ true → LeavesOnly w x (IsBeforeOrAfter m.rules j'.digest a a))
      → KeepsOptions (from_parts m now b j' opened checkpoint power disk') new
      → OutcomeDevice calls result w x → (result ≡ outcome.NoMemory → ⊥) → (b.held ≡ [] → IsTidy result new)
      → Flushes calls (from_parts m now b j opened checkpoint power disk) v new x result
  flush_goes is_now new x result finish moments rules device memory tidy = record {
    means = λ a seen.
        flush_ends m b j j' now opened checkpoint power disk disk' v w roomier a seen is_now new x
        (may_of new x) result (λ up. finish a up seen.clock);
    any_moment = λ a seen.
        flush_leaves m b j j' now opened checkpoint power disk disk' v w roomier a seen x laws
        (moments a);
    rules = (
      rules.0,
      rules.1 ∙ ap (λ (i : JournalView). i.digest) roomier.journal,
      rules.2,
      rules.3,
    );
    device = device_before j j' v w x roomier calls result device;
    spares = λ is. absurd (memory is);
    tidy = tidy;
  }
