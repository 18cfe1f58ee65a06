-- What was written, by the status that is told.
use Rattle.std.proofs.Common.{inl, inr, ⊎_elim}
use Rattle.store_runs.specs.declared.ending.Ending.{Ending}
use Rattle.store_runs.specs.declared.ending.Ending.TheVariants as ending
use Rattle.replay.specs.Runs.{Written}
use Rattle.replay.specs.Commands.{status_of}
use Rattle.replay.specs.declared.status.Status.{Status}
use Rattle.replay.specs.declared.status.Status.TheVariants.{Done, Usage, Script, List as ListStatus, Store, Read, InUse, Write, Device, Memory}

-- what is said of work that ended so is said of its status
pub written_of : (e : Ending) (Nothing : Type 0) (P : Ending → Type 0) → P e → Written (status_of e) Nothing P
written_of ending.Done Nothing P ran = ran
written_of ending.Write Nothing P ran = ran
written_of ending.Device Nothing P ran = ran
written_of (ending.Store why) Nothing P ran = ran
written_of ending.Memory Nothing P ran = inr ran

-- what follows of the work, however it ended
pub written_weaker : (status : Status) (M N : Type 0) (P Q : Ending → Type 0) → (M → N) → ((e : Ending) → P e → Q e) → Written status M P → Written status N Q
written_weaker Done M N P Q still how ran = how ending.Done ran
written_weaker Write M N P Q still how ran = how ending.Write ran
written_weaker Device M N P Q still how ran = how ending.Device ran
written_weaker (Store why) M N P Q still how ran = how (ending.Store why) ran
written_weaker Memory M N P Q still how ran = ⊎_elim (λ nothing. inl (still nothing)) (λ some. inr (how ending.Memory some)) ran
written_weaker Usage M N P Q still how ran = still ran
written_weaker (Script why) M N P Q still how ran = still ran
written_weaker (ListStatus why) M N P Q still how ran = still ran
written_weaker Read M N P Q still how ran = still ran
written_weaker InUse M N P Q still how ran = still ran
