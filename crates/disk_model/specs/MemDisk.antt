-- A disk in memory, as contracts see it, and what it tells.
-- Source: none.
use Rattle.std.specs.Prelude.{◌≡◌, ◌↔◌, true, ℕ, ◌+◌, List, [], ◌∷◌, length}
use Rattle.std.specs.Prelude.{Option, Some, None, is_some, unwrap_or, Result, IsErr, IsTrue}
use Rattle.std.specs.Prelude.{filter, nat_lt, ◌==◌, if◌then◌else◌}
use Rattle.disk_model.specs.Disk.{View}
use Rattle.disk_model.specs.History.{Past, held, ImageOf, Since}
use Rattle.disk_model.specs.Schedule.{Plan, refuses, called}
use Rattle.disk_model.specs.declared.schedule.Cut.{Cut}

-- its bytes with their past, the calls that are to fail, and its counts
pub record MemView : Type 0 where
  pub past : Past
  pub plan : Plan
  -- the moments before the past begins end here
  pub base : ℕ
  pub faults : ℕ
  pub failures : ℕ

-- the numbers of the calls in which the power is to be cut
abbrev pub numbers_of : List Cut → List ℕ
numbers_of [] = []
numbers_of (cut ∷ cuts) = cut.call ∷ numbers_of cuts

-- the numbers that lie ahead of the calls made
abbrev pub numbers_ahead : Plan → List ℕ
numbers_ahead plan = filter (nat_lt plan.calls) (numbers_of plan.cuts)

-- the cuts to come are told where no call is to fail without one
abbrev pub told_cuts : Plan → Option (List ℕ)
told_cuts plan = if length plan.fails == 0 then Some (numbers_ahead plan) else None

-- what it tells
abbrev pub view_of : MemView → View
view_of disk = record {
  tells = true;
  contents = Some (held disk.past).contents;
  may_leave = ImageOf (held disk.past);
  moment = disk.base + length disk.past.events;
  left_since = Since disk.past.first disk.past.events disk.base;
  faults = disk.faults;
  changing = disk.plan.calls;
  room_end = disk.past.room_end;
  room_writes = disk.past.room_writes;
  off = is_some disk.plan.off;
  failures = disk.failures;
  cuts = told_cuts disk.plan;
}

-- the pick of a restart: that of the cut, and 0 while the power is on
abbrev pub pick_of : Plan → ℕ
pick_of plan = unwrap_or plan.off 0

-- a call that reads: when it fails, and that it changes the count of faults alone
pub record Looks {T E : Type 0} (result : Result T E) (old new : MemView) : Type 0 where
  pub refused : IsErr result ↔ IsTrue (is_some old.plan.off)
  pub same : new ≡ record old { faults = new.faults }

-- a changing call: when it fails, and what it does to all but the bytes and the counts of faults
pub record Calls {T E : Type 0} (result : Result T E) (old new : MemView) : Type 0 where
  pub refused : IsErr result ↔ IsTrue (refuses old.plan)
  pub plan : new.plan ≡ called old.plan
  pub base : new.base ≡ old.base
  pub past : is_some old.plan.off ≡ true → new.past ≡ old.past
