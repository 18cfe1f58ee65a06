-- The stores of a host in memory: what an opening finds at a path.
-- Source: none; a host in memory is our own.
-- Our own choice: a store that is not there is a disk of no bytes, on which nothing is pending.
use Rattle.std.specs.Prelude.{◌≡◌, ◌≤◌, ℕ, List, [], None, String, unwrap_or, filter, nat_lt}
use Rattle.std.specs.declared.alloc.Global.{Global}
use Rattle.disk_model.specs.History.{held, ImageOf}
use Rattle.disk_model.specs.Recovery.{Recovered}
use Rattle.disk_model.specs.MemDisk.{MemView, pick_of}
use Rattle.hosts.specs.Entries.{found_at}

-- a disk of no bytes, on which no call was made
abbrev pub empty_disk : MemView
empty_disk = record {
  past = record { first = []; events = []; room_end = 0; room_writes = 0 };
  plan = record { calls = 0; cuts = []; fails = []; off = None };
  base = 0;
  faults = 0;
  failures = 0;
}

-- the disk of a path
abbrev pub disk_at : List (String Global × MemView) → List ℕ → MemView
disk_at stores path = unwrap_or (found_at stores path) empty_disk

-- what an opening of a path may find
abbrev pub images_at : List (String Global × MemView) → List ℕ → List ℕ → Type 0
images_at stores path = ImageOf (held (disk_at stores path).past)

-- a disk as the next user finds it: after a restart, with its counts at 0, and without the cuts
-- and the failing calls that came
pub record IsReopened (before now : MemView) : Type 0 where
  pub recovered : Recovered (pick_of before.plan) (held before.past) now.past.first
  pub anew : now.past.events ≡ []
  pub plan : now.plan ≡ record {
    calls = 0;
    cuts = before.plan.cuts;
    fails = filter (λ number. nat_lt before.plan.calls number) before.plan.fails;
    off = None;
  }
  pub counts : (now.faults ≡ 0) × (now.failures ≡ 0)
  pub room : (before.past.room_end ≤ now.past.room_end)
      × (before.past.room_writes ≤ now.past.room_writes)
