-- What such a disk tells keeps to the laws of a disk.
-- Source: none.
use Rattle.std.specs.Prelude.{◌≡◌, List, ℕ, Some, None}
use Rattle.disk_model.specs.DiskLaws.{IsLawful}
use Rattle.disk_model.specs.MemLaws.{mem_lawful}
use Rattle.carried_disk.specs.Calls.{CarriedView, view_told}

none_is : {A : Type 0} (cuts : List ℕ) → None ≡ Some cuts → A
none_is cuts e = cc

-- it tells no cuts, and of the rest what a disk in memory tells
pub carried_lawful : (disk : CarriedView) → IsLawful (view_told disk)
carried_lawful disk =
    let laws = mem_lawful disk.disk in
    record {
      counts_now = laws.counts_now;
      only_now = laws.only_now;
      earlier = laws.earlier;
      told = laws.told;
      tells_contents = laws.tells_contents;
      contents_may_stay = laws.contents_may_stay;
      untold = laws.untold;
      cuts_ahead = λ cuts is. none_is cuts is;
    }
