-- How little a local script holds. Each law is carried by a function without a body.
-- Where a law names facts, it says nothing of a machine that does not have them.
-- Source: none.
use Rattle.std.specs.Prelude.{◌≡◌, Bool, true, List}
use Rattle.unwinding.specs.World.{world_step}
use Rattle.unwinding.specs.LocalEntries.{line_entries}
use Rattle.unwinding.specs.OneSite.{epoch_script}
use Rattle.unwinding.specs.Facts.{Facts}
use Rattle.unwinding.specs.LeftOut.{Group, IsAlike, IsGroup, ConsultsWithin, OwnFacts}
use Rattle.unwinding.specs.LeftOut.{ApartFacts, lines_without}
use Rattle.unwinding.specs.HeldOnly.{OthersLeaveCell, NoneHolds}
use Rattle.unwinding.specs.Setting.{Setting}
use Rattle.unwinding.specs.Laws.{SettingWorld}

module _ (x : Setting) where
  -- some sites and some cells
  abbrev pub SettingGroup : Type 0
  SettingGroup = Group x.Site x.Cell

  -- what is owed for the first two laws, of a group
  abbrev pub HasOwnFacts : SettingGroup → Type 0
  HasOwnFacts g = Facts x.machine x.IsSound × OwnFacts x.machine g

  -- What a line gives a site of a group depends on the line, on the partitions of the group's
  -- sites, on its cells, and on the rest, where the line consults within the group. Two worlds that
  -- the group cannot tell apart give the site the same, and stay so.
  pub record GivesByOwn : Type 0 where
    pub entries : (g : SettingGroup) → HasOwnFacts g → (s : x.Site) → g.has_site s ≡ true
        → (touched : List x.Cell) (v w : SettingWorld x) (l : x.Line)
        → IsAlike x.machine g v w → ConsultsWithin x.machine g w l (x.machine.main w l)
        → line_entries x.machine s touched v l ≡ line_entries x.machine s touched w l
    pub worlds : (g : SettingGroup) → HasOwnFacts g → (v w : SettingWorld x) (l : x.Line)
        → IsAlike x.machine g v w
        → ConsultsWithin x.machine g v l (x.machine.main v l)
        → ConsultsWithin x.machine g w l (x.machine.main w l)
        → IsAlike x.machine g (world_step x.machine v l) (world_step x.machine w l)

  -- Lines that have no event at a site of a group and leave the rest can be left out of a run: a
  -- site of the group is given the same.
  abbrev pub OthersLeftOut : Type 0
  OthersLeftOut =
      (g : SettingGroup) → HasOwnFacts g → (s : x.Site) → g.has_site s ≡ true
      → (is_apart : SettingWorld x → x.Line → Bool)
      → ApartFacts x.machine g x.IsSound is_apart
      → (w : SettingWorld x) (lines : List x.Line) → x.IsSound w → IsGroup x.machine g w lines
      → epoch_script x.machine s w lines
      ≡ epoch_script x.machine s w (lines_without x.machine is_apart w lines)

  -- No entry of a site holds a cell that is home to it and that no event of another site has left
  -- different.
  abbrev pub HoldsOnlyChanged : Type 0
  HoldsOnlyChanged =
      Facts x.machine x.IsSound → (s : x.Site) (c : x.Cell) → x.machine.is_home s c ≡ true
      → (w : SettingWorld x) (lines : List x.Line)
      → OthersLeaveCell x.machine s c w lines
      → NoneHolds x.machine c (epoch_script x.machine s w lines).entries
