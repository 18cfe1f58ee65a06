-- How little a local script holds: which events a line gives a site, and what can be left out.
-- Source: none; these are the words of the promise.
-- Our own choice: of other sites' lines those stay that open, move or close a tab, since the places
-- of tabs are no site's own; and those of all sites whose unpartitioned cookies the site shares: of
-- its domain over the other scheme, and of domains that share cookies by granted storage access.
use Rattle.std.specs.Prelude.{◌≡◌, ℕ, true, false, List, [], ◌∷◌, None}
use Rattle.unwinding.specs.World.{world_step}
use Rattle.unwinding.specs.LocalEntries.{line_entries}
use Rattle.unwinding.specs.LeftOut.{ConsultsWithin, IsAlike}
use Rattle.unwinding.specs.HeldOnly.{NoneHolds, OthersLeaveCell}
use Rattle.suffix_list.specs.Suffix.{Rule}
use Rattle.origin_site.specs.Site.{PlainSite, same_plain_site, site_of_address}
use Rattle.storage_key.specs.Context.{is_of}
use Rattle.script_actions.specs.Action.{PlainAction, Tick, Open, Close, Go, Evict, Act}
use Rattle.agent_model.specs.CookieCells.{Domain}
use Rattle.agent_model.specs.Partition.{Partition}
use Rattle.agent_model.specs.Sessions.{has_session}
use Rattle.agent_model.specs.Lines.{AgentWorld, Rest, site_at, main_event}
use Rattle.agent_model.specs.TheMachine.{machine, beginning}
use Rattle.agent_model.specs.Isolation.{local_script, lines_of_site, replies_to}
use Rattle.agent_model.specs.Given.{opener_place, entries_given}
use Rattle.agent_model.specs.Groups.{StandApart, group_of, is_among, without_others}

-- ---- what a line gives a site

-- a line gives a site exactly these entries, whatever cells others have changed
abbrev pub GivesExactly : Type 0
GivesExactly = (rules : List Rule) (site : PlainSite) (touched : List Domain) (w : AgentWorld)
    (line : PlainAction)
    → line_entries (machine rules) site touched w line
    ≡ entries_given rules site (w.partition site) w.rest touched w.cells line

-- ---- what it is a function of

-- Two worlds with the same partitions of the sites of some domains, the same cookies of these, the
-- same places and the same clock give such a site the same of each line that uses cookies within
-- these domains or apart from them, and agree in all these afterwards.
abbrev pub GivesByOwn : Type 0
GivesByOwn = (rules : List Rule) (domains : List Domain) (site : PlainSite) (touched : List Domain)
    (v w : AgentWorld) (line : PlainAction) → is_among domains site ≡ true
    → IsAlike (machine rules) (group_of domains) v w
    → ConsultsWithin (machine rules) (group_of domains) v line (main_event rules v line)
    → ConsultsWithin (machine rules) (group_of domains) w line (main_event rules w line)
    → (line_entries (machine rules) site touched v line
    ≡ line_entries (machine rules) site touched w line)
    × IsAlike (machine rules) (group_of domains) (world_step (machine rules) v line)
    (world_step (machine rules) w line)

-- a `tick` and a line that is refused, which have no main event, give no site an entry
abbrev pub RefusedGivesNone : Type 0
RefusedGivesNone = (rules : List Rule) (site : PlainSite) (touched : List Domain) (w : AgentWorld)
    (line : PlainAction) → main_event rules w line ≡ None
    → line_entries (machine rules) site touched w line ≡ []

-- ---- lines of other sites

-- a line is of other sites: its tab is elsewhere, no load of it reaches the site, its opener is
-- elsewhere, a tab that it closes has no session area there, and it evicts another site
abbrev pub IsOfOthers : List Rule → PlainSite → Partition → Rest → PlainAction → Type 0
IsOfOthers rules site own rest (Tick s) = Unit {0}
IsOfOthers rules site own rest (Open tab url opener noopener method head) =
    (is_of site (opener_place opener rest.places) ≡ false)
    × (same_plain_site site (site_of_address rules url) ≡ false)
IsOfOthers rules site own rest (Go tab url by_page method head) =
    (is_of site (site_at tab rest.places) ≡ false)
    × (same_plain_site site (site_of_address rules url) ≡ false)
IsOfOthers rules site own rest (Close tab) =
    (is_of site (site_at tab rest.places) ≡ false) × (has_session tab own.held ≡ false)
IsOfOthers rules site own rest (Evict named) = same_plain_site site named ≡ false
IsOfOthers rules site own rest (Act at action) = is_of site (site_at at.tab rest.places) ≡ false

-- all lines of a run are of other sites
abbrev pub AreOfOthers : List Rule → PlainSite → AgentWorld → List PlainAction → Type 0
AreOfOthers rules site w [] = Unit {0}
AreOfOthers rules site w (line ∷ lines) =
    IsOfOthers rules site (w.partition site) w.rest line
    × AreOfOthers rules site (world_step (machine rules) w line) lines

-- a run of which all lines are of other sites gives a site no entry, whatever they do
abbrev pub OthersGiveNone : Type 0
OthersGiveNone = (rules : List Rule) (site : PlainSite) (start : ℕ) (lines : List PlainAction)
    → AreOfOthers rules site (beginning start) lines
    → (local_script rules site start lines).script.entries ≡ []

-- ---- which cookies an entry holds

-- where no event of another site leaves the cookies of a site's domain different, no entry of the
-- site holds them: it knows its own
abbrev pub HoldsOnlyChanged : Type 0
HoldsOnlyChanged = (rules : List Rule) (site : PlainSite) (start : ℕ) (lines : List PlainAction)
    → OthersLeaveCell (machine rules) site site.host (beginning start) lines
    → NoneHolds (machine rules) site.host (local_script rules site start lines).script.entries

-- ---- what can be left out

-- what documents do in tabs at other domains can be left out, where the domains stand apart: the
-- local script of each of their sites is the same
abbrev pub OthersLeftOut : Type 0
OthersLeftOut = (rules : List Rule) (domains : List Domain) (site : PlainSite) (start : ℕ)
    (lines : List PlainAction)
    → is_among domains site ≡ true → StandApart rules domains start lines
    → local_script rules site start lines
    ≡ local_script rules site start (without_others rules domains start lines)

-- and so are the lines of the site in the transcript
abbrev pub LinesWithoutOthers : Type 0
LinesWithoutOthers = (rules : List Rule) (domains : List Domain) (site : PlainSite) (start : ℕ)
    (lines : List PlainAction)
    → is_among domains site ≡ true → StandApart rules domains start lines
    → lines_of_site site (replies_to rules start lines)
    ≡ lines_of_site site (replies_to rules start (without_others rules domains start lines))
