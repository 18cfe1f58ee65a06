-- The promise: the replies to a site are those of its own machine, given its local script alone.
-- So two runs that give a site the same local script give it the same replies.
-- Source: none; these are the words of the promise.
use Rattle.std.specs.Prelude.{◌≡◌, ℕ, List, Some, map, filter, flat_map}
use Rattle.unwinding.specs.World.{SiteReply, replies, of_site}
use Rattle.unwinding.specs.OneSite.{EpochScript, epoch_script, epoch_run}
use Rattle.suffix_list.specs.Suffix.{Rule}
use Rattle.origin_site.specs.Site.{PlainSite}
use Rattle.storage_key.specs.Context.{is_of}
use Rattle.script_actions.specs.Action.{PlainAction}
use Rattle.reply_lines.specs.Reply.{PlainReply, reply_text}
use Rattle.agent_model.specs.CookieCells.{Domain, Cookies}
use Rattle.agent_model.specs.Partition.{Partition}
use Rattle.agent_model.specs.Effects.{SharedCells}
use Rattle.agent_model.specs.SiteEvent.{TimedEvent, Answer}
use Rattle.agent_model.specs.TheMachine.{machine, beginning}

-- the replies to the lines of a script, each with the site that it belongs to
unfoldable pub replies_to : List Rule → ℕ → List PlainAction → List (SiteReply PlainSite Answer)
replies_to rules start lines = replies (machine rules) (beginning start) lines

-- the answers that belong to a site
unfoldable pub answers_of : List Rule → PlainSite → List (SiteReply PlainSite Answer) → List Answer
answers_of rules site told = of_site (machine rules) site told

-- what a run gives a site: the list of rules, where the site begins, the events at the site with
-- their moments, and no more
pub record SiteScript : Type 0 where
  pub rules : List Rule
  pub script : EpochScript Domain SharedCells Partition Cookies TimedEvent

-- the local script of a site
unfoldable pub local_script : List Rule → PlainSite → ℕ → List PlainAction → SiteScript
local_script rules site start lines =
    record { rules = rules; script = epoch_script (machine rules) site (beginning start) lines }

-- the answers of the site's own machine, which is given a local script
unfoldable pub site_run : PlainSite → SiteScript → List Answer
site_run site given = epoch_run (machine given.rules) site given.script

-- a reply as it is printed
abbrev pub printed : SiteReply PlainSite Answer → PlainReply
printed told = record { name = told.reply.name; site = told.site; body = told.reply.body }

-- the text of some replies: a line for each, in their order
unfoldable pub text_of : List (SiteReply PlainSite Answer) → List ℕ
text_of told = flat_map (λ one. reply_text (printed one)) told

-- the text of a run, from its rules, the moment at which it starts and the actions of its script
unfoldable pub transcript : List Rule → ℕ → List PlainAction → List ℕ
transcript rules start lines = text_of (replies_to rules start lines)

-- the lines of a text of replies that belong to a site
unfoldable pub lines_of_site : PlainSite → List (SiteReply PlainSite Answer) → List ℕ
lines_of_site site told = text_of (filter (λ one. is_of site one.site) told)

-- the text of answers of one site
unfoldable pub lines_alone : PlainSite → List Answer → List ℕ
lines_alone site answers =
    text_of (map (λ answer. record { site = Some site; reply = answer }) answers)

-- the answers to each site are those of its own machine
abbrev pub IsIsolated : Type 0
IsIsolated = (rules : List Rule) (site : PlainSite) (start : ℕ) (lines : List PlainAction)
    → answers_of rules site (replies_to rules start lines)
    ≡ site_run site (local_script rules site start lines)

-- the lines of each site are the text of what its own machine answers
abbrev pub HasIsolatedLines : Type 0
HasIsolatedLines = (rules : List Rule) (site : PlainSite) (start : ℕ) (lines : List PlainAction)
    → lines_of_site site (replies_to rules start lines)
    ≡ lines_alone site (site_run site (local_script rules site start lines))
