-- A run whose script stores no cookie: the events of each site, its machine over them, and the
-- replies.
-- Source: none; these are the words of the promise.
-- Our own choice: it says of such runs, in few words, what the general law says of all. No cookie
-- is ever there, so that each site steps by its own events, and by nothing else.
use Rattle.std.specs.Prelude.{◌≡◌, ℕ, List, [], ◌∷◌, ◌++◌, filter, map, Option, Some, None}
use Rattle.std.specs.Prelude.{option_to_list, if◌then◌else◌}
use Rattle.unwinding.specs.World.{SiteReply}
use Rattle.suffix_list.specs.Suffix.{Rule}
use Rattle.origin_site.specs.Site.{PlainSite, same_plain_site}
use Rattle.storage_key.specs.Context.{is_of}
use Rattle.script_actions.specs.Action.{PlainAction}
use Rattle.agent_model.specs.Partition.{Partition, empty_partition}
use Rattle.agent_model.specs.Effects.{no_shared_cells}
use Rattle.agent_model.specs.SiteEvent.{TimedEvent, Answer, SiteOutcome}
use Rattle.agent_model.specs.SiteStep.{site_step}
use Rattle.agent_model.specs.Lines.{AgentWorld, SiteOccurrence, main_event}
use Rattle.agent_model.specs.SideEvents.{side_event}
use Rattle.agent_model.specs.Rest.{refusal, rest_after}
use Rattle.agent_model.specs.TheMachine.{beginning}
use Rattle.agent_model.specs.Isolation.{replies_to}
use Rattle.agent_model.specs.StoresNone.{StoreNone}

-- ---- one site

-- what an event gives at a site, where no domain has a cookie
abbrev pub step_of : List Rule → Partition → TimedEvent → SiteOutcome
step_of rules partition event = site_step rules partition no_shared_cells event

-- what a site has after its events
abbrev pub after_events : List Rule → Partition → List TimedEvent → Partition
after_events rules partition [] = partition
after_events rules partition (event ∷ events) =
    after_events rules (step_of rules partition event).partition events

-- what the machine of a site answers to its events
abbrev pub answers_to : List Rule → Partition → List TimedEvent → List Answer
answers_to rules partition [] = []
answers_to rules partition (event ∷ events) =
    option_to_list (step_of rules partition event).reply
    ++ answers_to rules (step_of rules partition event).partition events

-- ---- all sites

-- the main event of a line, where it occurs at this site
abbrev pub main_at : PlainSite → Option SiteOccurrence → List TimedEvent
main_at site None = []
main_at site (Some here) = if same_plain_site site here.site then here.event ∷ [] else []

-- the events of a line at a site: the one beside the main one comes first
abbrev pub line_events : List Rule → PlainSite → AgentWorld → PlainAction → List TimedEvent
line_events rules site world line =
    option_to_list (side_event rules world line site) ++ main_at site (main_event rules world line)

-- the world after a line: each site has stepped by its events
abbrev pub next_world : List Rule → AgentWorld → PlainAction → AgentWorld
next_world rules world line =
    record {
      partition = λ site.
          after_events rules (world.partition site) (line_events rules site world line);
      cells = world.cells;
      rest = rest_after rules world line;
    }

-- the events of a site in a run from a world on
unfoldable pub run_events : List Rule → PlainSite → AgentWorld → List PlainAction → List TimedEvent
run_events rules site world [] = []
run_events rules site world (line ∷ lines) =
    line_events rules site world line
    ++ run_events rules site (next_world rules world line) lines

-- ---- replies

-- the reply to a line: that of a site where its event has one, else the refusal, which is of none
abbrev pub replied_by : PlainSite → Answer → Option Answer → SiteReply PlainSite Answer
replied_by site refused None = record { site = None; reply = refused }
replied_by site refused (Some answer) = record { site = Some site; reply = answer }

-- the reply to a line with this main event
abbrev pub main_reply : List Rule → AgentWorld → PlainAction → Option SiteOccurrence
    → SiteReply PlainSite Answer
main_reply rules world line None = record { site = None; reply = refusal world line }
main_reply rules world line (Some here) =
    let beside = option_to_list (side_event rules world line here.site) in
    let partition = after_events rules (world.partition here.site) beside in
    replied_by here.site (refusal world line) (step_of rules partition here.event).reply

-- the replies of a run from a world on
unfoldable pub run_replies : List Rule → AgentWorld → List PlainAction
    → List (SiteReply PlainSite Answer)
run_replies rules world [] = []
run_replies rules world (line ∷ lines) =
    main_reply rules world line (main_event rules world line)
    ∷ run_replies rules (next_world rules world line) lines

-- the answers that belong to a site
abbrev pub own_answers : PlainSite → List (SiteReply PlainSite Answer) → List Answer
own_answers site replies =
    map (λ reply. reply.reply) (filter (λ reply. is_of site reply.site) replies)

-- the replies of a run whose script stores no cookie are these
abbrev pub AreRunReplies : Type 0
AreRunReplies = (rules : List Rule) (start : ℕ) (lines : List PlainAction) → StoreNone lines
    → replies_to rules start lines ≡ run_replies rules (beginning start) lines

-- those that belong to a site are what its own machine answers, given the site's events alone
abbrev pub AreSiteAnswers : Type 0
AreSiteAnswers = (rules : List Rule) (site : PlainSite) (start : ℕ) (lines : List PlainAction)
    → StoreNone lines
    → own_answers site (run_replies rules (beginning start) lines)
    ≡ answers_to rules (empty_partition site) (run_events rules site (beginning start) lines)
