-- The answers of a site are those of its machine over its events: a run that stores no cookie, and the general one.
use Rattle.std.proofs.Common.{◌≡◌, Bool, true, false, cond, List, [], ◌∷◌, ◌++◌, Option, Some, None, refl, sym, ap, ◌∙◌}
use Rattle.std.proofs.lemmas.List.{append_assoc}
use Rattle.std.specs.Prelude.{filter, map, option_to_list}
use Rattle.unwinding.specs.FiniteCells.{merge_cells, restrict_cells}
use Rattle.unwinding.specs.World as world
use Rattle.unwinding.specs.World.{SiteReply, after_main, after_side, after_sides, consulted, line_reply, of_site, replies, reply_at, reply_of_site, world_step}
use Rattle.suffix_list.specs.Suffix.{Rule}
use Rattle.origin_site.specs.Site.{PlainSite, same_plain_site}
use Rattle.origin_site.proofs.SameLemmas.{same_plain_site-Decides}
use Rattle.storage_key.specs.Context.{is_of}
use Rattle.script_actions.specs.Action.{PlainAction}
use Rattle.agent_model.specs.CookieCells.{Domain, domain_order}
use Rattle.agent_model.specs.Partition.{Partition}
use Rattle.agent_model.specs.Effects.{SharedCells, no_shared_cells}
use Rattle.agent_model.specs.SiteEvent.{TimedEvent, Answer}
use Rattle.agent_model.specs.SiteStep.{site_step}
use Rattle.agent_model.specs.Lines.{AgentWorld, SiteOccurrence, main_event}
use Rattle.agent_model.specs.SideEvents.{side_event}
use Rattle.agent_model.specs.Rest.{refusal, rest_after}
use Rattle.agent_model.specs.TheMachine.{machine, beginning}
use Rattle.agent_model.specs.Isolation.{replies_to}
use Rattle.agent_model.specs.StoresNone.{StoreNone, StoresNone}
use Rattle.agent_model.specs.SiteRuns.{AreRunReplies, AreSiteAnswers, after_events, answers_to, line_events, main_at, main_reply, next_world, own_answers, replied_by, run_events, run_replies, step_of}
use Rattle.agent_model.proofs.CookieCellsLemmas.{none_seen}
use Rattle.agent_model.proofs.NoCookieLemmas.{MainLeavesNone, main_none, merge_none, restrict_none}
use Rattle.agent_model.proofs.Isolated.{quiet}

module _ (rules : List Rule) where
  -- ---- events one after another

  after_both : (p : Partition) (es fs : List TimedEvent) → after_events rules p (es ++ fs) ≡ after_events rules (after_events rules p es) fs
  after_both p [] fs = refl
  after_both p (e ∷ es) fs = after_both (step_of rules p e).partition es fs

  answers_both : (p : Partition) (es fs : List TimedEvent) → answers_to rules p (es ++ fs) ≡ answers_to rules p es ++ answers_to rules (after_events rules p es) fs
  answers_both p [] fs = refl
  answers_both p (e ∷ es) fs =
      ap (λ more. option_to_list (step_of rules p e).reply ++ more) (answers_both (step_of rules p e).partition es fs)
      ∙ sym (append_assoc (option_to_list (step_of rules p e).reply) (answers_to rules (step_of rules p e).partition es) (answers_to rules (after_events rules p (e ∷ es)) fs))

  module _ (w : AgentWorld) (line : PlainAction) (empty : w.cells ≡ no_shared_cells) where
    -- the cells that an event sees, of which it consults none
    abbrev seen : SharedCells
    seen = restrict_cells domain_order (λ c. false) w.cells

    -- nor does one that consults some see a cookie
    sees_none : (test : Domain → Bool) → restrict_cells domain_order test w.cells ≡ no_shared_cells
    sees_none test = ap (restrict_cells domain_order test) empty ∙ restrict_none test

    -- what a site has once the event beside the main one is past
    beside : (site : PlainSite) (side : Option TimedEvent) → side_event rules w line site ≡ side → after_events rules (w.partition site) (option_to_list side) ≡ (after_sides (machine rules) w line).partition site
    unfolding machine
    beside site None is = ap (λ (e : Option TimedEvent). after_side (machine rules) w.cells e (w.partition site)) (sym is)
    beside site (Some e) is =
        ap (λ cells. (site_step rules (w.partition site) cells e).partition) (sym (none_seen w.cells))
        ∙ ap (λ (e : Option TimedEvent). after_side (machine rules) w.cells e (w.partition site)) (sym is)

    -- it is answered by none
    side_silent : (site : PlainSite) (side : Option TimedEvent) → side_event rules w line site ≡ side → answers_to rules (w.partition site) (option_to_list side) ≡ []
    unfolding machine
    side_silent site None is = refl
    side_silent site (Some e) is =
        ap (λ cells. option_to_list (site_step rules (w.partition site) cells e).reply ++ []) (sym (none_seen w.cells))
        ∙ ap (λ (r : Option Answer). option_to_list r ++ []) (quiet rules w line site e is).no_reply

    -- the main event acts on what that left
    abbrev sides : PlainSite → Partition
    sides site = (after_sides (machine rules) w line).partition site

    main_partition : (site : PlainSite) (main : Option SiteOccurrence) → after_events rules (sides site) (main_at site main) ≡ (after_main (machine rules) (after_sides (machine rules) w line) main).partition site
    unfolding machine
    main_partition site None = refl
    main_partition site (Some here) =
        by (same_plain_site site here.site) refl
        ∙ ap (λ cells. cond (same_plain_site site here.site) (site_step rules (sides here.site) cells here.event).partition (sides site)) (sym (sees_none _))
      where
        by : (b : Bool) → same_plain_site site here.site ≡ b
            → after_events rules (sides site) (cond b (here.event ∷ []) []) ≡ cond b (step_of rules (sides here.site) here.event).partition (sides site)
        by true is = ap (λ s. (step_of rules (sides s) here.event).partition) ((same_plain_site-Decides site here.site).0 is)
        by false is = refl

    main_answers : (site : PlainSite) (main : Option SiteOccurrence)
        → answers_to rules (sides site) (main_at site main)
        ≡ reply_of_site (machine rules) site (world.main_reply (machine rules) (after_sides (machine rules) w line) (refusal w line) main).site
        (world.main_reply (machine rules) (after_sides (machine rules) w line) (refusal w line) main).reply
    unfolding machine
    main_answers site None = refl
    main_answers site (Some here) =
        at (step_of rules (sides here.site) here.event).reply refl
        ∙ ap (λ cells. let reply : SiteReply PlainSite Answer = reply_by (site_step rules (sides here.site) cells here.event).reply in reply_of_site (machine rules) site reply.site reply.reply)
        (sym (sees_none _))
      where
        reply_by : Option Answer → SiteReply PlainSite Answer
        reply_by None = record { site = None; reply = refusal w line }
        reply_by (Some answer) = record { site = Some here.site; reply = answer }

        given : Option Answer → Bool → List Answer
        given reply b = cond b (option_to_list reply ++ []) []

        mine : (b : Bool) → same_plain_site site here.site ≡ b → answers_to rules (sides site) (cond b (here.event ∷ []) []) ≡ given (step_of rules (sides here.site) here.event).reply b
        mine true is = ap (λ s. option_to_list (step_of rules (sides s) here.event).reply ++ []) ((same_plain_site-Decides site here.site).0 is)
        mine false is = refl

        told : (reply : Option Answer) (b : Bool) → given reply b ≡ cond b (option_to_list reply) []
        told None true = refl
        told (Some answer) true = refl
        told reply false = refl

        owned : (reply : Option Answer) → cond (same_plain_site site here.site) (option_to_list reply) [] ≡ reply_of_site (machine rules) site (reply_by reply).site (reply_by reply).reply
        owned None = none (same_plain_site site here.site)
          where
            none : (b : Bool) → ◌≡◌ {A = List Answer} (cond b [] []) []
            none true = refl
            none false = refl
        owned (Some answer) = refl

        at : (reply : Option Answer) → (step_of rules (sides here.site) here.event).reply ≡ reply
            → answers_to rules (sides site) (main_at site (Some here))
            ≡ reply_of_site (machine rules) site (reply_by (step_of rules (sides here.site) here.event).reply).site (reply_by (step_of rules (sides here.site) here.event).reply).reply
        at reply is =
            mine (same_plain_site site here.site) refl ∙ told (step_of rules (sides here.site) here.event).reply (same_plain_site site here.site)
            ∙ owned (step_of rules (sides here.site) here.event).reply

    -- ---- a line

    next_is : StoresNone line → next_world rules w line ≡ world_step (machine rules) w line
    unfolding world_step machine
    next_is stores = λ i. record { partition = λ site. each site i; cells = sym (cells_stay (main_event rules w line) (main_none rules w line stores)) i; rest = rest_after rules w line }
      where
        cells_stay : (main : Option SiteOccurrence) → MainLeavesNone rules w main → (after_main (machine rules) (after_sides (machine rules) w line) main).cells ≡ w.cells
        cells_stay None leaves = refl
        cells_stay (Some here) leaves =
            let asked = consulted (machine rules) here.site (sides here.site) here.event in
            (λ i. merge_cells domain_order asked (site_step rules (sides here.site) (sees_none asked i) here.event).cells (empty i))
            ∙ ap (λ cells. merge_cells domain_order asked cells no_shared_cells) (leaves (sides here.site))
            ∙ merge_none asked ∙ sym empty

        each : (site : PlainSite) → after_events rules (w.partition site) (line_events rules site w line) ≡ (after_main (machine rules) (after_sides (machine rules) w line) (main_event rules w line)).partition site
        each site =
            after_both (w.partition site) (option_to_list (side_event rules w line site)) (main_at site (main_event rules w line))
            ∙ ap (λ p. after_events rules p (main_at site (main_event rules w line))) (beside site (side_event rules w line site) refl)
            ∙ main_partition site (main_event rules w line)

    line_answers : (site : PlainSite) → answers_to rules (w.partition site) (line_events rules site w line) ≡ reply_of_site (machine rules) site (line_reply (machine rules) w line).site (line_reply (machine rules) w line).reply
    unfolding line_reply machine
    line_answers site =
        answers_both (w.partition site) (option_to_list (side_event rules w line site)) (main_at site (main_event rules w line))
        ∙ (λ i. side_silent site (side_event rules w line site) refl i ++ answers_to rules (beside site (side_event rules w line site) refl i) (main_at site (main_event rules w line)))
        ∙ main_answers site (main_event rules w line)

    -- its reply
    reply_is : main_reply rules w line (main_event rules w line) ≡ line_reply (machine rules) w line
    unfolding line_reply machine
    reply_is = by (main_event rules w line)
      where
        by : (main : Option SiteOccurrence) → main_reply rules w line main ≡ world.main_reply (machine rules) (after_sides (machine rules) w line) (refusal w line) main
        by None = refl
        by (Some here) =
            at (step_of rules (sides here.site) here.event).reply (ap (λ p. (step_of rules p here.event).reply) (beside here.site (side_event rules w line here.site) refl))
            ∙ ap (λ cells. reply_at (machine rules) here.site (refusal w line) (site_step rules (sides here.site) cells here.event).reply) (sym (sees_none _))
          where
            at : (reply : Option Answer) → (step_of rules (after_events rules (w.partition here.site) (option_to_list (side_event rules w line here.site))) here.event).reply ≡ reply
                → replied_by here.site (refusal w line) (step_of rules (after_events rules (w.partition here.site) (option_to_list (side_event rules w line here.site))) here.event).reply
                ≡ reply_at (machine rules) here.site (refusal w line) reply
            at None is = ap (replied_by here.site (refusal w line)) is
            at (Some answer) is = ap (replied_by here.site (refusal w line)) is

  -- ---- a run

  run_replies_are : (lines : List PlainAction) (w : AgentWorld) → w.cells ≡ no_shared_cells → StoreNone lines → replies (machine rules) w lines ≡ run_replies rules w lines
  unfolding run_replies
  run_replies_are [] w empty none = refl
  run_replies_are (line ∷ lines) w empty none =
      (λ i. sym (reply_is w line empty) i ∷ replies (machine rules) (sym (next_is w line empty none.0) i) lines)
      ∙ ap (λ more. main_reply rules w line (main_event rules w line) ∷ more) (run_replies_are lines (next_world rules w line) empty none.1)

  run_answers : (site : PlainSite) (lines : List PlainAction) (w : AgentWorld) → w.cells ≡ no_shared_cells → StoreNone lines
      → answers_to rules (w.partition site) (run_events rules site w lines) ≡ of_site (machine rules) site (replies (machine rules) w lines)
  unfolding run_events
  run_answers site [] w empty none = refl
  run_answers site (line ∷ lines) w empty none =
      answers_both (w.partition site) (line_events rules site w line) (run_events rules site (next_world rules w line) lines)
      ∙ (λ i. line_answers w line empty site i ++ run_answers site lines (next_world rules w line) empty none.1 i)
      ∙ ap (λ world. reply_of_site (machine rules) site (line_reply (machine rules) w line).site (line_reply (machine rules) w line).reply ++ of_site (machine rules) site (replies (machine rules) world lines)) (next_is w line empty none.0)

  -- the replies of a site are those with its site
  own_are : (site : PlainSite) (told : List (SiteReply PlainSite Answer)) → of_site (machine rules) site told ≡ own_answers site told
  unfolding machine
  own_are site [] = refl
  own_are site (one ∷ told) = at one.site (own_are site told)
    where
      by : (b : Bool) → of_site (machine rules) site told ≡ own_answers site told
          → cond b (one.reply ∷ []) [] ++ of_site (machine rules) site told ≡ map (λ reply. reply.reply) (cond b (one ∷ filter (λ reply. is_of site reply.site) told) (filter (λ reply. is_of site reply.site) told))
      by true later = ap (λ more. one.reply ∷ more) later
      by false later = later

      at : (where_to : Option PlainSite) → of_site (machine rules) site told ≡ own_answers site told
          → reply_of_site (machine rules) site where_to one.reply ++ of_site (machine rules) site told
          ≡ map (λ reply. reply.reply) (cond (is_of site where_to) (one ∷ filter (λ reply. is_of site reply.site) told) (filter (λ reply. is_of site reply.site) told))
      at None later = later
      at (Some other) later = by (same_plain_site site other) later

pub are_run_replies : AreRunReplies
unfolding replies_to beginning
are_run_replies rules start lines none = run_replies_are rules lines (beginning start) refl none

pub are_site_answers : AreSiteAnswers
unfolding beginning
are_site_answers rules site start lines none =
    ap (own_answers site) (sym (run_replies_are rules lines (beginning start) refl none))
    ∙ sym (own_are rules site (replies (machine rules) (beginning start) lines))
    ∙ sym (run_answers rules site lines (beginning start) refl none)
