-- An action of a document is of the site that its tab is at.
use Rattle.std.proofs.Common.{None, Some, false, sym, ap, subst, ◌∙◌}
use Rattle.std.specs.Prelude.{string_bytes}
use Rattle.frame_tree.specs.Tree.{top_site}
use Rattle.local_scripts.specs.declared.main_events.MainEvent.{MainEvent}
use Rattle.script_actions.specs.Plain.{action_of}
use Rattle.local_scripts.specs.Events.{IsMain}
use Rattle.script_actions.proofs.LabelLemmas.{act_of}
use Rattle.local_scripts.proofs.EventLemmas.{acting, acting_none, owned_is, place_none, shown_is}
use Rattle.local_scripts.proofs.main_events.of_act.Goals as goal

pub returns-in_default : goal.returns-in_default
returns-in_default c =
    let tabs = c.args.live.now.tabs in
    let line = act_of (action_of c.args.action.now) c.args.at c.requires.named in
    record {
      event = subst (λ action. IsMain c.args.list.now.rules tabs action None) (sym line.act)
          (acting_none c.args.list.now.rules tabs c.args.at line.done (place_none tabs c.args.at.tab c.in_default.ensures.tab));
    }

pub returns : goal.returns
returns c =
    let tabs = c.args.live.now.tabs in
    let line = act_of (action_of c.args.action.now) c.args.at c.requires.named in
    let found = shown_is tabs c.args.at.tab c.in-Some.tab.now c.in-Some.ensures.tab in
    let made : MainEvent = record { site = c.in_ok-copy.field-0; same_site = false; domain = c.in_ok-owned.field-0 } in
    record {
      event = subst (λ action. IsMain c.args.list.now.rules tabs action (Some made)) (sym line.act)
          (acting c.args.list.now.rules tabs c.args.at line.done made found.tab found.there
          (ap top_site found.same ∙ c.top_site.ensures.site ∙ ap Some (sym c.in_ok-copy.ensures.same))
          (λ site. c.in_ok-domain.ensures.cells found.tab site c.args.at line.done found.same line.act
          ∙ sym (owned_is string_bytes (λ d. d.now) c.in_ok-owned.field-0 c.in_ok-domain.domain c.in_ok-owned.ensures.same)));
    }
