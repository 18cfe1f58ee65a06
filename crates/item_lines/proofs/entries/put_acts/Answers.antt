use Rattle.std.proofs.Common.{◌∙◌, ap, map, subst}
use Rattle.std.specs.Prelude.{option_to_list}
use Rattle.script_actions.specs.Plain.{action_of}
use Rattle.local_scripts.specs.Items.{held_of}
use Rattle.item_lines.specs.Members.{PutsLast, act_members, line_in}
use Rattle.item_lines.specs.Parts.{addressed, held_data}
use Rattle.item_lines.proofs.MemberLemmas.{acts_are, begun}
use Rattle.item_lines.proofs.entries.put_acts.Goals as goal

pub returns-in-Some : goal.returns-in-Some
returns-in-Some c =
    let p = action_of c.args.action.now in
    let held = held_data (map held_of (option_to_list c.args.held.now)) in
    let members = act_members c.args.number c.args.moment held (line_in p) in
    let whole = ap (λ o. addressed o members) c.in-Some.ensures ∙ acts_are c.args.number c.args.moment held p c.requires.document in
    begun c.in_ok-begin.ensures.puts (subst (λ ms. PutsLast c.put_act_at.result c.begin.new.writer c.put_act_at.new.writer ms) whole c.put_act_at.ensures)

pub returns-in-None : goal.returns-in-None
returns-in-None c =
    let p = action_of c.args.action.now in
    let held = held_data (map held_of (option_to_list c.args.held.now)) in
    let members = act_members c.args.number c.args.moment held (line_in p) in
    let whole = ap (λ o. addressed o members) c.in-None.ensures ∙ acts_are c.args.number c.args.moment held p c.requires.document in
    begun c.in_ok-begin.ensures.puts (subst (λ ms. PutsLast c.put_act.result c.begin.new.writer c.put_act.new.writer ms) whole c.put_act.ensures)
