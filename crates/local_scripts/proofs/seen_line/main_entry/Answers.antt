-- The entry of a main event, where it is of the site.
use Rattle.std.proofs.Common.{refl, subst, sym, ◌∙◌}
use Rattle.origin_site.specs.Plain.{plain_site}
use Rattle.script_actions.specs.Plain.{action_of}
use Rattle.local_scripts.specs.declared.entry.Entry.{Entry}
use Rattle.local_scripts.specs.Events.{IsMain}
use Rattle.local_scripts.specs.Present.{plain_present}
use Rattle.local_scripts.proofs.SeenLemmas.{main_elsewhere, main_here}
use Rattle.local_scripts.proofs.seen_line.main_entry.Goals as goal

pub returns-then-not-same_site : goal.returns-then-not-same_site
returns-then-not-same_site c =
    let present = plain_present c.args.present.now in
    let action = action_of c.args.action.now in
    record {
      entry = main_elsewhere present action (plain_site c.args.site.now) c.args.touched c.in-Some.found
          (subst (IsMain present.rules present.tabs action) c.in-Some.is c.requires.main)
          (sym c.same_site.ensures.test ∙ c.if-not-same_site.true);
    }

pub returns : goal.returns
returns c =
    let present = plain_present c.args.present.now in
    let action = action_of c.args.action.now in
    let entry : Entry = record { moment = c.args.present.now.now; event = c.in_ok-event.event; held = c.in_ok-held.held } in
    record {
      entry = main_here present action (plain_site c.args.site.now) c.args.touched c.in-Some.found entry
          (subst (IsMain present.rules present.tabs action) c.in-Some.is c.requires.main)
          (sym c.same_site.ensures.test ∙ c.if-not-same_site.false)
          refl c.in_ok-event.ensures.event c.in_ok-held.ensures.held;
    }
