-- Both entries of a line, and its truth values.
use Rattle.origin_site.specs.Plain.{plain_site}
use Rattle.script_actions.specs.Plain.{action_of}
use Rattle.local_scripts.specs.Present.{plain_present}
use Rattle.local_scripts.specs.declared.seen_line.SeenLine.{SeenLine}
use Rattle.local_scripts.proofs.SeenLemmas.{given_line}
use Rattle.local_scripts.proofs.seen_line.seen.Goals as goal

pub returns : goal.returns
returns c =
    let seen : SeenLine = record { entries = c.in_ok-both.field-0; asks = c.is_asked.result; of_site = c.is_own.result } in
    record {
      given = given_line (plain_present c.args.present.now) (action_of c.args.action.now)
          (plain_site c.args.site.now) c.args.touched c.args.areas
          c.in_ok-side.side c.in_ok-main.main c.side_entry.result c.in_ok-entry.entry seen
          c.in_ok-side.ensures.event c.in_ok-main.ensures.event c.side_entry.ensures.entry
          c.in_ok-entry.ensures.entry c.in_ok-both.ensures.both
          c.is_asked.ensures.asks c.is_own.ensures.own;
    }
