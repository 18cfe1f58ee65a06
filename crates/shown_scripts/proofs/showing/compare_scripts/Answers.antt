use Rattle.std.proofs.Common.{arith}
use Rattle.origin_site.specs.Plain.{plain_site}
use Rattle.script_courses.specs.Twins.{Equal}
use Rattle.twins.specs.Settings.{setting}
use Rattle.shown_scripts.proofs.PlaceLemmas.{differ_as, is_difference}
use Rattle.shown_scripts.proofs.showing.compare_scripts.Goals as goal

pub returns-in-Equal : goal.returns-in-Equal
returns-in-Equal c =
    let at = setting c.args.list.now (plain_site c.args.site.now) c.args.options.now in
    record {
      difference = is_difference at c.args.first.now c.args.second.now c.in_ok-one.one c.in_ok-other.other
          c.in_ok-one.ensures.given c.in_ok-other.ensures.given (Equal c.in-Equal.lines) c.new.result.items
          c.in-Equal.ensures.compares c.new.ensures.items;
    }

pub returns : goal.returns
returns c =
    let at = setting c.args.list.now (plain_site c.args.site.now) c.args.options.now in
    record {
      difference = differ_as at c.args.first.now c.args.second.now c.in_ok-one.one c.in_ok-other.other
          c.in_ok-one.ensures.given c.in_ok-other.ensures.given c.in-LocalDiffer.entry c.in_ok-line-in-LocalDiffer.line
          c.in_ok-other_line-in-LocalDiffer.other_line c.in_ok-text-in-LocalDiffer.text.items c.in_ok-line-in-LocalDiffer.ensures.number
          c.in_ok-other_line-in-LocalDiffer.ensures.number c.in_ok-text-in-LocalDiffer.ensures.text (omega arith) c.in_ok-text-in-LocalDiffer.ensures.first
          c.in_ok-text-in-LocalDiffer.ensures.second c.in-LocalDiffer.ensures.compares;
    }
