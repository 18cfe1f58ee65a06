-- The new cookie counts in the place of the same one, or as one more.
use Rattle.std.proofs.Common.{◌∙◌, map, sym}
use Rattle.cookie_jar.specs.Borrowed.{plain_borrowed}
use Rattle.cookie_jar.specs.Plain.{plain_cookie}
use Rattle.cookie_jar.proofs.PutLemmas.{none_goes, none_goes_there, read_counts, small_tally}
use Rattle.cookie_jar.proofs.steps.holds_put.Goals as goal

pub holds_in_place-requires-clause-old : goal.holds_in_place-requires-clause-old
holds_in_place-requires-clause-old c =
    read_counts c.args.kind c.args.tally (map plain_cookie c.args.cookies.now) c.args.place (plain_cookie c.in-Some.old.now) c.requires.cell c.in-Some.ensures

pub holds_in_place-requires-clause-bytes : goal.holds_in_place-requires-clause-bytes
holds_in_place-requires-clause-bytes c = small_tally c.args.kind c.args.tally (map plain_cookie c.args.cookies.now) c.requires.cell

pub holds_one_more-requires-clause-bytes : goal.holds_one_more-requires-clause-bytes
holds_one_more-requires-clause-bytes c = small_tally c.args.kind c.args.tally (map plain_cookie c.args.cookies.now) c.requires.cell

pub returns-in-Some : goal.returns-in-Some
returns-in-Some c = record {
  held = λ is now. none_goes_there c.args.kind c.args.tally now (plain_borrowed c.args.fresh.now) (map plain_cookie c.args.cookies.now) c.args.place (plain_cookie c.in-Some.old.now) c.requires.cell c.requires.place
      c.in-Some.ensures (sym c.holds_in_place.ensures ∙ is);
}

pub returns-in-None : goal.returns-in-None
returns-in-None c = record {
  held = λ is now. none_goes c.args.kind c.args.tally now (plain_borrowed c.args.fresh.now) (map plain_cookie c.args.cookies.now) c.requires.cell (sym c.holds_one_more.ensures ∙ is);
}
