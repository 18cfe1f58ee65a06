-- A jar that is there loses the cookie, and without one there is none.
use Rattle.std.proofs.Common.{arith, ap, sym, ◌∙◌}
use Rattle.std.proofs.lemmas.Bool.{le-ltb}
use Rattle.std.specs.Option.{option_copied_mut}
use Rattle.cookie_jar.specs.Persistent.{RowRemove}
use Rattle.web_cookies.proofs.RowsLemmas.{kinds_written, row_none, row_written}
use Rattle.web_cookies.proofs.cookies.Cookies.remove_at.Goals as goal

pub returns-in_default : goal.returns-in_default
returns-in_default c = rw (← c.self.view_is) (record {
  done = row_none c.args.cell.now (RowRemove c.args.place) c.self.inside.cells _ c.get_mut.follows.holds-at-none
      (sym c.get_mut.ensures.value ∙ ap option_copied_mut c.in_default.is) (le-ltb c.args.place 0 (omega arith));
})

pub invariant_of-self-2 : goal.invariant_of-self-2
invariant_of-self-2 c =
    let is = rw c.in-Some.is at (c.get_mut.follows.holds c.remove_in.new.jar) in
    kinds_written c.args.cell.now c.self.inside.cells c.in-Some.jar.now c.in-Some.ensures.value c.remove_in.new.jar _ is c.self.invariant c.remove_in.ensures.kind

pub returns : goal.returns
returns c = rw (← c.self.view_is) (
    let is = rw c.in-Some.is at (c.get_mut.follows.holds c.remove_in.new.jar) in
    record {
      done = row_written c.args.cell.now c.self.inside.cells c.in-Some.jar.now c.in-Some.ensures.value c.remove_in.new.jar _ is
          (RowRemove c.args.place) c.self.invariant c.remove_in.result c.remove_in.ensures.valid c.remove_in.ensures.cookies;
    })
