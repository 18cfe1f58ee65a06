-- A jar that is there has the cookie, and without one it is the same as none.
use Rattle.std.proofs.Common.{[], ap, refl, sym, ◌∙◌}
use Rattle.std.specs.Option.{option_copied_mut}
use Rattle.cookie_jar.specs.Key.{plain_key}
use Rattle.cookie_jar.specs.Persistent.{RowReplace}
use Rattle.cookie_jar.specs.Plain.{plain_cookie}
use Rattle.web_cookies.specs.Cells.{kind_of}
use Rattle.web_cookies.proofs.LimitLemmas.{replace_past}
use Rattle.web_cookies.proofs.RowsLemmas.{kinds_written, row_none, row_written}
use Rattle.web_cookies.proofs.cookies.Cookies.replace_at.Goals as goal

pub returns-in_default : goal.returns-in_default
returns-in_default c = rw (← c.self.view_is) (record {
  done = row_none c.args.cell.now (RowReplace c.args.place (plain_cookie c.args.cookie)) c.self.inside.cells _ c.get_mut.follows.holds-at-none
      (sym c.get_mut.ensures.value ∙ ap option_copied_mut c.in_default.is)
      (sym (replace_past (kind_of (plain_key c.args.cell.now)) [] c.args.place (plain_cookie c.args.cookie) refl));
})

pub invariant_of-self-2 : goal.invariant_of-self-2
invariant_of-self-2 c =
    let is = rw c.in-Some.is at (c.get_mut.follows.holds c.replace_in.new.jar) in
    kinds_written c.args.cell.now c.self.inside.cells c.in-Some.jar.now c.in-Some.ensures.value c.replace_in.new.jar _ is c.self.invariant c.replace_in.ensures.kind

pub returns : goal.returns
returns c = rw (← c.self.view_is) (
    let is = rw c.in-Some.is at (c.get_mut.follows.holds c.replace_in.new.jar) in
    record {
      done = row_written c.args.cell.now c.self.inside.cells c.in-Some.jar.now c.in-Some.ensures.value c.replace_in.new.jar _ is
          (RowReplace c.args.place (plain_cookie c.args.cookie)) c.self.invariant c.replace_in.result c.replace_in.ensures.valid c.replace_in.ensures.cookies;
    })
