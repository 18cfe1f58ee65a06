-- A jar that is there, or was made, has the cookie.
use Rattle.std.proofs.Common.{◌≡◌, true, false, ap, sym, subst, ◌∙◌}
use Rattle.std.specs.Prelude.{is_some}
use Rattle.std.proofs.lemmas.Result.{on_err_weaker}
use Rattle.agent_base.proofs.Logic.{on_err}
use Rattle.cookie_jar.specs.Key.{plain_key}
use Rattle.cookie_jar.specs.Persistent.{RowInsert, row_fits}
use Rattle.cookie_jar.specs.Plain.{plain_cookie}
use Rattle.web_cookies.specs.Stored.{partitioned_in, shared_in}
use Rattle.web_cookies.specs.Cells.{cookies_at, jar_at, kind_of}
use Rattle.web_cookies.specs.Rows.{HasPlace}
use Rattle.web_cookies.proofs.LeftLemmas.{partitioned_same, shared_same}
use Rattle.web_cookies.proofs.RowsLemmas.{at_key, kept_written, kinds_written, place_spare, place_there, refused_there, row_same_ok, row_written_ok}
use Rattle.web_cookies.proofs.cookies.Cookies.insert_at.Goals as goal

pub returns-in_err-make_room-clause-shared : goal.returns-in_err-make_room-clause-shared
returns-in_err-make_room-clause-shared c = on_err c.from_residual.result (shared_same c.args.self.now c.make_room.new.self c.make_room.ensures.same)

pub returns-in_err-make_room-clause-partitioned : goal.returns-in_err-make_room-clause-partitioned
returns-in_err-make_room-clause-partitioned c = on_err c.from_residual.result (partitioned_same c.args.self.now c.make_room.new.self c.make_room.ensures.same)

pub returns-in_default-clause-shared : goal.returns-in_default-clause-shared
returns-in_default-clause-shared c = ap shared_in (c.get_mut.follows.holds-at-none ∙ c.self.view_is) ∙ shared_same c.args.self.now c.make_room.new.self c.make_room.ensures.same

pub returns-in_default-clause-partitioned : goal.returns-in_default-clause-partitioned
returns-in_default-clause-partitioned c =
    ap partitioned_in (c.get_mut.follows.holds-at-none ∙ c.self.view_is) ∙ partitioned_same c.args.self.now c.make_room.new.self c.make_room.ensures.same

pub invariant_of-self-2 : goal.invariant_of-self-2
invariant_of-self-2 c =
    let is = rw c.in-Some.is at (c.get_mut.follows.holds c.insert_in.new.jar) in
    kinds_written c.args.cell.now c.self.inside.cells c.in-Some.jar.now c.in-Some.ensures.value c.insert_in.new.jar _ is c.self.invariant c.insert_in.ensures.kind

pub returns-clause-done : goal.returns-clause-done
returns-clause-done c =
    let row = RowInsert c.args.place (plain_cookie c.args.cookie) in
    let is = rw c.in-Some.is at (c.get_mut.follows.holds c.insert_in.new.jar) in
    row_same_ok (plain_key c.args.cell.now) row c.args.self.now c.make_room.new.self _ c.insert_in.result c.make_room.ensures.same
    (rw (← c.self.view_is) (row_written_ok c.args.cell.now c.self.inside.cells c.in-Some.jar.now c.in-Some.ensures.value c.insert_in.new.jar _ is
    row c.self.invariant c.insert_in.result c.insert_in.ensures.valid c.insert_in.ensures.cookies))

pub returns-clause-shared : goal.returns-clause-shared
returns-clause-shared c =
    let is = rw c.in-Some.is at (c.get_mut.follows.holds c.insert_in.new.jar) in
    on_err_weaker c.insert_in.result (λ kept. shared_same c.args.self.now _
    (kept_written c.args.cell.now c.self.inside.cells c.in-Some.jar.now c.in-Some.ensures.value c.insert_in.new.jar _ is c.self.invariant
    c.args.self.now c.make_room.new.self kept c.self.view_is c.make_room.ensures.same)) c.insert_in.ensures.unchanged

pub returns-clause-partitioned : goal.returns-clause-partitioned
returns-clause-partitioned c =
    let is = rw c.in-Some.is at (c.get_mut.follows.holds c.insert_in.new.jar) in
    on_err_weaker c.insert_in.result (λ kept. partitioned_same c.args.self.now _
    (kept_written c.args.cell.now c.self.inside.cells c.in-Some.jar.now c.in-Some.ensures.value c.insert_in.new.jar _ is c.self.invariant
    c.args.self.now c.make_room.new.self kept c.self.view_is c.make_room.ensures.same)) c.insert_in.ensures.unchanged

pub returns-in_err-make_room-clause-ready : goal.returns-in_err-make_room-clause-ready
returns-in_err-make_room-clause-ready c has =
    let no : false ≡ true = (c.in_err-make_room.ensures.ready (place_there (plain_key c.args.cell.now) c.args.self.now has)).0 in cc

pub returns-in_default-clause-ready : goal.returns-in_default-clause-ready
returns-in_default-clause-ready c has =
    let still = (c.make_room.ensures.ready (place_there (plain_key c.args.cell.now) c.args.self.now has)).1 in
    let there = place_there (plain_key c.args.cell.now) c.self.inside.cells (subst (HasPlace (plain_key c.args.cell.now)) (sym (c.self.view_is ∙ still)) has) in
    let no : false ≡ true = ap is_some (c.in_default.ensures.value ∙ at_key c.args.cell.now c.self.inside.cells) ∙ there in cc

pub returns-clause-ready : goal.returns-clause-ready
returns-clause-ready c has =
    let still = (c.make_room.ensures.ready (place_there (plain_key c.args.cell.now) c.args.self.now has)).1 in
    c.insert_in.ensures.ready (place_spare c.args.cell.now c.self.inside.cells c.in-Some.jar.now (sym c.in-Some.ensures.value)
    (subst (HasPlace (plain_key c.args.cell.now)) (sym (c.self.view_is ∙ still)) has))

pub returns-in_err-make_room-clause-decided : goal.returns-in_err-make_room-clause-decided
returns-in_err-make_room-clause-decided c there fails =
    let no : false ≡ true = (c.in_err-make_room.ensures.ready there).0 in cc

pub returns-in_default-clause-decided : goal.returns-in_default-clause-decided
returns-in_default-clause-decided c there fails =
    let is = c.self.view_is ∙ (c.make_room.ensures.ready there).1 in
    let still = subst (λ e. is_some (jar_at (plain_key c.args.cell.now) e) ≡ true) (sym is) there in
    let no : false ≡ true = ap is_some (c.in_default.ensures.value ∙ at_key c.args.cell.now c.self.inside.cells) ∙ still in cc

pub returns-clause-decided : goal.returns-clause-decided
returns-clause-decided c there fails =
    let cell = plain_key c.args.cell.now in
    let row = RowInsert c.args.place (plain_cookie c.args.cookie) in
    let is = c.self.view_is ∙ (c.make_room.ensures.ready there).1 in
    c.insert_in.ensures.decided (refused_there c.args.cell.now c.self.inside.cells c.in-Some.jar.now c.in-Some.ensures.value row c.self.invariant
    (subst (λ e. row_fits (kind_of cell) (cookies_at cell e) row ≡ false) (sym is) fails))
