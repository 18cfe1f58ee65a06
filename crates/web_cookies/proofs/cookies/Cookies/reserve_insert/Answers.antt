-- A jar that is there, or was made, keeps its cookies.
use Rattle.std.proofs.Common.{ap, sym, subst, ◌∙◌}
use Rattle.std.proofs.lemmas.Result.{on_ok_weaker}
use Rattle.cookie_jar.specs.Key.{plain_key}
use Rattle.web_cookies.specs.Stored.{partitioned_in, shared_in}
use Rattle.web_cookies.specs.Rows.{HasPlace}
use Rattle.web_cookies.proofs.LeftLemmas.{partitioned_same, shared_same}
use Rattle.web_cookies.proofs.RowsLemmas.{kept_written, kinds_written, place_set}
use Rattle.web_cookies.proofs.cookies.Cookies.reserve_insert.Goals as goal

pub returns-in_err-make_room-clause-shared : goal.returns-in_err-make_room-clause-shared
returns-in_err-make_room-clause-shared c = shared_same c.args.self.now c.make_room.new.self c.make_room.ensures.same

pub returns-in_err-make_room-clause-partitioned : goal.returns-in_err-make_room-clause-partitioned
returns-in_err-make_room-clause-partitioned c = partitioned_same c.args.self.now c.make_room.new.self c.make_room.ensures.same

pub returns-in_default-clause-shared : goal.returns-in_default-clause-shared
returns-in_default-clause-shared c = ap shared_in (c.get_mut.follows.holds-at-none ∙ c.self.view_is) ∙ shared_same c.args.self.now c.make_room.new.self c.make_room.ensures.same

pub returns-in_default-clause-partitioned : goal.returns-in_default-clause-partitioned
returns-in_default-clause-partitioned c =
    ap partitioned_in (c.get_mut.follows.holds-at-none ∙ c.self.view_is) ∙ partitioned_same c.args.self.now c.make_room.new.self c.make_room.ensures.same

pub invariant_of-self-2 : goal.invariant_of-self-2
invariant_of-self-2 c =
    let is = rw c.in-Some.is at (c.get_mut.follows.holds c.reserve.new.self) in
    kinds_written c.args.cell.now c.self.inside.cells c.in-Some.jar.now c.in-Some.ensures.value c.reserve.new.self _ is c.self.invariant c.reserve.ensures.kind

pub returns-clause-shared : goal.returns-clause-shared
returns-clause-shared c =
    let is = rw c.in-Some.is at (c.get_mut.follows.holds c.reserve.new.self) in
    shared_same c.args.self.now _
    (kept_written c.args.cell.now c.self.inside.cells c.in-Some.jar.now c.in-Some.ensures.value c.reserve.new.self _ is c.self.invariant
    c.args.self.now c.make_room.new.self c.reserve.ensures.cookies c.self.view_is c.make_room.ensures.same)

pub returns-clause-partitioned : goal.returns-clause-partitioned
returns-clause-partitioned c =
    let is = rw c.in-Some.is at (c.get_mut.follows.holds c.reserve.new.self) in
    partitioned_same c.args.self.now _
    (kept_written c.args.cell.now c.self.inside.cells c.in-Some.jar.now c.in-Some.ensures.value c.reserve.new.self _ is c.self.invariant
    c.args.self.now c.make_room.new.self c.reserve.ensures.cookies c.self.view_is c.make_room.ensures.same)

pub returns-clause-ready : goal.returns-clause-ready
returns-clause-ready c =
    let is = rw c.in-Some.is at (c.get_mut.follows.holds c.reserve.new.self) in
    on_ok_weaker c.reserve.result (λ room. subst (HasPlace (plain_key c.args.cell.now)) (sym is)
    (place_set c.args.cell.now c.self.inside.cells c.in-Some.jar.now c.reserve.new.self (sym c.in-Some.ensures.value) room)) c.reserve.ensures.room
