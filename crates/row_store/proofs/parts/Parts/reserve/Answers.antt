use Rattle.std.proofs.Common.{OnOk, subst, sym}
use Rattle.row_store.specs.Applying.{IsReady}
use Rattle.row_store.proofs.parts.Parts.reserve.Goals as goal

pub returns-in-CookieInsert-clause-ready : goal.returns-in-CookieInsert-clause-ready
returns-in-CookieInsert-clause-ready c =
    subst (λ change. OnOk c.reserve_insert.result (IsReady change
    (record { storage = c.args.self.now.storage; cookies = c.reserve_insert.new.self; grants = c.args.self.now.grants })))
    (sym c.in-CookieInsert.is) c.reserve_insert.ensures.ready
