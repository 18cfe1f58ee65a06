use Rattle.std.proofs.Common.{◌∙◌, ◌≤◌, arith, sym, map, subst}
use Rattle.std.proofs.lemmas.List.{length-map}
use Rattle.std.proofs.Math.ListN.{get_or-map}
use Rattle.cookie_jar.specs.Cookie.{PlainCookie, counted}
use Rattle.cookie_jar.specs.Plain.{plain_cookie}
use Rattle.cookie_jar.proofs.CellLemmas.{counted_small}
use Rattle.cookie_jar.proofs.steps.going.Goals as goal

pub returns-then-holds_put : goal.returns-then-holds_put
returns-then-holds_put c = c.new.ensures.items ∙ sym (c.holds_put.ensures.held c.if-holds_put.true c.args.now)

pub weigh_put-requires-clause-all_small : goal.weigh_put-requires-clause-all_small
weigh_put-requires-clause-all_small c k d lt =
    subst (λ (x : PlainCookie). counted c.args.kind x ≤ 10240) (get_or-map plain_cookie c.args.cookies.now k d)
    (counted_small c.args.kind _ (map plain_cookie c.args.cookies.now) k (plain_cookie d) c.requires.cell.within (omega (arith, lt, length-map c.args.cookies.now plain_cookie)))
