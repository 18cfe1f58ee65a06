-- No cookie up to each place is the same.
use Rattle.std.proofs.Common.{add-one, sym, ◌∙◌}
use Rattle.cookie_jar.specs.Plain.{plain_cookie}
use Rattle.web_cookies.proofs.LimitLemmas.{copies_more, copy_there}
use Rattle.web_cookies.proofs.rows.is_absent.Goals as goal

pub returns-then-is_same_at : goal.returns-then-is_same_at
returns-then-is_same_at c =
    sym (copy_there (plain_cookie c.args.cookie.now) c.args.jar.now.cookies c.loop-place.place (sym c.is_same_at.ensures ∙ c.if-is_same_at.true))

pub loop-place-preserved : goal.loop-place-preserved
loop-place-preserved c =
    rw add-one (copies_more (plain_cookie c.args.cookie.now) c.args.jar.now.cookies c.loop-place.place (sym c.is_same_at.ensures ∙ c.if-is_same_at.false) c.loop-place.invariant)
