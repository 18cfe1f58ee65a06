-- The jar that is there is copied, or an empty one is put in its place.
use Rattle.std.proofs.Common.{ap, sym, ◌∙◌}
use Rattle.std.specs.Prelude.{is_some}
use Rattle.std.proofs.lemmas.Result.{IfOk-weaker}
use Rattle.agent_base.proofs.Logic.{on_ok}
use Rattle.web_cookies.specs.Cells.{cookies_of}
use Rattle.web_cookies.proofs.RowsLemmas.{at_key, kind_there}
use Rattle.web_cookies.proofs.cookies.Cookies.copy_at.Goals as goal

pub returns-in-Some-clause-there : goal.returns-in-Some-clause-there
returns-in-Some-clause-there c = rw (← c.self.view_is)
    (on_ok c.copy.result (ap is_some (sym (c.in-Some.ensures.value ∙ at_key c.args.key.now c.self.inside.cells))))

pub returns-in-Some-clause-kind : goal.returns-in-Some-clause-kind
returns-in-Some-clause-kind c = IfOk-weaker c.copy.result _ _ (λ jar is. is
    ∙ kind_there c.args.key.now c.self.inside.cells c.in-Some.jar.now c.self.invariant (sym c.in-Some.ensures.value)
    ∙ sym c.requires.kind) c.copy.ensures.kind

pub returns-in-Some-clause-cookies : goal.returns-in-Some-clause-cookies
returns-in-Some-clause-cookies c = rw (← c.self.view_is) (IfOk-weaker c.copy.result _ _ (λ jar is. is
    ∙ ap cookies_of (c.in-Some.ensures.value ∙ at_key c.args.key.now c.self.inside.cells)) c.copy.ensures.cookies)

pub returns-clause-cookies : goal.returns-clause-cookies
returns-clause-cookies c = rw (← c.self.view_is)
    (c.new.ensures.cookies ∙ ap cookies_of (c.in_default.ensures.value ∙ at_key c.args.key.now c.self.inside.cells))
