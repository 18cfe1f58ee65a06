-- The cookies of a cell are those that the world has there.
use Rattle.std.proofs.Common.{◌≡◌, ap, sym, ◌∙◌}
use Rattle.std.proofs.lemmas.Result.{IfOk-weaker}
use Rattle.unwinding.specs.FiniteCells.{get_cell}
use Rattle.cookie_jar.specs.Key.{OwnCell}
use Rattle.agent_model.specs.CookieCells.{domain_order}
use Rattle.web_cookies.specs.Cells.{cookies_at}
use Rattle.web_cookies.specs.Stored.{shared_in}
use Rattle.web_cookies.proofs.CellLemmas.{shared_at}
use Rattle.local_scripts.proofs.held.domain_cookies.Goals as goal

pub returns-in-Some : goal.returns-in-Some
returns-in-Some c =
    let found : c.in-Some.jar.now.cookies ≡ get_cell domain_order (shared_in c.args.cookies.now) c.args.domain.now =
    c.in-Some.ensures.cookies
    ∙ ap (λ d. cookies_at (OwnCell d) c.args.cookies.now) c.in_ok-from_str.ensures.ok
    ∙ sym (shared_at c.args.domain.now c.args.cookies.now) in
    record { cookies = IfOk-weaker c.copy.result _ _ (λ jar same. same ∙ found) c.copy.ensures.cookies }

pub returns : goal.returns
returns c =
    record {
      cookies =
          c.new.ensures.cookies
          ∙ sym c.in-None.ensures.cookies
          ∙ ap (λ d. cookies_at (OwnCell d) c.args.cookies.now) c.in_ok-from_str.ensures.ok
          ∙ sym (shared_at c.args.domain.now c.args.cookies.now);
    }
