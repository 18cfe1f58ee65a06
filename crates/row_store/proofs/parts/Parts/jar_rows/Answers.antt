use Rattle.std.proofs.Common.{◌≡◌, [], subst, sym}
use Rattle.std.specs.Prelude.{MatchOption}
use Rattle.cookie_jar.specs.Key.{plain_key}
use Rattle.row_store.proofs.PushedLemmas.{saved_cookies}
use Rattle.row_store.proofs.parts.Parts.jar_rows.Goals as goal

pub returns : goal.returns
returns c = record {
  cookies =
      subst (λ cookies. MatchOption c.jar.result (cookies ≡ []) (λ jar. jar.now.cookies ≡ cookies))
      (sym (saved_cookies (plain_key c.args.cell.now) c.args.self.now))
      c.jar.ensures.cookies;
}
