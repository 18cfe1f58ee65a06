use Rattle.std.proofs.Common.{rules, ◌≡◌, ◌∙◌, ap, map}
use Rattle.std.specs.List.{filter, enumerate_from}
use Rattle.cookie_jar.specs.Cookie.{PlainJar}
use Rattle.cookie_jar.specs.Sending as spec
use Rattle.cookie_jar.specs.Plain.{plain_access, plain_cookie}
use Rattle.cookie_jar.proofs.SendingLemmas.{places_plain}
use Rattle.cookie_jar.proofs.jar.Jar.pick.Goals as goal

pub returns : goal.returns
returns c =
    let access = plain_access c.args.access.now in
    let raw : c.in_ok-selected.field-0.items ≡ map (λ x. x.0) (filter (λ x. spec.goes_out c.self.inside.kind access c.args.now (plain_cookie x.1)) (enumerate_from 0 c.self.inside.cookies.items))
    = search (rules, c.in_ok-selected.ensures, c.deref.ensures.value) in
    record {
      places = raw ∙ places_plain (spec.goes_out c.self.inside.kind access c.args.now) 0 c.self.inside.cookies.items
          ∙ ap (λ (j : PlainJar). spec.select j.kind access c.args.now j.cookies) c.self.view_is;
    }
