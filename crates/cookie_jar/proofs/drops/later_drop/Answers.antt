use Rattle.std.proofs.Common.{rules, ◌≡◌, ◌∙◌}
use Rattle.std.specs.Prelude.{◌&&◌, not, option_copied}
use Rattle.std.specs.List.{list_any}
use Rattle.setcookie_parse.specs.Plain.{plain_text}
use Rattle.cookie_jar.specs.Borrowed.{plain_borrowed}
use Rattle.cookie_jar.specs.Drops as spec
use Rattle.cookie_jar.specs.Plain.{plain_access, plain_cookie}
use Rattle.cookie_jar.proofs.PlanLemmas.{rows_are}
use Rattle.cookie_jar.proofs.drops.later_drop.Goals as goal

pub returns : goal.returns
returns c =
    let overlaid : c.overlays_secure.result ≡ (not c.args.text.now.secure && (not c.args.access.now.https && list_any (λ x. spec.is_live_such c.args.now (spec.is_overlaid (plain_access c.args.access.now) (plain_borrowed c.args.new.now)) (plain_cookie x)) c.args.cookies.now))
    = search (rules, c.overlays_secure.ensures) in
    let overwrites : c.overwrites_http_only.result ≡ (c.args.access.now.script && list_any (λ x. spec.is_live_such c.args.now (spec.is_same_http_only (plain_borrowed c.args.new.now)) (plain_cookie x)) c.args.cookies.now)
    = search (rules, c.overwrites_http_only.ensures) in
    c.first_applying.ensures
    ∙ rows_are c.args.list.now.rules (option_copied c.args.lower) (option_copied c.args.own) (plain_text c.args.text.now) (plain_access c.args.access.now) c.args.now (plain_borrowed c.args.new.now) c.args.cookies.now
    _ _ _ _ _ _ _ _ _ _ _ _ _
    c.requires.own c.requires.new c.is_other_suffix.ensures c.is_mismatch.ensures c.is_secure_over_http.ensures c.is_http_only_of_script.ensures overlaid c.is_foreign_same_site.ensures
    c.is_none_without_secure.ensures c.lacks_secure_prefix.ensures c.lacks_host_prefix.ensures c.is_nameless_prefix.ensures overwrites c.is_partitioned_without_secure.ensures c.is_third_party.ensures
