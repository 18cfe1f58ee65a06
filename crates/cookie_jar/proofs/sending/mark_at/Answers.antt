use Rattle.std.proofs.Common.{rules, ◌≡◌, ◌∙◌, ap, map, get_or, w64, to_z, of_z}
use Rattle.std.specs.Prelude.{slice_set}
use Rattle.cookie_jar.specs.Plain.{plain_cookie}
use Rattle.cookie_jar.proofs.MarkLemmas.{used_set, used_past}
use Rattle.cookie_jar.proofs.sending.mark_at.Goals as goal

pub returns-then-place-cookies : goal.returns-then-place-cookies
returns-then-place-cookies c =
    let xs = c.args.cookies.now in
    let e : to_z w64 (of_z w64 c.args.now) ≡ c.args.now = search rules in
    ap (λ n. map plain_cookie (slice_set xs c.args.place (record (get_or xs c.args.place c.index-cookies-place.result) { last = n }))) e
    ∙ used_set xs c.args.place c.args.now c.index-cookies-place.result c.if-place-cookies.true

pub returns-else-place-cookies : goal.returns-else-place-cookies
returns-else-place-cookies c = used_past c.args.cookies.now c.args.place c.args.now c.if-place-cookies.false
