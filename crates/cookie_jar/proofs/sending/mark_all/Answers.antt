use Rattle.std.proofs.Common.{◌∙◌, ap, get_or, map, sym, take, w64, to_z, of_z}
use Rattle.std.proofs.lemmas.List.{take_more}
use Rattle.cookie_jar.specs.Marked.{used_at}
use Rattle.cookie_jar.specs.Sending.{marked}
use Rattle.cookie_jar.specs.Plain.{plain_cookie}
use Rattle.cookie_jar.proofs.MarkLemmas.{marked_more, none_marked}
use Rattle.cookie_jar.proofs.sending.mark_all.Goals as goal

pub loop-place-init : goal.loop-place-init
loop-place-init c = sym (none_marked 0 c.args.now (map plain_cookie c.args.cookies.now))

pub loop-place-preserved : goal.loop-place-preserved
loop-place-preserved c =
    let cs = map plain_cookie c.args.cookies.now in
    let ps = c.args.places.now in
    let place = get_or ps c.loop-place.place-index 0 in
    let done = take c.loop-place.place-index ps in
    let moment = to_z w64 (of_z w64 c.args.now) in
    c.mark_at.ensures ∙ ap (used_at place moment) c.loop-place.invariant
    ∙ sym (ap (λ qs. marked qs moment cs) (take_more ps c.loop-place.place-index 0 c.loop-place-test.true) ∙ marked_more place done moment cs)
