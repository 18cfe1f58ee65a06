-- Each cookie is put behind the places before it where it goes out.
use Rattle.std.proofs.Common.{◌≡◌, ℕ, ◌∙◌, ap, rules, sym, of_z, to_z, w64}
use Rattle.cookie_jar.specs.declared.cookie.Cookie.{Cookie}
use Rattle.cookie_jar.specs.Sending.{goes_out}
use Rattle.cookie_jar.specs.Plain.{plain_access, plain_cookie}
use Rattle.cookie_jar.proofs.SendingLemmas.{next_goes, next_stays, none_left, places_from}
use Rattle.cookie_jar.proofs.sending.selected.Goals as goal
use Rattle.cookie_jar.proofs.sending.selected.Goals.{then-goes_out+in_ok-push, else-goes_out}

pub loop-place-preserved : goal.loop-place-preserved
loop-place-preserved c =
    let moment = to_z w64 (of_z w64 c.args.now) in
    let test = λ (p : ℕ × Cookie). goes_out c.args.kind (plain_access c.args.access.now) moment (plain_cookie p.1) in
    let all = places_from test 0 c.args.cookies.now in
    let one = c.index-cookies-place.result in
    elim c.if-goes_out.branch [
      | then-goes_out+in_ok-push w ↦
          next_goes test c.args.cookies.now c.loop-place.place one c.loop-place-test.true c.index-cookies-place.is c.loop-place.places.items c.if-goes_out.places.items all
          (ap (λ v. v.items) w.places-is ∙ w.in_ok-push.ensures.items) (sym c.goes_out.ensures ∙ w.if-goes_out.true) c.loop-place.invariant
      | else-goes_out w ↦
          next_stays test c.args.cookies.now c.loop-place.place one c.loop-place-test.true c.index-cookies-place.is c.loop-place.places.items c.if-goes_out.places.items all
          (ap (λ v. v.items) w.places-is) (sym c.goes_out.ensures ∙ w.if-goes_out.false) c.loop-place.invariant
    ]

pub returns : goal.returns
returns c =
    let still : to_z w64 (of_z w64 c.args.now) ≡ c.args.now = search rules in
    rw (← still)
    (none_left (λ (p : ℕ × Cookie). goes_out c.args.kind (plain_access c.args.access.now) (to_z w64 (of_z w64 c.args.now)) (plain_cookie p.1)) c.args.cookies.now c.loop-place.place c.loop-place.places.items _
    c.loop-place-test.false c.loop-place.invariant)
