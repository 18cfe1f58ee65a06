-- What the pairs gain, the weight gains.
use Rattle.std.proofs.Common.{◌≡◌, ◌∙◌, ap, arith, sym, refl, Some, None}
use Rattle.std.specs.Prelude.{option_map, string_bytes}
use Rattle.local_area.specs.Area.{area_get, area_put, area_weight, HasDistinctNames}
use Rattle.local_area.proofs.PairsLemmas.{area_put-same, answer_over-other}
use Rattle.local_area.proofs.area.Area.put.Goals as goal
use Rattle.local_area.proofs.area.Area.put.Goals.{in-Some-before, in-None}

pub returns-in_default-clause-stored : goal.returns-in_default-clause-stored
returns-in_default-clause-stored c =
    let there : area_get (string_bytes c.args.name) c.args.self.now ≡ Some (string_bytes c.args.value) =
    rw (c.deref.ensures, c.deref-2.ensures) at c.in_default.ensures.same in
    let distinct : HasDistinctNames c.args.self.now = rw c.self.view_is at c.self.invariant.distinct in
    sym (area_put-same _ _ _ distinct there)

pub returns-in_default-clause-quota : goal.returns-in_default-clause-quota
returns-in_default-clause-quota c =
    let there : area_get (string_bytes c.args.name) c.args.self.now ≡ Some (string_bytes c.args.value) =
    rw (c.deref.ensures, c.deref-2.ensures) at c.in_default.ensures.same in
    let distinct : HasDistinctNames c.args.self.now = rw c.self.view_is at c.self.invariant.distinct in
    let running : c.self.inside.weight ≡ area_weight c.args.self.now = rw c.self.view_is at c.self.invariant.weight in
    let same : area_weight (area_put (string_bytes c.args.name) (string_bytes c.args.value) c.args.self.now) ≡ area_weight c.args.self.now =
    ap area_weight (area_put-same _ _ _ distinct there) in
    (λ refused. absurd (cc refused), λ passes. absurd (omega (arith, passes, same, running, c.self.invariant.within)))

pub invariant_of-self-2 : goal.invariant_of-self-2
invariant_of-self-2 c =
    let stored : c.insert.new.self ≡ area_put (string_bytes c.args.name) (string_bytes c.args.value) c.args.self.now =
    c.in-Ok.ensures.stored ∙ ap (area_put (string_bytes c.args.name) (string_bytes c.args.value)) c.self.view_is in
    record {
      distinct = c.insert.ensures.distinct;
      weight = rw (c.deref.ensures, c.deref-2.ensures) at c.in-Some.ensures.weight ∙ sym (ap area_weight stored);
      within = omega arith;
    }

pub returns-clause-stored : goal.returns-clause-stored
returns-clause-stored c =
    let stored : c.insert.new.self ≡ area_put (string_bytes c.args.name) (string_bytes c.args.value) c.args.self.now =
    c.in-Ok.ensures.stored ∙ ap (area_put (string_bytes c.args.name) (string_bytes c.args.value)) c.self.view_is in
    elim c.match-before.branch [ in-Some-before w ↦ rw w.result-is stored | in-None w ↦ rw w.result-is stored ]

pub returns-clause-answer : goal.returns-clause-answer
returns-clause-answer c =
    let before : option_map string_bytes c.in-Ok.before ≡ area_get (string_bytes c.args.name) c.args.self.now =
    c.in-Ok.ensures.before ∙ ap (area_get (string_bytes c.args.name)) c.self.view_is in
    let differs : area_get (string_bytes c.args.name) c.args.self.now ≡ Some (string_bytes c.args.value) → ⊥ =
    λ there. c.in-Some.ensures.other (rw (c.deref.ensures, c.deref-2.ensures) there) in
    elim c.match-before.branch [
      | in-Some-before w ↦
          let found : area_get (string_bytes c.args.name) c.args.self.now ≡ Some (string_bytes w.in-Some-before.before) =
          sym before ∙ ap (option_map string_bytes) w.in-Some-before.is in
          rw (w.result-is, found) (sym (answer_over-other _ _ (λ same. differs (found ∙ ap Some same))))
      | in-None w ↦
          let missing : area_get (string_bytes c.args.name) c.args.self.now ≡ None =
          sym before ∙ ap (option_map string_bytes) w.in-None.is in
          rw (w.result-is, missing) refl
    ]
