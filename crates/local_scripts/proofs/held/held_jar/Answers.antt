-- A site may not know the cookies of another domain, and its own where events of other sites have left them different.
use Rattle.std.proofs.Common.{◌≡◌, ◌&&◌, None, Some, ap, false, map, not, subst, sym, true, ◌∷◌, [], ◌∙◌}
use Rattle.std.specs.Prelude.{bytes_eq, option_to_list, string_bytes}
use Rattle.unwinding.specs.FiniteCells.{get_cell}
use Rattle.origin_site.specs.Plain.{plain_site}
use Rattle.agent_model.specs.CookieCells.{domain_order}
use Rattle.web_cookies.specs.Stored.{shared_in}
use Rattle.local_scripts.specs.declared.entry.HeldJar.{HeldJar}
use Rattle.local_scripts.specs.EntryParts.{IsHeld}
use Rattle.local_scripts.proofs.SeenLemmas.{held_known, held_unknown, where_apart, where_touched}
use Rattle.local_scripts.proofs.held.held_jar.Goals as goal
use Rattle.local_scripts.proofs.held.held_jar.Goals.{else-eq-via-then-eq+else-not-touched, else-eq-via-else-eq}

pub returns-then-not-touched : goal.returns-then-not-touched
returns-then-not-touched c =
    let site = plain_site c.args.site.now in
    let domain = string_bytes c.in-Some.domain in
    let here : bytes_eq domain site.host ≡ true = (λ i. bytes_eq (sym c.as_str.ensures.value i)
    (sym c.as_str-2.ensures.value i)) ∙ sym c.eq.ensures ∙ c.if-eq.true in
    record {
      held = subst (λ found. IsHeld site c.args.cookies.now c.args.touched
          (map string_bytes (option_to_list found)) None) (sym c.in-Some.is)
          (subst (λ touched. IsHeld site c.args.cookies.now touched (domain ∷ []) None) (sym c.if-not-touched.true)
          (held_known site c.args.cookies.now domain here));
    }

pub returns : goal.returns
returns c =
    let site = plain_site c.args.site.now in
    let domain = string_bytes c.in-Some.domain in
    let held : HeldJar = record { domain = c.in_ok-from_str.field-0; jar = c.in_ok-domain_cookies.field-0 } in
    let eq : bytes_eq domain site.host ≡ c.eq.result =
    (λ i. bytes_eq (sym c.as_str.ensures.value i) (sym c.as_str-2.ensures.value i)) ∙ sym c.eq.ensures in
    let unknown : (bytes_eq domain site.host && not c.args.touched) ≡ false =
    elim c.else-eq.branch [
      | else-eq-via-then-eq+else-not-touched w ↦ where_touched (bytes_eq domain site.host) c.args.touched w.if-not-touched.false
      | else-eq-via-else-eq w ↦ where_apart (bytes_eq domain site.host) c.args.touched (eq ∙ w.if-eq.false)
    ] in
    record {
      held = subst (λ found. IsHeld site c.args.cookies.now c.args.touched
          (map string_bytes (option_to_list found)) (Some held)) (sym c.in-Some.is)
          (held_unknown site c.args.cookies.now c.args.touched domain held unknown
          (c.in_ok-from_str.ensures.ok ∙ c.as_str-3.ensures.value)
          (c.in_ok-domain_cookies.ensures.cookies ∙ ap (get_cell domain_order (shared_in c.args.cookies.now))
          c.as_str-4.ensures.value));
    }
