-- The cookies that go out are marked, and what is stored in place is done after.
use Rattle.std.proofs.Common.{rules, ◌≡◌, map, refl, pos, ◌∙◌}
use Rattle.std.specs.Prelude.{option_map, string_bytes}
use mir.Syntax.{w64}
use mir.Val.{of_z, to_z}
use Rattle.web_cookies.specs.CellsOfUse.{found}
use Rattle.std.specs.Rc.{rc_value}
use Rattle.web_cookies.specs.Keys.{own_of}
use Rattle.web_cookies.specs.InPlace.{both_replaced, both_used}
use Rattle.web_cookies.proofs.PreparedLemmas.{header_told, made_left, marks_place, request_prepared}
use Rattle.web_cookies.proofs.prepared.marking.Goals as goal

pub returns : goal.returns
returns c = record {
  prepared = λ own_rules how head entries keys s stored.
      let at = to_z w64 (of_z w64 c.signed-moment.result) in
      let back : to_z w64 (of_z w64 c.signed-moment.result) ≡ c.signed-moment.result = search rules in
      let moment : to_z w64 (of_z w64 c.signed-moment.result) ≡ pos c.args.now = back ∙ c.signed-moment.ensures.number in
      let own_at = c.args.sending.own_places.items in
      let partition_at = c.args.sending.partition_places.items in
      let both = found own_rules how entries in
      let used = both_used own_at partition_at at both in
      let header = option_map string_bytes c.header_value-cookie.result in
      let done = stored own_at partition_at at in
      request_prepared own_rules c.args.now how entries entries head _ used (both_replaced c.args.stored used) header (map (λ word. word.now) c.args.words.items)
      (λ key. refl)
      (λ i. both_used (s.own i) (s.partition i) (moment i) both)
      done.0 done.1
      (header_told own_rules c.args.now how both c.deref.result.now c.deref-2.result.now (string_bytes c.args.sending.text) header
      c.header_value-cookie.ensures.value (c.deref.ensures.value ∙ s.own) (c.deref-2.ensures.value ∙ s.partition) s.text)
      refl
      (made_left own_rules how entries _ keys)
      (record { own = marks_place (own_of (rc_value c.args.keys)) entries _ (λ k. tt); partition = tt });
}
