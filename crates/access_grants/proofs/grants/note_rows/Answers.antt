-- The number of one more row is noted. The map has room for it, since the one before had the number.
use Rattle.std.proofs.Common.{◌≡◌, ◌∙◌, ◌+◌, ap, sym, subst, true, map, take, drop, length, ◌∷◌, ◌++◌, [], arith, nat_eq, cond, ℕ, Some, None, refl}
use Rattle.std.specs.List.{list_any, position}
use Rattle.std.specs.HashMap.{get}
use Rattle.std.specs.Option.{option_or}
use Rattle.std.proofs.lemmas.Bool.Decides.{Decides-eqb}
use Rattle.std.proofs.lemmas.List.{get_or-map, length-map, length-take-le, take_all, take_more}
use Rattle.std.proofs.lemmas.List.Folds.{list_any_at}
use Rattle.access_grants.specs.declared.permission.GrantRow.{GrantRow}
use Rattle.access_grants.specs.Index.{codes_of, pair_code}
use Rattle.access_grants.specs.Plain.{plain_grant}
use Rattle.access_grants.proofs.IndexLemmas.{code_of, pushed_first}
use Rattle.access_grants.proofs.NoteLemmas.{AreKnown, noted_more, noted_room, split_rows}
use Rattle.access_grants.proofs.grants.note_rows.Goals as goal

pub loop-place-init : goal.loop-place-init
loop-place-init c = record {
  noted = λ code. rw c.clear.ensures.empty refl;
  whole = omega (arith, c.clear.ensures.len, c.clear.ensures.capacity);
  unique = c.clear.ensures.unique;
}

pub note-requires : goal.note-requires
note-requires c = record {
  room = λ none.
      let rows = c.args.rows.now in
      let place = c.loop-place.place in
      let row = c.index-rows-place.result in
      let split = split_rows rows place in
      let code : pair_code (plain_grant row).top (plain_grant row).site ≡ c.pair_code.result = sym c.pair_code.ensures in
      let there : list_any (nat_eq c.pair_code.result) (codes_of (map plain_grant rows)) ≡ true =
      list_any_at (nat_eq c.pair_code.result) (codes_of (map plain_grant rows)) place (code_of (plain_grant row))
      (omega (arith, length-map rows plain_grant, length-map (map plain_grant rows) code_of, c.loop-place-test.true))
      ((Decides-eqb _ _).1 (sym code ∙ ap (λ (r : GrantRow). code_of (plain_grant r)) c.index-rows-place.is
      ∙ sym (get_or-map code_of (map plain_grant rows) place (plain_grant row) (code_of (plain_grant row)) (omega (arith, length-map rows plain_grant, c.loop-place-test.true))
      ∙ ap code_of (get_or-map plain_grant rows place row (plain_grant row) c.loop-place-test.true)))) in
      noted_more c.args.places.now c.loop-place.places (map plain_grant (take place rows)) (map plain_grant (drop place rows))
      (subst (AreKnown c.args.places.now) split c.requires.known) c.loop-place.invariant c.pair_code.result
      (ap (λ rs. list_any (nat_eq c.pair_code.result) (codes_of rs)) (sym split) ∙ there) none;
}

pub loop-place-preserved : goal.loop-place-preserved
loop-place-preserved c =
    let rows = c.args.rows.now in
    let place = c.loop-place.place in
    let row = c.index-rows-place.result in
    let before = c.loop-place.invariant in
    let items = take place rows in
    let long : length items ≡ place = length-take-le place rows c.loop-place.auto.place-end in
    let more : take (place + 1) rows ≡ items ++ row ∷ [] = take_more rows place row c.loop-place-test.true ∙ ap (λ r. items ++ r ∷ []) (sym c.index-rows-place.is) in
    let noted : (code : ℕ) → get nat_eq c.note.new.places code ≡ option_or (get nat_eq c.loop-place.places code) (cond (nat_eq code (code_of (plain_grant row))) (Some (length items)) None) =
    λ code. c.note.ensures.noted code
    ∙ (λ i. option_or (get nat_eq c.loop-place.places code) (cond (nat_eq code (c.pair_code.ensures i)) (Some (sym long i)) None)) in
    record {
      noted = rw more (pushed_first items row (get nat_eq c.loop-place.places) (get nat_eq c.note.new.places) before.noted noted);
      whole = omega (arith, before.whole, c.note.ensures.whole);
      unique = c.note.ensures.unique before.unique;
    }

pub returns-clause-noted : goal.returns-clause-noted
returns-clause-noted c =
    let whole : take c.loop-place.place c.args.rows.now ≡ c.args.rows.now = take_all c.loop-place.place c.args.rows.now (omega (arith, c.loop-place-test.false)) in
    subst (λ rows. (code : ℕ) → get nat_eq c.loop-place.places code ≡ position (nat_eq code) (codes_of (map plain_grant rows))) whole c.loop-place.invariant.noted

pub returns-clause-room : goal.returns-clause-room
returns-clause-room c =
    let rows = c.args.rows.now in
    let place = c.loop-place.place in
    noted_room c.args.places.now c.loop-place.places (map plain_grant (take place rows)) (map plain_grant (drop place rows))
    (subst (AreKnown c.args.places.now) (split_rows rows place) c.requires.known) c.loop-place.invariant
