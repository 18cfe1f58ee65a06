-- The mark comes to the place of the pair.
use Rattle.std.proofs.Common.{◌≡◌, ◌+◌, ◌∙◌, sym, rules}
use Rattle.local_area.specs.Area.{HasDistinctNames}
use Rattle.local_area.specs.Places.{EndsWithMark}
use Rattle.local_area.proofs.PairsLemmas.{area_remove-absent}
use Rattle.local_area.proofs.EntriesLemmas.{pairs_of-distinct}
use Rattle.local_area.proofs.PlacesLemmas.{counted-some}
use Rattle.local_area.proofs.ChangesLemmas.{pairs_of-missing, pairs_of-marked, pair_found, places-mark, taken_none, value_taken}
use Rattle.local_area.proofs.places.Places.mark_out.Goals as goal

pub returns-in_default-clause-value : goal.returns-in_default-clause-value
returns-in_default-clause-value c =
    sym (pairs_of-missing c.self.inside.entries.entries _ _ _ c.as_bytes.ensures.utf8 c.as_bytes.ensures.value c.self.view_is (sym c.in_default.ensures.found))

pub returns-in_default-clause-removed : goal.returns-in_default-clause-removed
returns-in_default-clause-removed c =
    let distinct : HasDistinctNames c.args.self.now = rw c.self.view_is at c.self.invariant.distinct in
    sym (area_remove-absent _ _ distinct (pairs_of-missing c.self.inside.entries.entries _ _ _ c.as_bytes.ensures.utf8 c.as_bytes.ensures.value c.self.view_is (sym c.in_default.ensures.found)))

pub invariant_of-self-in_default-swap_remove_index : goal.invariant_of-self-in_default-swap_remove_index
invariant_of-self-in_default-swap_remove_index c =
    let m : EndsWithMark c.self.inside.entries.entries c.push_mark.new.entries.entries = c.if-not-push_mark.ensures.pushed (search rules) in
    absurd (taken_none _ _ c.in-Some.place m c.in-Some.ensures.within c.in_default-swap_remove_index.ensures.entry)

pub lower-requires : goal.lower-requires
lower-requires c =
    let m : EndsWithMark c.self.inside.entries.entries c.push_mark.new.entries.entries = c.if-not-push_mark.ensures.pushed (search rules) in
    counted-some c.self.inside.entries.entries c.self.inside.counts.items c.in-Some.place m.0 m.0 c.self.invariant.counted c.in-Some.ensures.within
    (pair_found _ c.as_bytes.result.now c.in-Some.place m.0 c.as_bytes.ensures.utf8 (sym c.in-Some.ensures.index)) m.1

pub invariant_of-self-2 : goal.invariant_of-self-2
invariant_of-self-2 c =
    let m : EndsWithMark c.self.inside.entries.entries c.push_mark.new.entries.entries = c.if-not-push_mark.ensures.pushed (search rules) in
    let more : c.in-Some-checked_add.marks ≡ c.self.inside.marks + 1 = search rules in
    rw more (places-mark c.self.inside.entries.entries _ _ c.as_bytes.result.now c.in-Some.place c.self.inside.marks _ c.self.inside.counts.items _
    c.self.invariant m c.as_bytes.ensures.utf8 (sym c.in-Some.ensures.index) c.in-Some-swap_remove_index.ensures.entries c.swap_remove_index.ensures.unique
    (record { long = c.lower.ensures.long; less = c.lower.ensures.less; same = c.lower.ensures.same }))

pub returns-clause-value : goal.returns-clause-value
returns-clause-value c =
    let m : EndsWithMark c.self.inside.entries.entries c.push_mark.new.entries.entries = c.if-not-push_mark.ensures.pushed (search rules) in
    value_taken c.self.inside.entries.entries _ c.as_bytes.result.now _ c.in-Some.place _ _ m c.in-Some.ensures.within c.in-Some.ensures.value c.in-Some-swap_remove_index.ensures.entry c.as_bytes.ensures.utf8 c.as_bytes.ensures.value c.self.view_is

pub returns-clause-removed : goal.returns-clause-removed
returns-clause-removed c =
    let m : EndsWithMark c.self.inside.entries.entries c.push_mark.new.entries.entries = c.if-not-push_mark.ensures.pushed (search rules) in
    c.drop_marks.ensures.same ∙ c.count.ensures.same
    ∙ pairs_of-marked c.self.inside.entries.entries _ _ c.as_bytes.result.now _ c.in-Some.place _ _ m c.as_bytes.ensures.utf8 c.as_bytes.ensures.value
    (sym c.in-Some.ensures.index) c.in-Some-swap_remove_index.ensures.entries c.self.invariant.distinct c.self.view_is

pub returns-clause-distinct : goal.returns-clause-distinct
returns-clause-distinct c = rw (c.drop_marks.ensures.same, c.count.ensures.same) (pairs_of-distinct _ c.swap_remove_index.ensures.unique)
