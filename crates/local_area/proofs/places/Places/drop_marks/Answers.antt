-- Without the marks the pairs are the same.
use Rattle.std.proofs.Common.{◌≡◌, ◌∙◌, ap, rules, filter}
use Rattle.indexmap.proofs.CallerLemmas.{filter-RetainsPairs}
use Rattle.local_area.specs.Places.{is_pair, pairs_of}
use Rattle.local_area.proofs.PlacesLemmas.{pairs_of-filter}
use Rattle.local_area.proofs.ChangesLemmas.{places-filter}
use Rattle.local_area.proofs.places.Places.drop_marks.Goals as goal

pub invariant_of-self : goal.invariant_of-self
invariant_of-self c =
    let kept : c.retain.new.self.entries ≡ filter is_pair c.self.inside.entries.entries =
    filter-RetainsPairs _ _ _ (λ k v b w g call. search rules) _ _ c.retain.ensures.filtered in
    places-filter _ _ _ _ _ c.self.invariant kept c.clear.ensures.items

pub returns-then-self-len : goal.returns-then-self-len
returns-then-self-len c =
    let kept : c.retain.new.self.entries ≡ filter is_pair c.self.inside.entries.entries =
    filter-RetainsPairs _ _ _ (λ k v b w g call. search rules) _ _ c.retain.ensures.filtered in
    record { same = ap pairs_of kept ∙ pairs_of-filter c.self.inside.entries.entries ∙ c.self.view_is }
