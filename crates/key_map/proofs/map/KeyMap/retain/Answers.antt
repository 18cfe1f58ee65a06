-- The closure tells of each entry what the test tells of it.
use Rattle.std.proofs.Common.{◌∙◌, ap, rules, not, length, nat_lt}
use Rattle.std.proofs.lemmas.Map.Made.{filter_same_pairs}
use Rattle.key_map.specs.Retain.{all_pass, retain_entries}
use Rattle.key_map.proofs.RetainLemmas.{fewer_left}
use Rattle.key_map.proofs.map.KeyMap.retain.Goals as goal

pub returns-clause-retained : goal.returns-clause-retained
returns-clause-retained g c = λ test tells.
    filter_same_pairs _ (λ e. test e.0 e.1) _ (λ k v b w f' call. search (rules, tells)) _ _ c.retain.ensures.filtered
    ∙ ap (retain_entries test) c.self.view_is

pub returns-clause-went : goal.returns-clause-went
returns-clause-went g c = λ test tells.
    (λ i. nat_lt (c.len.ensures.len i) (c.len-before.ensures.len i))
    ∙ ap (λ kept. nat_lt (length kept) (length c.self.inside.by_key.entries))
    (filter_same_pairs _ (λ e. test e.0 e.1) _ (λ k v b w f' call. search (rules, tells)) _ _ c.retain.ensures.filtered)
    ∙ fewer_left (λ e. test e.0 e.1) c.self.inside.by_key.entries
    ∙ ap (λ es. not (all_pass test es)) c.self.view_is
