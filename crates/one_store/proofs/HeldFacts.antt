-- What one site has, worked out by hand: a widget of `w.test` has an area under each of two sites.
use Rattle.std.proofs.Common.{◌≡◌, ℕ, Bool, true, false, [], refl, ◌∙◌}
use Rattle.unwinding.proofs.FiniteCellsLemmas.{get_set}
use Rattle.storage_key.specs.Key.{key_order}
use Rattle.storage_key.proofs.OrderLemmas.{key_order_total, key_order_same}
use Rattle.storage_events.specs.declared.event.AreaKind.TheVariants.{Local}
use Rattle.agent_model.specs.Partition.{Holdings, no_holdings, is_under, area_of, with_area}
use Rattle.one_store.specs.HeldAt.{held_at}
use Rattle.one_store.proofs.HeldLemmas.{area_seen, area_unseen}
use Rattle.agent_model.proofs.StandardFacts.{a, b, site, widget, widget_key}
use Rattle.agent_model.proofs.StorageFacts.{pairs}

-- the widget's key is under the site of the top document, and not under its own
under_top : is_under (site a) (widget_key a true) ≡ true
under_top = refl

not_under_own : is_under (site widget) (widget_key a true) ≡ false
not_under_own = refl

-- the same host has another site by http
not_under_http : is_under (record { https = false; host = a }) (widget_key a true) ≡ false
not_under_http = refl

-- after a write under `https://a.test`, that site has the pairs in its widget's area
abbrev written : Holdings
written = with_area Local 1 (widget_key a true) pairs no_holdings

at_a : (here : ℕ → Bool) → area_of Local 1 (widget_key a true) (held_at (site a) here written) ≡ pairs
at_a here =
    area_seen (site a) here written Local 1 (widget_key a true) refl
    ∙ get_set key_order key_order_total key_order_same (widget_key a true) (widget_key a true) pairs no_holdings.areas

-- and the site `https://b.test` has no area of that key
at_b : (here : ℕ → Bool) → area_of Local 1 (widget_key a true) (held_at (site b) here written) ≡ []
at_b here = area_unseen (site b) here written Local 1 (widget_key a true) refl
