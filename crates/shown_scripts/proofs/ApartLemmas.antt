-- The lines of two local scripts at the place where these differ are not equal.
use Rattle.std.proofs.Common.{◌≡◌, ◌≢◌, inl, inr, ℕ, ◌<◌, ◌^◌, [], Option, Some, None, slice_get, refl, sym, ap, ◌∙◌, arith}
use Rattle.std.specs.Prelude.{codes, is_some}
use Rattle.std.proofs.lemmas.Bool.{true≢false}
use Rattle.std.proofs.lemmas.Option.{slice_get_past}
use Rattle.serde_json.specs.Find.{get}
use Rattle.serde_json.specs.Written.{compact_text}
use Rattle.unwinding.specs.LocalScript.{Happens, Restarts}
use Rattle.item_lines.specs.Item.{end_data, end_text, item_data, item_text}
use Rattle.item_lines.specs.Numbers.{IsEnd, IsInRange}
use Rattle.item_lines.proofs.CompactLemmas.{compact_same}
use Rattle.item_lines.proofs.FeedLemmas.{first_line, lacks_text}
use Rattle.item_lines.proofs.ItemReading.{end_is_not, item_is_numbered}
use Rattle.item_lines.proofs.LawLemmas.{ends_differ, items_differ, renumbered}
use Rattle.local_scripts.specs.Items.{AgentItem}
use Rattle.script_courses.specs.Twins.{LocalDiffer}
use Rattle.shown_scripts.specs.Lines.{IsLineInRange, line_at, line_or_end}
use Rattle.twins.specs.Comparing.{Compares}
use Rattle.twins.specs.Scripts.{end_in, entries_in}
use Rattle.twins.specs.declared.scripts.LocalScript.{LocalScript}

-- the line of an entry is not that of an end
not_the_end : (n : ℕ) (i e : AgentItem) → n < 2 ^ 64 → IsInRange i → IsEnd e → item_text n i ≢ end_text e
not_the_end n i (Happens entry) small range is same = absurd is
not_the_end n i (Restarts moment acknowledged kept) small range is same =
    let e : AgentItem = Restarts moment acknowledged kept in
    let short = renumbered 0 n small i range in
    let lines = first_line (compact_text (item_data n i)) (compact_text (end_data e)) [] []
    (lacks_text (item_data n i) short) (lacks_text (end_data e) is) same in
    let both = compact_same (item_data n i) (end_data e) short is lines.0 in
    true≢false (sym (item_is_numbered n i) ∙ ap (λ d. is_some (get (codes "entry") d)) both ∙ end_is_not e)

-- where the entries at a place differ, or one is there alone
entries_apart : (place : ℕ) (a b : Option AgentItem) (x y : AgentItem) → place < 2 ^ 64
    → IsLineInRange a x → IsLineInRange b y → a ≢ b → line_or_end place a x ≢ line_or_end place b y
entries_apart place None None x y small here there differ same = differ refl
entries_apart place None (Some j) x y small here there differ same = not_the_end place j x small there here (sym same)
entries_apart place (Some i) None x y small here there differ same = not_the_end place i y small here there same
entries_apart place (Some i) (Some j) x y small here there differ same =
    differ (ap Some ((items_differ place i j small here there).0 same))

-- where the entries are over, and the ends differ
ends_apart : (place : ℕ) (a b : Option AgentItem) (x y : AgentItem) → a ≡ None → b ≡ None
    → IsLineInRange a x → IsLineInRange b y → x ≢ y → line_or_end place a x ≢ line_or_end place b y
ends_apart place None None x y gone over here there differ same = differ ((ends_differ x y here there).0 same)
ends_apart place None (Some j) x y gone over here there differ same = true≢false (ap is_some over)
ends_apart place (Some i) b x y gone over here there differ same = true≢false (ap is_some gone)

-- in both cases
pub lines_apart : (place : ℕ) (one other : LocalScript) → place < 2 ^ 64
    → IsLineInRange (slice_get (entries_in one) place) (end_in one)
    → IsLineInRange (slice_get (entries_in other) place) (end_in other)
    → Compares one other (LocalDiffer place)
    → line_at place (entries_in one) (end_in one) ≢ line_at place (entries_in other) (end_in other)
lines_apart place one other small here there (inl differ) =
    entries_apart place (slice_get (entries_in one) place) (slice_get (entries_in other) place) (end_in one) (end_in other)
    small here there differ.items
lines_apart place one other small here there (inr ends) =
    let over : slice_get (entries_in one) place ≡ None = slice_get_past (entries_in one) place (omega (arith, ends.2)) in
    ends_apart place (slice_get (entries_in one) place) (slice_get (entries_in other) place) (end_in one) (end_in other)
    over (ap (λ xs. slice_get xs place) (sym ends.0) ∙ over) here there ends.1
