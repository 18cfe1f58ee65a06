-- Two items, and two local scripts, have the same text exactly where they are equal.
use Rattle.std.proofs.Common.{◌≡◌, ℕ, ◌+◌, ◌<◌, ◌≤◌, ◌^◌, List, [], ◌∷◌, ◌++◌, length, refl, sym, ap, ap₂, ◌∙◌, arith, append_assoc, append-nil, Option, Some, None}
use Rattle.std.specs.Prelude.{codes, is_some}
use Rattle.std.specs.List.{All}
use Rattle.std.proofs.lemmas.Bool.{true≢false}
use Rattle.std.proofs.lemmas.List.Elements.{All-head, All-tail}
use Rattle.serde_json.specs.Find.{get}
use Rattle.serde_json.specs.Data.{Data}
use Rattle.serde_json.specs.Written.{compact_text}
use Rattle.unwinding.specs.LocalScript.{Happens, Restarts}
use Rattle.agent_model.specs.SiteEvent.{SiteEvent, Acts, Arrives, Leaves, Copies, Closes, Evicts}
use Rattle.local_scripts.specs.Items.{AgentItem}
use Rattle.origin_site.specs.Address.{PlainAddress}
use Rattle.script_actions.specs.ActionFacts.{facts_of}
use Rattle.item_lines.specs.Item.{event_members, item_data, end_data, item_text, end_text}
use Rattle.item_lines.specs.Parts.{addressed, held_data}
use Rattle.item_lines.specs.Line.{line_data}
use Rattle.item_lines.specs.Members.{act_members}
use Rattle.item_lines.specs.Numbers.{HasShortNumbers, MembersHaveShortNumbers, IsInRange, IsEnd}
use Rattle.item_lines.specs.Script.{items_text, script_text}
use Rattle.item_lines.specs.Laws.{ItemsDifferAsTheirLines, EndsDifferAsTheirLines, ScriptsDifferAsTheirTexts}
use Rattle.item_lines.proofs.CompactLemmas.{compact_same}
use Rattle.item_lines.proofs.FeedLemmas.{first_line, lacks_text}
use Rattle.item_lines.proofs.ItemReading.{item_data_same, item_is_numbered, end_is_not, end_data_same}

-- ---- the number of an item

act_renumbered : (o : Option PlainAddress) (n m moment : ℕ) (held line : Data) → m < 2 ^ 64
    → MembersHaveShortNumbers (addressed o (act_members n moment held line)) → MembersHaveShortNumbers (addressed o (act_members m moment held line))
act_renumbered None n m moment held line small h = (small, h.1)
act_renumbered (Some url) n m moment held line small h = (h.0, (small, h.1.1))

pub renumbered : (n m : ℕ) → m < 2 ^ 64 → (i : AgentItem) → HasShortNumbers (item_data n i) → HasShortNumbers (item_data m i)
renumbered n m small (Restarts moment acknowledged kept) h = (h.0, (h.1.0, (small, h.1.1.1)))
renumbered n m small (Happens entry) h = at_event (held_data entry.held) entry.event.event h
  where
    at_event : (held : Data) (e : SiteEvent) → MembersHaveShortNumbers (event_members n entry.event.moment held e) → MembersHaveShortNumbers (event_members m entry.event.moment held e)
    at_event held (Acts at action) h = act_renumbered (facts_of action).address n m entry.event.moment held (line_data at action) small h
    at_event held (Arrives load tab url method same_site head) h = (h.0, (small, h.1.1))
    at_event held (Leaves tab) h = (small, h.1)
    at_event held (Copies from to) h = (small, h.1)
    at_event held (Closes tab) h = (small, h.1)
    at_event held Evicts h = (small, h.1)

-- ---- lines

-- two texts that begin with the lines of two values begin with the same value
values_same : (d e : Data) (rest more : List ℕ) → HasShortNumbers d → HasShortNumbers e → (compact_text d ++ 10 ∷ []) ++ rest ≡ (compact_text e ++ 10 ∷ []) ++ more → (d ≡ e) × (rest ≡ more)
values_same d e rest more short_d short_e same =
    let lines = sym (append_assoc (compact_text d) (10 ∷ []) rest) ∙ same ∙ append_assoc (compact_text e) (10 ∷ []) more in
    let both = first_line (compact_text d) (compact_text e) rest more (lacks_text d short_d) (lacks_text e short_e) lines in
    (compact_same d e short_d short_e both.0, both.1)

line_same : (d e : Data) → HasShortNumbers d → HasShortNumbers e → compact_text d ++ 10 ∷ [] ≡ compact_text e ++ 10 ∷ [] → d ≡ e
line_same d e short_d short_e same = (values_same d e [] [] short_d short_e (ap (λ t. t ++ []) same)).0

pub items_differ : ItemsDifferAsTheirLines
items_differ number a b small range_a range_b =
    let short_a = renumbered 0 number small a range_a in
    let short_b = renumbered 0 number small b range_b in
    (λ same. item_data_same number a b (line_same (item_data number a) (item_data number b) short_a short_b same), λ same. ap (item_text number) same)

end_same : (a b : AgentItem) → IsEnd a → IsEnd b → end_data a ≡ end_data b → a ≡ b
end_same (Happens entry) b is_a is_b same = absurd is_a
end_same (Restarts m a k) (Happens entry) is_a is_b same = absurd is_b
end_same (Restarts m a k) (Restarts n b l) is_a is_b same = end_data_same m a k n b l same

short_end : (a : AgentItem) → IsEnd a → HasShortNumbers (end_data a)
short_end (Happens entry) is = absurd is
short_end (Restarts m a k) is = is

pub ends_differ : EndsDifferAsTheirLines
ends_differ a b is_a is_b =
    (λ same. end_same a b is_a is_b (line_same (end_data a) (end_data b) (short_end a is_a) (short_end b is_b) same), λ same. ap end_text same)

-- ---- scripts

-- the line of an item is not that of an end
not_the_end : (n : ℕ) (i e : AgentItem) → item_data n i ≡ end_data e → ⊥
not_the_end n i e same = true≢false (sym (item_is_numbered n i) ∙ ap (λ d. is_some (get (codes "entry") d)) same ∙ end_is_not e)

scripts_same : (n : ℕ) (one other : List AgentItem) (end last : AgentItem) → n + length one ≤ 2 ^ 64 → n + length other ≤ 2 ^ 64
    → All IsInRange one → All IsInRange other → IsEnd end → IsEnd last
    → items_text n one ++ end_text end ≡ items_text n other ++ end_text last → (one ≡ other) × (end ≡ last)
unfolding items_text
scripts_same n [] [] end last few many ranges others is_end is_last same = (refl, (ends_differ end last is_end is_last).0 same)
scripts_same n [] (b ∷ other) end last few many ranges others is_end is_last same =
    let short = renumbered 0 n (omega arith) b (All-head IsInRange b other others) in
    absurd (not_the_end n b end (sym (values_same (end_data end) (item_data n b) [] (items_text (n + 1) other ++ end_text last) (short_end end is_end) short (append-nil (end_text end) ∙ same ∙ append_assoc (item_text n b) (items_text (n + 1) other) (end_text last))).0))
scripts_same n (a ∷ one) [] end last few many ranges others is_end is_last same =
    let short = renumbered 0 n (omega arith) a (All-head IsInRange a one ranges) in
    absurd (not_the_end n a last (values_same (item_data n a) (end_data last) (items_text (n + 1) one ++ end_text end) [] short (short_end last is_last)
    (sym (append_assoc (item_text n a) (items_text (n + 1) one) (end_text end)) ∙ same ∙ sym (append-nil (end_text last)))).0)
scripts_same n (a ∷ one) (b ∷ other) end last few many ranges others is_end is_last same =
    let short_a = renumbered 0 n (omega arith) a (All-head IsInRange a one ranges) in
    let short_b = renumbered 0 n (omega arith) b (All-head IsInRange b other others) in
    let both = values_same (item_data n a) (item_data n b) (items_text (n + 1) one ++ end_text end) (items_text (n + 1) other ++ end_text last) short_a short_b
    (sym (append_assoc (item_text n a) (items_text (n + 1) one) (end_text end)) ∙ same ∙ append_assoc (item_text n b) (items_text (n + 1) other) (end_text last)) in
    let later = scripts_same (n + 1) one other end last (omega arith) (omega arith) (All-tail IsInRange a one ranges) (All-tail IsInRange b other others) is_end is_last both.1 in
    (ap₂ (λ i is. i ∷ is) (item_data_same n a b both.0) later.0, later.1)

pub scripts_differ : ScriptsDifferAsTheirTexts
scripts_differ one other end last few many ranges others is_end is_last =
    (λ same. scripts_same 0 one other end last (omega (arith, few)) (omega (arith, many)) ranges others is_end is_last same, λ same. ap₂ script_text same.0 same.1)
