-- Lines that are shown, so that a wrong rule in the specs does not check.
use Rattle.std.proofs.Common.{◌≡◌, refl, [], ◌∷◌, Some, None}
use Rattle.std.specs.Prelude.{codes}
use Rattle.std.specs.Fmt.{digits}
use Rattle.item_lines.specs.Item.{end_text, item_text}
use Rattle.local_scripts.specs.Items.{AgentItem}
use Rattle.shown_scripts.specs.Differ.{differ_line}
use Rattle.shown_scripts.specs.Lines.{line_at}

given_by_two_lines : differ_line 16 (Some 24) (Some 7) ≡ codes "{\"differ\":16,\"first\":24,\"second\":7,\"twin\":\"local\"}\n"
unfolding digits
given_by_two_lines = refl

given_by_the_second_alone : differ_line 0 None (Some 4294967295) ≡ codes "{\"differ\":0,\"first\":null,\"second\":4294967295,\"twin\":\"local\"}\n"
unfolding digits
given_by_the_second_alone = refl

ends_alone : differ_line 2 None None ≡ codes "{\"differ\":2,\"first\":null,\"second\":null,\"twin\":\"local\"}\n"
unfolding digits
ends_alone = refl

last_entry : (x y end : AgentItem) → line_at 1 (x ∷ y ∷ []) end ≡ item_text 1 y
last_entry x y end = refl

past_the_last_entry : (x y end : AgentItem) → line_at 2 (x ∷ y ∷ []) end ≡ end_text end
past_the_last_entry x y end = refl
