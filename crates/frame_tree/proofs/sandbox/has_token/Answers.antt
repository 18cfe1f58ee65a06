use Rattle.std.proofs.Common.{rules, tests}
use Rattle.std.specs.Char.{is_ascii_whitespace}
use Rattle.std.proofs.lemmas.Iterator.Search.{any_from_yields_List}
use Rattle.std.proofs.lemmas.Iterator.Splits.{YieldsList-from_slice_split}
use Rattle.case_tables.specs.Rows.{same_in_any_case}
use Rattle.frame_tree.proofs.sandbox.has_token.Goals as goal

pub returns : goal.returns
returns c =
    any_from_yields_List (same_in_any_case c.args.word.now) _ _ _ c.any.ensures.ran
    (YieldsList-from_slice_split _ is_ascii_whitespace c.args.text.now c.split.ensures.rest c.split.ensures.done c.split.ensures.closure
    (λ x b q k. search (rules, tests)))
    (λ x b q k. search (rules, tests))
