-- What is shown of two scripts is equal exactly where their local scripts are.
use Rattle.std.proofs.Common.{[], ◌∷◌, ◌++◌, sym, ap, ◌∙◌}
use Rattle.item_lines.specs.Laws.{ScriptsDifferAsTheirTexts}
use Rattle.script_courses.specs.Twins.{end_of, entries_of, script_in}
use Rattle.script_courses.proofs.TwinLemmas.{end_is, entries_are, same_one, same_script}
use Rattle.shown_scripts.specs.Laws.{ShowsAsGiven}

pub shows_as_given : ScriptsDifferAsTheirTexts → ShowsAsGiven
shows_as_given law at first second one other here there =
    let items = (script_in at first).script.items in
    let others = (script_in at second).script.items in
    let same = law here.entries there.entries here.end there.end here.lines.few there.lines.few
    here.lines.entries_fit there.lines.entries_fit here.lines.end_fits there.lines.end_fits in (
      λ is. let both = same.0 (sym here.lines.is ∙ is ∙ there.lines.is) in
          same_script at first second (here.given ∙ (λ i. both.0 i ++ both.1 i ∷ []) ∙ sym there.given),
      λ is. here.lines.is
          ∙ same.1 (
            sym (entries_are items here.entries here.end here.given) ∙ ap (λ given. entries_of given.script.items) is
                ∙ entries_are others there.entries there.end there.given,
            same_one here.end there.end (sym (end_is items here.entries here.end here.given)
                ∙ ap (λ given. end_of given.script.items) is ∙ end_is others there.entries there.end there.given),
          )
          ∙ sym there.lines.is,
    )
