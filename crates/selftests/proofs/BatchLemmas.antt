-- A history that ended up is one in batches of one line, too, where no line reopens.
use Rattle.std.proofs.Common.{◌≡◌, ℕ, ◌||◌, Bool, true, false, List, [], ◌∷◌, ◌++◌, map, refl, ap, sym, ◌∙◌}
use Rattle.std.specs.List.{list_any}
use Rattle.std.proofs.Math.Bool.{or-true}
use Rattle.std.proofs.lemmas.Bool.{false≢true}
use Rattle.std.proofs.lemmas.List.Folds.{list_any-append}
use Rattle.unwinding.specs.Admissible.{Acts, History, Reopens, Stretch, closed_steps, stretch_steps}
use Rattle.suffix_list.specs.Suffix.{Rule}
use Rattle.script_actions.specs.Action.{PlainAction, PlainStep}
use Rattle.durable_model.specs.Histories.{AgentOpening}
use Rattle.printed_model.specs.Histories.{EndsUp, IsHistoryOf}

abbrev reopens : PlainStep → Bool
reopens (Acts action) = false
reopens Reopens = true

none_reopens : (actions : List PlainAction) → list_any reopens (map Acts actions) ≡ false
none_reopens [] = refl
none_reopens (action ∷ actions) = none_reopens actions

one_reopens : (front between end : List PlainStep) → list_any reopens (((front ++ Reopens ∷ []) ++ between) ++ end) ≡ true
one_reopens front between end =
    list_any-append reopens ((front ++ Reopens ∷ []) ++ between) end
    ∙ ap (λ b. b || list_any reopens end)
    (list_any-append reopens (front ++ Reopens ∷ []) between
    ∙ ap (λ b. b || list_any reopens between) (list_any-append reopens front (Reopens ∷ []) ∙ or-true (list_any reopens front)))

module _ (rules : List Rule) (batch : ℕ) (x : AgentOpening) (actions : List PlainAction) where
  by_parts : (closed : List (Stretch PlainAction)) (committed : Bool) (end : Stretch PlainAction)
      → IsHistoryOf rules batch x (Unit {0}) (map Acts actions)
      (record { closed = closed; open_end = end; committed = committed })
      → EndsUp (record { closed = closed; open_end = end; committed = committed })
      → IsHistoryOf rules 1 x (Unit {0}) (map Acts actions) (record { closed = closed; open_end = end; committed = committed })
  by_parts [] true end is up = record { admissible = (tt, is.admissible.1); lines = is.lines; quiet = is.quiet }
  by_parts [] false end is up = absurd (false≢true up.1)
  by_parts (s ∷ ss) committed end is up =
      absurd (false≢true (sym (none_reopens actions) ∙ ap (list_any reopens) (sym is.lines)
      ∙ one_reopens (stretch_steps s) (closed_steps ss) (stretch_steps end)))

  pub in_batches_of_one : (history : History PlainAction)
      → IsHistoryOf rules batch x (Unit {0}) (map Acts actions) history → EndsUp history
      → IsHistoryOf rules 1 x (Unit {0}) (map Acts actions) history
  in_batches_of_one history is up = by_parts history.closed history.committed history.open_end is up
