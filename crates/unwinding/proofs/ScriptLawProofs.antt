-- How little a local script holds, from the lemmas on machines.
use Rattle.std.proofs.Common.{[], refl}
use Rattle.unwinding.specs.Setting.{Setting}
use Rattle.unwinding.specs.ScriptLaws.{GivesByOwn, OthersLeftOut, HoldsOnlyChanged}
use Rattle.unwinding.proofs.OthersOut.{same_entries, step_alike, left_out}
use Rattle.unwinding.proofs.HoldsOnly.{none_holds}

module _ (x : Setting) where
  pub gives_by_own : GivesByOwn x
  gives_by_own =
      record {
        entries = λ g owed s member touched v w l alike within. same_entries x.machine x.IsSound owed.0 g owed.1 v w l alike s member touched touched (λ c of. refl) within;
        worlds = λ g owed v w l alike in_v in_w. step_alike x.machine x.IsSound owed.0 g owed.1 v w l alike in_v in_w;
      }

  pub others_left_out : OthersLeftOut x
  others_left_out g owed s member is_apart h w lines sound group = left_out x.machine x.IsSound owed.0 g owed.1 s member is_apart h w lines sound group

  pub holds_only_changed : HoldsOnlyChanged x
  holds_only_changed f s c home w lines leave = none_holds x.machine x.IsSound f s c home [] refl w lines leave
