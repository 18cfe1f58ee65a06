-- Lines that give cuts, so that a wrong rule in the specs does not check.
use Rattle.std.proofs.Common.{◌≡◌, refl, ap, ◌∙◌, length, List, ℕ, true, false, [], ◌∷◌, ◌&&◌, Some, None, Result, Ok, Err}
use Rattle.std.specs.Prelude.{codes, nat_le}
use Rattle.std.proofs.lemmas.Bool.{cond-true, cond-false}
use Rattle.std.specs.Str.{is_utf8, chars}
use Rattle.serde_json.proofs.OnLiterals.{serde_json_on_literals}
use Rattle.serde_json.specs.Read.{read}
use Rattle.disk_model.specs.declared.schedule.Cut.{Cut}
use Rattle.unwinding.specs.Admissible.{Reopens}
use Rattle.script_lines.specs.Script.{PlainScript, PlainFault, BadField, UnknownAction}
use Rattle.script_lines.specs.Cuts.{in_order, rise}
use Rattle.script_lines.specs.Fields.{then_ok}
use Rattle.script_lines.specs.Items.{each_of}
use Rattle.script_lines.specs.Actions.{table}
use Rattle.script_lines.specs.Grammar.{begun_by_data, json_of, lines_from, lines_of, script_from}

-- what a script of one line of valid UTF-8 is, where cuts are allowed
abbrev first : List ℕ → Result PlainScript PlainFault
first text = then_ok (json_of 1 (read text)) (begun_by_data true 1)

-- a script of these cuts and no lines
abbrev with_cuts : List Cut → Result PlainScript PlainFault
with_cuts cuts = Ok (record { cuts = cuts; lines = [] })

abbrev cut : ℕ → ℕ → Cut
cut call pick = record { call = call; pick = pick }

abbrev bad : Result PlainScript PlainFault
bad = Err (BadField 1 (codes "cuts"))

no_cut : first (codes "{\"do\":\"disk\",\"cuts\":[]}") ≡ with_cuts []
unfolding serde_json_on_literals each_of
no_cut = refl

two_cuts : first (codes "{\"do\":\"disk\",\"cuts\":[[1,0],[3,3]]}") ≡ with_cuts (cut 1 0 ∷ cut 3 3 ∷ [])
unfolding serde_json_on_literals each_of
two_cuts = refl

last_call : first (codes "{\"do\":\"disk\",\"cuts\":[[18446744073709551615,1]]}") ≡ with_cuts (cut 18446744073709551615 1 ∷ [])
unfolding serde_json_on_literals each_of
last_call = refl

past_the_last_call : first (codes "{\"do\":\"disk\",\"cuts\":[[18446744073709551616,1]]}") ≡ bad
unfolding serde_json_on_literals each_of
past_the_last_call = refl

call_zero : first (codes "{\"do\":\"disk\",\"cuts\":[[0,0]]}") ≡ bad
unfolding serde_json_on_literals each_of
call_zero = refl

equal_calls : first (codes "{\"do\":\"disk\",\"cuts\":[[1,0],[1,0]]}") ≡ bad
unfolding serde_json_on_literals each_of
equal_calls = refl

calls_that_fall : first (codes "{\"do\":\"disk\",\"cuts\":[[1,0],[3,0],[2,0]]}") ≡ bad
unfolding serde_json_on_literals each_of
calls_that_fall = refl

pick_of_4 : first (codes "{\"do\":\"disk\",\"cuts\":[[1,4]]}") ≡ bad
unfolding serde_json_on_literals each_of
pick_of_4 = refl

call_with_point : first (codes "{\"do\":\"disk\",\"cuts\":[[1.0,0]]}") ≡ bad
unfolding serde_json_on_literals each_of
call_with_point = refl

pick_of_minus_zero : first (codes "{\"do\":\"disk\",\"cuts\":[[1,-0]]}") ≡ bad
unfolding serde_json_on_literals each_of
pick_of_minus_zero = refl

pair_of_one : first (codes "{\"do\":\"disk\",\"cuts\":[[1]]}") ≡ bad
unfolding serde_json_on_literals each_of
pair_of_one = refl

pair_of_three : first (codes "{\"do\":\"disk\",\"cuts\":[[1,0,0]]}") ≡ bad
unfolding serde_json_on_literals each_of
pair_of_three = refl

cuts_of_texts : first (codes "{\"do\":\"disk\",\"cuts\":[[\"1\",\"0\"]]}") ≡ bad
unfolding serde_json_on_literals each_of
cuts_of_texts = refl

cuts_of_no_list : first (codes "{\"do\":\"disk\",\"cuts\":{\"1\":0}}") ≡ bad
unfolding serde_json_on_literals
cuts_of_no_list = refl

absent : first (codes "{\"do\":\"disk\"}") ≡ bad
unfolding serde_json_on_literals
absent = refl

-- the field comes before a member that no field has
field_first : first (codes "{\"do\":\"disk\",\"a\":0,\"cuts\":[[0,0]]}") ≡ bad
unfolding serde_json_on_literals each_of
field_first = refl

others_later : first (codes "{\"do\":\"disk\",\"a\":0,\"cuts\":[]}") ≡ Err (BadField 1 (codes "a"))
unfolding serde_json_on_literals each_of
others_later = refl

-- where no cuts are allowed the field is bad, whatever it is
none_allowed : then_ok (json_of 1 (read (codes "{\"do\":\"disk\",\"a\":0}"))) (begun_by_data false 1) ≡ bad
unfolding serde_json_on_literals
none_allowed = refl

-- a line that gives cuts is no line of the script, and is counted, as blank ones before it are
cuts_and_lines : script_from true 1 (lines_of (codes "\n{\"do\":\"disk\",\"cuts\":[[2,1]]}\n{\"do\":\"restart\"}")) ≡ Ok (record { cuts = cut 2 1 ∷ []; lines = record { number = 3; step = Reopens } ∷ [] })
unfolding script_from lines_from is_utf8 chars table serde_json_on_literals each_of
cuts_and_lines = refl

-- behind the first line that is not blank no line gives cuts
later_disk : script_from true 1 (lines_of (codes "{\"do\":\"restart\"}\n{\"do\":\"disk\",\"cuts\":[]}")) ≡ Err (UnknownAction 2)
unfolding script_from lines_from is_utf8 chars table serde_json_on_literals
later_disk = refl

-- at the limit of cuts, and one past it
cuts_of_64 : (cuts : List Cut) → length cuts ≡ 64 → rise 0 cuts ≡ true → in_order cuts ≡ Some cuts
cuts_of_64 cuts many rises = cond-true _ _ _ (ap (λ n. nat_le n 64 && rise 0 cuts) many ∙ rises)

cuts_of_65 : (cuts : List Cut) → length cuts ≡ 65 → in_order cuts ≡ None
cuts_of_65 cuts many = cond-false _ _ _ (ap (λ n. nat_le n 64 && rise 0 cuts) many)
