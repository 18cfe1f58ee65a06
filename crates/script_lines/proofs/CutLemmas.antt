-- The cuts of a script rise from the first call on, and each has one of the four picks.
use Rattle.std.proofs.Common.{◌≡◌, refl, subst, ℕ, ◌+◌, ◌<◌, ◌≤◌, Bool, true, false, cond, ◌&&◌, List, [], ◌∷◌, length, arith}
use Rattle.std.proofs.Common.{Option, Some, None, option_and_then, Result, Ok, Err, IfOk, IfSome}
use Rattle.std.specs.Prelude.{codes, nat_le, nat_lt}
use Rattle.std.specs.List.{after_first, before_first, list_any}
use Rattle.std.proofs.lemmas.Bool.{and_parts, leb-true, ltb-true}
use Rattle.script_lines.specs.Flat.{pairs_data}
use Rattle.script_lines.specs.declared.pairs.Pair.{Pair}
use Rattle.serde_json.specs.Data.{Data, Items, no_items, item}
use Rattle.serde_json.specs.Find.{as_array, get}
use Rattle.disk_model.specs.Schedule.{AreFrom}
use Rattle.disk_model.specs.declared.schedule.Cut.{Cut}
use Rattle.script_lines.specs.Script.{PlainScript, PlainFault, NoDivider}
use Rattle.script_lines.specs.Plain.{Reads, script_of, scripts_of}
use Rattle.script_lines.specs.declared.script.Script.{Script}
use Rattle.script_lines.specs.declared.script.ScriptFault.{ScriptFault}
use Rattle.script_lines.specs.Cuts.{cut_by, cut_of_pair, cuts_of_value, in_order, most_cuts, rise}
use Rattle.script_lines.specs.Fields.{formed, given, then_ok}
use Rattle.script_lines.specs.Items.{all_there, each_of, two_of}
use Rattle.script_lines.specs.Words.{number_of, within}
use Rattle.script_lines.specs.Steps.{cuts_of_data, first_unknown, name_of, refused, step_of_data}
use Rattle.script_lines.specs.Grammar.{begun_by, data_of_bytes, is_blank, is_disk, lines_from}
use Rattle.script_lines.specs.Grammar.{script_from, with_lines}
use Rattle.script_lines.specs.TwoScripts.{both_scripts, is_divider, two_scripts}
use Rattle.script_actions.specs.Action.{PlainLine}

-- ---- cuts of a value

-- each cut has one of the four picks
abbrev Picks : List Cut → Type 0
Picks [] = Unit {0}
Picks (cut ∷ cuts) = (cut.pick < 4) × Picks cuts

below : (a b : ℕ) → nat_lt a b ≡ true → a + 1 ≤ b
below a b is = omega (arith, ltb-true a b is)

are_from : (last : ℕ) (cuts : List Cut) → rise last cuts ≡ true → Picks cuts → AreFrom (last + 1) cuts
are_from last [] rises picks = tt
are_from last (cut ∷ cuts) rises (pick, picks) =
    let both = and_parts (nat_lt last cut.call) (rise cut.call cuts) rises in
    (below last cut.call both.0, pick, are_from cut.call cuts both.1 picks)

pick_within : (n : ℕ) (b : Bool) → (nat_le 0 n && nat_le n 3) ≡ b → IfSome (cond b (Some n) None) (λ pick. pick < 4)
pick_within n true is = omega (arith, leb-true n 3 (and_parts (nat_le 0 n) (nat_le n 3) is).1)
pick_within n false is = tt

pick_of : (pick : Option ℕ) → IfSome (option_and_then (within 0 3) pick) (λ pick. pick < 4)
pick_of (Some n) = pick_within n (nat_le 0 n && nat_le n 3) refl
pick_of None = tt

cut_picks : (call pick : Option ℕ) → IfSome pick (λ pick. pick < 4) → IfSome (cut_by call pick) (λ cut. cut.pick < 4)
cut_picks (Some call) (Some pick) below = below
cut_picks (Some call) None below = tt
cut_picks None pick below = tt

pair_picks : (pair : Option (Data × Data)) → IfSome (option_and_then (λ (call, pick). cut_by (number_of call) (option_and_then (within 0 3) (number_of pick))) pair) (λ cut. cut.pick < 4)
pair_picks (Some (call, pick)) = cut_picks (number_of call) _ (pick_of (number_of pick))
pair_picks None = tt

there_picks : (first : Option Cut) (others : Option (List Cut)) → IfSome first (λ cut. cut.pick < 4) → IfSome others Picks → IfSome (all_there first others) Picks
there_picks (Some first) (Some others) one more = (one, more)
there_picks (Some first) None one more = tt
there_picks None others one more = tt

items_picks : (items : Items) → IfSome (each_of cut_of_pair items) Picks
unfolding each_of
items_picks no_items = tt
items_picks (item pair pairs) = there_picks (cut_of_pair pair) _ (pair_picks (two_of pair)) (items_picks pairs)

array_picks : (items : Option Items) → IfSome (option_and_then (each_of cut_of_pair) items) Picks
array_picks (Some items) = items_picks items
array_picks None = tt

kept : (b : Bool) (cuts : List Cut) → (b ≡ true → AreFrom 1 cuts) → IfSome (cond b (Some cuts) None) (AreFrom 1)
kept true cuts are = are refl
kept false cuts are = tt

order_from : (cuts : Option (List Cut)) → IfSome cuts Picks → IfSome (option_and_then in_order cuts) (AreFrom 1)
order_from (Some cuts) picks =
    kept (nat_le (length cuts) most_cuts && rise 0 cuts) cuts
    (λ both. are_from 0 cuts (and_parts (nat_le (length cuts) most_cuts) (rise 0 cuts) both).1 picks)
order_from None picks = tt

value_from : (value : Data) → IfSome (cuts_of_value value) (AreFrom 1)
value_from value = order_from _ (array_picks (as_array value))

-- ---- lists that are read in another way

-- no pairs are no cuts
pub cuts_of_no_texts : (pairs : List Pair) → length pairs ≡ 0 → cuts_of_value (pairs_data pairs) ≡ Some []
unfolding each_of
cuts_of_no_texts [] none = refl
cuts_of_no_texts (pair ∷ pairs) none = absurd (omega (arith, none))

-- pairs of texts are none of numbers
pub texts_are_no_cuts : (pairs : List Pair) → 0 < length pairs → cuts_of_value (pairs_data pairs) ≡ None
unfolding each_of
texts_are_no_cuts [] some = absurd (omega (arith, some))
texts_are_no_cuts (pair ∷ pairs) some = refl

-- ---- cuts of a script

formed_from : (number : ℕ) (name : List ℕ) (cuts : Option (List Cut)) → IfSome cuts (AreFrom 1) → IfOk (formed number name cuts) (AreFrom 1)
formed_from number name (Some cuts) are = are
formed_from number name None are = tt

member_from : (number : ℕ) (name : List ℕ) (value : Option Data) → IfOk (formed number name (given cuts_of_value None value)) (AreFrom 1)
member_from number name None = tt
member_from number name (Some value) = formed_from number name (cuts_of_value value) (value_from value)

-- the values of a row whose one field is a list of cuts
abbrev alone : List Cut → Result (List Cut × Unit {0}) PlainFault
alone cuts = Ok (cuts, tt)

row_from : (cuts : Result (List Cut) PlainFault) (others : Result (Unit {0}) PlainFault) → IfOk cuts (AreFrom 1)
    → IfOk (then_ok (then_ok cuts alone) (λ values. then_ok others (λ _. Ok values.0))) (AreFrom 1)
row_from (Ok cuts) (Ok _) are = are
row_from (Ok cuts) (Err why) are = tt
row_from (Err why) others are = tt

disk_from : (cuts_allowed : Bool) (number : ℕ) (line : Data) → IfOk (cuts_of_data cuts_allowed number line) (AreFrom 1)
disk_from true number line =
    row_from _ (refused number (first_unknown (codes "cuts" ∷ []) line)) (member_from number (codes "cuts") (get (codes "cuts") line))
disk_from false number line = tt

-- the cuts of a script are such
abbrev CutsAre : (List Cut → Type 0) → PlainScript → Type 0
CutsAre Such script = Such script.cuts

then_are : {A : Type 0} (Such : List Cut → Type 0) (first : Result A PlainFault) (next : A → Result PlainScript PlainFault) → ((value : A) → IfOk (next value) (CutsAre Such)) → IfOk (then_ok first next) (CutsAre Such)
then_are Such (Ok value) next later = later value
then_are Such (Err why) next later = tt

if_are : (Such : List Cut → Type 0) (b : Bool) (one other : Result PlainScript PlainFault) → IfOk one (CutsAre Such) → IfOk other (CutsAre Such) → IfOk (cond b one other) (CutsAre Such)
if_are Such true one other first second = first
if_are Such false one other first second = second

alone_are : (Such : List Cut → Type 0) (cuts : Result (List Cut) PlainFault) → IfOk cuts Such → IfOk (then_ok cuts (λ cuts. Ok (record { cuts = cuts; lines = [] }))) (CutsAre Such)
alone_are Such (Ok cuts) are = are
alone_are Such (Err why) are = tt

begun_are : (Such : List Cut → Type 0) (cuts_allowed : Bool) (number : ℕ) (line : List ℕ) → Such [] → ((value : Data) → IfOk (cuts_of_data cuts_allowed number value) Such) → IfOk (begun_by cuts_allowed number line) (CutsAre Such)
begun_are Such cuts_allowed number line none disk =
    then_are Such (data_of_bytes number line) _
    (λ value. if_are Such (is_disk (name_of value)) _ _
    (alone_are Such _ (disk value))
    (then_are Such (step_of_data number value) _ (λ step. none)))

lines_keep : (Such : List Cut → Type 0) (begun : Result PlainScript PlainFault) (later : Result (List PlainLine) PlainFault) → IfOk begun (CutsAre Such)
    → IfOk (then_ok begun (λ script. then_ok later (with_lines script))) (CutsAre Such)
lines_keep Such (Ok script) (Ok later) are = are
lines_keep Such (Ok script) (Err why) are = tt
lines_keep Such (Err why) later are = tt

lines_are : (Such : List Cut → Type 0) (cuts_allowed : Bool) (number : ℕ) (lines : List (List ℕ)) → Such [] → ((number : ℕ) (value : Data) → IfOk (cuts_of_data cuts_allowed number value) Such) → IfOk (script_from cuts_allowed number lines) (CutsAre Such)
unfolding script_from
lines_are Such cuts_allowed number [] none disk = none
lines_are Such cuts_allowed number (line ∷ lines) none disk =
    if_are Such (is_blank line) _ _ (lines_are Such cuts_allowed (number + 1) lines none disk)
    (lines_keep Such (begun_by cuts_allowed number line) (lines_from (number + 1) lines) (begun_are Such cuts_allowed number line none (disk number)))

-- the cuts of a script are those that a disk in memory takes
pub script_cuts : (cuts_allowed : Bool) (number : ℕ) (lines : List (List ℕ)) → IfOk (script_from cuts_allowed number lines) (λ script. AreFrom 1 script.cuts)
script_cuts cuts_allowed number lines = lines_are (AreFrom 1) cuts_allowed number lines tt (disk_from cuts_allowed)

-- the same of a script that was read
pub read_cuts : (cuts_allowed : Bool) (number : ℕ) (lines : List (List ℕ)) (result : Result Script ScriptFault) → Reads script_of (script_from cuts_allowed number lines) result → IfOk result (λ script. AreFrom 1 script.cuts.items)
read_cuts cuts_allowed number lines (Ok script) is = subst (λ r. IfOk r (λ script. AreFrom 1 script.cuts)) is (script_cuts cuts_allowed number lines)
read_cuts cuts_allowed number lines (Err why) is = tt

-- ---- cuts of two scripts

-- neither has a cut
abbrev HaveNone : PlainScript × PlainScript → Type 0
HaveNone scripts = (scripts.0.cuts ≡ []) × (scripts.1.cuts ≡ [])

have_none : (first second : Result PlainScript PlainFault) → IfOk first (λ script. script.cuts ≡ []) → IfOk second (λ script. script.cuts ≡ [])
    → IfOk (then_ok first (λ one. then_ok second (λ other. Ok (one, other)))) HaveNone
have_none (Ok one) (Ok other) first second = (first, second)
have_none (Ok one) (Err why) first second = tt
have_none (Err why) second first none = tt

no_cuts : (number : ℕ) (lines : List (List ℕ)) → IfOk (script_from false number lines) (λ script. script.cuts ≡ [])
no_cuts number lines = lines_are (λ cuts. cuts ≡ []) false number lines refl (λ number value. tt)

two_cuts : (lines : List (List ℕ)) → IfOk (two_scripts lines) HaveNone
two_cuts lines =
    let before = before_first is_divider lines in
    let behind = after_first is_divider lines in
    elim (list_any is_divider lines) as (λ b. IfOk (cond b (both_scripts before (length before + 2) behind) (Err NoDivider)) HaveNone) [
      | true ↦ have_none _ _ (no_cuts 1 before) (no_cuts (length before + 2) behind)
      | false ↦ tt
    ]

-- two scripts that were read have none
pub read_no_cuts : (lines : List (List ℕ)) (result : Result (Script × Script) ScriptFault) → Reads scripts_of (two_scripts lines) result → IfOk result (λ scripts. (scripts.0.cuts.items ≡ []) × (scripts.1.cuts.items ≡ []))
read_no_cuts lines (Ok scripts) is = subst (λ r. IfOk r HaveNone) is (two_cuts lines)
read_no_cuts lines (Err why) is = tt
