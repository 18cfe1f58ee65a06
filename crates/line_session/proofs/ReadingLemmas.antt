-- What follows of a line that was read.
use Rattle.std.proofs.Common.{◌≡◌, ℕ, Bool, true, false, not, List, Option, Some, None, Result, Ok, Err, length, refl, ap}
use Rattle.std.proofs.lemmas.Bool.{ltb-false}
use Rattle.std.specs.Prelude.{if◌then◌else◌, nat_lt}
use Rattle.std.specs.Str.{is_utf8}
use Rattle.serde_json.specs.Read.{read}
use Rattle.script_actions.specs.Action.{PlainLine, PlainStep}
use Rattle.script_lines.specs.Fields.{then_ok}
use Rattle.script_lines.specs.Grammar.{data_of_bytes, is_blank, json_of, line_limit, numbered}
use Rattle.script_lines.specs.Script.{LineTooLong, NotUtf8, PlainFault}
use Rattle.script_lines.specs.Steps.{step_of_data}
use Rattle.line_session.specs.Asked.{IsReadAs, asked_by, steps_in}
use Rattle.line_session.specs.Refusals.{TakesMemory}

none_some : {A : Type 0} (a : A) → ◌≡◌ {A = Result (Option A) PlainFault} (Ok None) (Ok (Some a)) → ⊥
none_some a e = cc

err_ok : {A : Type 0} (why : PlainFault) (a : A) → ◌≡◌ {A = Result A PlainFault} (Err why) (Ok a) → ⊥
err_ok why a e = cc

-- what is read was not blank
not_blank : {A : Type 0} (blank : Bool) (rest : Result (Option A) PlainFault) (a : A)
    → (if blank then Ok None else rest) ≡ Ok (Some a) → (blank ≡ false) × (rest ≡ Ok (Some a))
not_blank true rest a is = absurd (none_some a is)
not_blank false rest a is = (refl, is)

-- and its first part was read
then_read : {A B : Type 0} (first : Result A PlainFault) (next : A → Result B PlainFault) (b : B)
    → then_ok first next ≡ Ok b → (a : A) × (first ≡ Ok a)
then_read (Ok a) next b is = (a, refl)
then_read (Err why) next b is = absurd (err_ok why b is)

-- what has a value is a text
has_text : {A : Type 0} (long text : Bool) (why other : PlainFault) (rest : Result A PlainFault) (a : A)
    → (if long then Err why else (if not text then Err other else rest)) ≡ Ok a → (long ≡ false) × (text ≡ true)
has_text true text why other rest a is = absurd (err_ok why a is)
has_text false true why other rest a is = (refl, refl)
has_text false false why other rest a is = absurd (err_ok other a is)

-- a line that asks for a step was read over memory
pub read_takes : (bytes : List ℕ) (line : PlainLine) → IsReadAs bytes (Some line) → TakesMemory bytes
read_takes bytes line was =
    let step : Result PlainStep PlainFault = then_ok (data_of_bytes 1 bytes) (step_of_data 1) in
    let some = not_blank (is_blank bytes) (then_ok step (λ s. Ok (Some (numbered 1 s)))) line was.read in
    let stepped = then_read step (λ s. Ok (Some (numbered 1 s))) (Some line) some.1 in
    let valued = then_read (data_of_bytes 1 bytes) (step_of_data 1) stepped.0 stepped.1 in
    let text = has_text (nat_lt line_limit (length bytes)) (is_utf8 bytes) (LineTooLong 1) (NotUtf8 1)
    (json_of 1 (read bytes)) valued.0 valued.1 in
    record {
      one = was.one;
      some = some.0;
      short = ltb-false line_limit (length bytes) text.0;
      text = text.1;
    }

-- a line that was read asks for its step
pub asked_as : (bytes : List ℕ) (line : Option PlainLine) → IsReadAs bytes line → asked_by bytes ≡ steps_in (Ok line)
asked_as bytes line was = ap steps_in was.read
