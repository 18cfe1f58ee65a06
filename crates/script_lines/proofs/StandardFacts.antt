-- Values of the script format, so that a wrong rule in the specs does not check.
use Rattle.std.proofs.Common.{◌≡◌, ◌∙◌, refl, ap, length, ℕ, List, [], ◌∷◌}
use Rattle.std.proofs.Common.{Bool, None, Result, Ok, Err, true, false}
use Rattle.std.specs.Prelude.{codes, nat_lt, not}
use Rattle.std.proofs.lemmas.Bool.{cond-true, cond-false}
use Rattle.std.specs.Str.{is_utf8, chars}
use Rattle.url.proofs.OnLiterals.{url_on_literals}
use Rattle.serde_json.proofs.OnLiterals.{serde_json_on_literals}
use Rattle.serde_json.specs.Read.{read}
use Rattle.script_lines.specs.Script.{PlainFault, NotJson}
use Rattle.script_actions.specs.Action.{PlainStep, Tick, Open, Set, Get}
use Rattle.unwinding.specs.Admissible.{Acts}
use Rattle.script_lines.specs.Script.{UnknownAction, BadField, LineTooLong, TooLong, NotUtf8}
use Rattle.script_lines.specs.Fields.{then_ok}
use Rattle.script_lines.specs.Actions.{table}
use Rattle.script_lines.specs.Rows.{acts}
use Rattle.storage_events.specs.declared.event.AreaKind.TheVariants.{Local}
use Rattle.script_actions.specs.declared.words.Method.TheVariants as method
use Rattle.script_lines.specs.Steps.{step_of_data}
use Rattle.script_lines.specs.Grammar.{json_of, data_of_bytes, lines_from, line_of_bytes, lines_of}
use Rattle.script_lines.specs.Grammar.{script_from, script_of_bytes}

-- what a line of valid UTF-8 reads as, with the number 1
abbrev line : List ℕ → Result PlainStep PlainFault
line text = then_ok (json_of 1 (read text)) (step_of_data 1)

opens : line (codes "{\"do\":\"open\",\"tab\":1,\"url\":\"https://a.test\"}") ≡ Ok (Acts (Open 1 (record {
  text = codes "https://a.test/";
  https = true;
  ip = false;
  host = codes "a.test";
  port = 443;
  path = codes "/";
}) None false method.Get []))
unfolding table serde_json_on_literals url_on_literals
opens = refl

ticks : line (codes "{\"do\":\"tick\",\"s\":1000000000}") ≡ Ok (Acts (Tick 1000000000))
unfolding table serde_json_on_literals
ticks = refl

ticks_too_far : line (codes "{\"do\":\"tick\",\"s\":1000000001}") ≡ Err (BadField 1 (codes "s"))
unfolding table serde_json_on_literals
ticks_too_far = refl

-- members may stand in any order, and of two of one name the later counts
sets : line (codes "{\"value\":\"v\",\"key\":\"k\",\"tab\":1,\"do\":\"set\",\"tab\":65535}") ≡ Ok (acts 65535 0 (Set Local (codes "k") (codes "v")))
unfolding table serde_json_on_literals
sets = refl

gets : line (codes " {\"do\":\"get\",\"tab\":2,\"key\":\"\"}\r") ≡ Ok (acts 2 0 (Get Local []))
unfolding table serde_json_on_literals
gets = refl

tab_too_large : line (codes "{\"do\":\"get\",\"tab\":65536,\"key\":\"\"}") ≡ Err (BadField 1 (codes "tab"))
unfolding table serde_json_on_literals
tab_too_large = refl

tab_zero : line (codes "{\"do\":\"get\",\"tab\":0,\"key\":\"\"}") ≡ Err (BadField 1 (codes "tab"))
unfolding table serde_json_on_literals
tab_zero = refl

with_point : line (codes "{\"do\":\"get\",\"tab\":1.0,\"key\":\"\"}") ≡ Err (BadField 1 (codes "tab"))
unfolding table serde_json_on_literals
with_point = refl

-- the fields come in the order of their row, before any member that is not known
first_field : line (codes "{\"do\":\"open\",\"url\":\"ftp://a\",\"a\":0}") ≡ Err (BadField 1 (codes "tab"))
unfolding table serde_json_on_literals
first_field = refl

no_address : line (codes "{\"do\":\"open\",\"url\":\"ftp://a\",\"a\":0,\"tab\":1}") ≡ Err (BadField 1 (codes "url"))
unfolding table serde_json_on_literals url_on_literals
no_address = refl

-- members that are not known come in byte order
unknown_members : line (codes "{\"z\":0,\"do\":\"get\",\"tab\":1,\"key\":\"k\",\"a\":0}") ≡ Err (BadField 1 (codes "a"))
unfolding table serde_json_on_literals
unknown_members = refl

unknown_action : line (codes "{\"do\":\"tock\",\"a\":0}") ≡ Err (UnknownAction 1)
unfolding table serde_json_on_literals
unknown_action = refl

no_object : line (codes "[]") ≡ Err (BadField 1 (codes "do"))
unfolding table serde_json_on_literals
no_object = refl

do_is_no_text : line (codes "{\"do\":1}") ≡ Err (BadField 1 (codes "do"))
unfolding table serde_json_on_literals
do_is_no_text = refl

no_json : line (codes "{\"do\":\"get\"") ≡ Err (NotJson 1)
unfolding table serde_json_on_literals
no_json = refl

-- blank lines are skipped and counted
third_line : lines_from 1 (lines_of (codes "\n \t\r\nx\n")) ≡ Err (NotJson 3)
unfolding lines_from is_utf8 chars serde_json_on_literals
third_line = refl

not_utf8 : line_of_bytes 7 (0xFF ∷ []) ≡ Err (NotUtf8 7)
unfolding is_utf8 chars
not_utf8 = refl

-- one byte past the limit of a line, and at the limit
line_of_1048577 : (bytes : List ℕ) → length bytes ≡ 1048577 → data_of_bytes 1 bytes ≡ Err (LineTooLong 1)
line_of_1048577 bytes many = cond-true _ _ _ (ap (nat_lt 1048576) many)

line_of_1048576 : (bytes : List ℕ) → length bytes ≡ 1048576 → is_utf8 bytes ≡ false → data_of_bytes 1 bytes ≡ Err (NotUtf8 1)
line_of_1048576 bytes many bad = cond-false _ _ _ (ap (nat_lt 1048576) many) ∙ cond-true _ _ _ (ap not bad)

-- one byte past the limit of a script
script_of_16777217 : (cuts_allowed : Bool) (bytes : List ℕ) → length bytes ≡ 16777217 → script_of_bytes cuts_allowed bytes ≡ Err TooLong
script_of_16777217 cuts_allowed bytes many = cond-true _ _ _ (ap (nat_lt 16777216) many)

-- a script of no bytes has no lines
empty_script : script_of_bytes true [] ≡ Ok (record { cuts = []; lines = [] })
unfolding script_from
empty_script = refl
