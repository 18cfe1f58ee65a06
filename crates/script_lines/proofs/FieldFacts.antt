-- Values of the kinds of fields, so that a wrong rule in the specs does not check.
use Rattle.std.proofs.Common.{◌≡◌, refl, List, ℕ, Option, Some, None, Result, Ok, Err, true, false, option_map}
use Rattle.std.specs.Prelude.{codes}
use Rattle.serde_json.proofs.OnLiterals.{serde_json_on_literals}
use Rattle.serde_json.specs.Read.{read}
use Rattle.url.proofs.OnLiterals.{url_on_literals}
use Rattle.storage_events.specs.declared.event.AreaKind.TheVariants.{Local, Session}
use Rattle.script_actions.specs.declared.words.Method.TheVariants.{Get, Patch}
use Rattle.script_actions.specs.declared.words.Prompt.TheVariants.{Deny}
use Rattle.script_lines.specs.Script.{PlainFault, BadField}
use Rattle.script_lines.specs.Fields.{Field, Meaning, field_of, required, defaulted, whole}
use Rattle.script_lines.specs.Fields.{truth, site_name, method_name, area_name}
use Rattle.script_lines.specs.Fields.{loader, navigator, consent, optional}

-- what the member `a` of a line is
abbrev member : (field : Field) → List ℕ → Option (Result (Meaning field.kind) PlainFault)
member field line = option_map (field_of 1 field) (read line)

abbrev bad : {A : Type 0} → Option (Result A PlainFault)
bad = Some (Err (BadField 1 (codes "a")))

last_frame : member (defaulted (codes "a") (whole 0 255) 7) (codes "{\"a\":255}") ≡ Some (Ok 255)
unfolding serde_json_on_literals
last_frame = refl

past_the_last_frame : member (defaulted (codes "a") (whole 0 255) 7) (codes "{\"a\":256}") ≡ bad
unfolding serde_json_on_literals
past_the_last_frame = refl

absent_frame : member (defaulted (codes "a") (whole 0 255) 7) (codes "{}") ≡ Some (Ok 7)
unfolding serde_json_on_literals
absent_frame = refl

null_frame : member (defaulted (codes "a") (whole 0 255) 7) (codes "{\"a\":null}") ≡ bad
unfolding serde_json_on_literals
null_frame = refl

minus_zero : member (defaulted (codes "a") (whole 0 255) 7) (codes "{\"a\":-0}") ≡ bad
unfolding serde_json_on_literals
minus_zero = refl

with_exponent : member (defaulted (codes "a") (whole 0 255) 7) (codes "{\"a\":1e0}") ≡ bad
unfolding serde_json_on_literals
with_exponent = refl

absent_number : member (required (codes "a") (whole 0 255)) (codes "{}") ≡ bad
unfolding serde_json_on_literals
absent_number = refl

absent_opener : member (defaulted (codes "a") (optional (whole 1 65535)) None) (codes "{}") ≡ Some (Ok None)
unfolding serde_json_on_literals
absent_opener = refl

an_opener : member (defaulted (codes "a") (optional (whole 1 65535)) None) (codes "{\"a\":1}") ≡ Some (Ok (Some 1))
unfolding serde_json_on_literals
an_opener = refl

null_opener : member (defaulted (codes "a") (optional (whole 1 65535)) None) (codes "{\"a\":null}") ≡ bad
unfolding serde_json_on_literals
null_opener = refl

truth_value : member (defaulted (codes "a") truth false) (codes "{\"a\":true}") ≡ Some (Ok true)
unfolding serde_json_on_literals
truth_value = refl

truth_is_no_number : member (defaulted (codes "a") truth false) (codes "{\"a\":1}") ≡ bad
unfolding serde_json_on_literals
truth_is_no_number = refl

last_method : member (defaulted (codes "a") method_name Get) (codes "{\"a\":\"PATCH\"}") ≡ Some (Ok Patch)
unfolding serde_json_on_literals
last_method = refl

method_in_lower_case : member (defaulted (codes "a") method_name Get) (codes "{\"a\":\"patch\"}") ≡ bad
unfolding serde_json_on_literals
method_in_lower_case = refl

absent_method : member (defaulted (codes "a") method_name Get) (codes "{}") ≡ Some (Ok Get)
unfolding serde_json_on_literals
absent_method = refl

session_area : member (defaulted (codes "a") area_name Local) (codes "{\"a\":\"session\"}") ≡ Some (Ok Session)
unfolding serde_json_on_literals
session_area = refl

by_page : member (defaulted (codes "a") loader false) (codes "{\"a\":\"page\"}") ≡ Some (Ok true)
unfolding serde_json_on_literals
by_page = refl

by_self : member (defaulted (codes "a") navigator false) (codes "{\"a\":\"self\"}") ≡ Some (Ok true)
unfolding serde_json_on_literals
by_self = refl

by_page_is_no_navigator : member (defaulted (codes "a") navigator false) (codes "{\"a\":\"page\"}") ≡ bad
unfolding serde_json_on_literals
by_page_is_no_navigator = refl

consent_is_denied : member (required (codes "a") consent) (codes "{\"a\":\"deny\"}") ≡ Some (Ok Deny)
unfolding serde_json_on_literals
consent_is_denied = refl

consent_is_not_dismissed : member (required (codes "a") consent) (codes "{\"a\":\"dismiss\"}") ≡ bad
unfolding serde_json_on_literals
consent_is_not_dismissed = refl

a_site : member (required (codes "a") site_name) (codes "{\"a\":\"https://a.test\"}") ≡ Some (Ok (record { https = true; host = codes "a.test" }))
unfolding serde_json_on_literals url_on_literals
a_site = refl

address_is_no_site : member (required (codes "a") site_name) (codes "{\"a\":\"https://a.test/\"}") ≡ bad
unfolding serde_json_on_literals url_on_literals
address_is_no_site = refl
