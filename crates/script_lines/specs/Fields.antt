-- The fields of a line: what each member is to be, what it stands for, and its fault.
-- Source: the script format of docs/FORMATS.md. Addresses and sites are those of the crate
-- `origin_site`.
-- Our own choice: all else. A member of an optional field is absent or of the field's form, and
-- `null` is of no form. The form of a head comes before its names and values.
use Rattle.std.specs.Prelude.{ℕ, Bool, List, [], ◌∷◌, Option, Some, None}
use Rattle.std.specs.Prelude.{option_map, option_and_then, Result, Ok, Err, if◌then◌else◌}
use Rattle.std.specs.List.{list_all}
use Rattle.std.specs.Result.{result_ok}
use Rattle.serde_json.specs.Data.{Data}
use Rattle.serde_json.specs.Find.{get, as_bool, as_str}
use Rattle.origin_site.specs.Address.{PlainAddress, address_of}
use Rattle.origin_site.specs.Site.{PlainSite, site_of_text}
use Rattle.storage_events.specs.declared.event.AreaKind.{AreaKind}
use Rattle.script_lines.specs.Script.{PlainFault, BadField, BadHeader}
use Rattle.script_actions.specs.Action.{HeadField}
use Rattle.script_lines.specs.Words.{number_of, within, word_of, methods, areas, loaders}
use Rattle.script_lines.specs.Words.{navigators, answers, consents}
use Rattle.script_lines.specs.Heads.{head_of_value, is_header}
use Rattle.disk_model.specs.declared.schedule.Cut.{Cut}
use Rattle.script_lines.specs.Cuts.{cuts_of_value}
use Rattle.script_actions.specs.declared.words.Method.{Method}
use Rattle.script_actions.specs.declared.words.Prompt.{Prompt}

-- what goes on with a value, and leaves a fault
abbrev pub then_ok : {A B E : Type 0} → Result A E → (A → Result B E) → Result B E
then_ok (Ok value) next = next value
then_ok (Err why) next = Err why

-- ---- kinds

-- what a member is to be
pub data Kind : Type 0 where
  whole : (first last : ℕ) → Kind
  any_text : Kind
  address_text : Kind
  site_name : Kind
  truth : Kind
  method_name : Kind
  head_list : Kind
  area_name : Kind
  loader : Kind
  navigator : Kind
  prompt_answer : Kind
  consent : Kind
  cut_list : Kind
  optional : Kind → Kind

-- what a member of a kind stands for
abbrev pub Meaning : Kind → Type 0
Meaning (whole first last) = ℕ
Meaning any_text = List ℕ
Meaning address_text = PlainAddress
Meaning site_name = PlainSite
Meaning truth = Bool
Meaning method_name = Method
Meaning head_list = List HeadField
Meaning area_name = AreaKind
Meaning loader = Bool
Meaning navigator = Bool
Meaning prompt_answer = Prompt
Meaning consent = Prompt
Meaning cut_list = List Cut
Meaning (optional kind) = Option (Meaning kind)

-- what a value stands for as a member of a kind, and none where it is of another form
abbrev pub meaning : (kind : Kind) → Data → Option (Meaning kind)
meaning (whole first last) value = option_and_then (within first last) (number_of value)
meaning any_text value = as_str value
meaning address_text value = option_and_then (λ text. result_ok (address_of text)) (as_str value)
meaning site_name value = option_and_then (λ text. result_ok (site_of_text text)) (as_str value)
meaning truth value = as_bool value
meaning method_name value = word_of methods value
meaning head_list value = head_of_value value
meaning area_name value = word_of areas value
meaning loader value = word_of loaders value
meaning navigator value = word_of navigators value
meaning prompt_answer value = word_of answers value
meaning consent value = word_of consents value
meaning cut_list value = cuts_of_value value
meaning (optional kind) value = option_map Some (meaning kind value)

-- ---- fields

-- a member of a line: its name, its kind, and what stands where it is absent. Where nothing does,
-- the line has to have the member.
pub record Field : Type 0 where
  pub name : List ℕ
  pub kind : Kind
  pub absent : Option (Meaning kind)

-- a field that a line has to have
abbrev pub required : List ℕ → Kind → Field
required name kind = record { name = name; kind = kind; absent = None }

-- a field that stands for this value where it is absent
abbrev pub defaulted : List ℕ → (kind : Kind) → Meaning kind → Field
defaulted name kind value = record { name = name; kind = kind; absent = Some value }

-- what the members of these fields stand for, in their order
abbrev pub Meanings : List Field → Type 0
Meanings [] = Unit {0}
Meanings (field ∷ fields) = Meaning field.kind × Meanings fields

-- what a member stands for: what its value does, or where it is absent this, if it may be absent
abbrev pub given : {A : Type 0} → (Data → Option A) → Option A → Option Data → Option A
given of_value absent (Some value) = of_value value
given of_value absent None = absent

-- a value of the right form, or the fault of a member of another form
abbrev pub formed : {A : Type 0} → ℕ → List ℕ → Option A → Result A PlainFault
formed number name (Some value) = Ok value
formed number name None = Err (BadField number name)

-- a head, or the fault of one in which a name or a value is none of a header field
abbrev pub of_headers : ℕ → List HeadField → Result (List HeadField) PlainFault
of_headers number head = if list_all is_header head then Ok head else Err (BadHeader number)

-- a member of the right form; of a head the names and values are looked at besides
abbrev pub checked : (kind : Kind) → ℕ → Result (Meaning kind) PlainFault
    → Result (Meaning kind) PlainFault
checked head_list number head = then_ok head (of_headers number)
checked kind number value = value

-- what a line's member stands for, or its fault
abbrev pub field_of : ℕ → (field : Field) → Data → Result (Meaning field.kind) PlainFault
field_of number field line =
    checked field.kind number
    (formed number field.name (given (meaning field.kind) field.absent (get field.name line)))

-- what the members of these fields stand for, or the fault of the first that has one
abbrev pub fields_of : ℕ → (fields : List Field) → Data → Result (Meanings fields) PlainFault
fields_of number [] line = Ok tt
fields_of number (field ∷ fields) line =
    then_ok (field_of number field line) (λ value.
    then_ok (fields_of number fields line) (λ values. Ok (value, values)))
