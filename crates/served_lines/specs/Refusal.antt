-- The line that answers a line which was refused.
-- Source: the reply format of docs/FORMATS.md: one line of JSON, as the crate `serde_json` writes
-- it compactly, with its members in byte order of their names.
-- Our own choice: all of it. It names the line by its number and tells its first fault in the words
-- of a script's fault line. It belongs to no site.
use Rattle.std.specs.Prelude.{ℕ, List, [], ◌∷◌, ◌++◌, codes, Option, Some, None, string_bytes}
use Rattle.serde_json.specs.Data.{Data, null, number, unsigned, string, object}
use Rattle.serde_json.specs.Data.{no_members, member}
use Rattle.serde_json.specs.Written.{compact_text}
use Rattle.line_session.specs.declared.refused.LineRefused.{LineRefused}
use Rattle.line_session.specs.declared.refused.LineRefused.TheVariants.{TooLong, NotUtf8, NotJson}
use Rattle.line_session.specs.declared.refused.LineRefused.TheVariants.{UnknownAction, BadField}
use Rattle.line_session.specs.declared.refused.LineRefused.TheVariants.{BadHeader}

-- the words for a fault of a line, and none for what is no fault that a line between line feeds has
abbrev pub fault_words : LineRefused → Option (List ℕ)
fault_words TooLong = Some (codes "too long")
fault_words NotUtf8 = Some (codes "not utf-8")
fault_words NotJson = Some (codes "not json")
fault_words UnknownAction = Some (codes "unknown action")
fault_words (BadField name) = Some (codes "bad field " ++ string_bytes name)
fault_words BadHeader = Some (codes "bad header")
fault_words other = None

-- the refusal of the line of this number as JSON
abbrev pub refusal_data : (line : ℕ) → (words : List ℕ) → Data
refusal_data line words = object (
    member (codes "do") null (
    member (codes "fault") (string words) (
    member (codes "is") (string (codes "refused")) (
    member (codes "line") (number (unsigned line)) (
    member (codes "site") null no_members)))))

-- its line, with its line feed
abbrev pub refusal_text : (line : ℕ) → (words : List ℕ) → List ℕ
refusal_text line words = compact_text (refusal_data line words) ++ 10 ∷ []
