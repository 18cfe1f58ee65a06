-- Reading a suffix list: from its bytes to its rules, or to its first fault.
-- Source: Public Suffix List, "Specification" (lines, comments, rules); UTS 46, ToASCII, with the
-- flags of the URL Standard's "domain to ASCII" where beStrict is false, and its code points that
-- are forbidden in domains.
-- Our own choice: white space is tab, vertical tab, form feed, carriage return and space. `*` is a
-- rule's whole leftmost label or is refused. A rule after `!` has no `*` and at least two labels.
-- These conditions hold of a rule as it is written and of its ASCII form, so a full-width `*`
-- counts. A rule that breaks them is a fault, and so is a line that is not UTF-8, also one that is
-- a comment.
use Rattle.std.specs.Prelude.{ℕ, Bool, not, ◌==◌, ◌&&◌, ◌||◌, nat_eq, nat_le, nat_lt, if◌then◌else◌, List, [], ◌∷◌, length, take, drop, codes, bytes_eq, Option, Some, None, is_none, option_map, option_and_then, Result, Ok, Err}
use Rattle.std.specs.List.{list_all, list_any, join_with_byte, slice_split, before_first, starts_with, filter_map, enumerate_from}
use Rattle.std.specs.Str.{byte, is_utf8}
use Rattle.idna.specs.declared.deny_list.TheConstants.AsciiDenyList.{URL}
use Rattle.idna.specs.Uts46.{domain_to_ascii}
use Rattle.sha2.specs.Sha256.{sha256}
use Rattle.suffix_list.specs.declared.fault.ListFault.{ListFault}
use Rattle.suffix_list.specs.declared.fault.ListFault.TheVariants.{BadRule, TooLong, TooManyRules}
use Rattle.suffix_list.specs.Suffix.{Rule, labels_of}

-- the most bytes of a list
abbrev pub byte_limit : ℕ
byte_limit = 1048576

-- the most rules of a list
abbrev pub rule_limit : ℕ
rule_limit = 32768

-- the parts of a list between its line feeds; a last line feed has an empty line behind it
abbrev pub lines_of : List ℕ → List (List ℕ)
lines_of bytes = slice_split (λ b. b == 10) bytes

-- tab, vertical tab, form feed, carriage return or space
abbrev pub is_white : ℕ → Bool
is_white b = b == 9 || b == 11 || b == 12 || b == 13 || b == 32

-- what is read of a line: all before its first white space
abbrev pub text_of : List ℕ → List ℕ
text_of line = before_first is_white line

-- a text that holds no rule: it is empty or a comment
abbrev pub is_no_rule : List ℕ → Bool
is_no_rule text = length text == 0 || starts_with nat_eq text (codes "//")

-- the line is skipped
abbrev pub is_skipped : List ℕ → Bool
is_skipped line = is_no_rule (text_of line)

-- a label that stands for itself: it is not empty and has no `*`
abbrev pub is_label : List ℕ → Bool
is_label label = not (length label == 0) && not (list_any (λ b. b == byte "*") label)

-- the labels but for a leftmost `*`
abbrev pub beside_star : List (List ℕ) → List (List ℕ)
beside_star [] = []
beside_star (label ∷ labels) = if bytes_eq label (codes "*") then labels else label ∷ labels

-- the conditions on a rule: `*` alone as the leftmost label, and never after `!`
abbrev pub is_rule : Rule → Bool
is_rule rule =
    if rule.is_exception then list_all is_label rule.labels && nat_le 2 (length rule.labels)
    else list_all is_label (beside_star rule.labels)

-- the labels of these, which are brought to ASCII as one name; none are of none
abbrev pub ascii_name : List (List ℕ) → Option (List (List ℕ))
ascii_name [] = Some []
ascii_name (label ∷ labels) =
    option_map labels_of
    (domain_to_ascii URL (join_with_byte (byte ".") (label ∷ labels)))

-- the labels in ASCII: a leftmost `*` stays, and what stands beside it is one name
abbrev pub ascii_labels : List (List ℕ) → Option (List (List ℕ))
ascii_labels [] = Some []
ascii_labels (label ∷ labels) =
    if bytes_eq label (codes "*") then option_map (λ more. label ∷ more) (ascii_name labels)
    else ascii_name (label ∷ labels)

-- the rule, if it meets the conditions
abbrev pub if_rule : Rule → Option Rule
if_rule rule = if is_rule rule then Some rule else None

-- the rule in ASCII
abbrev pub ascii_rule : Rule → Option Rule
ascii_rule rule = option_map (λ labels. record rule { labels = labels }) (ascii_labels rule.labels)

-- a rule as it is written: an optional `!`, and then labels
abbrev pub written_rule : List ℕ → Rule
written_rule text =
    let is_exception = starts_with nat_eq text (codes "!") in
    record {
      is_exception = is_exception;
      labels = labels_of (if is_exception then drop 1 text else text);
    }

-- the rule that a text stands for, if it is none that is refused
abbrev pub rule_of : List ℕ → Option Rule
rule_of text = option_and_then if_rule (option_and_then ascii_rule (if_rule (written_rule text)))

-- the rule of a line, which a line that is skipped and a line that is at fault have not
abbrev pub rule_in : List ℕ → Option Rule
rule_in line = if not (is_utf8 line) || is_skipped line then None else rule_of (text_of line)

-- the line is at fault: it is not UTF-8, or is to hold a rule and holds none
abbrev pub is_bad : List ℕ → Bool
is_bad line =
    not (is_utf8 line) || (not (is_skipped line) && is_none (rule_of (text_of line)))

-- the rules of these lines, in their order
abbrev pub rules_in : List (List ℕ) → List Rule
rules_in lines = filter_map rule_in lines

-- the fault of one of the lines, given with its number from 1: it is bad, or the lines up to it
-- have too many rules
abbrev pub line_fault : List (List ℕ) → ℕ × List ℕ → Option ListFault
line_fault lines numbered =
    if is_bad numbered.1 then Some (BadRule numbered.0)
    else (if nat_lt rule_limit (length (rules_in (take numbered.0 lines)))
    then Some (TooManyRules numbered.0) else None)

-- the faults of all the lines, in the order of the lines
abbrev pub line_faults : List (List ℕ) → List ListFault
line_faults lines = filter_map (line_fault lines) (enumerate_from 1 lines)

-- the value, or the first of these faults
abbrev pub unless_fault : {T : Type 0} → T → List ListFault → Result T ListFault
unless_fault value [] = Ok value
unless_fault value (first ∷ later) = Err first

-- the rules of the lines, or the fault of the first line that has one
abbrev pub rules_of_lines : List (List ℕ) → Result (List Rule) ListFault
rules_of_lines lines = unless_fault (rules_in lines) (line_faults lines)

-- a list: its rules in their order, and the SHA-256 digest of its bytes
pub record RuleList : Type 0 where
  pub rules : List Rule
  pub digest : List ℕ

-- these rules, as the list that has these bytes
abbrev pub with_digest : List ℕ → Result (List Rule) ListFault → Result RuleList ListFault
with_digest bytes (Ok rules) = Ok (record { rules = rules; digest = sha256 bytes })
with_digest bytes (Err why) = Err why

-- the list that the bytes are, or its first fault; the length goes before every line
abbrev pub list_of : List ℕ → Result RuleList ListFault
list_of bytes =
    if nat_lt byte_limit (length bytes) then Err TooLong
    else with_digest bytes (rules_of_lines (lines_of bytes))
