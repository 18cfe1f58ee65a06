-- A rule as it is written, and its ASCII form.
use Rattle.std.proofs.Common.{◌≡◌, ◌≢◌, ◌⊎◌, inl, inr, ℕ, ◌<◌, ◌≤◌, suc, Bool, not, true, false, cond, List, [], ◌∷◌, length, refl, ap, ◌∙◌, sym, arith}
use Rattle.std.specs.Prelude.{nat_eq, is_none, ◌&&◌, ◌||◌, codes, bytes_eq, String, string_bytes, Option, Some, None, option_map, option_and_then, Result, Ok, Err, MatchResult}
use Rattle.std.specs.declared.alloc.Global.{Global}
use Rattle.std.specs.List.{starts_with, join_with_byte, list_all}
use Rattle.std.specs.Str.{is_utf8}
use Rattle.std.proofs.lemmas.Bool.{eqb-true, cond-true, cond-false, le-leb, or_right}
use Rattle.idna.specs.declared.deny_list.TheConstants.AsciiDenyList.{URL}
use Rattle.idna.specs.Uts46.{domain_to_ascii}
use Rattle.suffix_list.specs.declared.rule.RuleFault.{RuleFault}
use Rattle.suffix_list.specs.declared.rule.RuleFault.TheVariants.{NoMemory}
use Rattle.suffix_list.specs.Suffix.{Rule, labels_of}
use Rattle.suffix_list.specs.ListText.{ascii_labels, ascii_name, ascii_rule, if_rule, is_bad, is_label, is_rule, is_skipped, rule_in, rule_of, text_of, written_rule}
use Rattle.suffix_list.proofs.LabelLemmas.{join_labels, some_label}

-- a text that does not begin with `!` is no exception
pub unmarked : (text : List ℕ) → ((rest : List ℕ) → text ≢ 33 ∷ rest) → starts_with nat_eq text (codes "!") ≡ false
unmarked [] other = refl
unmarked (b ∷ text) other = by (nat_eq 33 b) refl
  where
    by : (same : Bool) → nat_eq 33 b ≡ same → (same && true) ≡ false
    by true is = absurd (other text (ap (λ c. c ∷ text) (sym (eqb-true 33 b is))))
    by false is = refl

-- labels that are there are brought to ASCII as their name
ascii_name_some : (labels : List (List ℕ)) (name : List ℕ) → 0 < length labels → join_with_byte 46 labels ≡ name → ascii_name labels ≡ option_map labels_of (domain_to_ascii URL name)
ascii_name_some [] name some same = absurd (omega arith)
ascii_name_some (label ∷ labels) name some same = ap (λ bs. option_map labels_of (domain_to_ascii URL bs)) same

-- a name that does not begin with a label `*` is brought to ASCII whole
pub ascii_whole : (name label : List ℕ) (behind : List (List ℕ)) → labels_of name ≡ label ∷ behind → bytes_eq label (codes "*") ≡ false
    → ascii_labels (labels_of name) ≡ option_map labels_of (domain_to_ascii URL name)
ascii_whole name label behind same other =
    ap ascii_labels same
    ∙ cond-false (bytes_eq label (codes "*")) (option_map (λ more. label ∷ more) (ascii_name behind)) (ascii_name (label ∷ behind)) other
    ∙ sym (ap ascii_name same)
    ∙ ascii_name_some (labels_of name) name (some_label name) (join_labels name)

-- behind a leftmost `*.` the rest is brought to ASCII
pub ascii_starred : (name label parent : List ℕ) → labels_of name ≡ label ∷ labels_of parent → bytes_eq label (codes "*") ≡ true
    → ascii_labels (labels_of name) ≡ option_map (λ more. label ∷ more) (option_map labels_of (domain_to_ascii URL parent))
ascii_starred name label parent same star =
    ap ascii_labels same
    ∙ cond-true (bytes_eq label (codes "*")) (option_map (λ more. label ∷ more) (ascii_name (labels_of parent))) (ascii_name (label ∷ labels_of parent)) star
    ∙ ap (option_map (λ more. label ∷ more)) (ascii_name_some (labels_of parent) parent (some_label parent) (join_labels parent))

-- what ToASCII answers of a name, as labels
pub labels_answer : (result : Result (String Global) RuleFault) (ascii : Option (List ℕ)) (labels : Option (List (List ℕ))) → labels ≡ option_map labels_of ascii
    → MatchResult result (λ text. ascii ≡ Some (string_bytes text)) (λ why. (why ≡ NoMemory) ⊎ (ascii ≡ None))
    → MatchResult result (λ text. labels ≡ Some (labels_of (string_bytes text))) (λ why. (why ≡ NoMemory) ⊎ (labels ≡ None))
labels_answer (Ok text) ascii labels is answer = is ∙ ap (option_map labels_of) answer
labels_answer (Err why) ascii labels is (inl memory) = inl memory
labels_answer (Err why) ascii labels is (inr none) = inr (is ∙ ap (option_map labels_of) none)

-- what is left of a rule's conditions once its first label is known to be right
pub conditions_more : (exception : Bool) (label : List ℕ) (behind : List (List ℕ)) (first : Bool) → 0 < length behind
    → first ≡ (is_label label || (not exception && bytes_eq label (codes "*")))
    → (first && list_all is_label behind) ≡ is_rule (record { is_exception = exception; labels = label ∷ behind })
conditions_more true label behind first some is =
    let two : 2 ≤ suc (length behind) = omega arith in
    ap (λ b. b && list_all is_label behind) (is ∙ one (is_label label))
    ∙ sym (ap (λ b. (is_label label && list_all is_label behind) && b) (le-leb 2 (suc (length behind)) two) ∙ true_right (is_label label && list_all is_label behind))
  where
    one : (b : Bool) → (b || false) ≡ b
    one true = refl
    one false = refl

    true_right : (b : Bool) → (b && true) ≡ b
    true_right true = refl
    true_right false = refl
conditions_more false label behind first some is = by (bytes_eq label (codes "*")) refl is
  where
    by : (star : Bool) → bytes_eq label (codes "*") ≡ star → first ≡ (is_label label || star)
        → (first && list_all is_label behind) ≡ list_all is_label (cond star behind (label ∷ behind))
    by true at is = ap (λ b. b && list_all is_label behind) (is ∙ or_right (is_label label) true refl)
    by false at is = ap (λ b. b && list_all is_label behind) (is ∙ one (is_label label))
      where
        one : (b : Bool) → (b || false) ≡ b
        one true = refl
        one false = refl

-- the rule that a text stands for meets the conditions
if_rule-is : (before rule : Rule) → if_rule before ≡ Some rule → is_rule rule ≡ true
if_rule-is before rule found = by (is_rule before) refl found
  where
    by : (b : Bool) → is_rule before ≡ b → cond b (Some before) None ≡ Some rule → is_rule rule ≡ true
    by true is found = let same : before ≡ rule = cc in ap is_rule (sym same) ∙ is
    by false is found = absurd (cc)

last_if_rule : (o : Option Rule) (rule : Rule) → option_and_then if_rule o ≡ Some rule → is_rule rule ≡ true
last_if_rule None rule found = absurd (cc)
last_if_rule (Some before) rule found = if_rule-is before rule found

pub rule_of-is_rule : (text : List ℕ) (rule : Rule) → rule_of text ≡ Some rule → is_rule rule ≡ true
rule_of-is_rule text rule found = last_if_rule (option_and_then ascii_rule (if_rule (written_rule text))) rule found

-- a line that is not UTF-8 is bad
pub not_text : (line : List ℕ) → is_utf8 line ≡ false → is_bad line ≡ true
not_text line other = ap (λ b. not b || (not (is_skipped line) && is_none (rule_of (text_of line)))) other

-- a line that is skipped is not bad and has no rule
pub skipped_line : (line : List ℕ) → is_utf8 line ≡ true → is_skipped line ≡ true → (is_bad line ≡ false) × (rule_in line ≡ None)
skipped_line line utf8 skipped = (
  ap (λ b. not b || (not (is_skipped line) && is_none (rule_of (text_of line)))) utf8 ∙ ap (λ b. not b && is_none (rule_of (text_of line))) skipped,
  ap (λ b. cond (not b || is_skipped line) None (rule_of (text_of line))) utf8 ∙ ap (λ b. cond b None (rule_of (text_of line))) skipped,
)

-- another line has the rule that its text stands for
pub line_rule : (line : List ℕ) → is_utf8 line ≡ true → is_skipped line ≡ false → (is_bad line ≡ is_none (rule_of (text_of line))) × (rule_in line ≡ rule_of (text_of line))
line_rule line utf8 read = (
  ap (λ b. not b || (not (is_skipped line) && is_none (rule_of (text_of line)))) utf8 ∙ ap (λ b. not b && is_none (rule_of (text_of line))) read,
  ap (λ b. cond (not b || is_skipped line) None (rule_of (text_of line))) utf8 ∙ ap (λ b. cond b None (rule_of (text_of line))) read,
)

-- the rule of a line meets the conditions
pub rule_in-is_rule : (line : List ℕ) (rule : Rule) → rule_in line ≡ Some rule → is_rule rule ≡ true
rule_in-is_rule line rule found = by (not (is_utf8 line) || is_skipped line) found
  where
    by : (b : Bool) → cond b None (rule_of (text_of line)) ≡ Some rule → is_rule rule ≡ true
    by true found = absurd (cc)
    by false found = rule_of-is_rule (text_of line) rule found
