-- The steps of the look-up, which goes from the last label of a host to longer names.
use Rattle.std.proofs.Common.{◌≡◌, ℕ, ◌-◌, ◌<◌, Bool, true, false, cond, not, List, ◌∷◌, length, map, refl, ap, ◌∙◌, sym, arith}
use Rattle.std.specs.Prelude.{max, nat_lt, ◌&&◌, ◌||◌}
use Rattle.std.specs.List.{list_any}
use Rattle.suffix_list.specs.declared.rules.KeptRule.{KeptRule}
use Rattle.suffix_list.specs.Suffix.{Rule, labels_of, covers, suffix_labels}
use Rattle.suffix_list.specs.Names.{Names, TellsOf, longest, marks_among, marks_at, plain_rule}
use Rattle.suffix_list.proofs.LabelLemmas.{some_label}
use Rattle.suffix_list.proofs.KeptLemmas.{any_exception, any_named, prevailing_kept}
use Rattle.suffix_list.proofs.LookupLemmas.{longest_step}

-- an exception
abbrev pub excepts : Rule → Bool
excepts rule = rule.is_exception

-- a rule that is no exception
abbrev pub adds : Rule → Bool
adds rule = not rule.is_exception

-- the mark of an exception says whether one covers the labels of the name
exception_marked : (names : Names) (kept : List KeptRule) (name : List ℕ) → TellsOf names kept
    → (marks_at names name).is_exception ≡ list_any (λ rule. excepts rule && covers (labels_of name) rule) (map plain_rule kept)
exception_marked names kept name tells = ap (λ m. m.is_exception) (tells.1 name) ∙ any_exception name kept tells.0

-- the marks of a rule and of a parent say whether a rule covers the labels of the name
rule_marked : (names : Names) (kept : List KeptRule) (name label parent : List ℕ) → TellsOf names kept → labels_of name ≡ label ∷ labels_of parent
    → ((marks_at names name).is_rule || (marks_at names parent).is_parent) ≡ list_any (λ rule. adds rule && covers (labels_of name) rule) (map plain_rule kept)
rule_marked names kept name label parent tells same =
    ap (λ m. m.is_rule || (marks_at names parent).is_parent) (tells.1 name)
    ∙ ap (λ m. (marks_among kept name).is_rule || m.is_parent) (tells.1 parent)
    ∙ any_named name label parent kept same tells.0

-- the longest exception with one label more
pub exception_more : (names : Names) (kept : List KeptRule) (name label : List ℕ) (behind : List (List ℕ)) (before count : ℕ) → TellsOf names kept → labels_of name ≡ label ∷ behind
    → count ≡ length (labels_of name) → before ≡ longest excepts (map plain_rule kept) behind
    → cond (marks_at names name).is_exception count before ≡ longest excepts (map plain_rule kept) (labels_of name)
exception_more names kept name label behind before count tells split counted same =
    (λ i. cond (exception_marked names kept name tells i) (counted i) (same i))
    ∙ sym (longest_step excepts (map plain_rule kept) (labels_of name) label behind split)

-- the longest rule with one label more, where the rule `*` stands for one at least
pub rule_more : (names : Names) (kept : List KeptRule) (name label more : List ℕ) (before count : ℕ) → TellsOf names kept → labels_of name ≡ label ∷ labels_of more
    → count ≡ length (labels_of name) → before ≡ max 1 (longest adds (map plain_rule kept) (labels_of more))
    → cond ((marks_at names name).is_rule || (marks_at names more).is_parent) count before ≡ max 1 (longest adds (map plain_rule kept) (labels_of name))
rule_more names kept name label more before count tells split counted same =
    (λ i. cond (rule_marked names kept name label more tells split i) (counted i) (same i))
    ∙ most_of (list_any (λ rule. adds rule && covers (labels_of name) rule) (map plain_rule kept)) (length (labels_of name)) (longest adds (map plain_rule kept) (labels_of more)) (some_label name)
    ∙ sym (ap (λ n. max 1 n) (longest_step adds (map plain_rule kept) (labels_of name) label (labels_of more) split))
  where
    most_of : (b : Bool) (n m : ℕ) → 0 < n → cond b n (max 1 m) ≡ max 1 (cond b n m)
    most_of true n m some = omega (arith, some)
    most_of false n m some = refl

-- the prevailing rule, from the longest of each kind
pub prevailing_found : (kept : List KeptRule) (host : List ℕ) (exception rule : ℕ) → exception ≡ longest excepts (map plain_rule kept) (labels_of host)
    → rule ≡ max 1 (longest adds (map plain_rule kept) (labels_of host))
    → cond (nat_lt 0 exception) (exception - 1) rule ≡ suffix_labels (map plain_rule kept) host
prevailing_found kept host exception rule same most = (λ i. cond (nat_lt 0 (same i)) (same i - 1) (most i)) ∙ sym (prevailing_kept kept host)
