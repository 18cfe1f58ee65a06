-- Values from the list's own test file and its rules, so that a wrong rule in the specs does not check.
use Rattle.std.proofs.Common.{◌≡◌, refl}
use Rattle.std.specs.Prelude.{List, [], ◌∷◌, ◌++◌, ℕ, codes, encode_utf8_all, false, true, Some, None, Ok, Err}
use Rattle.idna.proofs.Computing.{idna}
use Rattle.suffix_list.specs.declared.fault.ListFault.TheVariants.{BadRule}
use Rattle.suffix_list.specs.Suffix.{Rule, registrable_domain}
use Rattle.suffix_list.specs.ListText.{rule_of, rules_of_lines, lines_of}

-- a rule without `!`
abbrev named : List (List ℕ) → Rule
named labels = record { is_exception = false; labels = labels }

-- `*.ck` and `!www.ck`
abbrev ck : List Rule
ck =
    named (codes "*" ∷ codes "ck" ∷ [])
    ∷ record { is_exception = true; labels = codes "www" ∷ codes "ck" ∷ [] } ∷ []

suffix_itself : registrable_domain ck (codes "test.ck") ≡ None
suffix_itself = refl

wildcard : registrable_domain ck (codes "a.b.test.ck") ≡ Some (codes "b.test.ck")
wildcard = refl

exception : registrable_domain ck (codes "www.ck") ≡ Some (codes "www.ck")
exception = refl

below_exception : registrable_domain ck (codes "www.www.ck") ≡ Some (codes "www.ck")
below_exception = refl

no_rule : registrable_domain [] (codes "b.example.example") ≡ Some (codes "example.example")
no_rule = refl

empty_host_label : registrable_domain [] (codes "a..test") ≡ Some (codes ".test")
empty_host_label = refl

-- the list `// c`, an empty line, `com extra`, `*.ck`, `!www.ck`
lines : rules_of_lines (lines_of (codes "// c" ++ (10 ∷ 10 ∷ codes "com extra" ++ (10 ∷ codes "*.ck" ++ (10 ∷ codes "!www.ck")))))
    ≡ Ok (named (codes "com" ∷ []) ∷ ck)
unfolding idna
lines = refl

first_fault : rules_of_lines (lines_of (codes "// c" ++ (10 ∷ codes "a..b" ++ (10 ∷ codes "a.*.b")))) ≡ Err (BadRule 2)
unfolding idna
first_fault = refl

-- 食狮.test
in_ascii : rule_of (encode_utf8_all (0x98DF ∷ 0x72EE ∷ codes ".test"))
    ≡ Some (named (codes "xn--85x722f" ∷ codes "test" ∷ []))
unfolding idna
in_ascii = refl

-- a full-width `*` in front of `.com`, and behind `a.`
wide_star : rule_of (encode_utf8_all (0xFF0A ∷ codes ".com")) ≡ Some (named (codes "*" ∷ codes "com" ∷ []))
unfolding idna
wide_star = refl

wide_inner_star : rule_of (codes "a." ++ encode_utf8_all (0xFF0A ∷ [])) ≡ None
unfolding idna
wide_inner_star = refl

inner_star : rule_of (codes "a.*.b") ≡ None
inner_star = refl

part_star : rule_of (codes "a*.b") ≡ None
part_star = refl

nothing_beside : rule_of (codes "*.") ≡ None
nothing_beside = refl

star_alone : rule_of (codes "*") ≡ Some (named (codes "*" ∷ []))
star_alone = refl

short_exception : rule_of (codes "!com") ≡ None
short_exception = refl

starred_exception : rule_of (codes "!*.ck") ≡ None
starred_exception = refl
