-- An object of the common form: its members one after another, as the grammar of JSON has them.
use Rattle.std.proofs.Common.{◌≡◌, refl, ap, sym, ◌∙◌, Bool, true, false, cond, bytes_eq, true≢false, ℕ, ◌-◌, ◌<◌, ◌≤◌, ◌+◌, length, List, [], ◌∷◌, ◌++◌, fold, get_or, take, arith}
use Rattle.std.proofs.Common.{Option, Some, None, option_map, option_and_then}
use Rattle.std.proofs.lemmas.List.{take_more}
use Rattle.std.proofs.lemmas.Slice.Eq.{bytes_eq-Decides}
use Rattle.json.specs.Token.{Token}
use Rattle.json.specs.Json as json
use Rattle.json.specs.Json.{Parse, if_last, members, parse_map, read_key}
use Rattle.json.proofs.Grammar.{members_end, members_more}
use Rattle.serde_json.specs.Data.{Data, object, Members, no_members, put}
use Rattle.serde_json.specs.Find.{get_member}
use Rattle.serde_json.proofs.Views.{get_member-put, get_member-put_other}
use Rattle.serde_json.specs.Read.{converted, of_json, of_members}
use Rattle.script_lines.specs.Flat.{flat_data, members_of, with_member}
use Rattle.script_lines.specs.declared.flat_object.Member.{Member}

-- ---- members of a list

more_from : (found : Members) (list : List Member) (member : Member) → fold with_member found (list ++ member ∷ []) ≡ with_member (fold with_member found list) member
more_from found [] member = refl
more_from found (first ∷ list) member = more_from (with_member found first) list member

-- the last member goes to those before it
pub one_more : (list : List Member) (member : Member) → members_of (list ++ member ∷ []) ≡ with_member (members_of list) member
one_more list member = more_from no_members list member

-- ---- members of a text

abbrev pick : {A : Type 0} → A → Option A → A
pick d None = d
pick d (Some a) = a

found : {A B : Type 0} (a : A) (r s : List Token) (x : Option B) (b : B) → option_map {U = B × List Token} (λ y. (y, r)) x ≡ Some (b, s) → (r ≡ s) × (x ≡ Some b)
found a r s None b e = absurd (cc)
found a r s (Some y) b e = let same = ap (pick (y, r)) e in (ap (λ p. p.1) same, ap (λ p. Some p.0) same)

pub converted_some : {A B : Type 0} (f : A → Option B) (o : Option (A × List Token)) (b : B) (r : List Token) → converted f o ≡ Some (b, r) → (a : A) × (o ≡ Some (a, r)) × (f a ≡ Some b)
converted_some f None b r e = absurd (cc)
converted_some f (Some p) b r e = let both = found p.0 p.1 r (f p.0) b e in (p.0, ap (λ s. Some (p.0, s)) both.0, both.1)

with_first : (k : List ℕ) (j : json.Json) (d : Data) (old : Members) → of_json j ≡ Some d → (o : Option (json.Members × List Token))
    → converted (λ ms. of_members ms old) (parse_map (json.member k j) o) ≡ converted (λ ms. of_members ms (put k d old)) o
with_first k j d old e None = refl
with_first k j d old e (Some p) = rw e

-- a member that was read goes to those before it
pub member_read : (p : Parse json.Json) (old : Members) (n : ℕ) (k : List ℕ) (ts s r : List Token) (d : Data)
    → 0 < n → read_key ts ≡ Some (Some k, s) → converted of_json (p s) ≡ Some (d, r)
    → converted (λ ms. of_members ms old) (members p n ts) ≡ converted (λ ms. of_members ms (put k d old)) (members p (n - 1) r)
member_read p old n k ts s r d some key e =
    let j = converted_some of_json (p s) d r e in
    ap (converted (λ ms. of_members ms old)) (members_more p n k ts s r j.0 some key j.1) ∙ with_first k j.0 d old j.2 _

-- behind the last member
pub members_over : (p : Parse json.Json) (old : Members) (n : ℕ) (ts r : List Token)
    → length ts ≤ n → read_key ts ≡ Some (None, r) → converted (λ ms. of_members ms old) (members p n ts) ≡ Some (old, r)
members_over p old n ts r enough e = ap (converted (λ ms. of_members ms old)) (members_end p n ts r enough e)

-- ---- the whole text

twice : (r : List Token) (x : Option Members) → option_map (λ b. (b, r)) (option_map object x) ≡ parse_map object (option_map (λ a. (a, r)) x)
twice r None = refl
twice r (Some a) = refl

-- an object is its members
pub converted-object : (o : Option (json.Members × List Token)) → converted of_json (parse_map json.object o) ≡ parse_map object (converted (λ ms. of_members ms no_members) o)
converted-object None = refl
converted-object (Some p) = twice p.1 (of_members p.0 no_members)

abbrev whole : Option (json.Json × List Token) → Option Data
whole o = option_and_then of_json (option_and_then (λ p. if_last p.0 p.1) o)

-- a value with nothing behind it is the text's
pub whole_read : (o : Option (json.Json × List Token)) (d : Data) → converted of_json o ≡ Some (d, []) → whole o ≡ Some d
whole_read o d e = let j = converted_some of_json o d [] e in ap whole j.1 ∙ j.2

-- ---- look-ups

-- what is found where one more member goes to the others
found_put : (name k : List ℕ) (d : Data) (old : Members) (same : Bool) → bytes_eq k name ≡ same
    → get_member name (put k d old) ≡ cond same (Some d) (get_member name old)
found_put name k d old true same = ap (λ n. get_member n (put k d old)) (sym ((bytes_eq-Decides k name).0 same)) ∙ get_member-put k d old
found_put name k d old false other =
    get_member-put_other name k d old (λ e. absurd (true≢false (sym ((bytes_eq-Decides k name).1 (sym e)) ∙ other)))

-- a name is looked up in the last member, and then in those before it
found_last : (name : List ℕ) (list : List Member) (member : Member) (same : Bool) → bytes_eq member.name.now name ≡ same
    → get_member name (members_of (list ++ member ∷ [])) ≡ cond same (Some (flat_data member.value)) (get_member name (members_of list))
found_last name list member same is = ap (get_member name) (one_more list member) ∙ found_put name member.name.now (flat_data member.value) (members_of list) same is

-- the same of so many members of a list, of which this one is the last
pub found_at : (name : List ℕ) (list : List Member) (left : ℕ) (member : Member) (same : Bool) → 0 < left → left ≤ length list → get_or list (left - 1) member ≡ member → bytes_eq member.name.now name ≡ same
    → get_member name (members_of (take left list)) ≡ cond same (Some (flat_data member.value)) (get_member name (members_of (take (left - 1) list)))
found_at name list left member same some within at is =
    let next : left ≡ left - 1 + 1 = omega arith in
    let front : take left list ≡ take (left - 1) list ++ member ∷ [] = ap (λ k. take k list) next ∙ take_more list (left - 1) member (omega arith) ∙ ap (λ m. take (left - 1) list ++ m ∷ []) at in
    ap (λ ms. get_member name (members_of ms)) front ∙ found_last name (take (left - 1) list) member same is
