-- The names of an object's members, as the map of its entries has them.
use Rattle.std.proofs.Common.{◌≡◌, ℕ, Bool, true, false, cond, ◌||◌, ◌&&◌, List, [], ◌∷◌, map, Option}
use Rattle.std.proofs.Common.{Some, None, option_map, find, not, fold, String, string_bytes, refl, ap, nat_cmp, Ordering, Less, Equal, Greater}
use Rattle.std.specs.declared.alloc.Global.{Global}
use Rattle.std.specs.List.{list_all, list_any}
use Rattle.std.specs.Ordering.{match_ordering}
use Rattle.std.specs.Cmp.Lexicographic.{slice_cmp}
use Rattle.std.proofs.lemmas.Bool.{and_parts}
use Rattle.serde_json.specs.Data.{Data, Members, no_members, member, put}
use Rattle.serde_json.specs.View.{members_view}
use Rattle.serde_json.specs.declared.value.Value.{Value}
use Rattle.script_lines.specs.Flat.{flat_data, members_of, with_member}
use Rattle.script_lines.specs.Steps.{member_names}
use Rattle.script_lines.specs.declared.flat_object.Member.{Member}

-- a test of the mapped elements
pub list_any-map : {A B : Type 0} (test : B → Bool) (f : A → B) (xs : List A) → list_any test (map f xs) ≡ list_any (λ x. test (f x)) xs
list_any-map test f [] = refl
list_any-map test f (x ∷ xs) = ap (λ b. test (f x) || b) (list_any-map test f xs)

-- a test of the mapped elements, all of them
pub list_all-map : {A B : Type 0} (test : B → Bool) (f : A → B) (xs : List A) → list_all test (map f xs) ≡ list_all (λ x. test (f x)) xs
list_all-map test f [] = refl
list_all-map test f (x ∷ xs) = ap (λ b. test (f x) && b) (list_all-map test f xs)

found_by : {A B : Type 0} (f : A → B) (x : A) (b : Bool) (later : Option A) (o : Option B) → option_map f later ≡ o → option_map f (cond b (Some x) later) ≡ cond b (Some (f x)) o
found_by f x true later o same = refl
found_by f x false later o same = same

-- the first name that passes is that of the first key which does
pub find_name : (test : List ℕ → Bool) (entries : List (String Global × Value))
    → option_map string_bytes (find (λ s. test (string_bytes s)) (map (λ e. e.0) entries)) ≡ find test (member_names (members_view entries))
find_name test [] = refl
find_name test (e ∷ entries) = found_by string_bytes e.0 (test (string_bytes e.0)) _ _ (find_name test entries)

-- ---- lists in which every name is known

none_parts : (b : Bool) (name : List ℕ) (later : Option (List ℕ)) → cond b (Some name) later ≡ None → (b ≡ false) × (later ≡ None)
none_parts true name later none = absurd (cc)
none_parts false name later none = (refl, none)

none_put_at : (order : Ordering) (q : List ℕ → Bool) (k l : List ℕ) (d e : Data) (ms : Members) → q k ≡ false → (q l ≡ false) × (find q (member_names ms) ≡ None)
    → find q (member_names (put k d ms)) ≡ None
    → find q (member_names (match_ordering order (member k d (member l e ms)) (member l d ms) (member l e (put k d ms)))) ≡ None
none_put_at Less q k l d e ms own none later = rw (own, none.0) none.1
none_put_at Equal q k l d e ms own none later = rw none.0 none.1
none_put_at Greater q k l d e ms own none later = rw none.0 later

none_put : (q : List ℕ → Bool) (k : List ℕ) (d : Data) (ms : Members) → q k ≡ false → find q (member_names ms) ≡ None → find q (member_names (put k d ms)) ≡ None
none_put q k d no_members own none = rw own refl
none_put q k d (member l e ms) own none =
    let parts = none_parts (q l) l (find q (member_names ms)) none in
    none_put_at (slice_cmp nat_cmp k l) q k l d e ms own parts (none_put q k d ms own parts.1)

all_from : (p : List ℕ → Bool) (found : Members) (list : List Member) → find (λ name. not (p name)) (member_names found) ≡ None → list_all (λ m. p m.name.now) list ≡ true
    → find (λ name. not (p name)) (member_names (fold with_member found list)) ≡ None
all_from p found [] none all = none
all_from p found (m ∷ list) none all =
    let both = and_parts (p m.name.now) (list_all (λ m. p m.name.now) list) all in
    all_from p (with_member found m) list (none_put (λ name. not (p name)) m.name.now (flat_data m.value) found (ap not both.0) none) both.1

-- where each name passes, none of the object's members fails
pub all_known : (p : List ℕ → Bool) (list : List Member) → list_all (λ m. p m.name.now) list ≡ true → find (λ name. not (p name)) (member_names (members_of list)) ≡ None
all_known p list all = all_from p no_members list refl all
