-- The first value of a path among some, and the entries without it.
use Rattle.std.proofs.Common.{◌≡◌, ℕ, ◌+◌, ◌<◌, Bool, true, false, cond, List, [], ◌∷◌, ◌++◌, Some, None, take, drop, length, get_or, remove, suc, arith, refl, sym, ap, ◌∙◌, append_assoc, string_bytes}
use Rattle.std.specs.Prelude.{bytes_eq, option_map, String}
use Rattle.std.specs.declared.alloc.Global.{Global}
use Rattle.std.proofs.Math.Seq.{drop-cons}
use Rattle.std.proofs.lemmas.List.{take_more}
use Rattle.std.proofs.lemmas.Slice.Eq.{bytes_eq-Decides}
use Rattle.agent_base.specs.Memory.{SourceView}
use Rattle.hosts.specs.Hosts.{LeavesOthers}
use Rattle.hosts.specs.Entries.{bytes_at, first_path, first_value, found_at, path_from, value_from, without_first}

-- two paths of one name are one
same_path : (name path other : List ℕ) → bytes_eq path name ≡ true → bytes_eq other name ≡ true → other ≡ path
same_path name path other a b = (bytes_eq-Decides other name).0 b ∙ sym ((bytes_eq-Decides path name).0 a)

-- what is found at other paths stays where the first entry of a path is gone
pub others_stay : {T : Type 0} (entries : List (String Global × T)) (path other : List ℕ) → (other ≡ path → ⊥) → found_at (without_first entries path) other ≡ found_at entries other
others_stay [] path other differs = refl
others_stay {T} (entry ∷ entries) path other differs =
    at (bytes_eq path (string_bytes entry.0)) (bytes_eq other (string_bytes entry.0)) refl refl (others_stay entries path other differs)
  where
    at : (mine its : Bool) → bytes_eq path (string_bytes entry.0) ≡ mine → bytes_eq other (string_bytes entry.0) ≡ its
        → found_at (without_first entries path) other ≡ found_at entries other
        → found_at (cond mine entries (entry ∷ without_first entries path)) other ≡ cond its (Some entry.1) (found_at entries other)
    at true true is too later = absurd (differs (same_path (string_bytes entry.0) path other is too))
    at true false is too later = refl
    at false true is too later = ap (λ b. cond b (Some entry.1) (found_at (without_first entries path) other)) too
    at false false is too later = ap (λ b. cond b (Some entry.1) (found_at (without_first entries path) other)) too ∙ later

pub bytes_stay : (entries now : List (String Global × SourceView)) (path : List ℕ) → now ≡ without_first entries path → LeavesOthers path (bytes_at entries) (bytes_at now)
bytes_stay entries now path is other differs =
    ap (λ items. bytes_at items other) is ∙ ap (option_map (λ list. list.left)) (others_stay entries path other differs)

-- what is found where an entry of a path stands in front
pub found_front : {T : Type 0} (entry : String Global × T) (entries : List (String Global × T)) → found_at (entry ∷ entries) (string_bytes entry.0) ≡ Some entry.1
found_front entry entries = ap (λ b. cond b (Some entry.1) (found_at entries (string_bytes entry.0))) ((bytes_eq-Decides (string_bytes entry.0) (string_bytes entry.0)).1 refl)

pub without_front : {T : Type 0} (entry : String Global × T) (entries : List (String Global × T)) → without_first (entry ∷ entries) (string_bytes entry.0) ≡ entries
without_front entry entries = ap (λ b. cond b entries (entry ∷ without_first entries (string_bytes entry.0))) ((bytes_eq-Decides (string_bytes entry.0) (string_bytes entry.0)).1 refl)

-- where none is found, none is left out
pub none_left_out : {T : Type 0} (entries : List (String Global × T)) (path : List ℕ) → found_at entries path ≡ None → without_first entries path ≡ entries
none_left_out [] path is = refl
none_left_out {T} (entry ∷ entries) path is = at (bytes_eq path (string_bytes entry.0)) is (none_left_out entries path)
  where
    at : (mine : Bool) → cond mine (Some entry.1) (found_at entries path) ≡ None → (found_at entries path ≡ None → without_first entries path ≡ entries)
        → cond mine entries (entry ∷ without_first entries path) ≡ entry ∷ entries
    at true is later = cc
    at false is later = ap (λ rest. entry ∷ rest) (later is)

-- what is left from a place on, by the entry that stands there
first_from : {T : Type 0} (entries : List (String Global × T)) (path : List ℕ) (i : ℕ) (d : String Global × T) (b : Bool) → i < length entries
    → bytes_eq path (string_bytes (get_or entries i d).0) ≡ b
    → without_first (drop i entries) path ≡ cond b (drop (suc i) entries) (get_or entries i d ∷ without_first (drop (suc i) entries) path)
first_from entries path i d b within is =
    ap (λ rest. without_first rest path) (drop-cons entries i d within)
    ∙ ap (λ mine. cond mine (drop (suc i) entries) (get_or entries i d ∷ without_first (drop (suc i) entries) path)) is

-- the place of an entry of the path, in front of which is none, is that of the first
pub first_removed : {T : Type 0} (entries : List (String Global × T)) (path : List ℕ) (i : ℕ) (d : String Global × T) → i < length entries
    → bytes_eq path (string_bytes (get_or entries i d).0) ≡ true
    → without_first entries path ≡ take i entries ++ without_first (drop i entries) path → remove entries i ≡ without_first entries path
first_removed entries path i d within is first = sym (first ∙ ap (λ rest. take i entries ++ rest) (first_from entries path i d true within is))

-- what stands at a place
path_there : {T : Type 0} (entries : List (String Global × T)) (i : ℕ) (d : String Global × T) → i < length entries
    → path_from i entries ≡ Some (string_bytes (get_or entries i d).0)
path_there entries i d within = ap first_path (drop-cons entries i d within)

value_there : {T : Type 0} (entries : List (String Global × T)) (i : ℕ) (d : String Global × T) → i < length entries
    → value_from i entries ≡ Some (get_or entries i d).1
value_there entries i d within = ap first_value (drop-cons entries i d within)

-- an entry that is found has the path
pub named_there : {T : Type 0} (entries : List (String Global × T)) (path : List ℕ) (i : ℕ) (d : String Global × T) → i < length entries
    → bytes_eq path (string_bytes (get_or entries i d).0) ≡ true → path_from i entries ≡ Some path
named_there entries path i d within is =
    path_there entries i d within ∙ ap Some (sym ((bytes_eq-Decides path (string_bytes (get_or entries i d).0)).0 is))

some_is : (a b : List ℕ) → Some a ≡ Some b → a ≡ b
some_is a b e = cc

-- an entry that was removed has the path and the value that were found
pub removed_path : {T : Type 0} (entries : List (String Global × T)) (path : List ℕ) (i : ℕ) (entry : String Global × T) → i < length entries
    → path_from i entries ≡ Some path → entry ≡ get_or entries i entry → string_bytes entry.0 ≡ path
removed_path entries path i entry within named is =
    ap (λ e. string_bytes e.0) is ∙ some_is (string_bytes (get_or entries i entry).0) path (sym (path_there entries i entry within) ∙ named)

pub removed_value : {T : Type 0} (entries : List (String Global × T)) (path : List ℕ) (i : ℕ) (entry : String Global × T) → i < length entries
    → value_from i entries ≡ found_at entries path → entry ≡ get_or entries i entry → found_at entries path ≡ Some entry.1
removed_value entries path i entry within found is = sym found ∙ value_there entries i entry within ∙ ap (λ e. Some e.1) (sym is)

-- an entry of another path stands in front of the first
pub first_later : {T : Type 0} (entries : List (String Global × T)) (path : List ℕ) (i : ℕ) (d : String Global × T) → i < length entries
    → bytes_eq path (string_bytes (get_or entries i d).0) ≡ false
    → without_first entries path ≡ take i entries ++ without_first (drop i entries) path
    → without_first entries path ≡ take (i + 1) entries ++ without_first (drop (i + 1) entries) path
first_later entries path i d within is first =
    first ∙ ap (λ rest. take i entries ++ rest) (first_from entries path i d false within is)
    ∙ ap (λ n. take i entries ++ get_or entries i d ∷ without_first (drop n entries) path) one_more
    ∙ sym (append_assoc (take i entries) (get_or entries i d ∷ []) (without_first (drop (i + 1) entries) path))
    ∙ ap (λ front. front ++ without_first (drop (i + 1) entries) path) (sym (take_more entries i d within))
  where
    one_more : suc i ≡ i + 1
    one_more = omega arith
