-- Values that stand under paths, one behind another. Of two of one path the first is found.
-- Source: none; a host in memory is our own.
use Rattle.std.specs.Prelude.{ℕ, drop, List, [], ◌∷◌, Option, Some, None, option_map}
use Rattle.std.specs.Prelude.{String, string_bytes, bytes_eq, if◌then◌else◌}
use Rattle.std.specs.declared.alloc.Global.{Global}
use Rattle.agent_base.specs.Memory.{SourceView}

-- the first value of a path
abbrev pub found_at : {T : Type 0} → List (String Global × T) → List ℕ → Option T
found_at [] path = None
found_at (entry ∷ entries) path =
    if bytes_eq path (string_bytes entry.0) then Some entry.1 else found_at entries path

-- the entries without the first one of a path
abbrev pub without_first : {T : Type 0} → List (String Global × T) → List ℕ
    → List (String Global × T)
without_first [] path = []
without_first (entry ∷ entries) path =
    if bytes_eq path (string_bytes entry.0) then entries else entry ∷ without_first entries path

-- the value that stands first
abbrev pub first_value : {T : Type 0} → List (String Global × T) → Option T
first_value [] = None
first_value (entry ∷ entries) = Some entry.1

-- the value at a place
abbrev pub value_from : {T : Type 0} → ℕ → List (String Global × T) → Option T
value_from place entries = first_value (drop place entries)

-- the path that stands first
abbrev pub first_path : {T : Type 0} → List (String Global × T) → Option (List ℕ)
first_path [] = None
first_path (entry ∷ entries) = Some (string_bytes entry.0)

-- the path at a place
abbrev pub path_from : {T : Type 0} → ℕ → List (String Global × T) → Option (List ℕ)
path_from place entries = first_path (drop place entries)

-- the bytes of the first list of a path
abbrev pub bytes_at : List (String Global × SourceView) → List ℕ → Option (List ℕ)
bytes_at entries path = option_map (λ list. list.left) (found_at entries path)
