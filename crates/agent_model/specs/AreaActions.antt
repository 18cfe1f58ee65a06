-- Actions on a storage area of a document.
-- Source: HTML, "Web storage", the Storage interface (`getItem`, `setItem`, `removeItem`, `clear`,
-- `key`, `length`) and the broadcast of a storage object, which a clear of an empty area makes too;
-- Storage Standard, the quotas of the endpoints `localStorage` and `sessionStorage`.
use Rattle.std.specs.Prelude.{ℕ, nat_lt, List, [], length, Option, Some, None, codes, if◌then◌else◌}
use Rattle.local_area.specs.Area.{Pair, quota, area_get, area_nth, area_put, area_remove, area_weight}
use Rattle.local_area.specs.Put.{PlainPut, same, added, changed, put_answer}
use Rattle.storage_events.specs.declared.event.AreaKind.{AreaKind}
use Rattle.storage_events.specs.Event.{PlainEvent}
use Rattle.reply_lines.specs.Reply.{Plain, Text, Number}
use Rattle.agent_model.specs.Partition.{Holdings, area_of, with_area}
use Rattle.agent_model.specs.Effects.{Effect, answers, changes_to, ok}
use Rattle.agent_model.specs.Changes.{changes_of_write, durable_in}
use Rattle.agent_model.specs.Documents.{Keyed, told}

-- the pairs of a document's area
abbrev pub pairs_of : AreaKind → Keyed → Holdings → List Pair
pairs_of kind writer held = area_of kind writer.at.tab writer.key held

-- the event of a change: the name, and its values before and after
abbrev pub change_event : AreaKind → Keyed → Option (List ℕ) → Option (List ℕ) → Option (List ℕ)
    → PlainEvent
change_event kind writer name before after =
    record {
      area = kind;
      key = name;
      before = before;
      after = after;
      url = writer.document.address.text;
    }

-- a document's area has these pairs, and the audience is told
abbrev pub write : AreaKind → Keyed → List Pair → PlainEvent → Effect
write kind writer pairs event cells held =
    let stored = with_area kind writer.at.tab writer.key pairs held in
    let change = changes_of_write writer.key event.key event.after (pairs_of kind writer held) in
    changes_to (durable_in kind change) ok cells
    (record stored { tabs = told kind writer event stored.tabs })

-- ---- setItem

-- the pairs are stored, unless they weigh more than the quota
abbrev pub store : AreaKind → Keyed → List Pair → PlainEvent → Effect
store kind writer pairs event cells held =
    if nat_lt quota (area_weight pairs) then answers (Plain (codes "quota")) cells held
    else write kind writer pairs event cells held

-- nothing happens where the name has this value already
abbrev pub set_by : PlainPut → AreaKind → Keyed → List ℕ → List ℕ → List Pair → Effect
set_by same kind writer name value pairs = answers ok
set_by added kind writer name value pairs =
    store kind writer pairs (change_event kind writer (Some name) None (Some value))
set_by (changed before) kind writer name value pairs =
    store kind writer pairs (change_event kind writer (Some name) (Some before) (Some value))

-- a name gets a value
abbrev pub set_item : AreaKind → List ℕ → List ℕ → Keyed → Effect
set_item kind name value writer cells held =
    let pairs = pairs_of kind writer held in
    set_by (put_answer name value pairs) kind writer name value (area_put name value pairs)
    cells held

-- ---- removeItem and clear

-- nothing happens where the name is absent
abbrev pub remove_by : Option (List ℕ) → AreaKind → Keyed → List ℕ → Effect
remove_by None kind writer name cells held = answers ok cells held
remove_by (Some before) kind writer name cells held =
    let pairs = area_remove name (pairs_of kind writer held) in
    write kind writer pairs (change_event kind writer (Some name) (Some before) None) cells held

-- a name is removed
abbrev pub remove_item : AreaKind → List ℕ → Keyed → Effect
remove_item kind name writer cells held =
    remove_by (area_get name (pairs_of kind writer held)) kind writer name cells held

-- an area is emptied
abbrev pub clear_area : AreaKind → Keyed → Effect
clear_area kind writer = write kind writer [] (change_event kind writer None None None)

-- ---- look-ups

-- getItem: the value, or null where the name is absent
abbrev pub get_item : AreaKind → List ℕ → Keyed → Effect
get_item kind name reader cells held =
    answers (Text (area_get name (pairs_of kind reader held))) cells held

-- the name at a place, counted from 0, or null past the end
abbrev pub get_name : AreaKind → ℕ → Keyed → Effect
get_name kind place reader cells held =
    answers (Text (area_nth place (pairs_of kind reader held))) cells held

-- the number of pairs
abbrev pub get_length : AreaKind → Keyed → Effect
get_length kind reader cells held =
    answers (Number (length (pairs_of kind reader held))) cells held
