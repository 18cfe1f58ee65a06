-- The text of an item of a local script: one line of JSON, as the crate `serde_json` writes it
-- compactly. And the text of the item that closes the last epoch, which is the end of the script.
-- Source: none; a line of a script is that of docs/FORMATS.md.
-- Our own choice: the whole format. Members stand in the byte order of their names. An item is
-- numbered by its place, from 0; the end is not.
use Rattle.std.specs.Prelude.{ℕ, List, [], ◌∷◌, ◌++◌, codes, Some}
use Rattle.serde_json.specs.Data.{Data, null, boolean, string, object}
use Rattle.serde_json.specs.Data.{Members, no_members, member}
use Rattle.serde_json.specs.Written.{compact_text}
use Rattle.unwinding.specs.LocalScript.{Happens, Restarts}
use Rattle.script_actions.specs.ActionFacts.{facts_of}
use Rattle.agent_model.specs.SiteEvent.{SiteEvent, Acts, Arrives, Leaves, Copies, Closes, Evicts}
use Rattle.local_scripts.specs.Items.{AgentItem}
use Rattle.item_lines.specs.Line.{whole_data, head_data, line_data}
use Rattle.item_lines.specs.Parts.{addressed, held_data}
use Rattle.item_lines.specs.Words.{method_text, load_text}

-- ---- members, in byte order of their names

-- an event that has no more than its tab
abbrev pub tab_members : List ℕ → (entry moment : ℕ) → (held : Data) → (tab : ℕ) → Members
tab_members name entry moment held tab =
    member (codes "entry") (whole_data entry) (member (codes "event") (string name)
    (member (codes "held") held (member (codes "moment") (whole_data moment)
    (member (codes "tab") (whole_data tab) no_members))))

-- an event at a moment, with the cookies that it holds
abbrev pub event_members : (entry moment : ℕ) → (held : Data) → SiteEvent → Members
event_members entry moment held (Acts at action) =
    addressed (facts_of action).address
    (member (codes "entry") (whole_data entry) (member (codes "event") (string (codes "acts"))
    (member (codes "held") held (member (codes "line") (line_data at action)
    (member (codes "moment") (whole_data moment) no_members)))))
event_members entry moment held (Arrives load tab url method same_site head) =
    addressed (Some url)
    (member (codes "entry") (whole_data entry) (member (codes "event") (string (codes "arrives"))
    (member (codes "head") (head_data head) (member (codes "held") held
    (member (codes "load") (string (load_text load))
    (member (codes "method") (string (method_text method))
    (member (codes "moment") (whole_data moment) (member (codes "same_site") (boolean same_site)
    (member (codes "tab") (whole_data tab)
    (member (codes "url") (string url.text) no_members))))))))))
event_members entry moment held (Leaves tab) =
    tab_members (codes "leaves") entry moment held tab
event_members entry moment held (Copies from to) =
    member (codes "entry") (whole_data entry) (member (codes "event") (string (codes "copies"))
    (member (codes "from") (whole_data from) (member (codes "held") held
    (member (codes "moment") (whole_data moment)
    (member (codes "to") (whole_data to) no_members)))))
event_members entry moment held (Closes tab) =
    tab_members (codes "closes") entry moment held tab
event_members entry moment held Evicts =
    member (codes "entry") (whole_data entry) (member (codes "event") (string (codes "evicts"))
    (member (codes "held") held (member (codes "moment") (whole_data moment) no_members)))

-- a restart, as the item of this number
abbrev pub restart_members : (entry moment acknowledged kept : ℕ) → Members
restart_members entry moment acknowledged kept =
    member (codes "acknowledged") (whole_data acknowledged)
    (member (codes "end") (string (codes "restart")) (member (codes "entry") (whole_data entry)
    (member (codes "kept") (whole_data kept)
    (member (codes "moment") (whole_data moment) no_members))))

-- the end
abbrev pub end_members : (moment acknowledged kept : ℕ) → Members
end_members moment acknowledged kept =
    member (codes "acknowledged") (whole_data acknowledged)
    (member (codes "end") (string (codes "run")) (member (codes "kept") (whole_data kept)
    (member (codes "moment") (whole_data moment) no_members)))

-- ---- lines

-- the item of this number, as JSON
abbrev pub item_data : (number : ℕ) → AgentItem → Data
item_data number (Happens entry) =
    object (event_members number entry.event.moment (held_data entry.held) entry.event.event)
item_data number (Restarts moment acknowledged kept) =
    object (restart_members number moment acknowledged kept)

-- the end as JSON. No local script ends with an entry.
abbrev pub end_data : AgentItem → Data
end_data (Happens entry) = null
end_data (Restarts moment acknowledged kept) = object (end_members moment acknowledged kept)

-- the line of the item of this number, with its line feed
abbrev pub item_text : (number : ℕ) → AgentItem → List ℕ
item_text number item = compact_text (item_data number item) ++ 10 ∷ []

-- the line of the end, with its line feed
abbrev pub end_text : AgentItem → List ℕ
end_text end = compact_text (end_data end) ++ 10 ∷ []
