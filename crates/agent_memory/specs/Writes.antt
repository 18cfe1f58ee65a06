-- What an action in an open tab writes behind a body: its row changes, as one durable change.
-- Source: none; the row changes of each action stand in `agent_model`, and their bytes in
-- `row_changes`.
-- Our own choice: where memory was wanting, something may stand behind what was there, and a line
-- cuts it off.
use Rattle.std.specs.Prelude.{◌≡◌, ℕ, List, Some, Result, MatchResult}
use Rattle.unwinding.specs.Durable.{line_changes}
use Rattle.agent_base.specs.declared.refusals.Label.{Label}
use Rattle.agent_base.specs.declared.refusals.NoMemory.{NoMemory}
use Rattle.origin_site.specs.Site.{PlainSite}
use Rattle.storage_key.specs.Key.{PlainKey}
use Rattle.frame_tree.specs.Document.{PlainDocument}
use Rattle.frame_tree.specs.Tree.{top_site}
use Rattle.live_state.specs.Tabs.{PlainTab, tab_at}
use Rattle.row_changes.specs.Appended.{Appends, IsAppended, IsFront}
use Rattle.script_actions.specs.Action.{PlainAction}
use Rattle.web_cookies.specs.declared.prepared.Prepared.{Prepared}
use Rattle.web_cookies.specs.Prepared.{Prepares}
use Rattle.web_cookies.specs.Stored.{Entries, held_with, shared_in}
use Rattle.agent_model.specs.Effects.{Effect}
use Rattle.agent_model.specs.Documents.{Keyed}
use Rattle.agent_model.specs.Partition.{Holdings}
use Rattle.agent_model.specs.TheMachine.{machine}
use Rattle.agent_memory.specs.AgentState.{AgentState, world_of}
use Rattle.agent_memory.specs.Documents.{document_at}
use Rattle.agent_memory.specs.HoldingsView.{HoldingsView, cells_of, held_of}
use Rattle.agent_memory.specs.Written.{AreWritten}

-- the row changes are written of what this does with what was held and the shared cells, or memory
-- was wanting
abbrev pub Writes : {T : Type 0} → Effect → HoldingsView → (before after : List ℕ)
    → Result T NoMemory → Type 0
Writes does old before after result =
    Appends (does (cells_of old) (held_of old)).changes before after result

-- the same in an open tab of this number, and at the site that it is at
abbrev pub WritesIn : {T : Type 0} → ℕ → (PlainSite → PlainTab → Effect) → HoldingsView
    → (before after : List ℕ) → Result T NoMemory → Type 0
WritesIn number does old before after result =
    (tab : PlainTab) (site : PlainSite) → tab_at number old.live.tabs ≡ Some tab
    → top_site tab.frames ≡ Some site → Writes (does site tab) old before after result

-- the same by a document that is there, with this storage key
abbrev pub WritesBy : {T : Type 0} → Label → PlainKey → (Keyed → Effect) → HoldingsView
    → (before after : List ℕ) → Result T NoMemory → Type 0
WritesBy at key does old before after result =
    (document : PlainDocument) → document_at at old.live.tabs ≡ Some document
    → Writes (does (record { at = at; document = document; key = key })) old before after result

-- by one in the open tab of its label, whose site the action sees too
abbrev pub WritesAt : {T : Type 0} → Label → PlainKey → (PlainSite → PlainTab → Keyed → Effect)
    → HoldingsView → (before after : List ℕ) → Result T NoMemory → Type 0
WritesAt at key does old before after result =
    (tab : PlainTab) (site : PlainSite) → tab_at at.tab old.live.tabs ≡ Some tab
    → top_site tab.frames ≡ Some site → WritesBy at key (does site tab) old before after result

-- the row changes of what was prepared are written: those of each effect that it was prepared for
abbrev pub AreRows : Prepared → (before after : List ℕ) → Type 0
AreRows prepared before after =
    (does : Effect) (entries : Entries) (others : Holdings) → Prepares does entries prepared
    → IsAppended (does (shared_in entries) (held_with entries others)).changes before after

-- the durable change of a line was written, or memory was wanting
abbrev pub LineWrites : {T : Type 0} → PlainAction → AgentState → (before after : List ℕ)
    → Result T NoMemory → Type 0
LineWrites action old before after result =
    MatchResult result
    (λ _. AreWritten (line_changes (machine old.rules) (world_of old) action) before after)
    (λ _. IsFront before after)
