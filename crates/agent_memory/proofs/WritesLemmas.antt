-- What is written behind a body, from the row changes of what was done.
use Rattle.std.proofs.Common.{◌≡◌, ◌||◌, ℕ, Bool, true, false, cond, List, [], ◌∷◌, ◌++◌, length, take, Option, Some, None, Ok, Err, arith, refl, sym, ap, subst, ◌∙◌}
use Rattle.std.proofs.Math.Seq.{take-append_seam}
use Rattle.std.proofs.lemmas.List.{append-nil}
use Rattle.std.proofs.lemmas.List.Elements.{All-nil, All-cons}
use Rattle.std.proofs.lemmas.Bool.{lt-ltb, true≢false}
use Rattle.std.specs.Prelude.{IfSome, Result, Vec, codes, nat_lt, vec_len}
use Rattle.std.specs.declared.alloc.Global.{Global}
use Rattle.std.specs.Result.{IsErr}
use Rattle.unwinding.specs.Durable.{line_changes}
use Rattle.agent_base.specs.declared.refusals.Label.{Label}
use Rattle.agent_base.specs.declared.refusals.NoMemory.{NoMemory}
use Rattle.suffix_list.specs.Suffix.{Rule}
use Rattle.origin_site.specs.Site.{PlainSite}
use Rattle.storage_key.specs.Key.{PlainKey}
use Rattle.frame_tree.specs.Document.{PlainDocument}
use Rattle.frame_tree.specs.declared.tab.TreeFault.{TreeFault}
use Rattle.frame_tree.specs.Keys.{key_of_document}
use Rattle.frame_tree.specs.Tree.{PlainFrame, document_of, has_frame}
use Rattle.live_state.specs.Tabs.{PlainTab, queue_of}
use Rattle.local_area.specs.Area.{Pair}
use Rattle.storage_events.specs.declared.event.AreaKind.{AreaKind}
use Rattle.storage_events.specs.declared.event.AreaKind.TheVariants.{Local, Session}
use Rattle.script_actions.specs.Action.{PlainAction, Tick, Open, Close, Go, Evict, Act, DocumentAction}
use Rattle.script_actions.specs.Action.{Frame, Nav, Drop, Click, Fetch, Set, Get, Del, Clear, Len, Key, Events, Cookie, SetCookie, Has, Request, Persisted, Estimate, Persist}
use Rattle.script_actions.specs.ActionFacts.{facts_of}
use Rattle.reply_lines.specs.Reply.{PlainBody, Plain}
use Rattle.row_changes.specs.Change.{PlainChange, AreaClear}
use Rattle.row_changes.specs.Appended.{Appends, HasTexts, IsAppended, IsFront}
use Rattle.agent_model.specs.Changes.{changes_of_write, durable_in}
use Rattle.agent_model.specs.Partition.{Holdings}
use Rattle.agent_model.specs.Effects.{Effect, SharedCells, answers}
use Rattle.agent_model.specs.Documents.{Keyed, by_document, by_key, with_key}
use Rattle.agent_model.specs.Frames.{click, frames_clicked, frames_removed, on_frames, remove_frame}
use Rattle.agent_model.specs.Queues.{take_events, take_queue}
use Rattle.agent_model.specs.StorageAccess.{tell_access}
use Rattle.agent_model.specs.TheMachine.{machine}
use Rattle.one_store.specs.Store.{change_of}
use Rattle.agent_memory.specs.AgentState.{AgentState, world_of}
use Rattle.agent_memory.specs.ActionKinds.{by_keyed, is_reading, key_action}
use Rattle.agent_memory.specs.Writes.{LineWrites}
use Rattle.agent_memory.specs.Written.{AreWritten, HasRoom, AgentChange}

-- ---- bytes

-- the length of a body that is kept beside its bytes
pub len_items : (body : Vec ℕ Global) → vec_len body ≡ length body.items
len_items body = omega (arith, body.ok.0)

-- nothing is written
pub none_appended : (before : List ℕ) → IsAppended [] before before
none_appended before = (sym (append-nil before), All-nil HasTexts, omega arith)

-- what was there is its own front
pub front_same : (before : List ℕ) → IsFront before before
front_same before = ([], sym (append-nil before))

-- it is the front of what was appended to it, and of what has that at its front
pub appended_front : (changes : List PlainChange) (before after : List ℕ) → IsAppended changes before after → IsFront before after
appended_front changes before after is = (_, is.0)

-- and is cut back to
pub cut_back : (before after : List ℕ) → IsFront before after → take (length before) after ≡ before
cut_back before after is = ap (take (length before)) is.1 ∙ take-append_seam before is.0

-- what is written further leaves it the front
pub writes_front : {T : Type 0} (changes : List PlainChange) (before after : List ℕ)
    (result : Result T NoMemory) → Appends changes before after result → IsFront before after
writes_front changes before after (Ok told) is = appended_front changes before after is
writes_front changes before after (Err wanting) front = front

-- what was appended stays so, whether what follows wants memory or not
pub appended_still : {T : Type 0} (changes : List PlainChange) (before after : List ℕ)
    (result : Result T NoMemory) → IsAppended changes before after → Appends changes before after result
appended_still changes before after (Ok told) is = is
appended_still changes before after (Err wanting) is = appended_front changes before after is

-- nothing is written by what has no row change, whatever the answer is
pub writes_none : {T : Type 0} (changes : List PlainChange) → changes ≡ []
    → (body : List ℕ) (result : Result T NoMemory) → Appends changes body body result
writes_none changes none body (Ok told) = subst (λ c. IsAppended c body body) (sym none) (none_appended body)
writes_none changes none body (Err wanting) = front_same body

-- memory was wanting
pub writes_wanting : {T : Type 0} (changes : List PlainChange) (before after : List ℕ)
    (result : Result T NoMemory) → IsErr result → IsFront before after → Appends changes before after result
writes_wanting changes before after (Ok told) wanting front = absurd (cc wanting)
writes_wanting changes before after (Err wanting) is front = front

-- what holds of each holds of one that there is
pub each_some : {X : Type 0} (says : X → Type 0) (found : Option X) → ((x : X) → says x) → IfSome found says
each_some says None all = tt
each_some says (Some x) all = all x

-- the row changes are told otherwise
pub writes_as : {T : Type 0} (changes seen : List PlainChange) (before after : List ℕ)
    (result : Result T NoMemory) → changes ≡ seen → Appends changes before after result → Appends seen before after result
writes_as changes seen before after result same writes = subst (λ c. Appends c before after result) same writes

-- ---- actions without row changes

frames_none : (number : ℕ) (tab : PlainTab) (body : PlainBody) (after : Result (List PlainFrame) TreeFault)
    (cells : SharedCells) (held : Holdings)
    → (on_frames number tab None (λ frames. answers body) after cells held).changes ≡ []
frames_none number tab body (Ok frames) cells held = refl
frames_none number tab body (Err why) cells held = refl

pub removes_none : (at : Label) (tab : PlainTab) (cells : SharedCells) (held : Holdings)
    → (remove_frame at tab cells held).changes ≡ []
removes_none at tab cells held = frames_none at.tab tab _ (frames_removed at tab.frames) cells held

pub clicks_none : (now : ℕ) (at : Label) (tab : PlainTab) (cells : SharedCells) (held : Holdings)
    → (click now at tab cells held).changes ≡ []
clicks_none now at tab cells held = frames_none at.tab tab _ (frames_clicked now at tab.frames) cells held

pub takes_none : (at : Label) (tab : PlainTab) (cells : SharedCells) (held : Holdings)
    → (take_events at tab cells held).changes ≡ []
takes_none at tab cells held = by (has_frame at.frame tab.frames)
  where
    by : (b : Bool) → (cond b (take_queue at tab (queue_of at.frame tab.queues))
        (answers (Plain (codes "no-frame"))) cells held).changes ≡ []
    by true = refl
    by false = refl

-- what a document does has none, whether it is there or not
document_none : (action : PlainDocument → Effect) (cells : SharedCells) (held : Holdings)
    → ((document : PlainDocument) → (action document cells held).changes ≡ [])
    → (document : Option PlainDocument) → (by_document document action cells held).changes ≡ []
document_none action cells held none None = refl
document_none action cells held none (Some document) = none document

pub tells_none : (rules : List Rule) (now : ℕ) (at : Label) (tab : PlainTab) (cells : SharedCells)
    (held : Holdings) → (tell_access rules now at tab cells held).changes ≡ []
tells_none rules now at tab cells held = document_none _ cells held (λ document. refl) (document_of at.frame tab.frames)

-- nor has what it does with its key
pub keyed_none : (at : Label) (tab : PlainTab) (action : Keyed → Effect) (cells : SharedCells)
    (held : Holdings) → ((reader : Keyed) → (action reader cells held).changes ≡ [])
    → (with_key at tab action cells held).changes ≡ []
keyed_none at tab action cells held none =
    document_none (λ document. by_key at document (key_of_document at.frame tab.frames document) action) cells held
    (λ document. by document (key_of_document at.frame tab.frames document)) (document_of at.frame tab.frames)
  where
    by : (document : PlainDocument) (key : Option PlainKey) → (by_key at document key action cells held).changes ≡ []
    by document None = refl
    by document (Some key) = none _

-- an action that only reads
abbrev pub HasNone : (PlainSite → PlainTab → Keyed → Effect) → Type 0
HasNone does = (site : PlainSite) (tab : PlainTab) (reader : Keyed) (cells : SharedCells) (held : Holdings)
    → (does site tab reader cells held).changes ≡ []

reads_none : (rules : List Rule) (now : ℕ) (action : DocumentAction) → (facts_of action).reads ≡ true
    → IfSome (key_action rules now action) HasNone
reads_none rules now (Frame parent url sandbox deny head) is = tt
reads_none rules now (Nav url by_self method head) is = tt
reads_none rules now Drop is = tt
reads_none rules now Click is = tt
reads_none rules now (Fetch url method head) is = tt
reads_none rules now (Set area key value) is = absurd (cc is)
reads_none rules now (Get area key) is = λ site tab reader cells held. refl
reads_none rules now (Del area key) is = absurd (cc is)
reads_none rules now (Clear area) is = absurd (cc is)
reads_none rules now (Len area) is = λ site tab reader cells held. refl
reads_none rules now (Key area n) is = λ site tab reader cells held. refl
reads_none rules now Events is = tt
reads_none rules now Cookie is = λ site tab reader cells held. refl
reads_none rules now (SetCookie text) is = absurd (cc is)
reads_none rules now Has is = tt
reads_none rules now (Request answer) is = tt
reads_none rules now Persisted is = λ site tab reader cells held. refl
reads_none rules now Estimate is = λ site tab reader cells held. refl
reads_none rules now (Persist answer) is = absurd (cc is)

pub reading_none : (rules : List Rule) (now : ℕ) (line : PlainAction) → is_reading line ≡ true
    → IfSome (by_keyed rules now line) HasNone
reading_none rules now (Tick s) is = tt
reading_none rules now (Open tab url opener noopener method head) is = tt
reading_none rules now (Close tab) is = tt
reading_none rules now (Go tab url by_page method head) is = tt
reading_none rules now (Evict site) is = tt
reading_none rules now (Act at action) is = reads_none rules now action (or_none (facts_of action).reads ∙ is)
  where
    or_none : (b : Bool) → b ≡ (b || false)
    or_none true = refl
    or_none false = refl

-- a clear of an area has a row change where the area has pairs
pub clears_none : (kind : AreaKind) (key : PlainKey) (pairs : List Pair) → nat_lt 0 (length pairs) ≡ false
    → durable_in kind (changes_of_write key None None pairs) ≡ []
clears_none Local key [] none = refl
clears_none Session key pairs none = refl
clears_none Local key (pair ∷ pairs) none = absurd (true≢false (sym (lt-ltb 0 (length (pair ∷ pairs)) (omega arith)) ∙ none))

pub clears_some : (key : PlainKey) (pairs : List Pair) → nat_lt 0 (length pairs) ≡ true
    → AreaClear key ∷ [] ≡ changes_of_write key None None pairs
clears_some key [] some = absurd (cc some)
clears_some key (pair ∷ pairs) some = refl

-- ---- the durable change of a line

-- there is none
pub none_written : (before : List ℕ) → AreWritten [] before before
none_written before = record { behind = sym (append-nil before); room = All-nil HasRoom }

-- row changes of a site are written as one
pub site_written : (site : PlainSite) (changes : List PlainChange) (before after : List ℕ)
    → IsAppended changes before after → AreWritten (change_of site changes) before after
site_written site [] before after is = record { behind = is.0; room = All-nil HasRoom }
site_written site (change ∷ changes) before after is =
    let one : AgentChange = record { site = site; changes = change ∷ changes } in
    record {
      behind = is.0 ∙ ap (λ bytes. before ++ bytes) (sym (append-nil _));
      room = All-cons HasRoom one [] (is.1, is.2) (All-nil HasRoom);
    }

-- the state of the agent is told otherwise
module _ (action : PlainAction) (old seen : AgentState) (same : old ≡ seen) where
  pub line_none : line_changes (machine old.rules) (world_of old) action ≡ [] → (body : List ℕ)
      → AreWritten (line_changes (machine seen.rules) (world_of seen) action) body body
  line_none none body =
      subst (λ (o : AgentState). AreWritten (line_changes (machine o.rules) (world_of o) action) body body) same
      (subst (λ made. AreWritten made body body) (sym none) (none_written body))

  pub line_written : (site : PlainSite) (changes : List PlainChange)
      → line_changes (machine old.rules) (world_of old) action ≡ change_of site changes
      → (before after : List ℕ) → IsAppended changes before after
      → AreWritten (line_changes (machine seen.rules) (world_of seen) action) before after
  line_written site changes is before after appended =
      subst (λ (o : AgentState). AreWritten (line_changes (machine o.rules) (world_of o) action) before after) same
      (subst (λ made. AreWritten made before after) (sym is) (site_written site changes before after appended))

-- memory was wanting for a line
pub line_wanting : {T : Type 0} (action : PlainAction) (old : AgentState) (before after : List ℕ)
    (result : Result T NoMemory) → IsErr result → IsFront before after → LineWrites action old before after result
line_wanting action old before after (Ok told) wanting front = absurd (cc wanting)
line_wanting action old before after (Err wanting) is front = front
