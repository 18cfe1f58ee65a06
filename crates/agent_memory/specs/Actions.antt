-- What an action in an open tab makes of what the agent holds, and its answer.
-- Source: none; what each action does stands in `agent_model`.
use Rattle.std.specs.Prelude.{◌≡◌, ℕ, List, Some, Result, Ok, Err, MatchResult}
use Rattle.agent_base.specs.declared.refusals.Label.{Label}
use Rattle.agent_base.specs.declared.refusals.NoMemory.{NoMemory}
use Rattle.origin_site.specs.Site.{PlainSite}
use Rattle.storage_key.specs.Key.{PlainKey}
use Rattle.frame_tree.specs.Document.{PlainDocument}
use Rattle.frame_tree.specs.Tree.{top_site}
use Rattle.frame_tree.specs.declared.tab.TreeFault.{TreeFault}
use Rattle.frame_tree.specs.declared.tab.TreeFault.TheVariants as fault
use Rattle.local_area.specs.Area.{area_put}
use Rattle.storage_events.specs.declared.event.AreaKind.{AreaKind}
use Rattle.storage_events.specs.Event.{PlainEvent}
use Rattle.live_state.specs.Tabs.{PlainTab, tab_at}
use Rattle.reply_lines.specs.declared.reply.ReplyBody.{ReplyBody}
use Rattle.reply_lines.specs.Plain.{body_of}
use Rattle.reply_lines.specs.Reply.{PlainBody}
use Rattle.agent_model.specs.Effects.{Done, Effect}
use Rattle.agent_model.specs.Documents.{Keyed}
use Rattle.agent_model.specs.AreaActions.{pairs_of, store}
use Rattle.agent_model.specs.Frames.{refused_by}
use Rattle.agent_model.specs.Lines.{placed}
use Rattle.agent_memory.specs.AgentState.{places_in}
use Rattle.agent_memory.specs.Documents.{document_at}
use Rattle.agent_memory.specs.HoldingsView.{HoldingsView, cells_of, held_of}

-- ---- what was done

-- a pair is stored in an area of a document, and this event is sent, unless the quota refuses it
abbrev pub put_sent : AreaKind → (name value : List ℕ) → PlainEvent → Keyed → Effect
put_sent kind name value event writer cells held =
    store kind writer (area_put name value (pairs_of kind writer held)) event cells held

-- an action was done: this is held and these are the shared cells afterwards, this was answered,
-- and each tab is where it was
pub record IsDone (done : Done) (old new : HoldingsView) (body : PlainBody) : Type 0 where
  pub held : held_of new ≡ done.held
  pub cells : cells_of new ≡ done.cells
  pub answer : body ≡ done.body
  pub places : places_in new.live.tabs ≡ places_in old.live.tabs

-- what was held is held still, the shared cells are as they were, and each tab is where it was
pub record Stays (old new : HoldingsView) : Type 0 where
  pub held : held_of new ≡ held_of old
  pub cells : cells_of new ≡ cells_of old
  pub places : places_in new.live.tabs ≡ places_in old.live.tabs

-- this was done with what was held and the shared cells, or memory was wanting and all stays
abbrev pub Acts : Effect → (old new : HoldingsView) → Result ReplyBody NoMemory → Type 0
Acts does old new result =
    MatchResult result
    (λ body. IsDone (does (cells_of old) (held_of old)) old new (body_of body))
    (λ _. Stays old new)

-- the same in an open tab of this number, and at the site that it is at
abbrev pub ActsIn : ℕ → (PlainSite → PlainTab → Effect) → (old new : HoldingsView)
    → Result ReplyBody NoMemory → Type 0
ActsIn number does old new result =
    (tab : PlainTab) (site : PlainSite) → tab_at number old.live.tabs ≡ Some tab
    → top_site tab.frames ≡ Some site → Acts (does site tab) old new result

-- the same by a document that is there, with this storage key
abbrev pub ActsBy : Label → PlainKey → (Keyed → Effect) → (old new : HoldingsView)
    → Result ReplyBody NoMemory → Type 0
ActsBy at key does old new result =
    (document : PlainDocument) → document_at at old.live.tabs ≡ Some document
    → Acts (does (record { at = at; document = document; key = key })) old new result

-- by one in the open tab of its label, whose site the action sees too
abbrev pub ActsAt : Label → PlainKey → (PlainSite → PlainTab → Keyed → Effect)
    → (old new : HoldingsView) → Result ReplyBody NoMemory → Type 0
ActsAt at key does old new result =
    (tab : PlainTab) (site : PlainSite) → tab_at at.tab old.live.tabs ≡ Some tab
    → top_site tab.frames ≡ Some site → ActsBy at key (does site tab) old new result

-- ---- loads of top documents

-- a load was done: this is held and these are the shared cells afterwards, this was answered, and
-- this tab is at the site that it reached
pub record IsLoaded (done : Done) (number : ℕ) (target : PlainSite) (old new : HoldingsView)
    (body : PlainBody) : Type 0 where
  pub held : held_of new ≡ done.held
  pub cells : cells_of new ≡ done.cells
  pub answer : body ≡ done.body
  pub places : places_in new.live.tabs ≡ placed number target (places_in old.live.tabs)

-- ---- an action on the frames of a tab

-- a call on frames was answered: by this body where it was done, and else by what refused it
abbrev pub Answered : Result (Unit {0}) TreeFault → PlainBody → Result ReplyBody NoMemory → Type 0
Answered (Ok u) body result = MatchResult result (λ b. body_of b ≡ body) (λ _. ⊥)
Answered (Err fault.NoFrame) body result =
    MatchResult result (λ b. body_of b ≡ refused_by fault.NoFrame) (λ _. ⊥)
Answered (Err fault.FrameExists) body result =
    MatchResult result (λ b. body_of b ≡ refused_by fault.FrameExists) (λ _. ⊥)
Answered (Err fault.NoMemory) body result = MatchResult result (λ _. ⊥) (λ _. Unit {0})
