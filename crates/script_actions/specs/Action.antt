-- What a line asks for, as contracts see it.
-- Source: none; the script language is our own.
use Rattle.std.specs.Prelude.{ℕ, Bool, List, Option}
use Rattle.agent_base.specs.declared.refusals.Label.{Label}
use Rattle.origin_site.specs.Address.{PlainAddress}
use Rattle.origin_site.specs.Site.{PlainSite}
use Rattle.storage_events.specs.declared.event.AreaKind.{AreaKind}
use Rattle.script_actions.specs.declared.words.Method.{Method}
use Rattle.script_actions.specs.declared.words.Prompt.{Prompt}
use Rattle.unwinding.specs.Admissible.{Step}

-- a field of a response's head: its name and its value, as they are written
pub record HeadField : Type 0 where
  pub name : List ℕ
  pub value : List ℕ

-- what a document does, or what is done to it. It has two areas, and is named beside the action.
pub data DocumentAction : Type 0 where
  -- the frame that is named is added below a parent, with the text of its `sandbox` attribute. Its
  -- load has a response with this head.
  Frame : (parent : ℕ) (url : PlainAddress) (sandbox : Option (List ℕ)) (deny : Bool)
      (head : List HeadField) → DocumentAction
  -- its frame goes to another document, which its own document starts or its parent's
  Nav : (url : PlainAddress) (by_self : Bool) (method : Method) (head : List HeadField)
      → DocumentAction
  -- its frame is removed
  Drop : DocumentAction
  -- a user clicks on it
  Click : DocumentAction
  -- it requests an address, and the response has this head
  Fetch : (url : PlainAddress) (method : Method) (head : List HeadField) → DocumentAction
  -- a name of an area gets a value
  Set : (area : AreaKind) (key value : List ℕ) → DocumentAction
  -- what is the value of a name of an area?
  Get : (area : AreaKind) (key : List ℕ) → DocumentAction
  -- a name of an area is removed, with its value
  Del : (area : AreaKind) (key : List ℕ) → DocumentAction
  -- an area is emptied
  Clear : (area : AreaKind) → DocumentAction
  -- how many names has an area?
  Len : (area : AreaKind) → DocumentAction
  -- which name stands at this place of an area, from 0?
  Key : (area : AreaKind) (n : ℕ) → DocumentAction
  -- which storage events does it have, and how many were lost? It has none of them afterwards.
  Events : DocumentAction
  -- what does its script read of its cookies?
  Cookie : DocumentAction
  -- its script sets a cookie by this text
  SetCookie : (text : List ℕ) → DocumentAction
  -- has it access to its unpartitioned cookies?
  Has : DocumentAction
  -- it requests that access, and the user answers the prompt so
  Request : (answer : Prompt) → DocumentAction
  -- is its bucket persistent?
  Persisted : DocumentAction
  -- what does its local area weigh?
  Estimate : DocumentAction
  -- it asks for a persistent bucket, and the user answers this. No line has `Dismiss` here.
  Persist : (answer : Prompt) → DocumentAction

-- what a line asks for. A document is named by its tab and frame.
pub data PlainAction : Type 0 where
  -- the clock is moved by so many seconds
  Tick : (s : ℕ) → PlainAction
  -- a tab is opened with a top document. Its load is started by the opener's top document, or by
  -- the user where there is no opener. With `noopener` it gets no copy of the opener's areas.
  Open : (tab : ℕ) (url : PlainAddress) (opener : Option ℕ) (noopener : Bool) (method : Method)
      (head : List HeadField) → PlainAction
  -- a tab is closed
  Close : (tab : ℕ) → PlainAction
  -- a tab goes to another top document, which its page starts or the user
  Go : (tab : ℕ) (url : PlainAddress) (by_page : Bool) (method : Method) (head : List HeadField)
      → PlainAction
  -- the local areas under a top-level site are emptied, but for those of persistent buckets
  Evict : (site : PlainSite) → PlainAction
  -- an action of a document
  Act : (at : Label) (action : DocumentAction) → PlainAction

-- a line: the agent acts, or the power of the disk fails and comes back, and the store is opened
-- again
abbrev pub PlainStep : Type 0
PlainStep = Step PlainAction

-- a line that is not skipped, with its number, from 1
pub record PlainLine : Type 0 where
  pub number : ℕ
  pub step : PlainStep
