-- An action that looks at no shared cell does the same whatever the cells are, and leaves them.
use Rattle.std.proofs.Common.{◌≡◌, ℕ, Bool, true, false, cond, List, Option, Some, None, Ok, Err, refl}
use Rattle.std.specs.Prelude.{Result, nat_lt, codes}
use Rattle.agent_base.specs.declared.refusals.Label.{Label}
use Rattle.suffix_list.specs.Suffix.{Rule}
use Rattle.origin_site.specs.Site.{PlainSite}
use Rattle.storage_key.specs.Key.{PlainKey}
use Rattle.frame_tree.specs.declared.tab.TreeFault.{TreeFault}
use Rattle.frame_tree.specs.Document.{PlainDocument}
use Rattle.frame_tree.specs.Keys.{key_of_document}
use Rattle.frame_tree.specs.Tree.{PlainFrame, document_of, has_frame}
use Rattle.access_grants.specs.declared.outcome.Outcome.{Outcome}
use Rattle.local_area.specs.Area.{Pair, quota, area_get, area_put, area_weight}
use Rattle.local_area.specs.Put.{PlainPut, same, added, changed, put_answer}
use Rattle.storage_events.specs.declared.event.AreaKind.{AreaKind}
use Rattle.storage_events.specs.Event.{PlainEvent}
use Rattle.live_state.specs.Tabs.{PlainTab, queue_of}
use Rattle.script_actions.specs.declared.words.Prompt.{Prompt}
use Rattle.reply_lines.specs.Reply.{Plain}
use Rattle.agent_model.specs.Partition.{Holdings}
use Rattle.agent_model.specs.Effects.{SharedCells, Done, Effect, no_shared_cells, answers, ok}
use Rattle.agent_model.specs.Documents.{Keyed, by_document, by_key, with_key}
use Rattle.agent_model.specs.AreaActions.{pairs_of, change_event, write, store, set_by, set_item, remove_by, remove_item, clear_area}
use Rattle.agent_model.specs.Buckets.{is_persistent, is_grant, persist_by, persist}
use Rattle.agent_model.specs.Frames.{on_frames, frames_removed, frames_clicked, remove_frame, click}
use Rattle.agent_model.specs.Queues.{take_queue, take_events}
use Rattle.agent_model.specs.StorageAccess.{access_facts, answer_of, done_by, embedded_site, outcome_of, request_access, tell_access}

-- what was done, with other shared cells
abbrev pub with_cells : SharedCells → Done → Done
with_cells cells done = record done { cells = cells }

-- an effect looks at no shared cell
abbrev pub IsApart : Effect → Type 0
IsApart does = (cells : SharedCells) (held : Holdings) → does cells held ≡ with_cells cells (does no_shared_cells held)

either : (b : Bool) (f g : Effect) → IsApart f → IsApart g → IsApart (λ cells held. cond b (f cells held) (g cells held))
either true f g one other = one
either false f g one other = other

-- ---- documents

document_apart : (found : Option PlainDocument) (action : PlainDocument → Effect) → ((document : PlainDocument) → IsApart (action document)) → IsApart (by_document found action)
document_apart None action each cells held = refl
document_apart (Some document) action each cells held = each document cells held

by_key_apart : (at : Label) (document : PlainDocument) (key : Option PlainKey) (action : Keyed → Effect) → ((own : Keyed) → IsApart (action own)) → IsApart (by_key at document key action)
by_key_apart at document None action each cells held = refl
by_key_apart at document (Some key) action each cells held = each (record { at = at; document = document; key = key }) cells held

pub key_apart : (at : Label) (tab : PlainTab) (action : Keyed → Effect) → ((own : Keyed) → IsApart (action own)) → IsApart (with_key at tab action)
key_apart at tab action each = document_apart (document_of at.frame tab.frames) _ (λ document. by_key_apart at document (key_of_document at.frame tab.frames document) action each)

-- ---- areas

store_apart : (kind : AreaKind) (writer : Keyed) (pairs : List Pair) (event : PlainEvent) → IsApart (store kind writer pairs event)
store_apart kind writer pairs event = either (nat_lt quota (area_weight pairs)) (answers (Plain (codes "quota"))) (write kind writer pairs event) (λ cells held. refl) (λ cells held. refl)

set_by_apart : (answer : PlainPut) (kind : AreaKind) (writer : Keyed) (name value : List ℕ) (pairs : List Pair) → IsApart (set_by answer kind writer name value pairs)
set_by_apart same kind writer name value pairs cells held = refl
set_by_apart added kind writer name value pairs cells held = store_apart kind writer pairs (change_event kind writer (Some name) None (Some value)) cells held
set_by_apart (changed before) kind writer name value pairs cells held =
    store_apart kind writer pairs (change_event kind writer (Some name) (Some before) (Some value)) cells held

pub set_apart : (kind : AreaKind) (name value : List ℕ) (writer : Keyed) → IsApart (set_item kind name value writer)
set_apart kind name value writer cells held =
    let pairs = pairs_of kind writer held in
    set_by_apart (put_answer name value pairs) kind writer name value (area_put name value pairs) cells held

remove_by_apart : (found : Option (List ℕ)) (kind : AreaKind) (writer : Keyed) (name : List ℕ) → IsApart (remove_by found kind writer name)
remove_by_apart None kind writer name cells held = refl
remove_by_apart (Some before) kind writer name cells held = refl

pub remove_apart : (kind : AreaKind) (name : List ℕ) (writer : Keyed) → IsApart (remove_item kind name writer)
remove_apart kind name writer cells held = remove_by_apart (area_get name (pairs_of kind writer held)) kind writer name cells held

pub clear_apart : (kind : AreaKind) (writer : Keyed) → IsApart (clear_area kind writer)
clear_apart kind writer cells held = refl

-- ---- buckets

persist_by_apart : (before granted : Bool) (asker : Keyed) → IsApart (persist_by before granted asker)
persist_by_apart true granted asker cells held = refl
persist_by_apart false true asker cells held = refl
persist_by_apart false false asker cells held = refl

pub persist_apart : (answer : Prompt) (asker : Keyed) → IsApart (persist answer asker)
persist_apart answer asker cells held = persist_by_apart (is_persistent asker.key held) (is_grant answer) asker cells held

-- ---- frames and queues

frames_apart : (number : ℕ) (tab : PlainTab) (replaced : Option ℕ) (next : List PlainFrame → Effect) (after : Result (List PlainFrame) TreeFault)
    → ((frames : List PlainFrame) → IsApart (next frames)) → IsApart (on_frames number tab replaced next after)
frames_apart number tab replaced next (Ok frames) each cells held = each frames cells _
frames_apart number tab replaced next (Err why) each cells held = refl

pub events_apart : (at : Label) (tab : PlainTab) → IsApart (take_events at tab)
events_apart at tab = by (has_frame at.frame tab.frames)
  where
    by : (b : Bool) → IsApart (cond b (take_queue at tab (queue_of at.frame tab.queues)) (answers (Plain (codes "no-frame"))))
    by true cells held = refl
    by false cells held = refl

pub drop_apart : (at : Label) (tab : PlainTab) → IsApart (remove_frame at tab)
drop_apart at tab = frames_apart at.tab tab None (λ frames. answers ok) (frames_removed at tab.frames) (λ frames cells held. refl)

pub click_apart : (now : ℕ) (at : Label) (tab : PlainTab) → IsApart (click now at tab)
click_apart now at tab = frames_apart at.tab tab None (λ frames. answers ok) (frames_clicked now at tab.frames) (λ frames cells held. refl)

-- ---- storage access

pub has_apart : (rules : List Rule) (now : ℕ) (at : Label) (tab : PlainTab) → IsApart (tell_access rules now at tab)
has_apart rules now at tab = document_apart (document_of at.frame tab.frames) _ (λ document cells held. refl)

done_apart : (outcome : Option Outcome) (at : Label) (tab : PlainTab) (top site : PlainSite) → IsApart (done_by outcome at tab top site)
done_apart None at tab top site cells held = refl
done_apart (Some outcome) at tab top site cells held = refl

pub request_apart : (rules : List Rule) (now : ℕ) (top : PlainSite) (at : Label) (answer : Prompt) (tab : PlainTab) → IsApart (request_access rules now top at answer tab)
request_apart rules now top at answer tab =
    document_apart (document_of at.frame tab.frames) _
    (λ document cells held.
    let site = embedded_site rules document in
    done_apart (outcome_of top site (access_facts rules now at.frame tab.frames document) (answer_of answer) now held.grants) at tab top site cells held)
