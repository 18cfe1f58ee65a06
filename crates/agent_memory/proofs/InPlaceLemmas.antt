-- What an action on the frames of a tab makes of what is held, where the tab is changed in its place.
use Rattle.std.proofs.Common.{◌≡◌, ◌⊎◌, ℕ, true, List, [], Option, Some, Ok, Err, refl, sym, ap, subst, ◌∙◌}
use Rattle.std.specs.Prelude.{Result}
use Rattle.agent_base.specs.Answers.{Answers}
use Rattle.agent_base.specs.declared.refusals.NoMemory as memory
use Rattle.frame_tree.specs.declared.tab.TreeFault.{TreeFault}
use Rattle.frame_tree.specs.declared.tab.TreeFault.TheVariants.{FrameExists, NoFrame, NoMemory}
use Rattle.frame_tree.specs.Tree.{PlainFrame, top_site}
use Rattle.live_state.specs.FramesInPlace.{ChangesTab, frames_at}
use Rattle.live_state.specs.Queues.{frames_by}
use Rattle.live_state.specs.Tabs.{PlainLive, PlainTab, is_open, tab_at}
use Rattle.reply_lines.specs.declared.reply.ReplyBody.{ReplyBody}
use Rattle.reply_lines.specs.Plain.{body_of}
use Rattle.reply_lines.specs.Reply.{PlainBody, Plain}
use Rattle.web_cookies.specs.Prepared.{Prepares}
use Rattle.web_cookies.specs.Stored.{Entries as CookieEntries}
use Rattle.web_cookies.specs.declared.prepared.Prepared.{Prepared}
use Rattle.agent_model.specs.Effects.{Effect, answers}
use Rattle.agent_model.specs.Frames.{on_frames}
use Rattle.agent_memory.specs.Actions.{Acts, Answered, Stays}
use Rattle.agent_memory.specs.FrameTrees.{AreTrees, IsFrameTree}
use Rattle.agent_memory.specs.HoldingsView.{HoldingsView}
use Rattle.agent_memory.specs.Requests.{IsPerformed, KeepsCookies}
use Rattle.agent_memory.proofs.DoneLemmas.{done_by, frames_done, frames_refused, stays_same, tree_of_open}
use Rattle.agent_memory.proofs.FrameLemmas.{Leaves}
use Rattle.agent_memory.proofs.TreeLemmas.{trees_after_put}

-- every open tab has a tree of frames afterwards
pub trees_in_place : (number : ℕ) (fresh : Option ℕ) (old new : PlainLive) (after : Result (List PlainFrame) TreeFault)
    → (done : Result (Unit {0}) TreeFault) → Answers (λ _. frames_at number new.tabs) NoMemory after done
    → ChangesTab number fresh done old new
    → is_open number old.tabs ≡ true → (IsFrameTree (frames_at number old.tabs) → Leaves (frames_at number old.tabs) after)
    → AreTrees old.tabs → AreTrees new.tabs
trees_in_place number fresh old new after (Ok u) is changes opened leaves trees =
    let tree : IsFrameTree (frames_at number old.tabs) = tree_of_open (tab_at number old.tabs) opened (trees number) in
    subst AreTrees (sym changes.put)
    (trees_after_put number (frames_at number new.tabs) fresh old.tabs
    (subst (Leaves (frames_at number old.tabs)) is (leaves tree)).0 trees)
trees_in_place number fresh old new after (Err why) is changes opened leaves trees =
    subst (λ (l : PlainLive). AreTrees l.tabs) (sym changes.unchanged) trees

-- the action was refused, or memory was wanting
pub acts_refused : (number : ℕ) (tab : PlainTab) (fresh : Option ℕ) (next : List PlainFrame → Effect)
    (after : Result (List PlainFrame) TreeFault) (old new : HoldingsView)
    → Stays old new → (why : TreeFault) → (why ≡ NoMemory) ⊎ (after ≡ Err why)
    → (body : PlainBody) (result : Result ReplyBody memory.NoMemory) → Answered (Err why) body result
    → Acts (on_frames number tab fresh next after) old new result
acts_refused number tab fresh next after old new stays NoFrame is body (Ok b) answered =
    frames_refused number tab fresh next after NoFrame (body_of b) old new is (λ e. cc e) answered stays
acts_refused number tab fresh next after old new stays NoFrame is body (Err e) answered = absurd answered
acts_refused number tab fresh next after old new stays FrameExists is body (Ok b) answered =
    frames_refused number tab fresh next after FrameExists (body_of b) old new is (λ e. cc e) answered stays
acts_refused number tab fresh next after old new stays FrameExists is body (Err e) answered = absurd answered
acts_refused number tab fresh next after old new stays NoMemory is body (Ok b) answered = absurd answered
acts_refused number tab fresh next after old new stays NoMemory is body (Err e) answered = stays

-- the action was done, or refused
pub acts_in_place : (number : ℕ) (fresh : Option ℕ) (old new : HoldingsView)
    (after : Result (List PlainFrame) TreeFault) → new.storage ≡ old.storage → new.grants ≡ old.grants
    → KeepsCookies old.cookies new.cookies
    → (done : Result (Unit {0}) TreeFault) → Answers (λ _. frames_at number new.live.tabs) NoMemory after done
    → ChangesTab number fresh done old.live new.live
    → (tab : PlainTab) → tab_at number old.live.tabs ≡ Some tab
    → (body : PlainBody) (result : Result ReplyBody memory.NoMemory) → Answered done body result
    → Acts (on_frames number tab fresh (λ frames. answers body) after) old new result
acts_in_place number fresh old new after storage rows keeps (Ok u) is changes tab found body (Ok b) answered =
    frames_done number tab fresh (λ frames. answers body) after (frames_at number new.live.tabs) (body_of b) old new new found is
    (changes.site ∙ ap (λ t. top_site (frames_by t)) found) changes.put storage rows keeps
    (record { held = refl; cells = refl; answer = answered; places = refl })
acts_in_place number fresh old new after storage rows keeps (Ok u) is changes tab found body (Err e) answered =
    absurd answered
acts_in_place number fresh old new after storage rows keeps (Err why) is changes tab found body result answered =
    acts_refused number tab fresh (λ frames. answers body) after old new
    (stays_same old new (ap (λ (l : PlainLive). l.tabs) changes.unchanged) storage rows keeps) why is body result answered

-- a frame was loaded, or that was refused: its cookies were prepared before, and performed once the frames had it
pub load_in_place : (number : ℕ) (fresh : Option ℕ) (does : Effect) (prepared : Prepared)
    (own : CookieEntries) (old new : HoldingsView) (after : Result (List PlainFrame) TreeFault)
    → new.storage ≡ old.storage → new.grants ≡ old.grants → KeepsCookies old.cookies own → Prepares does own prepared
    → (done : Result (Unit {0}) TreeFault) → Answers (λ _. frames_at number new.live.tabs) NoMemory after done
    → ChangesTab number fresh done old.live new.live
    → (tab : PlainTab) → tab_at number old.live.tabs ≡ Some tab → (result : Result ReplyBody memory.NoMemory)
    → IsPerformed done prepared own new.cookies result
    → Acts (on_frames number tab fresh (λ frames. does) after) old new result
load_in_place number fresh does prepared own old new after storage rows keeps ready (Ok u) is changes tab found (Ok b)
    performed =
    let mid : HoldingsView = record new { cookies = own } in
    frames_done number tab fresh (λ frames. does) after (frames_at number new.live.tabs) (body_of b) old mid new found is
    (changes.site ∙ ap (λ t. top_site (frames_by t)) found) changes.put storage rows keeps
    (done_by does mid new (body_of b) refl refl refl (performed does ready))
load_in_place number fresh does prepared own old new after storage rows keeps ready (Ok u) is changes tab found (Err e)
    performed = absurd performed
load_in_place number fresh does prepared own old new after storage rows keeps ready (Err why) is changes tab found result
    performed =
    acts_refused number tab fresh (λ frames. does) after old new
    (stays_same old new (ap (λ (l : PlainLive). l.tabs) changes.unchanged) storage rows
    (subst (KeepsCookies old.cookies) (sym performed.0) keeps))
    why is (Plain []) result (performed.1 (Plain []))
