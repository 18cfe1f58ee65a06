-- What an action in an open tab makes of what is held, from what is put into the open tabs.
use Rattle.std.proofs.Common.{◌≡◌, ◌≢◌, ◌⊎◌, inl, inr, ℕ, true, cond, List, Option, Some, None, Ok, Err, refl, sym, ap, subst, ◌∙◌}
use Rattle.std.specs.Prelude.{Result, codes, is_some}
use Rattle.std.specs.FinMap.{insert}
use Rattle.suffix_list.specs.Suffix.{Rule}
use Rattle.agent_base.specs.declared.refusals.Label.{Label}
use Rattle.origin_site.specs.Address.{PlainAddress}
use Rattle.origin_site.specs.Site.{PlainSite, site_of_address}
use Rattle.access_grants.specs.Grant.{PlainGrant}
use Rattle.frame_tree.specs.declared.tab.TreeFault.{TreeFault}
use Rattle.frame_tree.specs.declared.tab.TreeFault.TheVariants.{NoMemory}
use Rattle.frame_tree.specs.Calls.{opened}
use Rattle.frame_tree.specs.Tree.{PlainFrame, has_frame, top_site}
use Rattle.live_state.specs.Tabs.{PlainTab, made_tab, queue_of, queues_before, tab_at, tabs_put}
use Rattle.live_state.specs.Queues.{frames_by, queue_at, taken}
use Rattle.web_storage.specs.Stored.{Entries, held_with}
use Rattle.agent_base.specs.declared.refusals.NoMemory as fault
use Rattle.reply_lines.specs.declared.reply.ReplyBody.{ReplyBody}
use Rattle.reply_lines.specs.Reply.{PlainBody}
use Rattle.reply_lines.specs.Reply as reply
use Rattle.web_cookies.specs.Stored as cookies
use Rattle.web_cookies.specs.Stored.{Entries as CookieEntries, IsDoneBy}
use Rattle.agent_model.specs.Partition.{Holdings, no_holdings, with_tab}
use Rattle.agent_model.specs.Frames.{on_frames, refused_by}
use Rattle.agent_model.specs.Lines.{placed}
use Rattle.agent_model.specs.Sessions.{show}
use Rattle.agent_model.specs.Queues.{take_events, take_queue, with_taken}
use Rattle.agent_model.specs.Effects.{Done, Effect, SharedCells, answers}
use Rattle.agent_memory.specs.FrameTrees.{AreTrees, IsFrameTree, IsFrameTreeAt}
use Rattle.agent_memory.specs.HoldingsView.{HoldingsView}
use Rattle.agent_memory.specs.HoldingsView.{cells_of, held_of}
use Rattle.agent_memory.specs.AgentState.{beside_storage, places_in, tabs_in}
use Rattle.agent_memory.specs.Actions.{Acts, IsDone, IsLoaded, Stays}
use Rattle.agent_memory.specs.Requests.{KeepsCookies}
use Rattle.agent_memory.proofs.FrameLemmas.{tree_opened}
use Rattle.agent_memory.proofs.TreeLemmas.{trees_after_put}
use Rattle.agent_memory.proofs.TabLemmas.{places_after_load, places_after_take, places_stay, tabs_after_put, tabs_after_take}

-- what is held with other tabs, or with other cookies
pub held_tabs : (tabs other : List PlainTab) (own : CookieEntries) (grants : List PlainGrant) (entries : Entries)
    → held_with (beside_storage other own grants) entries
    ≡ record (held_with (beside_storage tabs own grants) entries) { tabs = tabs_in other }
unfolding held_with
held_tabs tabs other own grants entries = refl

held_cookies : (tabs : List PlainTab) (own other : CookieEntries) (grants : List PlainGrant) (entries : Entries)
    → held_with (beside_storage tabs other grants) entries
    ≡ cookies.held_with other (held_with (beside_storage tabs own grants) entries)
unfolding held_with
held_cookies tabs own other grants entries = refl

-- or with other permissions, which are those of the agent
pub held_grants : (tabs : List PlainTab) (own : CookieEntries) (grants other : List PlainGrant) (entries : Entries)
    → held_with (beside_storage tabs own other) entries
    ≡ record (held_with (beside_storage tabs own grants) entries) { grants = other }
unfolding held_with
held_grants tabs own grants other entries = refl

pub grants_held : (tabs : List PlainTab) (own : CookieEntries) (grants : List PlainGrant) (entries : Entries)
    → (held_with (beside_storage tabs own grants) entries).grants ≡ grants
unfolding held_with
grants_held tabs own grants entries = refl

-- the partitioned cookies are those of the agent
pub cookies_held : (tabs : List PlainTab) (own : CookieEntries) (grants : List PlainGrant) (entries : Entries)
    → (held_with (beside_storage tabs own grants) entries).cookies ≡ cookies.partitioned_in own
unfolding held_with
cookies_held tabs own grants entries = refl

-- the tabs are those that are held
pub tabs_held : (tabs : List PlainTab) (own : CookieEntries) (grants : List PlainGrant) (entries : Entries)
    → (held_with (beside_storage tabs own grants) entries).tabs ≡ tabs_in tabs
unfolding held_with
tabs_held tabs own grants entries = refl

-- ---- what stays

pub no_change : (own : CookieEntries) → KeepsCookies own own
no_change own = record { shared = refl; partitioned = refl }

-- the same tabs, storage and permissions, and cookies of which none changed
pub stays_same : (old new : HoldingsView) → new.live.tabs ≡ old.live.tabs → new.storage ≡ old.storage
    → new.grants ≡ old.grants → KeepsCookies old.cookies new.cookies → Stays old new
stays_same old new tabs entries rows keeps = record {
  held = λ i. held_with (record no_holdings {
    tabs = tabs_in (tabs i);
    cookies = keeps.partitioned i;
    grants =
        rows i;
  }) (entries i);
  cells = keeps.shared;
  places = ap places_in tabs;
}

-- what stays stays further
pub stays_still : (old mid new : HoldingsView) → Stays old mid → Stays mid new → Stays old new
stays_still old mid new first then = record {
  held = then.held ∙ first.held;
  cells = then.cells ∙ first.cells;
  places = then.places ∙ first.places;
}

-- nothing was done
pub stays_done : (old new : HoldingsView) → Stays old new → (said body : PlainBody) → body ≡ said
    → IsDone (answers said (cells_of old) (held_of old)) old new body
stays_done old new stays said body is = record { held = stays.held; cells = stays.cells; answer = is; places = stays.places }

-- what was done, told otherwise
pub done_as : (old new : HoldingsView) (body : PlainBody) (done seen : Done) → done ≡ seen
    → IsDone done old new body → IsDone seen old new body
done_as old new body done seen same is = subst (λ d. IsDone d old new body) same is

-- the same after all stayed
pub done_after : (does : Effect) (old mid new : HoldingsView) (body : PlainBody) → Stays old mid
    → IsDone (does (cells_of mid) (held_of mid)) mid new body
    → IsDone (does (cells_of old) (held_of old)) old new body
done_after does old mid new body stays done =
    done_as old new body (does (cells_of mid) (held_of mid)) (does (cells_of old) (held_of old))
    (λ i. does (stays.cells i) (stays.held i))
    (record { held = done.held; cells = done.cells; answer = done.answer; places = done.places ∙ stays.places })

-- ---- cookies

-- what an effect made of the cookies it did with all that is held
pub done_by : (does : Effect) (old new : HoldingsView) (body : PlainBody) → new.live.tabs ≡ old.live.tabs
    → new.storage ≡ old.storage
    → new.grants ≡ old.grants → IsDoneBy does old.cookies new.cookies body
    → IsDone (does (cells_of old) (held_of old)) old new body
done_by does old new body tabs entries rows done =
    let by = done (held_of old) in
    let seen : cookies.held_with old.cookies (held_of old) ≡ held_of old =
    sym (held_cookies old.live.tabs old.cookies old.cookies old.grants old.storage) in
    done_as old new body (does (cells_of old) (cookies.held_with old.cookies (held_of old)))
    (does (cells_of old) (held_of old)) (ap (does (cells_of old)) seen)
    (record {
      held = (λ i. held_with (beside_storage (tabs i) new.cookies (rows i)) (entries i))
          ∙ held_cookies old.live.tabs old.cookies new.cookies old.grants old.storage ∙ by.held;
      cells = by.cells;
      answer = by.body;
      places = ap places_in tabs;
    })

-- an open tab has a tree of frames
pub tree_of_open : (found : Option PlainTab) → is_some found ≡ true → IsFrameTreeAt found → IsFrameTree (frames_by found)
tree_of_open None is tree = absurd (cc is)
tree_of_open (Some tab) is tree = tree

-- ---- frames

-- a tab has these frames, and no cookie changed
pub framed_held : (number : ℕ) (tab : PlainTab) (replaced : Option ℕ) (made : List PlainFrame) (old new : HoldingsView)
    → tab_at number old.live.tabs ≡ Some tab → new.live.tabs ≡ tabs_put number made replaced old.live.tabs
    → new.storage ≡ old.storage → new.grants ≡ old.grants → KeepsCookies old.cookies new.cookies
    → held_of new ≡ with_tab number (made_tab number made replaced (Some tab)) (held_of old)
framed_held number tab replaced made old new found put same rows keeps =
    let shown : PlainTab = made_tab number made replaced (Some tab) in
    (λ i. held_with (record no_holdings { tabs = tabs_in (put i); cookies = keeps.partitioned i; grants = rows i }) (same i))
    ∙ held_tabs old.live.tabs (tabs_put number made replaced old.live.tabs) old.cookies old.grants old.storage
    ∙ ap (λ tabs. record (held_of old) { tabs = tabs })
    (tabs_after_put number made replaced old.live.tabs
    ∙ ap (λ t. insert (tabs_in old.live.tabs) number (made_tab number made replaced t)) found
    ∙ ap (λ tabs. insert tabs number shown) (sym (tabs_held old.live.tabs old.cookies old.grants old.storage)))

-- the frames of a tab were replaced, and then something was done
pub frames_done : (number : ℕ) (tab : PlainTab) (replaced : Option ℕ) (next : List PlainFrame → Effect)
    (after : Result (List PlainFrame) TreeFault) (made : List PlainFrame) (body : PlainBody) (old mid new : HoldingsView)
    → tab_at number old.live.tabs ≡ Some tab → after ≡ Ok made → top_site made ≡ top_site tab.frames
    → mid.live.tabs ≡ tabs_put number made replaced old.live.tabs → mid.storage ≡ old.storage
    → mid.grants ≡ old.grants → KeepsCookies old.cookies mid.cookies
    → IsDone (next made (cells_of mid) (held_of mid)) mid new body
    → IsDone (on_frames number tab replaced next after (cells_of old) (held_of old)) old new body
frames_done number tab replaced next after made body old mid new found is top put same rows keeps done =
    let same_done : next made (cells_of mid) (held_of mid)
    ≡ on_frames number tab replaced next after (cells_of old) (held_of old) =
    (λ i. next made (keeps.shared i) (framed_held number tab replaced made old mid found put same rows keeps i))
    ∙ sym (ap (λ r. on_frames number tab replaced next r (cells_of old) (held_of old)) is) in
    record {
      held = done.held ∙ ap (λ (d : Done). d.held) same_done;
      cells = done.cells ∙ ap (λ (d : Done). d.cells) same_done;
      answer = done.answer ∙ ap (λ (d : Done). d.body) same_done;
      places = done.places ∙ ap places_in put ∙ places_stay number made replaced old.live.tabs tab found top;
    }

-- the frames refused the action
pub frames_refused : (number : ℕ) (tab : PlainTab) (replaced : Option ℕ) (next : List PlainFrame → Effect)
    (after : Result (List PlainFrame) TreeFault) (why : TreeFault) (body : PlainBody) (old new : HoldingsView)
    → (why ≡ NoMemory) ⊎ (after ≡ Err why) → why ≢ NoMemory → body ≡ refused_by why → Stays old new
    → IsDone (on_frames number tab replaced next after (cells_of old) (held_of old)) old new body
frames_refused number tab replaced next after why body old new (inl wanting) other told stays = absurd (other wanting)
frames_refused number tab replaced next after why body old new (inr refused) other told stays =
    subst (λ r. IsDone (on_frames number tab replaced next r (cells_of old) (held_of old)) old new body)
    (sym refused) (stays_done old new stays (refused_by why) body told)

-- the answer and the frames are told otherwise
pub frames_as : (number : ℕ) (tab : PlainTab) (replaced : Option ℕ) (body told : PlainBody)
    (after seen : Result (List PlainFrame) TreeFault) (old new : HoldingsView)
    (result : Result ReplyBody fault.NoMemory) → body ≡ told → after ≡ seen
    → Acts (on_frames number tab replaced (λ frames. answers body) after) old new result
    → Acts (on_frames number tab replaced (λ frames. answers told) seen) old new result
frames_as number tab replaced body told after seen old new result says same acts =
    subst (λ (r : Result (List PlainFrame) TreeFault). Acts
    (on_frames number tab replaced (λ frames. answers told) r) old new result) same
    (subst (λ (b : PlainBody). Acts (on_frames number tab replaced (λ frames. answers b) after) old new result) says acts)

-- ---- queues

-- the events of a document were taken
pub taken_done : (label : Label) (tab : PlainTab) (body : PlainBody) (old new : HoldingsView)
    → tab_at label.tab old.live.tabs ≡ Some tab → has_frame label.frame tab.frames ≡ true
    → new.live.tabs ≡ taken label old.live.tabs → new.storage ≡ old.storage → new.grants ≡ old.grants
    → KeepsCookies old.cookies new.cookies
    → body ≡ reply.Events (queue_at old.live.tabs label).events (queue_at old.live.tabs label).lost
    → IsDone (take_events label tab (cells_of old) (held_of old)) old new body
taken_done label tab body old new found there put same rows keeps told =
    let after : PlainTab = with_taken label.frame tab in
    let is : take_events label tab (cells_of old) (held_of old)
    ≡ take_queue label tab (queue_of label.frame tab.queues) (cells_of old) (held_of old) =
    ap (λ b. cond b (take_queue label tab (queue_of label.frame tab.queues))
    (answers (reply.Plain (codes "no-frame"))) (cells_of old) (held_of old)) there in
    record {
      held =
          (λ i. held_with (record no_holdings {
            tabs = tabs_in (put i);
            cookies =
                keeps.partitioned i;
            grants = rows i;
          }) (same i))
          ∙ held_tabs old.live.tabs (taken label old.live.tabs) old.cookies old.grants old.storage
          ∙ ap (λ tabs. record (held_of old) { tabs = tabs })
          (tabs_after_take label old.live.tabs tab found
          ∙ ap (λ tabs. insert tabs label.tab after) (sym (tabs_held old.live.tabs old.cookies old.grants old.storage)))
          ∙ sym (ap (λ (d : Done). d.held) is);
      cells = keeps.shared ∙ sym (ap (λ (d : Done). d.cells) is);
      answer =
          told ∙ ap (λ (t : Option PlainTab). reply.Events (queue_of label.frame (queues_before t)).events
          (queue_of label.frame (queues_before t)).lost) found
          ∙ sym (ap (λ (d : Done). d.body) is);
      places = ap places_in put ∙ places_after_take label old.live.tabs;
    }

-- ---- loads

-- a tab is put with the frames of a copy of an address
pub put_opened : (rules : List Rule) (number : ℕ) (url copy : PlainAddress) (made : List PlainFrame)
    (old new : List PlainTab) → made ≡ opened rules copy → copy ≡ url
    → new ≡ tabs_put number made (Some 0) old → new ≡ tabs_put number (opened rules url) (Some 0) old
put_opened rules number url copy made old new is same put =
    put ∙ ap (λ frames. tabs_put number frames (Some 0) old) (is ∙ ap (opened rules) same)

-- a tab shows an address alone
module _ (rules : List Rule) (number : ℕ) (url : PlainAddress) (old new : List PlainTab)
    (put : new ≡ tabs_put number (opened rules url) (Some 0) old) where
  pub shown_held : (own : CookieEntries) (grants : List PlainGrant) (entries : Entries)
      → held_with (beside_storage new own grants) entries
      ≡ show rules number url (held_with (beside_storage old own grants) entries)
  shown_held own grants entries =
      let made : PlainTab = made_tab number (opened rules url) None None in
      ap (λ tabs. held_with (beside_storage tabs own grants) entries) put
      ∙ held_tabs old (tabs_put number (opened rules url) (Some 0) old) own grants entries
      ∙ ap (λ tabs. record (held_with (beside_storage old own grants) entries) { tabs = tabs })
      (tabs_after_put number (opened rules url) (Some 0) old
      ∙ ap (λ tabs. insert tabs number made) (sym (tabs_held old own grants entries)))

  pub shown_places : places_in new ≡ placed number (site_of_address rules url) (places_in old)
  shown_places =
      ap places_in put ∙ places_after_load number (opened rules url) (Some 0) old (site_of_address rules url)
      (tree_opened rules url).1

  pub shown_trees : AreTrees old → AreTrees new
  shown_trees trees = subst (λ tabs. AreTrees tabs) (sym put)
      (trees_after_put number (opened rules url) (Some 0) old (tree_opened rules url).0 trees)

-- the cookies of a load were sent and stored after the tab showed its address
pub load_done : (does : Effect) (cells : SharedCells) (held : Holdings) (number : ℕ) (target : PlainSite)
    (old mid new : HoldingsView) (body : PlainBody)
    → cells_of mid ≡ cells → held_of mid ≡ held → places_in mid.live.tabs ≡ placed number target (places_in old.live.tabs)
    → IsDone (does (cells_of mid) (held_of mid)) mid new body → IsLoaded (does cells held) number target old new body
load_done does cells held number target old mid new body shared has there done =
    let same : does (cells_of mid) (held_of mid) ≡ does cells held = λ i. does (shared i) (has i) in
    record {
      held = done.held ∙ ap (λ (d : Done). d.held) same;
      cells = done.cells ∙ ap (λ (d : Done). d.cells) same;
      answer = done.answer ∙ ap (λ (d : Done). d.body) same;
      places = done.places ∙ there;
    }
