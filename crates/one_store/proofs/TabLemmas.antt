-- Actions on the frames and queues of a tab, at the site that the tab is at and at another one.
use Rattle.std.proofs.Common.{◌≡◌, ℕ, Bool, true, false, cond, List, Option, Some, None, Ok, Err, refl, sym, ap, ◌∙◌}
use Rattle.std.specs.Prelude.{Result, codes}
use Rattle.std.specs.Ordering.{nat_cmp}
use Rattle.agent_base.specs.declared.refusals.Label.{Label}
use Rattle.suffix_list.specs.Suffix.{Rule}
use Rattle.origin_site.specs.Address.{PlainAddress}
use Rattle.origin_site.specs.Site.{PlainSite}
use Rattle.frame_tree.specs.declared.tab.TreeFault.{TreeFault}
use Rattle.frame_tree.specs.Calls.{opened}
use Rattle.frame_tree.specs.Tree.{PlainFrame, has_frame}
use Rattle.reply_lines.specs.Reply as reply
use Rattle.live_state.specs.Tabs.{PlainTab, made_tab, queue_of}
use Rattle.agent_model.specs.Queues.{with_taken, take_queue, take_events}
use Rattle.agent_model.specs.Partition.{Holdings, with_tab, without_tab}
use Rattle.agent_model.specs.Effects.{SharedCells, Effect, answers}
use Rattle.agent_model.specs.Frames.{on_frames}
use Rattle.agent_model.specs.Sessions.{show}
use Rattle.agent_model.proofs.KeptLemmas.{AgreesBut}
use Rattle.one_store.specs.HeldAt.{held_at, done_at}
use Rattle.one_store.proofs.HeldLemmas.{tab_unseen, with_tab_seen, with_tab_gone, with_tab_unseen, without_absent}

module _ (site : PlainSite) (here : ℕ → Bool) (cells : SharedCells) (held : Holdings) where
  -- ---- at the site that the tab is at

  -- a tab is replaced, with an answer
  tab_replaced_seen : (number : ℕ) (tab : PlainTab) (body : reply.PlainBody) → here number ≡ true
      → answers body cells (with_tab number tab (held_at site here held)) ≡ done_at site here (answers body cells (with_tab number tab held))
  tab_replaced_seen number tab body is = ap (answers body cells) (sym (with_tab_seen site here held here number (λ q apart. refl) tab is))

  -- the frames of a tab are replaced, and what then happens is done alike
  pub on_frames_seen : (number : ℕ) (tab : PlainTab) (replaced : Option ℕ) (next : List PlainFrame → Effect) (after : Result (List PlainFrame) TreeFault) → here number ≡ true
      → ((frames : List PlainFrame) (all : Holdings) → next frames cells (held_at site here all) ≡ done_at site here (next frames cells all))
      → on_frames number tab replaced next after cells (held_at site here held) ≡ done_at site here (on_frames number tab replaced next after cells held)
  on_frames_seen number tab replaced next (Ok frames) is each =
      ap (next frames cells) (sym (with_tab_seen site here held here number (λ q apart. refl) (made_tab number frames replaced (Some tab)) is))
      ∙ each frames (with_tab number (made_tab number frames replaced (Some tab)) held)
  on_frames_seen number tab replaced next (Err why) is each = refl

  pub take_events_seen : (at : Label) (tab : PlainTab) → here at.tab ≡ true → take_events at tab cells (held_at site here held) ≡ done_at site here (take_events at tab cells held)
  take_events_seen label tab is = at (has_frame label.frame tab.frames)
    where
      at : (b : Bool) → cond b (take_queue label tab (queue_of label.frame tab.queues)) (answers (reply.Plain (codes "no-frame"))) cells (held_at site here held)
          ≡ done_at site here (cond b (take_queue label tab (queue_of label.frame tab.queues)) (answers (reply.Plain (codes "no-frame"))) cells held)
      at true = tab_replaced_seen label.tab (with_taken label.frame tab) (reply.Events (queue_of label.frame tab.queues).events (queue_of label.frame tab.queues).lost) is
      at false = refl

  -- ---- at another site

  pub on_frames_unseen : (number : ℕ) (tab : PlainTab) (replaced : Option ℕ) (next : List PlainFrame → Effect) (after : Result (List PlainFrame) TreeFault) → here number ≡ false
      → ((frames : List PlainFrame) (all : Holdings) → held_at site here (next frames cells all).held ≡ held_at site here all)
      → held_at site here (on_frames number tab replaced next after cells held).held ≡ held_at site here held
  on_frames_unseen number tab replaced next (Ok frames) is each =
      each frames (with_tab number (made_tab number frames replaced (Some tab)) held)
      ∙ with_tab_unseen site here held number (made_tab number frames replaced (Some tab)) is
  on_frames_unseen number tab replaced next (Err why) is each = refl

  pub take_events_unseen : (at : Label) (tab : PlainTab) → here at.tab ≡ false → held_at site here (take_events at tab cells held).held ≡ held_at site here held
  take_events_unseen label tab is = at (has_frame label.frame tab.frames)
    where
      at : (b : Bool) → held_at site here (cond b (take_queue label tab (queue_of label.frame tab.queues)) (answers (reply.Plain (codes "no-frame"))) cells held).held ≡ held_at site here held
      at true = with_tab_unseen site here held label.tab (with_taken label.frame tab) is
      at false = refl

-- ---- loads of top documents

module _ (site : PlainSite) (here : ℕ → Bool) (held : Holdings) (after : ℕ → Bool) (number : ℕ) (alike : AgreesBut nat_cmp number after here) (rules : List Rule) (url : PlainAddress) where
  -- at the site that is reached, the tab shows the address
  pub show_seen : after number ≡ true → show rules number url (held_at site here held) ≡ held_at site after (show rules number url held)
  show_seen is = sym (with_tab_seen site here held after number alike (made_tab number (opened rules url) None None) is)

  -- at another site it is gone
  pub show_gone : after number ≡ false → held_at site after (show rules number url held) ≡ without_tab number (held_at site here held)
  show_gone is = with_tab_gone site here held after number alike (made_tab number (opened rules url) None None) is

  -- and where it was not, nothing is changed
  pub show_unseen : after number ≡ false → here number ≡ false → held_at site after (show rules number url held) ≡ held_at site here held
  show_unseen is was = show_gone is ∙ without_absent number (held_at site here held) (tab_unseen site here held number was)
