-- What a request or a load writes behind a body, whose cookies were prepared before.
use Rattle.std.proofs.Common.{◌≡◌, ◌⊎◌, inl, inr, ℕ, true, List, [], length, map, take, Option, Some, None, Ok, Err, refl, sym, ap, subst, ◌∙◌}
use Rattle.std.specs.Prelude.{OnErr, OnOk, Result, is_some}
use Rattle.agent_base.specs.Answers.{Answers}
use Rattle.agent_base.specs.declared.refusals.Label.{Label}
use Rattle.agent_base.specs.declared.refusals.NoMemory as memory
use Rattle.origin_site.specs.Site.{PlainSite}
use Rattle.frame_tree.specs.Document.{PlainDocument}
use Rattle.frame_tree.specs.declared.tab.TreeFault.{TreeFault}
use Rattle.frame_tree.specs.declared.tab.TreeFault.TheVariants.{FrameExists, NoFrame, NoMemory}
use Rattle.frame_tree.specs.Tree.{PlainFrame, document_of, top_site}
use Rattle.live_state.specs.Queues.{frames_by, has_document}
use Rattle.live_state.specs.Tabs.{PlainTab, tab_at}
use Rattle.reply_lines.specs.declared.reply.ReplyBody.{ReplyBody}
use Rattle.reply_lines.specs.Reply.{PlainBody, Plain}
use Rattle.web_cookies.specs.Prepared.{Prepares}
use Rattle.web_cookies.specs.Stored as cookies
use Rattle.web_cookies.specs.Stored.{Entries as CookieEntries, partitioned_in, shared_in}
use Rattle.web_cookies.specs.declared.prepared.Prepared.{Prepared}
use Rattle.row_changes.specs.Appended.{Appends, IsAppended, IsFront}
use Rattle.row_changes.specs.Change.{PlainChange}
use Rattle.row_changes.specs.Plain.{plain_change}
use Rattle.agent_model.specs.Partition.{Holdings}
use Rattle.agent_model.specs.Documents.{by_document, with_document}
use Rattle.agent_model.specs.Effects.{Done, Effect, SharedCells}
use Rattle.agent_model.specs.Frames.{on_frames}
use Rattle.agent_memory.specs.Actions.{Answered}
use Rattle.agent_memory.specs.Lines.{copied_under, with_copies}
use Rattle.agent_memory.specs.Requests.{IsPerformed, KeepsCookies}
use Rattle.agent_memory.specs.Writes.{AreRows}
use Rattle.frame_tree.proofs.ShapeLemmas.{document_there}
use Rattle.agent_memory.proofs.RequestLemmas.{there_is}
use Rattle.agent_memory.proofs.WritesLemmas.{cut_back, front_same, writes_none}

-- ---- what was prepared

-- they are those of each effect that it was prepared for
pub rows_written : (prepared : Prepared) (changes : List PlainChange)
    → changes ≡ map plain_change prepared.rows.items → (before after : List ℕ)
    → (result : Result (Unit {0}) memory.NoMemory) → Appends changes before after result
    → OnOk result (AreRows prepared before after)
rows_written prepared changes is before after (Ok u)
    appended = λ does entries others ready. subst (λ c. IsAppended c before after) (is ∙ ready.rows others) appended
rows_written prepared changes is before after (Err wanting) front = tt

-- its row changes are those of the effect with what is held
pub ready_written : (does : Effect) (prepared : Prepared) (old own : CookieEntries) (held : Holdings)
    (before after : List ℕ) → held.cookies ≡ partitioned_in old → KeepsCookies old own
    → Prepares does own prepared → AreRows prepared before after → IsAppended (does (shared_in old) held).changes before after
ready_written does prepared old own held before after is keeps ready rows =
    let same : does (shared_in own) (cookies.held_with own held) ≡ does (shared_in old) held =
    λ i. does (keeps.shared i) (record held { cookies = (keeps.partitioned ∙ sym is) i }) in
    subst (λ (d : Done). IsAppended d.changes before after) same (rows does own held ready)

-- ---- a document that is there

-- what is done for it, whichever it is
pub present_is : (at : Label) (tabs : List PlainTab) (tab : PlainTab) → tab_at at.tab tabs ≡ Some tab
    → has_document tabs at ≡ true → (does : Effect) → with_document at tab (λ document. does) ≡ does
present_is at tabs tab found is does = by (document_of at.frame tab.frames)
    (document_there at.frame tab.frames ∙ there_is at tabs tab found true is)
  where
    by : (document : Option PlainDocument) → is_some document ≡ true → by_document document (λ document. does) ≡ does
    by None there = absurd (cc there)
    by (Some document) there = refl

-- ---- loads of frames

module _ (number : ℕ) (tab : PlainTab) (fresh : Option ℕ) (cells : SharedCells) (held : Holdings) where
  -- the frames refuse the load, which writes nothing
  pub refused_none : (next : List PlainFrame → Effect) (after : Result (List PlainFrame) TreeFault)
      (why : TreeFault) → after ≡ Err why → (on_frames number tab fresh next after cells held).changes ≡ []
  refused_none next after why is = ap (λ r. (on_frames number tab fresh next r cells held).changes) is

  by_refusal : (next : List PlainFrame → Effect) (after : Result (List PlainFrame) TreeFault)
      (why : TreeFault) → (why ≡ NoMemory) ⊎ (after ≡ Err why) → (body : PlainBody) (result : Result ReplyBody memory.NoMemory)
      → Answered (Err why) body result → (before : List ℕ)
      → Appends (on_frames number tab fresh next after cells held).changes before before result
  by_refusal next after NoFrame (inl wanting) body result answered before = absurd (cc wanting)
  by_refusal next after NoFrame (inr is) body result answered before =
      writes_none _ (refused_none next after NoFrame is) before result
  by_refusal next after FrameExists (inl wanting) body result answered before = absurd (cc wanting)
  by_refusal next after FrameExists (inr is) body result answered before =
      writes_none _ (refused_none next after FrameExists is) before result
  by_refusal next after NoMemory is body (Ok told) answered before = absurd answered
  by_refusal next after NoMemory is body (Err wanting) answered before = front_same before

  -- a load that is done has its row changes written; they are cut off where the frames refuse it
  pub load_written : (does : Effect) (prepared : Prepared) (old own : CookieEntries) (new : CookieEntries)
      (after : Result (List PlainFrame) TreeFault) (frames : List PlainFrame) (length_before : ℕ)
      (before mid last : List ℕ) → length_before ≡ length before
      → held.cookies ≡ partitioned_in old → cells ≡ shared_in old → KeepsCookies old own
      → Prepares does own prepared → AreRows prepared before mid → IsFront before mid
      → (done : Result (Unit {0}) TreeFault) → Answers (λ _. frames) NoMemory after done
      → OnOk done (last ≡ mid) → OnErr done (last ≡ take length_before mid)
      → (result : Result ReplyBody memory.NoMemory) → IsPerformed done prepared own new result
      → Appends (on_frames number tab fresh (λ frames. does) after cells held).changes before last result
  load_written does prepared old own new after frames n before mid last counts has shared keeps ready rows
      front (Ok u) is kept cut (Err wanting) performed = absurd performed
  load_written does prepared old own new after frames n before mid last counts has shared keeps ready rows
      front (Ok u) is kept cut (Ok told) performed =
      subst (λ r. IsAppended (on_frames number tab fresh (λ frames. does) r cells held).changes before last) (sym is)
      (subst (λ end. IsAppended (on_frames number tab fresh (λ frames. does) (Ok frames) cells held).changes
      before end) (sym kept)
      (subst (λ c. IsAppended (on_frames number tab fresh (λ frames. does) (Ok frames) c held).changes before mid) (sym shared)
      (ready_written does prepared old own _ before mid has keeps ready rows)))
  load_written does prepared old own new after frames n before mid last counts has shared keeps ready rows
      front (Err why) is kept cut result performed =
      subst (λ end. Appends (on_frames number tab fresh (λ frames. does) after cells held).changes before end
      result) (sym (cut ∙ ap (λ n. take n mid) counts ∙ cut_back before mid front))
      (by_refusal (λ frames. does) after why is (Plain []) result (performed.1 (Plain [])) before)

-- ---- loads of top documents

-- copies are no cookies
pub copies_cookies : (opener : Option ℕ) (to : ℕ) (tabs : List PlainTab) (held : Holdings)
    → (with_copies opener to tabs held).cookies ≡ held.cookies
copies_cookies None to tabs held = refl
copies_cookies (Some opener) to tabs held = by (top_site (frames_by (tab_at opener tabs)))
  where
    by : (here : Option PlainSite) → (copied_under here opener to held).cookies ≡ held.cookies
    by None = refl
    by (Some site) = refl
