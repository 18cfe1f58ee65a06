-- The document is there or not; its request comes to the outcome of its table, which is done.
use Rattle.std.proofs.Common.{rules, w64, ◌≡◌, Option, None, Some, Ok, refl, sym, ap, subst, ◌∙◌}
use Rattle.std.specs.Prelude.{is_some, pos}
use mir.Val.{of_z, to_z}
use Rattle.access_grants.specs.Grant.{grant_state}
use Rattle.access_grants.specs.Request.{first_row, request_rows}
use Rattle.frame_tree.specs.Plain.{plain_document}
use Rattle.frame_tree.specs.Tree.{document_of, has_frame, top_site}
use Rattle.live_state.specs.FramesInPlace.{frames_at, requested}
use Rattle.live_state.specs.Queues.{frames_by}
use Rattle.live_state.specs.Tabs.{PlainTab, is_open, tab_at}
use Rattle.origin_site.specs.Plain.{plain_site}
use Rattle.origin_site.specs.Site.{PlainSite}
use Rattle.reply_lines.specs.Plain.{body_of}
use Rattle.reply_lines.specs.Reply.{Plain}
use Rattle.agent_model.specs.StorageAccess.{access_facts, answer_of, change_requested, embedded_site, grants_requested, outcome_of, request_access}
use Rattle.agent_memory.specs.Access.{change_kept, rows_kept}
use Rattle.agent_model.specs.Documents.{by_document}
use Rattle.agent_memory.proofs.ShownLemmas.{shown}
use Rattle.agent_memory.proofs.WritesLemmas.{front_same, writes_none, writes_wanting}
use Rattle.agent_memory.specs.HoldingsView.{HoldingsView, cells_of, held_of}
use Rattle.row_changes.specs.Appended.{IsAppended}
use Rattle.agent_memory.proofs.AccessLemmas.{asked_changes, asked_done, asks, change_is, rows_are}
use Rattle.agent_memory.proofs.DoneLemmas.{no_change, stays_same}
use Rattle.frame_tree.proofs.ShapeLemmas.{document_there}
use Rattle.agent_memory.proofs.FoundLemmas.{frames_are, frames_found}
use Rattle.agent_memory.proofs.FrameLemmas.{tree_requested}
use Rattle.agent_memory.proofs.InPlaceLemmas.{trees_in_place}
use Rattle.agent_memory.proofs.RequestLemmas.{acts_wanting, missing_done}
use Rattle.agent_memory.proofs.holdings.Holdings.request.Goals as goal

-- the site that is there
some_is : {x y : PlainSite} → ◌≡◌ {A = Option PlainSite} (Some x) (Some y) → x ≡ y
some_is same = cc same

pub returns-in_default-clause-acts : goal.returns-in_default-clause-acts
returns-in_default-clause-acts c = rw (← c.self.view_is) (λ tab site found top.
    let old : HoldingsView = shown c.self.inside in
    let frames = frames_are (tab_at c.args.at.tab old.live.tabs) c.open_tab-tab.result.now tab
    (sym c.open_tab-tab.ensures.tab) found in
    missing_done c.args.at old.live.tabs tab found
    (asks c.args.input.now.list.now.rules c.args.input.now.clock site c.args.at c.args.prompt tab) old (body_of c.answer.result)
    (ap (document_of c.args.at.frame) frames ∙ sym c.in_default.ensures.document) c.answer.ensures)

pub facts_of-facts-requires : goal.facts_of-facts-requires
facts_of-facts-requires c = record { document = sym c.in-Some.ensures.document }

pub finish-requires : goal.finish-requires
finish-requires c =
    let at = c.args.at in
    record {
      there = ap (has_frame at.frame) (frames_found (tab_at at.tab c.self.inside.live.tabs)
          c.open_tab-tab.result.now (sym c.open_tab-tab.ensures.tab))
          ∙ sym (document_there at.frame c.open_tab-tab.result.now) ∙ ap is_some (sym c.in-Some.ensures.document);
    }

pub returns-in_err-site-clause-acts : goal.returns-in_err-site-clause-acts
returns-in_err-site-clause-acts c = rw (← c.self.view_is) (λ tab site found top.
    let old : HoldingsView = shown c.self.inside in
    acts_wanting (request_access c.args.input.now.list.now.rules c.args.input.now.clock site c.args.at c.args.prompt tab)
    old old c.from_residual.result c.from_residual.ensures.0
    (stays_same old old refl refl refl (no_change c.self.inside.cookies)))

pub returns-in_err-row-clause-acts : goal.returns-in_err-row-clause-acts
returns-in_err-row-clause-acts c = rw (← c.self.view_is) (λ tab site found top.
    let old : HoldingsView = shown c.self.inside in
    let new : HoldingsView = record old { grants = c.prepare_row.new.grants.rows } in
    acts_wanting (request_access c.args.input.now.list.now.rules c.args.input.now.clock site c.args.at c.args.prompt tab) old new
    c.from_residual-in_err-row.result c.from_residual-in_err-row.ensures.0
    (stays_same old new refl refl c.in_err-row.ensures.same (no_change c.self.inside.cookies)))

pub returns-in_err-write_row-clause-acts : goal.returns-in_err-write_row-clause-acts
returns-in_err-write_row-clause-acts c = rw (← c.self.view_is) (λ tab site found top.
    let old : HoldingsView = shown c.self.inside in
    let new : HoldingsView = record old { grants = c.prepare_row.new.grants.rows } in
    acts_wanting (request_access c.args.input.now.list.now.rules c.args.input.now.clock site c.args.at c.args.prompt tab) old new
    c.from_residual-in_err-write_row.result c.from_residual-in_err-write_row.ensures.0
    (stays_same old new refl refl c.in_ok-row.ensures.same (no_change c.self.inside.cookies)))

pub returns-in_default-clause-changes : goal.returns-in_default-clause-changes
returns-in_default-clause-changes c = rw (← c.self.view_is) (λ tab site found top.
    let old : HoldingsView = shown c.self.inside in
    let frames = frames_are (tab_at c.args.at.tab old.live.tabs) c.open_tab-tab.result.now tab
    (sym c.open_tab-tab.ensures.tab) found in
    writes_none _ (ap (λ document. (by_document document
    (asks c.args.input.now.list.now.rules c.args.input.now.clock site c.args.at c.args.prompt tab) (cells_of old) (held_of old)).changes)
    (ap (document_of c.args.at.frame) frames ∙ sym c.in_default.ensures.document)) c.args.body.now.bytes (Ok c.answer.result))

pub invariant_of-self-2 : goal.invariant_of-self-2
invariant_of-self-2 c =
    let at = c.args.at in
    let outcome = c.request-outcome.result in
    let frames = frames_at at.tab c.self.inside.live.tabs in
    trees_in_place at.tab None c.self.inside.live c.finish.new.live
    (Ok (requested outcome.sets_flag outcome.consumes at.frame frames)) (Ok tt) (ap Ok (sym c.finish.ensures.frames))
    c.finish.ensures.changes (ap (λ (h : HoldingsView). is_open at.tab h.live.tabs) c.self.view_is ∙ c.requires.«open»)
    (λ tree. (
      tree_requested frames tree outcome.sets_flag outcome.consumes at.frame,
      ap top_site (sym c.finish.ensures.frames) ∙ c.finish.ensures.changes.site,
    )) c.self.invariant

-- the document is that of the frame, the permission is under the site of the tab, and the outcome is that of the table
comes : (c : goal.After-drop-site-2) (tab : PlainTab) (site : PlainSite)
    → tab_at c.args.at.tab c.self.inside.live.tabs ≡ Some tab → top_site tab.frames ≡ Some site
    → (document_of c.args.at.frame tab.frames ≡ Some (plain_document c.in-Some.document.now))
    × (plain_site c.top_site-top.result.now ≡ site)
    × (outcome_of site (embedded_site c.args.input.now.list.now.rules (plain_document c.in-Some.document.now))
    (access_facts c.args.input.now.list.now.rules c.args.input.now.clock c.args.at.frame tab.frames (plain_document c.in-Some.document.now))
    (answer_of c.args.prompt) c.args.input.now.clock c.self.inside.grants.rows ≡ Some c.request-outcome.result)
comes c tab site found top =
    let own_rules = c.args.input.now.list.now.rules in
    let at = c.args.at in
    let document = plain_document c.in-Some.document.now in
    let frames = frames_are (tab_at at.tab c.self.inside.live.tabs) c.open_tab-tab.result.now tab
    (sym c.open_tab-tab.ensures.tab) found in
    let facts = c.facts_of-facts.ensures.facts own_rules c.in_ok-site.ensures.site
    ∙ ap (λ frames. access_facts own_rules c.args.input.now.clock at.frame frames document) (sym frames) in
    let over : plain_site c.top_site-top.result.now ≡ site =
    some_is (sym c.top_site-top.ensures.site ∙ ap top_site (sym frames) ∙ top) in
    let own : plain_site c.in_ok-site.site ≡ embedded_site own_rules document = c.in_ok-site.ensures.site in
    let back : to_z w64 (of_z w64 c.signed.result) ≡ c.signed.result = search rules in
    let moment : pos c.args.input.now.clock ≡ to_z w64 (of_z w64 c.signed.result) = sym c.signed.ensures.number ∙ sym back in (
      ap (document_of at.frame) frames ∙ sym c.in-Some.ensures.document,
      over,
      (λ i. first_row (request_rows (sym facts i) (grant_state (sym over i) (sym own i) (moment i) c.self.inside.grants.rows)
          (sym c.answer_of-said.ensures i) (moment i)))
          ∙ c.request-outcome.ensures.row,
    )

pub returns-clause-acts : goal.returns-clause-acts
returns-clause-acts c = rw (← c.self.view_is) (λ tab site found top.
    let old : HoldingsView = shown c.self.inside in
    let outcome = c.request-outcome.result in
    let is = comes c tab site found top in
    asked_done c.args.input.now.list.now.rules c.args.input.now.clock site c.args.at c.args.prompt tab
    (plain_document c.in-Some.document.now) outcome old
    c.finish.new.live c.keep.new.grants.rows (body_of c.answer-2.result) found is.0 is.2
    (c.finish.ensures.frames ∙ ap (λ t. requested outcome.sets_flag outcome.consumes c.args.at.frame (frames_by t)) found)
    c.finish.ensures.changes
    (c.keep.ensures.rows ∙ (λ i. rows_kept (c.in_ok-row.ensures.row i) (c.in_ok-row.ensures.same i))
    ∙ rows_are outcome.kept (plain_site c.top_site-top.result.now) (plain_site c.in_ok-site.site) old.grants
    ∙ λ i. grants_requested outcome.kept (is.1 i) (c.in_ok-site.ensures.site i) old.grants)
    (c.answer-2.ensures ∙ ap Plain c.decision_word.ensures))

-- its row change is that of the permission that is kept
pub returns-clause-changes : goal.returns-clause-changes
returns-clause-changes c = rw (← c.self.view_is) (λ tab site found top.
    let outcome = c.request-outcome.result in
    let is = comes c tab site found top in
    subst (λ changes. IsAppended changes c.args.body.now.bytes c.write_row.new.body.bytes)
    (ap change_kept c.in_ok-row.ensures.row
    ∙ change_is outcome.kept (plain_site c.top_site-top.result.now) (plain_site c.in_ok-site.site)
    ∙ (λ i. change_requested outcome.kept (is.1 i) (c.in_ok-site.ensures.site i))
    ∙ sym (asked_changes c.args.input.now.list.now.rules c.args.input.now.clock site c.args.at c.args.prompt tab
    (plain_document c.in-Some.document.now) outcome (shown c.self.inside) is.0 is.2))
    c.in_ok-write_row.ensures.changes)

pub returns-in_err-site-clause-changes : goal.returns-in_err-site-clause-changes
returns-in_err-site-clause-changes c = λ tab site found top. writes_wanting _ c.args.body.now.bytes
    c.args.body.now.bytes c.from_residual.result c.from_residual.ensures.0 (front_same c.args.body.now.bytes)

pub returns-in_err-row-clause-changes : goal.returns-in_err-row-clause-changes
returns-in_err-row-clause-changes c = λ tab site found top. writes_wanting _ c.args.body.now.bytes
    c.args.body.now.bytes c.from_residual-in_err-row.result c.from_residual-in_err-row.ensures.0
    (front_same c.args.body.now.bytes)

pub returns-in_err-write_row-clause-changes : goal.returns-in_err-write_row-clause-changes
returns-in_err-write_row-clause-changes c = λ tab site found top. writes_wanting _ c.args.body.now.bytes
    c.write_row.new.body.bytes c.from_residual-in_err-write_row.result
    c.from_residual-in_err-write_row.ensures.0 c.in_err-write_row.ensures.changes
