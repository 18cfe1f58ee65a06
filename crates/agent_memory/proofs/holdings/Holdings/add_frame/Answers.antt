-- The frame has its document, and its load is performed; or the frames refuse it.
use Rattle.std.proofs.Common.{◌≡◌, inr, Some, None, Ok, map, refl, sym, ap, string_bytes, subst, ◌∙◌}
use Rattle.std.specs.Prelude.{option_map}
use Rattle.agent_base.specs.Answers.{Answers}
use Rattle.origin_site.specs.Plain.{plain_address}
use Rattle.frame_tree.specs.declared.tab.TreeFault.TheVariants.{FrameExists, NoFrame, NoMemory}
use Rattle.frame_tree.specs.Tree.{top_site}
use Rattle.live_state.specs.FramesInPlace.{frames_at}
use Rattle.live_state.specs.Queues.{frames_by}
use Rattle.live_state.specs.Tabs.{PlainTab, is_open, tab_at}
use Rattle.reply_lines.specs.Plain.{body_of}
use Rattle.script_actions.specs.Plain.{head_field_of}
use Rattle.agent_model.specs.CookieUses.{frame_use}
use Rattle.agent_model.specs.Cookies.{request}
use Rattle.agent_model.specs.Frames.{add_frame, frames_added}
use Rattle.origin_site.specs.Site.{PlainSite}
use Rattle.agent_memory.specs.HoldingsView.{HoldingsView, cells_of, held_of}
use Rattle.agent_memory.specs.Requests.{IsPrepared}
use Rattle.agent_memory.proofs.ShownLemmas.{shown}
use Rattle.agent_memory.proofs.DoneLemmas.{cookies_held, frames_refused}
use Rattle.agent_memory.proofs.LoadWritesLemmas.{load_written, refused_none}
use Rattle.agent_memory.proofs.WritesLemmas.{front_same, writes_none, writes_wanting}
use Rattle.agent_memory.proofs.FoundLemmas.{frames_are, has_found}
use Rattle.agent_memory.proofs.FrameLemmas.{tree_added}
use Rattle.agent_memory.proofs.InPlaceLemmas.{load_in_place, trees_in_place}
use Rattle.agent_memory.proofs.RequestLemmas.{acts_wanting, no_parent, number_taken, prepared_stays}
use Rattle.agent_memory.proofs.holdings.Holdings.add_frame.Goals as goal

pub returns-then-not-has_frame-clause-acts : goal.returns-then-not-has_frame-clause-acts
returns-then-not-has_frame-clause-acts c = rw (← c.self.view_is) (λ tab site found top.
    let old : HoldingsView = shown c.self.inside in
    let rules = c.args.input.now.list.now.rules in
    let url = plain_address c.args.url.now in
    let sandbox = option_map (λ text. string_bytes text.value) c.args.sandbox.now in
    frames_refused c.args.at.tab tab None (λ frames. request rules c.args.input.now.clock
    (frame_use rules site c.args.parent tab.frames url) (map head_field_of c.args.head.now))
    (frames_added rules c.args.at c.args.parent url sandbox c.args.deny tab.frames) NoFrame
    (body_of c.answer.result) old old
    (inr (no_parent rules c.args.at old.live.tabs tab found url c.args.parent sandbox c.args.deny
    (has_found (record { tab = c.args.at.tab; frame = c.args.parent }) old.live.tabs c.open_tab-tab.result.now
    (sym c.open_tab-tab.ensures.tab) ∙ sym c.if-not-has_frame.ensures.there))) (λ e. cc e) c.answer.ensures
    (record { held = refl; cells = refl; places = refl }))

pub returns-then-has_frame-clause-acts : goal.returns-then-has_frame-clause-acts
returns-then-has_frame-clause-acts c = rw (← c.self.view_is) (λ tab site found top.
    let old : HoldingsView = shown c.self.inside in
    let rules = c.args.input.now.list.now.rules in
    let url = plain_address c.args.url.now in
    let sandbox = option_map (λ text. string_bytes text.value) c.args.sandbox.now in
    frames_refused c.args.at.tab tab None (λ frames. request rules c.args.input.now.clock
    (frame_use rules site c.args.parent tab.frames url) (map head_field_of c.args.head.now))
    (frames_added rules c.args.at c.args.parent url sandbox c.args.deny tab.frames) FrameExists
    (body_of c.answer-then-has_frame.result) old old
    (inr (number_taken rules c.args.at old.live.tabs tab found url c.args.parent sandbox c.args.deny
    (has_found (record { tab = c.args.at.tab; frame = c.args.parent }) old.live.tabs c.open_tab-tab.result.now
    (sym c.open_tab-tab.ensures.tab) ∙ sym c.if-not-has_frame.ensures.there)
    (has_found c.args.at old.live.tabs c.open_tab-tab.result.now
    (sym c.open_tab-tab.ensures.tab) ∙ sym c.if-has_frame.ensures.there)))
    (λ e. cc e) c.answer-then-has_frame.ensures (record { held = refl; cells = refl; places = refl }))

pub prepare_below-requires : goal.prepare_below-requires
prepare_below-requires c = record { there = sym c.if-not-has_frame.ensures.there }

pub returns-in_err-prepared-clause-acts : goal.returns-in_err-prepared-clause-acts
returns-in_err-prepared-clause-acts c = rw (← c.self.view_is) (λ tab site found top.
    acts_wanting (add_frame c.args.input.now.list.now.rules c.args.input.now.clock site c.args.at c.args.parent (plain_address c.args.url.now)
    (option_map (λ text. string_bytes text.value) c.args.sandbox.now) c.args.deny
    (map head_field_of c.args.head.now) tab) (shown c.self.inside)
    (record (shown c.self.inside) { cookies = c.prepare_below.new.cookies }) c.from_residual.result c.from_residual.ensures.0
    (prepared_stays (shown c.self.inside) c.prepare_below.new.cookies c.args.at.tab c.open_tab-tab.result.now tab site
    (sym c.open_tab-tab.ensures.tab) found top (λ site top. (c.in_err-prepared.ensures.prepared site top).keeps)))

pub invariant_of-self-2 : goal.invariant_of-self-2
invariant_of-self-2 c =
    let rules = c.args.input.now.list.now.rules in
    let url = plain_address c.args.url.now in
    let sandbox = option_map (λ text. string_bytes text.value) c.args.sandbox.now in
    let frames = frames_at c.args.at.tab c.self.inside.live.tabs in
    trees_in_place c.args.at.tab None c.self.inside.live c.add-done.new.live
    (frames_added rules c.args.at c.args.parent url sandbox c.args.deny frames)
    c.add-done.result c.add-done.ensures.answer c.add-done.ensures.changes
    (ap (λ (h : HoldingsView). is_open c.args.at.tab h.live.tabs) c.self.view_is
    ∙ c.requires.«open») (λ tree. tree_added frames tree rules c.args.at c.args.parent url sandbox
    c.args.deny c.add-done.ensures.number) c.self.invariant

pub returns-in_err-write_rows-clause-acts : goal.returns-in_err-write_rows-clause-acts
returns-in_err-write_rows-clause-acts c = rw (← c.self.view_is) (λ tab site found top.
    acts_wanting (add_frame c.args.input.now.list.now.rules c.args.input.now.clock site c.args.at c.args.parent (plain_address c.args.url.now)
    (option_map (λ text. string_bytes text.value) c.args.sandbox.now) c.args.deny
    (map head_field_of c.args.head.now) tab) (shown c.self.inside)
    (record (shown c.self.inside) { cookies = c.prepare_below.new.cookies })
    c.from_residual-in_err-write_rows.result c.from_residual-in_err-write_rows.ensures.0
    (prepared_stays (shown c.self.inside) c.prepare_below.new.cookies c.args.at.tab c.open_tab-tab.result.now tab site
    (sym c.open_tab-tab.ensures.tab) found top (λ site top. (c.in_ok-prepared.ensures.prepared site top).keeps)))

pub returns : goal.returns
returns c = rw (← c.self.view_is) (
    let rules = c.args.input.now.list.now.rules in
    let url = plain_address c.args.url.now in
    let head = map head_field_of c.args.head.now in
    let sandbox = option_map (λ text. string_bytes text.value) c.args.sandbox.now in
    let old : HoldingsView = shown c.self.inside in
    let new : HoldingsView = record (shown c.self.inside) { live = c.add-done.new.live; cookies = c.load_answer.new.cookies } in
    let own = c.prepare_below.new.cookies in
    let prepared : (tab : PlainTab) (site : PlainSite) → tab_at c.args.at.tab old.live.tabs ≡ Some tab
    → top_site tab.frames ≡ Some site
    → IsPrepared rules c.args.input.now.clock (frame_use rules site c.args.parent tab.frames url) head old.cookies own
    (Ok c.in_ok-prepared.prepared) =
    λ tab site found top.
    let same = frames_are (tab_at c.args.at.tab old.live.tabs) c.open_tab-tab.result.now tab
    (sym c.open_tab-tab.ensures.tab) found in
    subst (λ f. IsPrepared rules c.args.input.now.clock (frame_use rules site c.args.parent f url) head old.cookies own
    (Ok c.in_ok-prepared.prepared)) (sym same)
    (c.in_ok-prepared.ensures.prepared site (subst (λ f. top_site f ≡ Some site) same top)) in
    let answered : (tab : PlainTab) → tab_at c.args.at.tab old.live.tabs ≡ Some tab
    → Answers (λ _. frames_at c.args.at.tab new.live.tabs) NoMemory
    (frames_added rules c.args.at c.args.parent url sandbox c.args.deny tab.frames) c.add-done.result =
    λ tab found.
    subst (λ r. Answers (λ _. frames_at c.args.at.tab new.live.tabs) NoMemory r c.add-done.result)
    (ap (λ t. frames_added rules c.args.at c.args.parent url sandbox c.args.deny (frames_by t)) found)
    c.add-done.ensures.answer in
    record {
      acts = λ tab site found top.
          let ready = prepared tab site found top in
          load_in_place c.args.at.tab None (request rules c.args.input.now.clock
          (frame_use rules site c.args.parent tab.frames url) head) c.in_ok-prepared.prepared own old new
          (frames_added rules c.args.at c.args.parent url sandbox c.args.deny tab.frames) refl refl ready.keeps ready.ready
          c.add-done.result (answered tab found) c.add-done.ensures.changes tab found
          c.load_answer.result c.load_answer.ensures.performed;
      limit = c.cut_refused.ensures.limit ∙ c.write_rows.ensures.limit;
      changes = λ tab site found top.
          let ready = prepared tab site found top in
          load_written c.args.at.tab tab None (cells_of old) (held_of old)
          (request rules c.args.input.now.clock (frame_use rules site c.args.parent tab.frames url) head)
          c.in_ok-prepared.prepared old.cookies own new.cookies
          (frames_added rules c.args.at c.args.parent url sandbox c.args.deny tab.frames)
          (frames_at c.args.at.tab new.live.tabs)
          c.len-before.result c.args.body.now.bytes c.write_rows.new.body.bytes
          c.cut_refused.new.body.bytes c.len-before.ensures.len
          (cookies_held old.live.tabs old.cookies old.grants old.storage)
          refl ready.keeps ready.ready c.in_ok-write_rows.ensures.rows c.in_ok-write_rows.ensures.front
          c.add-done.result (answered tab found)
          c.cut_refused.ensures.kept c.cut_refused.ensures.cut c.load_answer.result c.load_answer.ensures.performed;
    })

pub returns-then-not-has_frame-clause-changes : goal.returns-then-not-has_frame-clause-changes
returns-then-not-has_frame-clause-changes c = rw (← c.self.view_is) (λ tab site found top.
    let rules = c.args.input.now.list.now.rules in
    let url = plain_address c.args.url.now in
    let sandbox = option_map (λ text. string_bytes text.value) c.args.sandbox.now in
    let old : HoldingsView = shown c.self.inside in
    writes_none _ (refused_none c.args.at.tab tab None (cells_of old) (held_of old)
    (λ frames. request rules c.args.input.now.clock (frame_use rules site c.args.parent tab.frames url)
    (map head_field_of c.args.head.now))
    (frames_added rules c.args.at c.args.parent url sandbox c.args.deny tab.frames) NoFrame
    (no_parent rules c.args.at old.live.tabs tab found url c.args.parent sandbox c.args.deny
    (has_found (record { tab = c.args.at.tab; frame = c.args.parent }) old.live.tabs c.open_tab-tab.result.now
    (sym c.open_tab-tab.ensures.tab) ∙ sym c.if-not-has_frame.ensures.there))) c.args.body.now.bytes (Ok c.answer.result))

pub returns-then-has_frame-clause-changes : goal.returns-then-has_frame-clause-changes
returns-then-has_frame-clause-changes c = rw (← c.self.view_is) (λ tab site found top.
    let rules = c.args.input.now.list.now.rules in
    let url = plain_address c.args.url.now in
    let sandbox = option_map (λ text. string_bytes text.value) c.args.sandbox.now in
    let old : HoldingsView = shown c.self.inside in
    writes_none _ (refused_none c.args.at.tab tab None (cells_of old) (held_of old)
    (λ frames. request rules c.args.input.now.clock (frame_use rules site c.args.parent tab.frames url)
    (map head_field_of c.args.head.now))
    (frames_added rules c.args.at c.args.parent url sandbox c.args.deny tab.frames) FrameExists
    (number_taken rules c.args.at old.live.tabs tab found url c.args.parent sandbox c.args.deny
    (has_found (record { tab = c.args.at.tab; frame = c.args.parent }) old.live.tabs c.open_tab-tab.result.now
    (sym c.open_tab-tab.ensures.tab) ∙ sym c.if-not-has_frame.ensures.there)
    (has_found c.args.at old.live.tabs c.open_tab-tab.result.now
    (sym c.open_tab-tab.ensures.tab) ∙ sym c.if-has_frame.ensures.there)))
    c.args.body.now.bytes (Ok c.answer-then-has_frame.result))

pub returns-in_err-prepared-clause-changes : goal.returns-in_err-prepared-clause-changes
returns-in_err-prepared-clause-changes c = λ tab site found top. writes_wanting _ c.args.body.now.bytes
    c.args.body.now.bytes c.from_residual.result c.from_residual.ensures.0 (front_same c.args.body.now.bytes)

pub returns-in_err-write_rows-clause-changes : goal.returns-in_err-write_rows-clause-changes
returns-in_err-write_rows-clause-changes c = λ tab site found top. writes_wanting _ c.args.body.now.bytes
    c.write_rows.new.body.bytes c.from_residual-in_err-write_rows.result
    c.from_residual-in_err-write_rows.ensures.0 c.in_err-write_rows.ensures.front
