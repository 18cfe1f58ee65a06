-- The frame has its document, and its load is performed; or the frames refuse it.
use Rattle.std.proofs.Common.{◌≡◌, inr, Some, Ok, map, refl, sym, ap, subst, ◌∙◌}
use Rattle.agent_base.specs.Answers.{Answers}
use Rattle.origin_site.specs.Plain.{plain_address}
use Rattle.frame_tree.specs.declared.tab.TreeFault.TheVariants.{NoFrame, NoMemory}
use Rattle.frame_tree.specs.Tree.{top_site}
use Rattle.live_state.specs.FramesInPlace.{frames_at}
use Rattle.live_state.specs.Queues.{frames_by}
use Rattle.live_state.specs.Tabs.{PlainTab, is_open, tab_at}
use Rattle.reply_lines.specs.Plain.{body_of}
use Rattle.script_actions.specs.Plain.{head_field_of}
use Rattle.agent_model.specs.CookieUses.{chain_above, nav_use, request_use, starter_of}
use Rattle.agent_model.specs.Cookies.{request}
use Rattle.agent_model.specs.Frames.{frames_navigated, navigate_frame}
use Rattle.origin_site.specs.Site.{PlainSite}
use Rattle.agent_memory.specs.HoldingsView.{HoldingsView, cells_of, held_of}
use Rattle.agent_memory.specs.Requests.{IsPrepared}
use Rattle.agent_memory.proofs.ShownLemmas.{shown}
use Rattle.agent_memory.proofs.DoneLemmas.{cookies_held, frames_refused, no_change, stays_same}
use Rattle.agent_memory.proofs.LoadWritesLemmas.{load_written, refused_none}
use Rattle.agent_memory.proofs.WritesLemmas.{writes_none, writes_wanting}
use Rattle.agent_memory.proofs.FoundLemmas.{frames_are, has_found}
use Rattle.agent_memory.proofs.FrameLemmas.{tree_navigated}
use Rattle.agent_memory.proofs.InPlaceLemmas.{load_in_place, trees_in_place}
use Rattle.agent_memory.proofs.RequestLemmas.{acts_wanting, below_found, below_there, navigated_by, not_below, prepared_stays}
use Rattle.agent_memory.proofs.holdings.Holdings.navigate_frame.Goals as goal

pub returns-then-not-is_below-clause-acts : goal.returns-then-not-is_below-clause-acts
returns-then-not-is_below-clause-acts c = rw (← c.self.view_is) (λ tab site found top.
    let old : HoldingsView = shown c.self.inside in
    let rules = c.args.input.now.list.now.rules in
    let url = plain_address c.args.url.now in
    frames_refused c.args.at.tab tab (Some c.args.at.frame)
    (λ frames. request rules c.args.input.now.clock (nav_use rules site c.args.at.frame tab.frames url c.args.by_self
    c.args.method) (map head_field_of c.args.head.now))
    (frames_navigated rules c.args.at url c.args.by_self tab.frames) NoFrame (body_of c.answer.result)
    old old
    (inr (not_below rules c.args.at old.live.tabs tab found url c.args.by_self
    (below_found c.args.at old.live.tabs c.open_tab-tab.result.now
    (sym c.open_tab-tab.ensures.tab) ∙ sym c.if-not-is_below.ensures.below))) (λ e. cc e) c.answer.ensures
    (record { held = refl; cells = refl; places = refl }))

pub prepare_nav-requires : goal.prepare_nav-requires
prepare_nav-requires c =
    let tabs = c.self.inside.live.tabs in
    let frames = c.open_tab-tab.result.now in
    let shown = sym c.open_tab-tab.ensures.tab in
    record {
      there = sym (has_found c.args.at tabs frames shown)
          ∙ below_there tabs c.args.at (below_found c.args.at tabs frames shown ∙ sym c.if-not-is_below.ensures.below);
    }

pub returns-in_err-granted-clause-acts : goal.returns-in_err-granted-clause-acts
returns-in_err-granted-clause-acts c = rw (← c.self.view_is) (λ tab site found top.
    let rules = c.args.input.now.list.now.rules in
    let url = plain_address c.args.url.now in
    let old : HoldingsView = shown c.self.inside in
    acts_wanting (navigate_frame rules c.args.input.now.clock site c.args.at url c.args.by_self c.args.method
    (map head_field_of c.args.head.now) tab) old old
    c.from_residual.result c.from_residual.ensures.0 (stays_same old old refl refl refl (no_change c.self.inside.cookies)))

pub returns-in_err-prepared-clause-acts : goal.returns-in_err-prepared-clause-acts
returns-in_err-prepared-clause-acts c = rw (← c.self.view_is) (λ tab site found top.
    acts_wanting (navigate_frame c.args.input.now.list.now.rules c.args.input.now.clock site c.args.at
    (plain_address c.args.url.now) c.args.by_self c.args.method
    (map head_field_of c.args.head.now) tab) (shown c.self.inside)
    (record (shown c.self.inside) { cookies = c.prepare_nav.new.cookies })
    c.from_residual-in_err-prepared.result c.from_residual-in_err-prepared.ensures.0
    (prepared_stays (shown c.self.inside) c.prepare_nav.new.cookies c.args.at.tab c.open_tab-tab.result.now tab site
    (sym c.open_tab-tab.ensures.tab) found top (λ site top. (c.in_err-prepared.ensures.prepared site top).keeps)))

pub invariant_of-self-2 : goal.invariant_of-self-2
invariant_of-self-2 c =
    let rules = c.args.input.now.list.now.rules in
    let url = plain_address c.args.url.now in
    let frames = frames_at c.args.at.tab c.self.inside.live.tabs in
    trees_in_place c.args.at.tab (Some c.args.at.frame) c.self.inside.live c.navigate-done.new.live
    (frames_navigated rules c.args.at url c.args.by_self frames) c.navigate-done.result
    (subst (λ r. Answers (λ _. frames_at c.args.at.tab c.navigate-done.new.live.tabs) NoMemory r c.navigate-done.result)
    (navigated_by rules c.args.at url c.args.by_self c.self.inside.live.tabs c.open_tab-tab.result.now
    c.in_ok-granted.granted (sym c.open_tab-tab.ensures.tab) c.in_ok-granted.ensures.granted)
    c.navigate-done.ensures.answer) c.navigate-done.ensures.changes
    (ap (λ (h : HoldingsView). is_open c.args.at.tab h.live.tabs)
    c.self.view_is ∙ c.requires.«open») (λ tree. tree_navigated frames tree rules c.args.at url
    c.args.by_self) c.self.invariant

pub returns-in_err-write_rows-clause-acts : goal.returns-in_err-write_rows-clause-acts
returns-in_err-write_rows-clause-acts c = rw (← c.self.view_is) (λ tab site found top.
    acts_wanting (navigate_frame c.args.input.now.list.now.rules c.args.input.now.clock site c.args.at
    (plain_address c.args.url.now) c.args.by_self c.args.method
    (map head_field_of c.args.head.now) tab) (shown c.self.inside)
    (record (shown c.self.inside) { cookies = c.prepare_nav.new.cookies })
    c.from_residual-in_err-write_rows.result c.from_residual-in_err-write_rows.ensures.0
    (prepared_stays (shown c.self.inside) c.prepare_nav.new.cookies c.args.at.tab c.open_tab-tab.result.now tab site
    (sym c.open_tab-tab.ensures.tab) found top (λ site top. (c.in_ok-prepared.ensures.prepared site top).keeps)))

pub returns : goal.returns
returns c = rw (← c.self.view_is) (
    let rules = c.args.input.now.list.now.rules in
    let url = plain_address c.args.url.now in
    let head = map head_field_of c.args.head.now in
    let old : HoldingsView = shown c.self.inside in
    let new : HoldingsView = record (shown c.self.inside)
    { live = c.navigate-done.new.live; cookies = c.load_answer.new.cookies } in
    let own = c.prepare_nav.new.cookies in
    let prepared : (tab : PlainTab) (site : PlainSite) → tab_at c.args.at.tab old.live.tabs ≡ Some tab
    → top_site tab.frames ≡ Some site
    → IsPrepared rules c.args.input.now.clock (nav_use rules site c.args.at.frame tab.frames url c.args.by_self
    c.args.method) head old.cookies own (Ok c.in_ok-prepared.prepared) =
    λ tab site found top.
    let same = frames_are (tab_at c.args.at.tab old.live.tabs) c.open_tab-tab.result.now tab
    (sym c.open_tab-tab.ensures.tab) found in
    subst (λ f. IsPrepared rules c.args.input.now.clock (nav_use rules site c.args.at.frame f url c.args.by_self
    c.args.method) head old.cookies own (Ok c.in_ok-prepared.prepared)) (sym same)
    (subst (λ granted. let frames = c.open_tab-tab.result.now in
    IsPrepared rules c.args.input.now.clock (request_use rules site (chain_above c.args.at.frame frames)
    (starter_of c.args.by_self c.args.at.frame frames) url c.args.method granted) head old.cookies own
    (Ok c.in_ok-prepared.prepared))
    c.in_ok-granted.ensures.granted (c.in_ok-prepared.ensures.prepared site (subst (λ f. top_site f ≡ Some site) same top))) in
    let answered : (tab : PlainTab) → tab_at c.args.at.tab old.live.tabs ≡ Some tab
    → Answers (λ _. frames_at c.args.at.tab new.live.tabs) NoMemory
    (frames_navigated rules c.args.at url c.args.by_self tab.frames) c.navigate-done.result =
    λ tab found.
    subst (λ r. Answers (λ _. frames_at c.args.at.tab new.live.tabs) NoMemory r c.navigate-done.result)
    (navigated_by rules c.args.at url c.args.by_self old.live.tabs c.open_tab-tab.result.now
    c.in_ok-granted.granted (sym c.open_tab-tab.ensures.tab) c.in_ok-granted.ensures.granted
    ∙ ap (λ t. frames_navigated rules c.args.at url c.args.by_self (frames_by t)) found) c.navigate-done.ensures.answer in
    record {
      acts = λ tab site found top.
          let ready = prepared tab site found top in
          load_in_place c.args.at.tab (Some c.args.at.frame)
          (request rules c.args.input.now.clock (nav_use rules site c.args.at.frame tab.frames url c.args.by_self
          c.args.method) head) c.in_ok-prepared.prepared own old new
          (frames_navigated rules c.args.at url c.args.by_self tab.frames) refl refl ready.keeps ready.ready
          c.navigate-done.result (answered tab found) c.navigate-done.ensures.changes tab found
          c.load_answer.result c.load_answer.ensures.performed;
      limit = c.cut_refused.ensures.limit ∙ c.write_rows.ensures.limit;
      changes = λ tab site found top.
          let ready = prepared tab site found top in
          load_written c.args.at.tab tab (Some c.args.at.frame) (cells_of old) (held_of old)
          (request rules c.args.input.now.clock (nav_use rules site c.args.at.frame tab.frames url c.args.by_self
          c.args.method) head) c.in_ok-prepared.prepared old.cookies own new.cookies
          (frames_navigated rules c.args.at url c.args.by_self tab.frames)
          (frames_at c.args.at.tab new.live.tabs)
          c.len-before.result c.args.body.now.bytes c.write_rows.new.body.bytes
          c.cut_refused.new.body.bytes c.len-before.ensures.len
          (cookies_held old.live.tabs old.cookies old.grants old.storage)
          refl ready.keeps ready.ready c.in_ok-write_rows.ensures.rows c.in_ok-write_rows.ensures.front
          c.navigate-done.result (answered tab found)
          c.cut_refused.ensures.kept c.cut_refused.ensures.cut c.load_answer.result c.load_answer.ensures.performed;
    })

pub returns-then-not-is_below-clause-changes : goal.returns-then-not-is_below-clause-changes
returns-then-not-is_below-clause-changes c = rw (← c.self.view_is) (λ tab site found top.
    let rules = c.args.input.now.list.now.rules in
    let url = plain_address c.args.url.now in
    let old : HoldingsView = shown c.self.inside in
    writes_none _ (refused_none c.args.at.tab tab (Some c.args.at.frame) (cells_of old) (held_of old)
    (λ frames. request rules c.args.input.now.clock (nav_use rules site c.args.at.frame tab.frames url c.args.by_self
    c.args.method) (map head_field_of c.args.head.now))
    (frames_navigated rules c.args.at url c.args.by_self tab.frames) NoFrame
    (not_below rules c.args.at old.live.tabs tab found url c.args.by_self
    (below_found c.args.at old.live.tabs c.open_tab-tab.result.now
    (sym c.open_tab-tab.ensures.tab) ∙ sym c.if-not-is_below.ensures.below))) c.args.body.now.bytes (Ok c.answer.result))

pub returns-in_err-write_rows-clause-changes : goal.returns-in_err-write_rows-clause-changes
returns-in_err-write_rows-clause-changes c = λ tab site found top. writes_wanting _ c.args.body.now.bytes
    c.write_rows.new.body.bytes c.from_residual-in_err-write_rows.result
    c.from_residual-in_err-write_rows.ensures.0 c.in_err-write_rows.ensures.front
