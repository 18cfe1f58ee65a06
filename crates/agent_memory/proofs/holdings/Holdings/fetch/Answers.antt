-- The document is there or not; its request is prepared, and then performed.
use Rattle.std.proofs.Common.{◌≡◌, map, refl, true, Some, Ok, sym, ap, subst, ◌∙◌}
use Rattle.origin_site.specs.Plain.{plain_address}
use Rattle.frame_tree.specs.Tree.{chain_of, top_site}
use Rattle.live_state.specs.Queues.{has_document}
use Rattle.live_state.specs.Tabs.{PlainTab, tab_at}
use Rattle.reply_lines.specs.Plain.{body_of}
use Rattle.script_actions.specs.Plain.{head_field_of}
use Rattle.agent_model.specs.CookieUses.{fetch_use, request_use}
use Rattle.agent_model.specs.Cookies.{fetch, request}
use Rattle.agent_model.specs.Effects.{Effect}
use Rattle.agent_model.specs.Documents.{by_document}
use Rattle.origin_site.specs.Site.{PlainSite}
use Rattle.row_changes.specs.Appended.{IsAppended}
use Rattle.agent_memory.specs.HoldingsView.{HoldingsView, cells_of, held_of}
use Rattle.agent_memory.specs.Requests.{IsPrepared}
use Rattle.agent_memory.proofs.ShownLemmas.{shown}
use Rattle.agent_memory.proofs.DoneLemmas.{cookies_held, no_change, stays_same}
use Rattle.agent_memory.proofs.LoadWritesLemmas.{present_is, ready_written}
use Rattle.agent_memory.proofs.WritesLemmas.{front_same, writes_none, writes_wanting}
use Rattle.agent_memory.proofs.FoundLemmas.{frames_are, has_found}
use Rattle.agent_memory.proofs.RequestLemmas.{absent_done, acts_wanting, none_there, present_done, request_done}
use Rattle.agent_memory.proofs.holdings.Holdings.fetch.Goals as goal

pub returns-then-not-has_frame-clause-acts : goal.returns-then-not-has_frame-clause-acts
returns-then-not-has_frame-clause-acts c = rw (← c.self.view_is) (λ tab site found top.
    let old : HoldingsView = shown c.self.inside in
    let how = fetch_use c.args.input.now.list.now.rules site c.args.at.frame tab.frames (plain_address c.args.url.now) c.args.method in
    absent_done c.args.at old.live.tabs tab found (λ document. request c.args.input.now.list.now.rules c.args.input.now.clock how (map head_field_of c.args.head.now)) old (body_of c.answer.result)
    (has_found c.args.at old.live.tabs c.open_tab-tab.result.now (sym c.open_tab-tab.ensures.tab)
    ∙ sym c.if-not-has_frame.ensures.there) c.answer.ensures)

pub prepare_below-requires : goal.prepare_below-requires
prepare_below-requires c = record { there = sym c.if-not-has_frame.ensures.there }

pub returns-in_err-granted-clause-acts : goal.returns-in_err-granted-clause-acts
returns-in_err-granted-clause-acts c = rw (← c.self.view_is) (λ tab site found top.
    let old : HoldingsView = shown c.self.inside in
    acts_wanting (fetch c.args.input.now.list.now.rules c.args.input.now.clock site c.args.at (plain_address c.args.url.now) c.args.method (map head_field_of c.args.head.now) tab) old old c.from_residual.result c.from_residual.ensures.0
    (stays_same old old refl refl refl (no_change c.self.inside.cookies)))

pub returns-in_err-prepared-clause-acts : goal.returns-in_err-prepared-clause-acts
returns-in_err-prepared-clause-acts c = rw (← c.self.view_is) (λ tab site found top.
    let old : HoldingsView = shown c.self.inside in
    let mid : HoldingsView = record { live = c.self.inside.live; storage = c.self.inside.storage; cookies = c.prepare_below.new.cookies; grants = c.self.inside.grants.rows } in
    let frames = frames_are (tab_at c.args.at.tab old.live.tabs) c.open_tab-tab.result.now tab (sym c.open_tab-tab.ensures.tab) found in
    acts_wanting (fetch c.args.input.now.list.now.rules c.args.input.now.clock site c.args.at (plain_address c.args.url.now) c.args.method (map head_field_of c.args.head.now) tab) old mid c.from_residual-in_err-prepared.result c.from_residual-in_err-prepared.ensures.0
    (stays_same old mid refl refl refl (c.in_err-prepared.ensures.prepared site (subst (λ f. top_site f ≡ Some site) frames top)).keeps))

pub returns-in_err-write_rows-clause-acts : goal.returns-in_err-write_rows-clause-acts
returns-in_err-write_rows-clause-acts c = rw (← c.self.view_is) (λ tab site found top.
    let old : HoldingsView = shown c.self.inside in
    let mid : HoldingsView = record { live = c.self.inside.live; storage = c.self.inside.storage; cookies = c.prepare_below.new.cookies; grants = c.self.inside.grants.rows } in
    let frames = frames_are (tab_at c.args.at.tab old.live.tabs) c.open_tab-tab.result.now tab (sym c.open_tab-tab.ensures.tab) found in
    acts_wanting (fetch c.args.input.now.list.now.rules c.args.input.now.clock site c.args.at (plain_address c.args.url.now) c.args.method (map head_field_of c.args.head.now) tab) old mid c.from_residual-in_err-write_rows.result c.from_residual-in_err-write_rows.ensures.0
    (stays_same old mid refl refl refl (c.in_ok-prepared.ensures.prepared site (subst (λ f. top_site f ≡ Some site) frames top)).keeps))

pub returns : goal.returns
returns c = rw (← c.self.view_is) (
    let rules = c.args.input.now.list.now.rules in
    let url = plain_address c.args.url.now in
    let head = map head_field_of c.args.head.now in
    let old : HoldingsView = shown c.self.inside in
    let mid : HoldingsView = record { live = c.self.inside.live; storage = c.self.inside.storage; cookies = c.prepare_below.new.cookies; grants = c.self.inside.grants.rows } in
    let new : HoldingsView = record { live = c.self.inside.live; storage = c.self.inside.storage; cookies = c.perform.new.self; grants = c.self.inside.grants.rows } in
    let here : has_document old.live.tabs c.args.at ≡ true =
    has_found c.args.at old.live.tabs c.open_tab-tab.result.now (sym c.open_tab-tab.ensures.tab) ∙ sym c.if-not-has_frame.ensures.there in
    let prepared : (tab : PlainTab) (site : PlainSite) → tab_at c.args.at.tab old.live.tabs ≡ Some tab → top_site tab.frames ≡ Some site
    → IsPrepared rules c.args.input.now.clock (fetch_use rules site c.args.at.frame tab.frames url c.args.method) head old.cookies mid.cookies (Ok c.in_ok-prepared.prepared) =
    λ tab site found top.
    let frames = frames_are (tab_at c.args.at.tab old.live.tabs) c.open_tab-tab.result.now tab (sym c.open_tab-tab.ensures.tab) found in
    subst (λ f. IsPrepared rules c.args.input.now.clock (fetch_use rules site c.args.at.frame f url c.args.method) head old.cookies mid.cookies (Ok c.in_ok-prepared.prepared)) (sym frames)
    (subst (λ granted. let chain = chain_of c.args.at.frame c.open_tab-tab.result.now in
    IsPrepared rules c.args.input.now.clock (request_use rules site chain chain url c.args.method granted) head old.cookies mid.cookies (Ok c.in_ok-prepared.prepared))
    c.in_ok-granted.ensures.granted (c.in_ok-prepared.ensures.prepared site (subst (λ f. top_site f ≡ Some site) frames top))) in
    record {
      acts = λ tab site found top.
          let does = request rules c.args.input.now.clock (fetch_use rules site c.args.at.frame tab.frames url c.args.method) head in
          present_done c.args.at old.live.tabs tab found does old new (body_of c.perform.result) here
          (request_done rules c.args.input.now.clock (fetch_use rules site c.args.at.frame tab.frames url c.args.method) head old mid new c.in_ok-prepared.prepared (body_of c.perform.result) refl refl refl (prepared tab site found top)
          refl refl refl c.perform.ensures.done);
      limit = c.write_rows.ensures.limit;
      changes = λ tab site found top.
          let does = request rules c.args.input.now.clock (fetch_use rules site c.args.at.frame tab.frames url c.args.method) head in
          let ready = prepared tab site found top in
          subst (λ (does : Effect). IsAppended (does (cells_of old) (held_of old)).changes c.args.body.now.bytes c.write_rows.new.body.bytes) (sym (present_is c.args.at old.live.tabs tab found here does))
          (ready_written does c.in_ok-prepared.prepared old.cookies mid.cookies (held_of old) c.args.body.now.bytes c.write_rows.new.body.bytes (cookies_held old.live.tabs old.cookies old.grants old.storage) ready.keeps ready.ready
          c.in_ok-write_rows.ensures.rows);
    })

pub returns-then-not-has_frame-clause-changes : goal.returns-then-not-has_frame-clause-changes
returns-then-not-has_frame-clause-changes c = rw (← c.self.view_is) (λ tab site found top.
    let old : HoldingsView = shown c.self.inside in
    let how = fetch_use c.args.input.now.list.now.rules site c.args.at.frame tab.frames (plain_address c.args.url.now) c.args.method in
    writes_none _ (ap (λ document. (by_document document (λ document. request c.args.input.now.list.now.rules c.args.input.now.clock how (map head_field_of c.args.head.now)) (cells_of old) (held_of old)).changes)
    (none_there c.args.at old.live.tabs tab found
    (has_found c.args.at old.live.tabs c.open_tab-tab.result.now (sym c.open_tab-tab.ensures.tab)
    ∙ sym c.if-not-has_frame.ensures.there))) c.args.body.now.bytes (Ok c.answer.result))

pub returns-in_err-prepared-clause-changes : goal.returns-in_err-prepared-clause-changes
returns-in_err-prepared-clause-changes c = λ tab site found top. writes_wanting _ c.args.body.now.bytes c.args.body.now.bytes c.from_residual-in_err-prepared.result c.from_residual-in_err-prepared.ensures.0 (front_same c.args.body.now.bytes)

pub returns-in_err-write_rows-clause-changes : goal.returns-in_err-write_rows-clause-changes
returns-in_err-write_rows-clause-changes c = λ tab site found top. writes_wanting _ c.args.body.now.bytes c.write_rows.new.body.bytes c.from_residual-in_err-write_rows.result c.from_residual-in_err-write_rows.ensures.0 c.in_err-write_rows.ensures.front
