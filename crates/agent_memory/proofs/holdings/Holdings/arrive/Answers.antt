-- What was prepared is performed once the tab shows the address.
use Rattle.std.proofs.Common.{◌≡◌, Ok, map, refl, sym, ap, subst, ◌∙◌}
use Rattle.origin_site.specs.Plain.{plain_address}
use Rattle.origin_site.specs.Site.{site_of_address}
use Rattle.reply_lines.specs.Plain.{body_of}
use Rattle.script_actions.specs.Plain.{head_field_of}
use Rattle.web_cookies.specs.Prepared.{Prepares}
use Rattle.web_cookies.specs.Stored.{shared_in}
use Rattle.agent_model.specs.CookieUses.{top_use}
use Rattle.agent_model.specs.Cookies.{request}
use Rattle.agent_model.specs.Lines.{is_same_site}
use Rattle.agent_model.specs.Sessions.{show}
use Rattle.agent_memory.specs.AgentState.{places_in}
use Rattle.agent_memory.specs.HoldingsView.{HoldingsView, cells_of, held_of}
use Rattle.agent_memory.specs.Lines.{with_copies}
use Rattle.agent_memory.specs.Requests.{IsPrepared, starter_in}
use Rattle.agent_memory.proofs.ShownLemmas.{shown}
use Rattle.agent_memory.proofs.LoadWritesLemmas.{copies_cookies, ready_written}
use Rattle.agent_memory.proofs.DoneLemmas.{cookies_held, done_by, load_done, stays_same}
use Rattle.agent_memory.proofs.WritesLemmas.{front_same, writes_wanting}
use Rattle.agent_memory.proofs.holdings.Holdings.arrive.Goals as goal

pub returns : goal.returns
returns c = rw (← c.self.view_is) (
    let rules = c.args.input.now.list.now.rules in
    let url = plain_address c.args.url.now in
    let target = site_of_address rules url in
    let head = map head_field_of c.args.head.now in
    let old : HoldingsView = shown c.self.inside in
    let ready : HoldingsView = record (shown c.self.inside) { cookies = c.prepare_top.new.cookies } in
    let mid : HoldingsView = shown c.self-2.inside in
    let new : HoldingsView = record (shown c.self-2.inside) { cookies = c.perform-answer.new.self } in
    let how = top_use target url c.args.method (is_same_site (starter_in c.args.starter old.live.tabs) target) in
    let does = request rules c.args.input.now.clock how head in
    let prepared : IsPrepared rules c.args.input.now.clock how head old.cookies ready.cookies (Ok c.in_ok-prepared.prepared) =
    subst (λ site. IsPrepared rules c.args.input.now.clock (top_use site url c.args.method
    (is_same_site (starter_in c.args.starter old.live.tabs) site)) head old.cookies ready.cookies
    (Ok c.in_ok-prepared.prepared))
    c.in_ok-site.ensures.site c.in_ok-prepared.ensures.prepared in
    let stays = stays_same old ready refl refl refl prepared.keeps in
    let cookies : mid.cookies ≡ ready.cookies = ap (λ (h : HoldingsView). h.cookies) c.self-2.view_is
    ∙ c.in_ok-show.ensures.cookies in
    record {
      site = c.in_ok-site.ensures.site;
      loaded = load_done does (cells_of old) (show rules c.args.tab url
          (with_copies c.args.opener c.args.tab old.live.tabs (held_of old))) c.args.tab target old mid new
          (body_of c.perform-answer.result)
          (ap shared_in cookies ∙ stays.cells)
          (ap held_of c.self-2.view_is ∙ c.in_ok-show.ensures.held
          ∙ ap (λ h. show rules c.args.tab url (with_copies c.args.opener c.args.tab old.live.tabs h)) stays.held)
          (ap (λ (h : HoldingsView). places_in h.live.tabs) c.self-2.view_is ∙ c.in_ok-show.ensures.places)
          (done_by does mid new (body_of c.perform-answer.result) refl refl refl
          (c.perform-answer.ensures.done does (subst (λ own. Prepares does own c.in_ok-prepared.prepared)
          (sym cookies) prepared.ready)));
      unchanged = tt;
      limit = c.write_rows.ensures.limit;
      changes = ready_written does c.in_ok-prepared.prepared old.cookies ready.cookies
          (show rules c.args.tab url (with_copies c.args.opener c.args.tab old.live.tabs (held_of old)))
          c.args.body.now.bytes c.write_rows.new.body.bytes
          (copies_cookies c.args.opener c.args.tab old.live.tabs (held_of old)
          ∙ cookies_held old.live.tabs old.cookies old.grants old.storage)
          prepared.keeps prepared.ready c.in_ok-write_rows.ensures.rows;
    })

pub returns-in_err-site-clause-changes : goal.returns-in_err-site-clause-changes
returns-in_err-site-clause-changes c = writes_wanting _ c.args.body.now.bytes c.args.body.now.bytes
    c.from_residual.result c.from_residual.ensures.0 (front_same c.args.body.now.bytes)

pub returns-in_err-prepared-clause-changes : goal.returns-in_err-prepared-clause-changes
returns-in_err-prepared-clause-changes c = writes_wanting _ c.args.body.now.bytes c.args.body.now.bytes
    c.from_residual-in_err-prepared.result c.from_residual-in_err-prepared.ensures.0 (front_same c.args.body.now.bytes)

pub returns-in_err-write_rows-clause-changes : goal.returns-in_err-write_rows-clause-changes
returns-in_err-write_rows-clause-changes c = writes_wanting _ c.args.body.now.bytes
    c.write_rows.new.body.bytes c.from_residual-in_err-write_rows.result
    c.from_residual-in_err-write_rows.ensures.0 c.in_err-write_rows.ensures.front

pub returns-in_err-show-clause-changes : goal.returns-in_err-show-clause-changes
returns-in_err-show-clause-changes c = writes_wanting _ c.args.body.now.bytes c.write_rows.new.body.bytes
    c.from_residual-in_err-show.result c.from_residual-in_err-show.ensures.0 c.in_ok-write_rows.ensures.front
