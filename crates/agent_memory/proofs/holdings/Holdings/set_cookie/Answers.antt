-- The use is that of the script of the document. What it sets is prepared, and then performed.
use Rattle.std.proofs.Common.{◌≡◌, Some, refl, sym, ap, subst, ◌∙◌}
use Rattle.origin_site.specs.Site.{PlainSite}
use Rattle.storage_key.specs.Plain.{plain_key}
use Rattle.frame_tree.specs.Document.{PlainDocument}
use Rattle.frame_tree.specs.Tree.{document_of, top_site}
use Rattle.live_state.specs.Tabs.{PlainTab, tab_at}
use Rattle.reply_lines.specs.Plain.{body_of}
use Rattle.web_cookies.specs.Prepared.{Prepares}
use Rattle.agent_model.specs.Cookies.{set_cookie, set_cookie_by}
use Rattle.agent_model.specs.Documents.{Keyed}
use Rattle.agent_memory.specs.Documents.{document_at}
use Rattle.agent_memory.specs.HoldingsView.{HoldingsView, held_of}
use Rattle.agent_memory.specs.Requests.{KeepsCookies}
use Rattle.agent_memory.proofs.DoneLemmas.{cookies_held, done_after, done_by, stays_same}
use Rattle.agent_memory.proofs.FoundLemmas.{frames_are, frames_found}
use Rattle.agent_memory.proofs.LoadWritesLemmas.{ready_written}
use Rattle.agent_memory.proofs.RequestLemmas.{acts_wanting}
use Rattle.agent_memory.proofs.WritesLemmas.{front_same, writes_wanting}
use Rattle.agent_memory.proofs.holdings.Holdings.set_cookie.Goals as goal

pub returns-in_err-prepared-clause-acts : goal.returns-in_err-prepared-clause-acts
returns-in_err-prepared-clause-acts c = rw (← c.self.view_is) (λ tab site found top document there.
    let old : HoldingsView = record { live = c.self.inside.live; storage = c.self.inside.storage; cookies = c.self.inside.cookies; grants = c.self.inside.grants.rows } in
    let mid : HoldingsView = record { live = c.self.inside.live; storage = c.self.inside.storage; cookies = c.prepare_set.new.self; grants = c.self.inside.grants.rows } in
    let writer : Keyed = record { at = c.args.at; document = document; key = plain_key c.args.key.now } in
    acts_wanting (set_cookie c.args.input.now.list.now.rules c.args.input.now.clock site c.args.text.now writer) old mid c.from_residual.result c.from_residual.ensures.0
    (stays_same old mid refl refl refl (record { shared = c.in_err-prepared.ensures.shared; partitioned = c.in_err-prepared.ensures.partitioned })))

pub returns-in_err-write_rows-clause-acts : goal.returns-in_err-write_rows-clause-acts
returns-in_err-write_rows-clause-acts c = rw (← c.self.view_is) (λ tab site found top document there.
    let old : HoldingsView = record { live = c.self.inside.live; storage = c.self.inside.storage; cookies = c.self.inside.cookies; grants = c.self.inside.grants.rows } in
    let mid : HoldingsView = record { live = c.self.inside.live; storage = c.self.inside.storage; cookies = c.prepare_set.new.self; grants = c.self.inside.grants.rows } in
    let writer : Keyed = record { at = c.args.at; document = document; key = plain_key c.args.key.now } in
    acts_wanting (set_cookie c.args.input.now.list.now.rules c.args.input.now.clock site c.args.text.now writer) old mid c.from_residual-in_err-write_rows.result c.from_residual-in_err-write_rows.ensures.0
    (stays_same old mid refl refl refl (record { shared = c.in_ok-prepared.ensures.shared; partitioned = c.in_ok-prepared.ensures.partitioned })))

pub returns : goal.returns
returns c = rw (← c.self.view_is) (
    let rules = c.args.input.now.list.now.rules in
    let old : HoldingsView = record { live = c.self.inside.live; storage = c.self.inside.storage; cookies = c.self.inside.cookies; grants = c.self.inside.grants.rows } in
    let mid : HoldingsView = record { live = c.self.inside.live; storage = c.self.inside.storage; cookies = c.prepare_set.new.self; grants = c.self.inside.grants.rows } in
    let new : HoldingsView = record { live = c.self.inside.live; storage = c.self.inside.storage; cookies = c.perform.new.self; grants = c.self.inside.grants.rows } in
    let keeps : KeepsCookies old.cookies mid.cookies = record { shared = c.in_ok-prepared.ensures.shared; partitioned = c.in_ok-prepared.ensures.partitioned } in
    let writer_of : PlainDocument → Keyed = λ document. record { at = c.args.at; document = document; key = plain_key c.args.key.now } in
    let ready : (tab : PlainTab) (site : PlainSite) → tab_at c.args.at.tab old.live.tabs ≡ Some tab → top_site tab.frames ≡ Some site → (document : PlainDocument) → document_at c.args.at old.live.tabs ≡ Some document
    → Prepares (set_cookie rules c.args.input.now.clock site c.args.text.now (writer_of document)) mid.cookies c.in_ok-prepared.prepared =
    λ tab site found top document there.
    let frames = frames_are (tab_at c.args.at.tab old.live.tabs) c.open_tab.result.now tab (sym c.open_tab.ensures.tab) found in
    let shown = ap (document_of c.args.at.frame) (sym (frames_found (tab_at c.args.at.tab old.live.tabs) c.open_tab.result.now (sym c.open_tab.ensures.tab))) ∙ there in
    subst (λ how. Prepares (set_cookie_by rules c.args.input.now.clock how c.args.text.now) mid.cookies c.in_ok-prepared.prepared)
    (c.script_use-how.ensures document site shown (subst (λ f. top_site f ≡ Some site) frames top)) c.in_ok-prepared.ensures.prepared in
    record {
      acts = λ tab site found top document there.
          let does = set_cookie rules c.args.input.now.clock site c.args.text.now (writer_of document) in
          done_after does old mid new (body_of c.perform.result) (stays_same old mid refl refl refl keeps)
          (done_by does mid new (body_of c.perform.result) refl refl refl (c.perform.ensures.done does (ready tab site found top document there)));
      limit = c.write_rows.ensures.limit;
      changes = λ tab site found top document there.
          ready_written (set_cookie rules c.args.input.now.clock site c.args.text.now (writer_of document)) c.in_ok-prepared.prepared old.cookies mid.cookies (held_of old) c.args.body.now.bytes c.write_rows.new.body.bytes
          (cookies_held old.live.tabs old.cookies old.grants old.storage) keeps (ready tab site found top document there) c.in_ok-write_rows.ensures.rows;
    })

pub returns-in_err-prepared-clause-changes : goal.returns-in_err-prepared-clause-changes
returns-in_err-prepared-clause-changes c = λ tab site found top document there. writes_wanting _ c.args.body.now.bytes c.args.body.now.bytes c.from_residual.result c.from_residual.ensures.0 (front_same c.args.body.now.bytes)
