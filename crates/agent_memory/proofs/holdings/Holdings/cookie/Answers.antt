-- The use is that of the script of the document.
use Rattle.std.proofs.Common.{◌≡◌, Some, refl, sym, ap, subst, ◌∙◌}
use Rattle.agent_base.proofs.Logic.{on_err}
use Rattle.frame_tree.specs.Tree.{document_of, top_site}
use Rattle.live_state.specs.Tabs.{tab_at}
use Rattle.agent_model.specs.Cookies.{read_cookies_by}
use Rattle.web_cookies.specs.Uses.{plain_use}
use Rattle.agent_memory.specs.Actions.{Acts}
use Rattle.agent_memory.specs.HoldingsView.{HoldingsView}
use Rattle.agent_memory.proofs.FoundLemmas.{frames_are, frames_found}
use Rattle.agent_memory.proofs.RequestLemmas.{acts_by}
use Rattle.agent_memory.proofs.holdings.Holdings.cookie.Goals as goal

pub returns : goal.returns
returns c = rw (← c.self.view_is) (record {
  acts = λ tab site found top document there.
      let rules = c.args.input.now.list.now.rules in
      let old : HoldingsView = record { live = c.self.inside.live; storage = c.self.inside.storage; cookies = c.self.inside.cookies; grants = c.self.inside.grants.rows } in
      let frames = frames_are (tab_at c.args.at.tab old.live.tabs) c.open_tab.result.now tab (sym c.open_tab.ensures.tab) found in
      let shown = ap (document_of c.args.at.frame) (sym (frames_found (tab_at c.args.at.tab old.live.tabs) c.open_tab.result.now (sym c.open_tab.ensures.tab))) ∙ there in
      subst (λ how. Acts (read_cookies_by rules c.args.input.now.clock how) old old c.read.result)
      (c.script_use-how.ensures document site shown (subst (λ f. top_site f ≡ Some site) frames top))
      (acts_by (read_cookies_by rules c.args.input.now.clock (plain_use c.script_use-how.result)) old old c.read.result refl refl refl c.read.ensures.done (on_err c.read.result refl) (on_err c.read.result refl));
})
