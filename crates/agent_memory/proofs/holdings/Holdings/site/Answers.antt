use Rattle.std.proofs.Common.{◌≡◌, ℕ, List, Option, Some, None, refl, sym, ap, subst, ◌∙◌}
use Rattle.std.specs.Prelude.{is_some, option_and_then, option_map}
use Rattle.origin_site.specs.Site.{PlainSite}
use Rattle.frame_tree.specs.Tree.{top_site}
use Rattle.live_state.specs.Tabs.{PlainTab, tab_at}
use Rattle.agent_model.specs.Lines.{site_at}
use Rattle.agent_memory.specs.HoldingsView.{HoldingsView}
use Rattle.agent_memory.specs.AgentState.{places_in}
use Rattle.agent_base.proofs.Logic.{on_err}
use Rattle.agent_memory.proofs.LiveLemmas.{site_found, site_of}
use Rattle.agent_memory.proofs.holdings.Holdings.site.Goals as goal

-- a tab is at the site of its top document, as a look-up of its frames says
site_shown : (number : ℕ) (tabs : List PlainTab) → option_and_then top_site
    (option_map (λ t. t.frames) (tab_at number tabs)) ≡ site_at number (places_in tabs)
site_shown number tabs = at (tab_at number tabs) ∙ sym (site_found number tabs)
  where
    at : (tab : Option PlainTab) → option_and_then top_site (option_map (λ t. t.frames) tab) ≡ site_of tab
    at None = refl
    at (Some tab) = refl

-- what is held, told otherwise
seen_at : (number : ℕ) (held seen : HoldingsView) (site : Option PlainSite) → held ≡ seen
    → site ≡ site_at number (places_in held.live.tabs) → site ≡ site_at number (places_in seen.live.tabs)
seen_at number held seen site same is = subst (λ (h : HoldingsView). site ≡ site_at number (places_in h.live.tabs)) same is

pub returns-in_ok-copy-in-Some : goal.returns-in_ok-copy-in-Some
returns-in_ok-copy-in-Some c =
    let tabs = c.self.inside.live.tabs in
    record {
      site = seen_at c.args.tab _ _ _ c.self.view_is
          (ap Some c.in_ok-copy-in-Some.ensures.same ∙ sym c.top_site.ensures.site
          ∙ ap (option_and_then top_site) c.in-Some.ensures.tab ∙ site_shown c.args.tab tabs);
      memory = tt;
    }

-- memory is wanting for the copy of a site that is there
pub returns-in_err-copy-in-Some-clause-memory : goal.returns-in_err-copy-in-Some-clause-memory
returns-in_err-copy-in-Some-clause-memory c =
    on_err c.from_residual.result (sym (ap is_some (seen_at c.args.tab _ _ _ c.self.view_is
    (sym c.top_site.ensures.site ∙ ap (option_and_then top_site) c.in-Some.ensures.tab
    ∙ site_shown c.args.tab c.self.inside.live.tabs))))

pub returns-in-None : goal.returns-in-None
returns-in-None c =
    record {
      site = seen_at c.args.tab _ _ _ c.self.view_is
          (ap (option_and_then top_site) c.in-None.ensures.tab ∙ site_shown c.args.tab c.self.inside.live.tabs);
      memory = tt;
    }
