-- The storage keys of a tab's documents have the site of its top document.
use Rattle.std.proofs.Common.{◌≡◌, ℕ, Bool, true, Option, Some, sym, ◌∙◌}
use Rattle.origin_site.specs.Site.{PlainSite}
use Rattle.origin_site.proofs.SameLemmas.{same_plain_site-Decides}
use Rattle.storage_key.specs.Key.{PlainKey}
use Rattle.frame_tree.specs.Tree.{IsTree, top_site}
use Rattle.frame_tree.specs.Keys.{key_of_frame}
use Rattle.live_state.specs.Tabs.{PlainTab}
use Rattle.live_state.proofs.UnderLemmas.{key-under-top}
use Rattle.agent_model.specs.Partition.{Holdings, is_under, tab_named}
use Rattle.one_store.specs.HeldAt.{IsKeyed}

-- the documents of a site's tabs have keys of the site, where each top document has the site
pub keyed_by_tops : (site : PlainSite) (here : ℕ → Bool) (held : Holdings)
    → ((number : ℕ) (tab : PlainTab) → here number ≡ true → tab_named number held ≡ Some tab → IsTree tab.frames × (top_site tab.frames ≡ Some site))
    → IsKeyed site here held
keyed_by_tops site here held tops = record { under = under }
  where
    under : (number : ℕ) (tab : PlainTab) (frame : ℕ) (key : PlainKey) → here number ≡ true → tab_named number held ≡ Some tab → key_of_frame frame tab.frames ≡ Some key → is_under site key ≡ true
    under number tab frame key is found own =
        let top : IsTree tab.frames × (top_site tab.frames ≡ Some site) = tops number tab is found in
        let both : ◌≡◌ {A = Option PlainSite} (Some site) (Some key.top) = sym top.1 ∙ key-under-top frame tab.frames key top.0 own in
        let same : site ≡ key.top = cc in
        (same_plain_site-Decides site key.top).1 same
