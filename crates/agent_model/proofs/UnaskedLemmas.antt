-- Tabs of which no document has asked for storage access: none of their documents has it, and what
-- is first party there is of the domain of the site.
use Rattle.std.proofs.Common.{◌≡◌, ℕ, zero, suc, ◌-◌, ◌==◌, Bool, true, false, not, cond, ◌&&◌, ◌||◌, List, [], ◌∷◌, ◌++◌, reverse, take, length, Option, Some, None, Ok, Err, refl, sym, ap, subst, ◌∙◌}
use Rattle.std.proofs.lemmas.Bool.{true≢false, eqb-true}
use Rattle.std.proofs.lemmas.List.{map-append}
use Rattle.std.proofs.lemmas.List.Elements.{All-head, All-tail}
use Rattle.std.proofs.lemmas.List.Folds.{list_all-append}
use Rattle.std.specs.List.{All}
use Rattle.std.specs.Prelude.{Result, IfOk, IfSome, ℤ, pos, bytes_eq, filter, find, map, option_and_then, option_map}
use Rattle.unwinding.specs.World.{is_in}
use Rattle.agent_base.specs.declared.refusals.Label.{Label}
use Rattle.suffix_list.specs.Suffix.{Rule}
use Rattle.origin_site.specs.Address.{PlainAddress}
use Rattle.origin_site.specs.Origin.{PlainOrigin, origin_of_address}
use Rattle.origin_site.specs.Site.{PlainSite, same_plain_site, site_of_address, site_of_origin}
use Rattle.origin_site.proofs.SameLemmas.{same_plain_site-Decides}
use Rattle.storage_key.specs.Context.{has_only, is_first_by, is_first_party, is_of, top_of}
use Rattle.storage_key.specs.Key.{PlainKey, own_bit, storage_key}
use Rattle.storage_key.proofs.ContextLemmas.{bit-of-chain}
use Rattle.frame_tree.specs.declared.tab.TreeFault.{TreeFault}
use Rattle.frame_tree.specs.declared.tab.TreeFault.TheVariants.{NoFrame, FrameExists}
use Rattle.frame_tree.specs.Sandbox.{PlainSandbox, both, sandbox_of}
use Rattle.frame_tree.specs.Document.{PlainDocument, loaded, loaded_below, loaded_instead}
use Rattle.frame_tree.specs.Keys.{key_of_document, sites}
use Rattle.frame_tree.specs.Tree.{PlainFrame, IsTree, chain_back, chain_of, document_of, has_frame, is_on_chain, top_site, with_next}
use Rattle.frame_tree.specs.Calls as tree
use Rattle.frame_tree.proofs.ChainLemmas.{IsPlaced, placed-tree}
use Rattle.frame_tree.proofs.KeyLemmas.{top-of-sites}
use Rattle.frame_tree.proofs.ShapeLemmas.{has-reversed}
use Rattle.frame_tree.proofs.TopLemmas.{top-document}
use Rattle.live_state.specs.Tabs.{PlainTab}
use Rattle.script_actions.specs.Action.{DocumentAction, Frame, Nav, Drop, Click, Fetch, Set, Get, Del, Clear, Len, Key}
use Rattle.script_actions.specs.Action.{Events, Cookie, SetCookie, Has, Request, Persisted, Estimate, Persist}
use Rattle.agent_model.specs.CookieCells.{Domain}
use Rattle.agent_model.specs.Documents.{Keyed}
use Rattle.agent_model.specs.CookieUse.{CookieUse, consulted_by, cookie_domain}
use Rattle.agent_model.specs.CookieUses.{chain_above, fetch_use, frame_use, is_granted_at, is_granted_nav, is_granted_to, nav_use, script_use}
use Rattle.agent_model.specs.Consults.{by_script, keyed_at, names_in, unless_refused, where_there}
use Rattle.agent_model.specs.Frames.{frames_added, frames_clicked, frames_navigated, frames_removed, where_below}
use Rattle.agent_model.specs.Frames as frames
use Rattle.agent_model.proofs.EachTabLemmas.{IsOfFrames, Keeps}
use Rattle.agent_model.proofs.OwnLemmas.{AreOf, none_of, one_of}
use Rattle.agent_model.proofs.TopKeptLemmas.{KeepsTop, added_top, clicked_top, navigated_top, removed_top}

never : (b : Bool) → (b && false) ≡ false
never true = refl
never false = refl

both_true : (b c : Bool) → b && c ≡ true → (b ≡ true) × (c ≡ true)
both_true true c is = (refl, is)
both_true false c is = cc

twice : (b : Bool) → not (not b) ≡ true → b ≡ true
twice true is = refl
twice false is = cc

-- a site that is this one
pub at_site : (site : PlainSite) (place : Option PlainSite) → is_of site place ≡ true → place ≡ Some site
at_site site None is = cc
at_site site (Some here) is = ap Some (sym ((same_plain_site-Decides site here).0 is))

module _ (rules : List Rule) where
  -- ---- documents

  -- a document without storage access, whose site is that of its address, where it has one
  pub record IsUnasked (document : PlainDocument) : Type 0 where
    pub unflagged : document.flag ≡ false
    pub own : (site : PlainSite) → document.site ≡ Some site → site ≡ site_of_address rules document.address

  pub loaded_unasked : (sandbox : PlainSandbox) (deny : Bool) (url : PlainAddress) → IsUnasked (loaded rules sandbox deny url)
  loaded_unasked sandbox deny url = record { unflagged = refl; own = at sandbox.same_origin }
    where
      at : (b : Bool) (site : PlainSite) → option_map (site_of_origin rules) (cond b (Some (origin_of_address url)) None) ≡ Some site → site ≡ site_of_address rules url
      at true site is =
          let same : site_of_address rules url ≡ site = cc in
          sym same
      at false site is = cc

  instead_unasked : (keep_flag : Bool) (before : PlainDocument) (url : PlainAddress) → IsUnasked before → IsUnasked (loaded_instead rules keep_flag before url)
  instead_unasked keep_flag before url is = record {
    unflagged = ap (λ b. keep_flag && b) is.unflagged ∙ never keep_flag;
    own = (loaded_unasked before.sandbox before.deny url).own;
  }

  -- ---- frames

  -- each document of some frames is so
  abbrev pub AreUnasked : List PlainFrame → Type 0
  AreUnasked [] = Unit {0}
  AreUnasked (f ∷ fs) = IsUnasked f.document × AreUnasked fs

  one_more : (fs : List PlainFrame) (f : PlainFrame) → AreUnasked fs → IsUnasked f.document → AreUnasked (fs ++ f ∷ [])
  one_more [] f each own = (own, tt)
  one_more (g ∷ fs) f each own = (each.0, one_more fs f each.1 own)

  fewer : (p : PlainFrame → Bool) (fs : List PlainFrame) → AreUnasked fs → AreUnasked (filter p fs)
  fewer p [] each = tt
  fewer p (f ∷ fs) each = at (p f) (fewer p fs each.1)
    where
      at : (b : Bool) → AreUnasked (filter p fs) → AreUnasked (cond b (f ∷ filter p fs) (filter p fs))
      at true later = (each.0, later)
      at false later = later

  mapped : (p : PlainFrame → Bool) (next : PlainDocument → PlainDocument) → ((document : PlainDocument) → IsUnasked document → IsUnasked (next document)) → (fs : List PlainFrame)
      → AreUnasked fs → AreUnasked (map (λ f. cond (p f) (with_next next f) f) fs)
  mapped p next keeps [] each = tt
  mapped p next keeps (f ∷ fs) each = (at (p f), mapped p next keeps fs each.1)
    where
      at : (b : Bool) → IsUnasked (cond b (with_next next f) f).document
      at true = keeps f.document each.0
      at false = each.0

  -- the document of a frame
  found : (frame : ℕ) (fs : List PlainFrame) → AreUnasked fs → IfSome (document_of frame fs) IsUnasked
  found frame [] each = tt
  found frame (f ∷ fs) each = at (f.frame == frame) (found frame fs each.1)
    where
      at : (b : Bool) → IfSome (document_of frame fs) IsUnasked → IfSome (option_map (λ (g : PlainFrame). g.document) (cond b (Some f) (find (λ g. g.frame == frame) fs))) IsUnasked
      at true later = each.0
      at false later = later

  found_at : (frame : ℕ) (fs : List PlainFrame) → AreUnasked fs → (document : PlainDocument) → document_of frame fs ≡ Some document → IsUnasked document
  found_at frame fs each document is = subst (λ (d : Option PlainDocument). IfSome d IsUnasked) is (found frame fs each)

  added_unasked : (parent frame : ℕ) (url : PlainAddress) (sandbox : PlainSandbox) (deny : Bool) (fs : List PlainFrame) → AreUnasked fs → IfOk (tree.added rules parent frame url sandbox deny fs) AreUnasked
  added_unasked parent frame url sandbox deny fs each = by (document_of parent fs)
    where
      at : (above : PlainDocument) (b : Bool)
          → IfOk (cond b (Err FrameExists) (Ok (fs ++ record { frame = frame; parent = parent; document = loaded_below rules above sandbox deny url } ∷ []))) AreUnasked
      at above true = tt
      at above false = one_more fs (record { frame = frame; parent = parent; document = loaded_below rules above sandbox deny url }) each (loaded_unasked (both above.sandbox sandbox) (above.deny || deny) url)

      by : (above : Option PlainDocument) → IfOk (tree.added_below above rules parent frame url sandbox deny fs) AreUnasked
      by None = tt
      by (Some above) = at above (has_frame frame fs)

  navigated_unasked : (frame : ℕ) (url : PlainAddress) (keep_flag : Bool) (fs : List PlainFrame) → AreUnasked fs → IfOk (tree.navigated rules frame url keep_flag fs) AreUnasked
  navigated_unasked frame url keep_flag fs each = by (document_of frame fs) (found frame fs each)
    where
      by : (before : Option PlainDocument) → IfSome before IsUnasked → IfOk (tree.navigated_from before rules frame url keep_flag fs) AreUnasked
      by None own = tt
      by (Some before) own =
          mapped (λ f. f.frame == frame) (λ d. loaded_instead rules keep_flag before url) (λ d is. instead_unasked keep_flag before url own) (tree.without_below frame fs)
          (fewer (λ f. (f.frame == frame) || not (is_on_chain frame f.frame fs)) fs each)

  below_unasked : (frame : ℕ) (after : Result (List PlainFrame) TreeFault) → IfOk after AreUnasked → IfOk (where_below frame after) AreUnasked
  below_unasked frame after each = at (frame == 0)
    where
      at : (b : Bool) → IfOk (cond b (Err NoFrame) after) AreUnasked
      at true = tt
      at false = each

  there_unasked : (frame : ℕ) (fs after : List PlainFrame) → AreUnasked after → IfOk (frames.where_there frame fs after) AreUnasked
  there_unasked frame fs after each = at (has_frame frame fs)
    where
      at : (b : Bool) → IfOk (cond b (Ok after) (Err NoFrame)) AreUnasked
      at true = each
      at false = tt

  activated_unasked : (frame : ℕ) (now : ℤ) (fs : List PlainFrame) → AreUnasked fs → AreUnasked (tree.activated frame now fs)
  activated_unasked frame now fs each =
      mapped (tree.is_activated frame (tree.origin_of frame fs) fs) (tree.with_mark (Some now)) (λ d is. record { unflagged = is.unflagged; own = is.own }) fs each

  -- ---- tabs

  module _ (site : PlainSite) where
    -- the frames of a tab at a site are a tree under it, and their documents are so
    abbrev pub IsUnaskedTab : ℕ → Option PlainTab → Type 0
    IsUnaskedTab number None = Unit {0}
    IsUnaskedTab number (Some tab) = IsTree tab.frames × (top_site tab.frames ≡ Some site) × AreUnasked tab.frames

    pub of_frames : IsOfFrames IsUnaskedTab
    of_frames number before after same is = subst (λ fs. IsTree fs × (top_site fs ≡ Some site) × AreUnasked fs) (sym same) is

    module _ (at : Label) (tab : PlainTab) (tree_of : IsTree tab.frames) (top : top_site tab.frames ≡ Some site) (each : AreUnasked tab.frames) where
      -- what is left of the frames, from what each of both says
      kept_by : (after : Result (List PlainFrame) TreeFault) → IfOk after (KeepsTop tab.frames) → IfOk after AreUnasked
          → IfOk after (λ fs. IsUnaskedTab at.tab (Some (record tab { frames = fs })))
      kept_by (Ok fs) keeps own = (keeps.0, keeps.1 ∙ top, own)
      kept_by (Err why) keeps own = tt

      -- an action that does not ask for storage access leaves it so
      pub unasked_keeps : (now : ℕ) (asks : Bool) → asks ≡ false → Keeps IsUnaskedTab rules now at tab asks
      unasked_keeps now asks none = record {
        added = λ parent url sandbox deny.
            kept_by (frames_added rules at parent url sandbox deny tab.frames) (added_top tab.frames tree_of rules at parent url sandbox deny)
            (added_unasked parent at.frame url (sandbox_of sandbox) deny tab.frames each);
        navigated = λ url by_self.
            let keep_flag = is_granted_nav by_self at.frame tab.frames url in
            kept_by (frames_navigated rules at url by_self tab.frames) (navigated_top tab.frames tree_of rules at url by_self)
            (below_unasked at.frame (tree.navigated rules at.frame url keep_flag tab.frames) (navigated_unasked at.frame url keep_flag tab.frames each));
        removed =
            kept_by (frames_removed at tab.frames) (removed_top tab.frames tree_of at)
            (below_unasked at.frame (frames.where_there at.frame tab.frames (tree.without at.frame tab.frames))
            (there_unasked at.frame tab.frames (tree.without at.frame tab.frames) (fewer (λ f. not (is_on_chain at.frame f.frame tab.frames)) tab.frames each)));
        clicked =
            kept_by (frames_clicked now at tab.frames) (clicked_top tab.frames tree_of now at)
            (there_unasked at.frame tab.frames (tree.activated at.frame (pos now) tab.frames) (activated_unasked at.frame (pos now) tab.frames each));
        asked = λ asking. absurd (true≢false (sym asking ∙ none));
      }

      -- ---- what is first party

      -- the top of a chain is the top of the tab
      top_is : (n : ℕ) (t : PlainSite) → top_of (sites (chain_of n tab.frames)) ≡ Some t → t ≡ site
      top_is n t is = by (has_frame n tab.frames) refl
        where
          absent : (fs : List PlainFrame) → has_frame n fs ≡ false → chain_back n fs ≡ []
          absent [] none = refl
          absent (f ∷ fs) none = step (f.frame == n) none (absent fs)
            where
              step : (b : Bool) → b || has_frame n fs ≡ false → (has_frame n fs ≡ false → chain_back n fs ≡ []) → cond b (chain_back f.parent fs ++ f ∷ []) (chain_back n fs) ≡ []
              step true none later = cc
              step false none later = later none

          by : (b : Bool) → has_frame n tab.frames ≡ b → t ≡ site
          by true there =
              let same : ◌≡◌ {A = Option PlainSite} (Some t) (Some site) = sym is ∙ top-of-sites site n tab.frames tree_of top there in
              cc
          by false none =
              let same : ◌≡◌ {A = Option PlainSite} (Some t) None = sym is ∙ ap (λ fs. top_of (sites fs)) (absent (reverse tab.frames) (has-reversed n tab.frames ∙ none)) in
              cc

      -- the same of the chain above
      top_above : (n k : ℕ) (t : PlainSite) → top_of (sites (take k (chain_of n tab.frames))) ≡ Some t → t ≡ site
      top_above n k t is = top_is n t (by (chain_of n tab.frames) k is)
        where
          by : (fs : List PlainFrame) (k : ℕ) → top_of (sites (take k fs)) ≡ Some t → top_of (sites fs) ≡ Some t
          by [] zero is = cc
          by [] (suc k) is = cc
          by (f ∷ fs) zero is = cc
          by (f ∷ fs) (suc k) is = is

      -- what is first party below a chain of the tab is of its site
      first_own : (chain : List (Option PlainSite)) (url : PlainSite) → ((t : PlainSite) → top_of chain ≡ Some t → t ≡ site) → is_first_party chain url ≡ true → url ≡ site
      first_own chain url top_own is = by (top_of chain) refl is
        where
          by : (t : Option PlainSite) → top_of chain ≡ t → is_first_by t chain url ≡ true → url ≡ site
          by None begins first = cc
          by (Some t) begins first =
              sym ((same_plain_site-Decides t url).0 (both_true (has_only t chain) (same_plain_site t url) first).1) ∙ top_own t begins

      -- a use without granted access consults the cell of the domain at most
      use_own : (how : CookieUse) → how.granted ≡ false → (how.context.first ≡ true → site_of_address rules how.url ≡ site) → AreOf site.host (consulted_by rules how)
      use_own how none first c is = by how.context.first how.granted none first is
        where
          d : Domain
          d = cookie_domain rules how

          by : (first granted : Bool) → granted ≡ false → (first ≡ true → site_of_address rules how.url ≡ site) → is_in bytes_eq c (cond (first || granted) (d ∷ []) []) ≡ true → c ≡ site.host
          by true granted none own is = one_of d c is ∙ ap (λ s. s.host) (own refl)
          by false true none own is = cc
          by false false none own is = cc

      granted_none : (frame : ℕ) (url : PlainAddress) → is_granted_at frame tab.frames url ≡ false
      granted_none frame url = by (document_of frame tab.frames) (found frame tab.frames each)
        where
          by : (document : Option PlainDocument) → IfSome document IsUnasked → is_granted_to url document ≡ false
          by None own = refl
          by (Some document) own = rw own.unflagged refl

      -- ---- what an action consults

      loads_own : (how : CookieUse) → AreOf site.host (consulted_by rules how) → (after : Result (List PlainFrame) TreeFault) → AreOf site.host (unless_refused (consulted_by rules how) after)
      loads_own how own (Ok fs) = own
      loads_own how own (Err why) = none_of site.host

      fetches_own : (how : CookieUse) → AreOf site.host (consulted_by rules how) → (document : Option PlainDocument) → AreOf site.host (where_there (consulted_by rules how) document)
      fetches_own how own None = none_of site.host
      fetches_own how own (Some document) = own

      -- the document of a frame is at the site, where its chain is
      document_site : (n : ℕ) (document : PlainDocument) → document_of n tab.frames ≡ Some document → has_only site (sites (chain_of n tab.frames)) ≡ true → document.site ≡ Some site
      document_site n document is only = by (n == 0) refl
        where
          -- the frames, newest first
          newest : List PlainFrame
          newest = reverse tab.frames

          placed_frame : (fs : List PlainFrame) → All (IsPlaced newest) fs → document_of n fs ≡ Some document
              → ((f : PlainFrame) → f.frame ≡ n → f.document ≡ document → IsPlaced newest f → document.site ≡ Some site) → document.site ≡ Some site
          placed_frame [] all there next = absurd (cc there)
          placed_frame (f ∷ fs) all there next = step (f.frame == n) refl (λ here. placed_frame fs (All-tail (IsPlaced newest) f fs all) here next) there
            where
              step : (b : Bool) → (f.frame == n) ≡ b → (document_of n fs ≡ Some document → document.site ≡ Some site)
                  → option_map (λ (g : PlainFrame). g.document) (cond b (Some f) (find (λ g. g.frame == n) fs)) ≡ Some document → document.site ≡ Some site
              step true same later here =
                  let own : f.document ≡ document = cc in
                  next f (eqb-true f.frame n same) own (All-head (IsPlaced newest) f fs all)
              step false other later here = later here

          last : (f : PlainFrame) → f.frame ≡ n → f.document ≡ document → (f.frame == 0) ≡ false → IsPlaced newest f → document.site ≡ Some site
          last f same own low place =
              let above = sites (chain_back f.parent newest) in
              let ends : sites (chain_back n newest) ≡ above ++ f.document.site ∷ [] =
              ap (λ m. sites (chain_back m newest)) (sym same) ∙ ap sites (place.step low) ∙ map-append (λ g. g.document.site) (chain_back f.parent newest) (f ∷ []) in
              let both = sym (ap (has_only site) ends ∙ list_all-append (is_of site) above (f.document.site ∷ [])) ∙ only in
              ap (λ (d : PlainDocument). d.site) (sym own)
              ∙ at_site site f.document.site (both_true (is_of site f.document.site) true (both_true (has_only site above) (is_of site f.document.site && true) both).1).0

          by : (b : Bool) → (n == 0) ≡ b → document.site ≡ Some site
          by true is_top =
              ap (option_and_then (λ (d : PlainDocument). d.site)) (sym is)
              ∙ ap (λ m. option_and_then (λ (d : PlainDocument). d.site) (document_of m tab.frames)) (eqb-true n 0 is_top)
              ∙ top-document tab.frames tree_of ∙ top
          by false low = placed_frame tab.frames (placed-tree tab.frames tree_of) is (λ f same own place. last f same own (ap (λ m. m == 0) same ∙ low) place)

      -- a script of a document that is first party is of the site
      script_first : (n : ℕ) (document : PlainDocument) → document_of n tab.frames ≡ Some document → (t : PlainSite) → top_of (sites (chain_of n tab.frames)) ≡ Some t
          → not (own_bit (sites (chain_of n tab.frames))) ≡ true → site_of_address rules document.address ≡ site
      script_first n document there t begins first =
          let chain = sites (chain_of n tab.frames) in
          let only : has_only t chain ≡ true = twice (has_only t chain) (ap not (sym (bit-of-chain t chain begins)) ∙ first) in
          sym ((found_at n tab.frames each document there).own site (document_site n document there (ap (λ s. has_only s chain) (sym (top_is n t begins)) ∙ only)))

      scripts_own : (s : PlainSite) → AreOf site.host (by_script rules s (keyed_at at tab))
      scripts_own s = by_document (document_of at.frame tab.frames) refl
        where
          chain : List (Option PlainSite)
          chain = sites (chain_of at.frame tab.frames)

          keyed : PlainDocument → PlainKey → Keyed
          keyed document key = record { at = at; document = document; key = key }

          by_top : (document : PlainDocument) → document_of at.frame tab.frames ≡ Some document → (origin : PlainOrigin) (t : Option PlainSite) → top_of chain ≡ t
              → AreOf site.host (by_script rules s (option_map (keyed document) (option_map (λ t. record { top = t; origin = origin; bit = own_bit chain }) t)))
          by_top document there origin None begins = none_of site.host
          by_top document there origin (Some t) begins =
              use_own (script_use s (keyed document (record { top = t; origin = origin; bit = own_bit chain }))) (found_at at.frame tab.frames each document there).unflagged
              (λ first. script_first at.frame document there t begins first)

          by_origin : (document : PlainDocument) → document_of at.frame tab.frames ≡ Some document → (origin : Option PlainOrigin) → AreOf site.host (by_script rules s (option_map (keyed document) (storage_key chain origin)))
          by_origin document there None = none_of site.host
          by_origin document there (Some origin) = by_top document there origin (top_of chain) refl

          by_document : (d : Option PlainDocument) → document_of at.frame tab.frames ≡ d
              → AreOf site.host (by_script rules s (option_and_then (λ document. option_map (keyed document) (key_of_document at.frame tab.frames document)) d))
          by_document None there = none_of site.host
          by_document (Some document) there = by_origin document there document.origin

      -- an action of a document consults the cell of the domain at most
      pub actions_own : (s : PlainSite) (action : DocumentAction) → AreOf site.host (names_in rules s at action tab)
      actions_own s (Frame parent url sandbox deny head) =
          loads_own (frame_use rules s parent tab.frames url)
          (use_own (frame_use rules s parent tab.frames url) refl (first_own (sites (chain_of parent tab.frames)) (site_of_address rules url) (top_is parent)))
          (frames_added rules at parent url sandbox deny tab.frames)
      actions_own s (Nav url by_self method head) =
          let above = chain_above at.frame tab.frames in
          loads_own (nav_use rules s at.frame tab.frames url by_self method)
          (use_own (nav_use rules s at.frame tab.frames url by_self method) (ap (λ b. by_self && b) (granted_none at.frame url) ∙ never by_self)
          (first_own (sites above) (site_of_address rules url) (top_above at.frame (length (chain_of at.frame tab.frames) - 1))))
          (frames_navigated rules at url by_self tab.frames)
      actions_own s (Fetch url method head) =
          fetches_own (fetch_use rules s at.frame tab.frames url method)
          (use_own (fetch_use rules s at.frame tab.frames url method) (granted_none at.frame url) (first_own (sites (chain_of at.frame tab.frames)) (site_of_address rules url) (top_is at.frame)))
          (document_of at.frame tab.frames)
      actions_own s Cookie = scripts_own s
      actions_own s (SetCookie text) = scripts_own s
      actions_own s Has = none_of site.host
      actions_own s (Request answer) = none_of site.host
      actions_own s Drop = none_of site.host
      actions_own s Click = none_of site.host
      actions_own s (Set area key value) = none_of site.host
      actions_own s (Get area key) = none_of site.host
      actions_own s (Del area key) = none_of site.host
      actions_own s (Clear area) = none_of site.host
      actions_own s (Len area) = none_of site.host
      actions_own s (Key area n) = none_of site.host
      actions_own s Events = none_of site.host
      actions_own s Persisted = none_of site.host
      actions_own s Estimate = none_of site.host
      actions_own s (Persist answer) = none_of site.host
