-- The open tabs after a change of one, at its place.
use Rattle.std.proofs.Common.{◌≡◌, ◌<◌, ◌-◌, ℕ, Bool, false, true, cond, not, List, [], length, get_or, map, set, Option, Some, refl, ap, sym, subst, ◌∙◌}
use Rattle.std.specs.Prelude.{◌&&◌, ◌==◌, None, OnOk, Result, if◌then◌else◌, option_map}
use Rattle.std.specs.BTreeMap.{BTreeMap}
use Rattle.std.specs.Global.{Vec}
use Rattle.std.proofs.lemmas.Bool.{eq-eqb}
use Rattle.std.proofs.lemmas.List.{set-get_or}
use Rattle.std.proofs.lemmas.Result.{on_err_weaker, on_ok_weaker}
use Rattle.agent_base.specs.declared.refusals.Label.{Label}
use Rattle.origin_site.specs.Site.{PlainSite}
use Rattle.origin_site.specs.declared.site.Site.{Site}
use Rattle.frame_tree.specs.Calls.{consumed, flagged, with_mark}
use Rattle.frame_tree.specs.Tree.{IsTree, PlainFrame, top_site}
use Rattle.frame_tree.proofs.ShapeLemmas.{tree-mark}
use Rattle.live_state.specs.ExistingQueues.{ChangesFrames, PlainOpenTab, ready_tab}
use Rattle.live_state.specs.FramesInPlace.{ChangesTab, IsPutIn, frames_at, given, requested}
use Rattle.live_state.specs.Queues.{frames_by, goes, is_among}
use Rattle.live_state.specs.SiteTabs.{AreIndexed}
use Rattle.live_state.specs.TabPlaces.{IsAt, IsGap}
use Rattle.live_state.specs.Tabs.{PlainLive, PlainTab, stays, tab_at, tabs_put}
use Rattle.live_state.proofs.IndexStepLemmas.{indexed-queues, indexed-same}
use Rattle.live_state.proofs.LiveLemmas.{changed-set, found, found-written, live_ready, ready-at, ready-kept, ready-set, tab-found}
use Rattle.live_state.proofs.SearchLemmas.{plain_of}
use Rattle.live_state.proofs.StepLemmas.{number-here, put-open, tab-here}
use Rattle.live_state.proofs.TabPlaceLemmas.{found-gap}

-- a tab is written in the place of the one of a number, which it keeps
pub record IsWritten (n : ℕ) (tabs : List PlainTab) (ts : List PlainOpenTab) (place : ℕ) (old new : PlainOpenTab) : Type 0 where
  pub at : IsAt n (plain_of ts) place
  pub within : place < length ts
  pub read : old ≡ get_or ts place old
  pub same : new.plain.number ≡ old.plain.number
  pub seen : plain_of ts ≡ tabs

-- it is so where a search of the tabs found the place
pub written : {n : ℕ} {tabs : List PlainTab} {ts : List PlainOpenTab} {place : ℕ} {old new : PlainOpenTab}
    → IsAt n (plain_of ts) place → place < length ts → old ≡ get_or ts place old → new.plain.number ≡ old.plain.number → plain_of ts ≡ tabs
    → IsWritten n tabs ts place old new
written at within read same seen = record { at = at; within = within; read = read; same = same; seen = seen }

module _ {n : ℕ} {tabs : List PlainTab} {ts : List PlainOpenTab} {place : ℕ} {old new : PlainOpenTab} (is : IsWritten n tabs ts place old new) where
  -- the number that both have
  pub number-before : old.plain.number ≡ n
  number-before = number-here n ts place is.at old is.within is.read

  pub number-after : new.plain.number ≡ n
  number-after = is.same ∙ number-before

  -- the tab before
  pub tab-before : tab_at n tabs ≡ Some old.plain
  tab-before = ap (tab_at n) (sym is.seen) ∙ tab-here n ts place is.at old is.within is.read

  -- the frames of the tab before
  frames_before : old.plain.frames ≡ frames_at n tabs
  frames_before = sym (ap frames_by tab-before)

  -- and afterwards
  frames_after : frames_at n (plain_of (set ts place new)) ≡ new.plain.frames
  frames_after =
      ap frames_by (tab-found n (set ts place new)
      ∙ ap (option_map (λ t. t.plain))
      (found-written n ts place is.at old is.within is.read new number-after n ∙ ap (λ b. cond b (Some new) (found n ts)) (eq-eqb n n refl)))

  -- what is so of the frames of the two tabs is so of those that contracts see
  pub framed : (So : List PlainFrame → List PlainFrame → Type 0) → So old.plain.frames new.plain.frames
      → So (frames_at n tabs) (frames_at n (plain_of (set ts place new)))
  framed So so =
      subst (So (frames_at n tabs)) (sym frames_after) (subst (λ (fs : List PlainFrame). So fs new.plain.frames) frames_before so)

  -- what was ready and stays is ready still
  pub ready-written : (l : Label) → (l.tab ≡ n → is_among l.frame old.ready ≡ true → is_among l.frame new.ready ≡ true)
      → live_ready l ts ≡ true → live_ready l (set ts place new) ≡ true
  ready-written l stays ready = ready-kept n ts place is.at old is.within is.read new number-after l stays ready

  pub ready-before : (l : Label) → l.tab ≡ n → live_ready l ts ≡ is_among l.frame old.ready
  ready-before l here = ready-at n ts place is.at old is.within is.read l here

  pub ready-after : (l : Label) → l.tab ≡ n → live_ready l (set ts place new) ≡ is_among l.frame new.ready
  ready-after l here = ready-set n ts place is.at old is.within is.read new number-after l here

  -- the map of the tabs' numbers is theirs still
  pub indexed-told : (numbers : BTreeMap Site (Vec ℕ)) → AreIndexed (plain_of ts) numbers → new.plain.frames ≡ old.plain.frames
      → AreIndexed (plain_of (set ts place new)) numbers
  indexed-told numbers before frames =
      indexed-queues n ts place is.at old is.within is.read numbers before new is.same frames

  -- the tabs, where a change leaves the others
  pub tabs-changed : (change : PlainTab → PlainTab) → ((t : PlainTab) → not (t.number == n) ≡ true → change t ≡ t)
      → new.plain ≡ change old.plain → plain_of (set ts place new) ≡ map change tabs
  tabs-changed change others own =
      changed-set n change others ts place is.at old new is.within is.read own ∙ ap (map change) is.seen

-- the open tabs as contracts see them, with this room and these sites
abbrev pub live_of : (room : ℕ) → List (PlainSite × Bool) → List PlainOpenTab → PlainLive
live_of room sites ts = record {
  tabs = plain_of ts;
  ready = map ready_tab ts;
  room = room;
  sites = sites;
}

-- a call changed the frames of the tab
module _ {n : ℕ} {tabs : List PlainTab} {ts : List PlainOpenTab} {place : ℕ} {old new : PlainOpenTab} {T E : Type 0} {result : Result T E} {fresh : Option ℕ}
    (is : IsWritten n tabs ts place old new) (changes : ChangesFrames result fresh old new) where
  -- the tabs have the tab with its frames
  put_in : OnOk result (IsPutIn n fresh (plain_of ts) (plain_of (set ts place new)))
  put_in = on_ok_weaker result (λ remade.
      put-open n new.plain.frames fresh ts place is.at old new is.within is.read remade
      ∙ ap (λ frames. tabs_put n frames fresh (plain_of ts)) (sym (frames_after is))) changes.put

  -- what was ready and stays is ready still
  kept_in : (l : Label) → goes n (frames_at n (plain_of (set ts place new))) fresh l ≡ false → live_ready l ts ≡ true
      → live_ready l (set ts place new) ≡ true
  kept_in l stay ready =
      ready-written is l
      (λ here. changes.kept l.frame
      (ap (λ fs. not (stays fresh fs l.frame)) (sym (frames_after is))
      ∙ ap (λ b. b && not (stays fresh (frames_at n (plain_of (set ts place new))) l.frame)) (sym (eq-eqb l.tab n here))
      ∙ stay)) ready

  -- so the open tabs are changed there and nowhere else, as contracts see them
  pub changes-in : (room : ℕ) {sites : List (PlainSite × Bool)} {live : PlainLive} → live_of room sites ts ≡ live
      → ChangesTab n fresh result live (live_of room sites (set ts place new))
  changes-in room {sites} seen =
      subst (λ before. ChangesTab n fresh result before (live_of room sites (set ts place new))) seen (record {
        put = put_in;
        unchanged =
            on_err_weaker result
            (λ same. ap (live_of room sites) (ap (set ts place) (same ∙ is.read) ∙ set-get_or ts place old)) changes.unchanged;
        site = ap top_site (frames_after is) ∙ changes.site ∙ ap (λ o. top_site (frames_by o)) (sym (tab-here n ts place is.at old is.within is.read));
        room = refl;
        sites = refl;
        kept = kept_in;
      })

  -- the map of the tabs' numbers is theirs still
  pub indexed-in : (numbers : BTreeMap Site (Vec ℕ)) → AreIndexed (plain_of ts) numbers → AreIndexed (plain_of (set ts place new)) numbers
  indexed-in numbers before =
      indexed-same n ts place is.at old is.within is.read numbers before new (number-after is) changes.tree changes.site

-- a tab that is not open has no frames
pub frames-gap : {n : ℕ} {tabs : List PlainTab} (ts : List PlainOpenTab) {place : ℕ} → IsGap n (plain_of ts) place
    → plain_of ts ≡ tabs → frames_at n tabs ≡ []
frames-gap {n} {tabs} ts {place} gap seen =
    sym (ap (frames_at n) seen) ∙ ap frames_by (found-gap n (plain_of ts) place gap)

-- ---- the end of a request for storage access

-- the frames are a tree still
pub tree-requested : (gives consumes : Bool) (frame : ℕ) (fs : List PlainFrame) → IsTree fs → IsTree (requested gives consumes frame fs)
tree-requested gives consumes frame fs tree = spent consumes (given gives frame fs) (got gives)
  where
    got : (b : Bool) → IsTree (given b frame fs)
    got true = tree-mark (λ n. n == frame) flagged (λ f top own there. there) fs tree
    got false = tree

    spent : (b : Bool) (gs : List PlainFrame) → IsTree gs → IsTree (if b then consumed gs else gs)
    spent true gs is = tree-mark (λ n. true) (with_mark None) (λ f top own there. there) gs is
    spent false gs is = is
