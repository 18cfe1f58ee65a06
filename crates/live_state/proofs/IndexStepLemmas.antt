-- The open tabs and the map of their numbers, after a write at the place of one.
use Rattle.std.proofs.Common.{◌≡◌, ◌<◌, ℕ, suc, Bool, true, false, List, ◌∷◌, ◌++◌, length, take, drop, get_or, set, Some, ap, sym, subst, ◌∙◌}
use Rattle.std.specs.Prelude.{◌==◌, if◌then◌else◌, not}
use Rattle.std.specs.BTreeMap.{BTreeMap}
use Rattle.std.specs.Global.{Vec}
use Rattle.std.specs.List.{insert, list_any, remove}
use Rattle.std.proofs.lemmas.List.{drop-map, get_or_default, map-append, map-set, set_split, take-append-drop, take-map}
use Rattle.std.proofs.lemmas.Option.{slice_get_within}
use Rattle.origin_site.specs.Plain.{plain_site}
use Rattle.origin_site.specs.Site.{PlainSite, same_plain_site}
use Rattle.origin_site.specs.declared.site.Site.{Site}
use Rattle.frame_tree.specs.Tree.{IsTree, top_site}
use Rattle.live_state.specs.ExistingQueues.{PlainOpenTab}
use Rattle.live_state.specs.SiteTabs.{AreIndexed, AreTrees, are_rising, listed_at, moved, numbers_at, with_number, without_number}
use Rattle.live_state.specs.TabPlaces.{IsAt, IsGap}
use Rattle.live_state.specs.Tabs.{PlainTab, is_rising}
use Rattle.live_state.proofs.IndexLemmas.{absent-between, dropped-between, moved-between, numbers-alike, numbers-gap, numbers-here, numbers-rise, put-between, tree-within, trees-inserted, trees-without}
use Rattle.live_state.proofs.ListLemmas.{split_at}
use Rattle.live_state.proofs.SearchLemmas.{plain_of}
use Rattle.live_state.proofs.StepLemmas.{dropped-at, number-here, plain_here, written-at}
use Rattle.live_state.proofs.TabPlaceLemmas.{rising-filter, rising-with, without-at}

module _ (n : ℕ) (ts : List PlainOpenTab) (place : ℕ) (at : IsAt n (plain_of ts) place) (old : PlainOpenTab) (within : place < length ts) (read : old ≡ get_or ts place old)
    (numbers : BTreeMap Site (Vec ℕ)) (before : AreIndexed (plain_of ts) numbers) where
  front : List PlainTab
  front = take place (plain_of ts)

  rest : List PlainTab
  rest = drop (suc place) (plain_of ts)

  whole : plain_of ts ≡ take place (plain_of ts) ++ old.plain ∷ drop (suc place) (plain_of ts)
  whole = split_at (plain_of ts) place old.plain (plain_here n ts place at old within read)

  trees_here : AreTrees (take place (plain_of ts) ++ old.plain ∷ drop (suc place) (plain_of ts))
  trees_here = subst AreTrees whole before.trees

  -- the tab at the place has the frames of a tab
  pub tree-here : IsTree old.plain.frames
  tree-here = tree-within (take place (plain_of ts)) old.plain (drop (suc place) (plain_of ts)) trees_here

  changed : (new : PlainOpenTab) → plain_of (set ts place new) ≡ take place (plain_of ts) ++ new.plain ∷ drop (suc place) (plain_of ts)
  changed new =
      map-set (λ t. t.plain) ts place new
      ∙ set_split (plain_of ts) place new.plain (slice_get_within (plain_of ts) place old.plain (plain_here n ts place at old within read))

  module _ (new : PlainOpenTab) (same : new.plain.number ≡ n) (tree : IsTree new.plain.frames) where
    rising_set : is_rising (plain_of (set ts place new)) ≡ true
    rising_set =
        subst (λ us. is_rising us ≡ true) (sym (written-at n ts place at old within read new same)) (rising-with new.plain (plain_of ts) before.rising)

    trees_set : AreTrees (plain_of (set ts place new))
    trees_set =
        subst AreTrees (sym (changed new))
        (trees-inserted (take place (plain_of ts)) new.plain (drop (suc place) (plain_of ts))
        (trees-without (take place (plain_of ts)) old.plain (drop (suc place) (plain_of ts)) trees_here) tree)

    -- a tab whose top stays at its site
    pub indexed-same : top_site new.plain.frames ≡ top_site old.plain.frames → AreIndexed (plain_of (set ts place new)) numbers
    indexed-same top = record {
      rising = rising_set;
      trees = trees_set;
      index = λ site.
          before.index site
          ∙ ap (numbers_at (plain_site site)) whole
          ∙ numbers-alike (plain_site site) (take place (plain_of ts)) old.plain new.plain (drop (suc place) (plain_of ts))
          (number-here n ts place at old within read ∙ sym same) (sym top)
          ∙ ap (numbers_at (plain_site site)) (sym (changed new));
    }

    -- a tab whose top goes from one site to another
    pub indexed-moved : (from to : PlainSite) → top_site old.plain.frames ≡ Some from → top_site new.plain.frames ≡ Some to
        → (after : BTreeMap Site (Vec ℕ)) → ((site : Site) → listed_at (plain_site site) after ≡ moved n from to (plain_site site) (listed_at (plain_site site) numbers))
        → AreIndexed (plain_of (set ts place new)) after
    indexed-moved from to own next after moves = record {
      rising = rising_set;
      trees = trees_set;
      index = λ site.
          moves site
          ∙ ap (moved n from to (plain_site site))
          (before.index site
          ∙ ap (numbers_at (plain_site site)) whole
          ∙ numbers-here n (take place (plain_of ts)) (drop (suc place) (plain_of ts)) at.lower at.higher (plain_site site) old.plain
          (number-here n ts place at old within read) from own)
          ∙ moved-between n (take place (plain_of ts)) (drop (suc place) (plain_of ts)) at.lower at.higher (plain_site site) from to
          ∙ sym (ap (numbers_at (plain_site site)) (changed new)
          ∙ numbers-here n (take place (plain_of ts)) (drop (suc place) (plain_of ts)) at.lower at.higher (plain_site site) new.plain same to next);
    }

  -- the queues of a tab alone are changed
  pub indexed-queues : (new : PlainOpenTab) → new.plain.number ≡ old.plain.number → new.plain.frames ≡ old.plain.frames
      → AreIndexed (plain_of (set ts place new)) numbers
  indexed-queues new same frames =
      indexed-same new (same ∙ number-here n ts place at old within read) (subst IsTree (sym frames) tree-here) (ap top_site frames)

  -- the number is not at another site
  pub absent-apart : (from : PlainSite) → top_site old.plain.frames ≡ Some from → (to : Site) → same_plain_site from (plain_site to) ≡ false
      → list_any (λ m. m == n) (listed_at (plain_site to) numbers) ≡ false
  absent-apart from own to apart =
      ap (list_any (λ m. m == n))
      (before.index to
      ∙ ap (numbers_at (plain_site to)) whole
      ∙ numbers-here n (take place (plain_of ts)) (drop (suc place) (plain_of ts)) at.lower at.higher (plain_site to) old.plain (number-here n ts place at old within read) from own
      ∙ ap (between_here (plain_site to)) apart)
      ∙ absent-between n (take place (plain_of ts)) (drop (suc place) (plain_of ts)) at.lower at.higher (plain_site to)
    where
      between_here : PlainSite → Bool → List ℕ
      between_here site there =
          numbers_at site (take place (plain_of ts))
          ++ (if there then n ∷ numbers_at site (drop (suc place) (plain_of ts)) else numbers_at site (drop (suc place) (plain_of ts)))

  -- the tab is gone
  pub indexed-dropped : (from : PlainSite) → top_site old.plain.frames ≡ Some from → (after : BTreeMap Site (Vec ℕ))
      → ((site : Site) → listed_at (plain_site site) after
      ≡ (if same_plain_site from (plain_site site) then without_number n (listed_at (plain_site site) numbers) else listed_at (plain_site site) numbers))
      → AreIndexed (plain_of (remove ts place)) after
  indexed-dropped from own after drops = record {
    rising = subst (λ us. is_rising us ≡ true) (sym (dropped-at n ts place at)) (rising-filter (λ t. not (t.number == n)) (plain_of ts) before.rising);
    trees = subst AreTrees (sym left) (trees-without (take place (plain_of ts)) old.plain (drop (suc place) (plain_of ts)) trees_here);
    index = λ site.
        drops site
        ∙ ap (λ ns. if same_plain_site from (plain_site site) then without_number n ns else ns)
        (before.index site
        ∙ ap (numbers_at (plain_site site)) whole
        ∙ numbers-here n (take place (plain_of ts)) (drop (suc place) (plain_of ts)) at.lower at.higher (plain_site site) old.plain (number-here n ts place at old within read) from own)
        ∙ dropped-between n (take place (plain_of ts)) (drop (suc place) (plain_of ts)) at.lower at.higher (plain_site site) (same_plain_site from (plain_site site))
        ∙ sym (ap (numbers_at (plain_site site)) left
        ∙ numbers-gap n (take place (plain_of ts)) (drop (suc place) (plain_of ts)) at.lower at.higher (plain_site site));
  }
    where
      left : plain_of (remove ts place) ≡ take place (plain_of ts) ++ drop (suc place) (plain_of ts)
      left = dropped-at n ts place at ∙ without-at n (plain_of ts) place at

-- ---- a tab more

module _ (n : ℕ) (ts : List PlainOpenTab) (place : ℕ) (gap : IsGap n (plain_of ts) place) (numbers : BTreeMap Site (Vec ℕ)) (before : AreIndexed (plain_of ts) numbers) where
  parts : plain_of ts ≡ take place (plain_of ts) ++ drop place (plain_of ts)
  parts = sym (take-append-drop place (plain_of ts))

  here_at : (site : Site) → listed_at (plain_site site) numbers ≡ numbers_at (plain_site site) (take place (plain_of ts)) ++ numbers_at (plain_site site) (drop place (plain_of ts))
  here_at site =
      before.index site ∙ ap (numbers_at (plain_site site)) parts
      ∙ numbers-gap n (take place (plain_of ts)) (drop place (plain_of ts)) gap.lower gap.higher (plain_site site)

  pub absent-gap : (site : Site) → list_any (λ m. m == n) (listed_at (plain_site site) numbers) ≡ false
  absent-gap site =
      ap (list_any (λ m. m == n)) (here_at site)
      ∙ absent-between n (take place (plain_of ts)) (drop place (plain_of ts)) gap.lower gap.higher (plain_site site)

  pub indexed-put : (new : PlainOpenTab) → new.plain.number ≡ n → IsTree new.plain.frames → (to : PlainSite) → top_site new.plain.frames ≡ Some to
      → is_rising (plain_of (insert ts place new)) ≡ true → (after : BTreeMap Site (Vec ℕ))
      → ((site : Site) → listed_at (plain_site site) after
      ≡ (if same_plain_site to (plain_site site) then with_number n (listed_at (plain_site site) numbers) else listed_at (plain_site site) numbers))
      → AreIndexed (plain_of (insert ts place new)) after
  indexed-put new same tree to next rises after puts = record {
    rising = rises;
    trees = subst AreTrees (sym more) (trees-inserted (take place (plain_of ts)) new.plain (drop place (plain_of ts)) (subst AreTrees parts before.trees) tree);
    index = λ site.
        puts site
        ∙ ap (λ ns. if same_plain_site to (plain_site site) then with_number n ns else ns) (here_at site)
        ∙ put-between n (take place (plain_of ts)) (drop place (plain_of ts)) gap.lower gap.higher (plain_site site) (same_plain_site to (plain_site site))
        ∙ sym (ap (numbers_at (plain_site site)) more
        ∙ numbers-here n (take place (plain_of ts)) (drop place (plain_of ts)) gap.lower gap.higher (plain_site site) new.plain same to next);
  }
    where
      more : plain_of (insert ts place new) ≡ take place (plain_of ts) ++ new.plain ∷ drop place (plain_of ts)
      more =
          map-append (λ t. t.plain) (take place ts) (new ∷ drop place ts)
          ∙ ap (λ l. l ++ new.plain ∷ plain_of (drop place ts)) (sym (take-map (λ t. t.plain) place ts))
          ∙ ap (λ l. take place (plain_of ts) ++ new.plain ∷ l) (sym (drop-map (λ t. t.plain) place ts))

-- the numbers of the map rise
pub listed-rise : (ts : List PlainTab) (numbers : BTreeMap Site (Vec ℕ)) → AreIndexed ts numbers → (site : Site) → are_rising (listed_at (plain_site site) numbers) ≡ true
listed-rise ts numbers indexed site = ap are_rising (indexed.index site) ∙ numbers-rise (plain_site site) ts indexed.rising

-- one place has one tab
pub index-same : (ts : List PlainOpenTab) (place : ℕ) (a b : PlainOpenTab) → place < length ts → a ≡ get_or ts place a → b ≡ get_or ts place b → a ≡ b
index-same ts place a b within one other = one ∙ get_or_default ts place a b within ∙ sym other
