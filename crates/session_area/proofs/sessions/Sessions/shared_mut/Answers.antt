-- A write at a key of a tab's areas is one of the tab.
use Rattle.std.proofs.Common.{◌≡◌, ◌∙◌, ap, refl, subst, [], List}
use Rattle.std.specs.Prelude.{unwrap_or}
use Rattle.local_area.specs.Area.{Pair}
use Rattle.key_map.specs.Entries.{map_get, map_set}
use Rattle.session_area.specs.Sessions.{areas_of, session_area, ChangesTab}
use Rattle.session_area.proofs.SessionsLemmas.{ChangesTab-set, SameAreas-changed, on_some}
use Rattle.session_area.proofs.sessions.Sessions.shared_mut.Goals as goal

pub returns-in-Some : goal.returns-in-Some
returns-in-Some g c =
    let source : c.in-Some.areas.now ≡ areas_of c.args.tab c.args.self.now =
    ap (λ o. unwrap_or o []) c.in-Some.ensures.value ∙ ap (areas_of c.args.tab) c.self.view_is in
    let changes : (areas : List (g.row.K.Denot × List Pair)) → ChangesTab c.args.tab areas c.args.self.now (c.get_mut.follows.lender areas).entries =
    λ areas. rw (← c.self.view_is) (ChangesTab-set c.args.tab c.in-Some.areas.now areas c.self.inside.tabs.entries (c.get_mut.follows.lender areas).entries
    c.in-Some.ensures.value (c.get_mut.follows.holds areas).0) in (
      (
        refl,
        (λ w. on_some c.get_mut-in-Some.result
            (λ is. subst (λ areas. ChangesTab c.args.tab areas c.args.self.now (c.get_mut.follows.lender (c.get_mut-in-Some.follows.lender w)).entries)
            (is ∙ ap (map_set g.K.Ord.cmp c.args.key.now w) source)
            (changes (c.get_mut-in-Some.follows.lender w)))
            (c.get_mut-in-Some.follows.holds w)),
        SameAreas-changed c.args.tab c.get_mut-in-Some.follows.lender-at-none c.args.self.now _ (changes c.get_mut-in-Some.follows.lender-at-none)
            (c.get_mut-in-Some.follows.holds-at-none ∙ source),
      ),
      record {
        writes_back = tt;
        area =
            c.get_mut-in-Some.ensures.value
            ∙ ap (map_get g.K.Ord.cmp c.args.key.now) source;
      },
    )

pub returns-in-None : goal.returns-in-None
returns-in-None g c = (
  (refl, (λ w. tt), (λ tab. rw (← c.self.view_is) (ap (λ m. areas_of tab m.entries) c.get_mut.follows.holds-at-none))),
  record {
    writes_back = tt;
    area =
        ap (λ areas. map_get g.K.Ord.cmp c.args.key.now (unwrap_or areas [])) c.in-None.ensures.value
        ∙ ap (session_area g.K.Ord.cmp c.args.tab c.args.key.now) c.self.view_is;
  },
)
