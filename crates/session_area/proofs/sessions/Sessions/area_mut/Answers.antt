-- What holds the area is lent, and ends with what was written to the tab's own area.
use Rattle.std.proofs.Common.{◌≡◌, ◌∙◌, Some, ap, refl, subst, sym}
use Rattle.std.proofs.lemmas.Map.Steps.{set_value_same}
use Rattle.std.proofs.lemmas.Result.{IfOk-weaker, on_err_weaker}
use Rattle.std.specs.BTreeMap.{is_at}
use Rattle.std.specs.Prelude.{IfErr}
use Rattle.key_map.specs.Entries.{map_set}
use Rattle.session_area.specs.declared.shared.NotLent.TheVariants.{NoMemory}
use Rattle.session_area.specs.Sessions.{areas_of, session_area, ChangesTab}
use Rattle.session_area.proofs.SessionsLemmas.{SameAreas-changed}
use Rattle.session_area.proofs.sessions.Sessions.area_mut.Goals as goal

pub returns-in-Some : goal.returns-in-Some
returns-in-Some g c =
    let areas = areas_of c.args.tab c.args.self.now in
    let found : Some c.in-Some.shared.now ≡ session_area g.K.Ord.cmp c.args.tab c.args.key.now c.args.self.now =
    c.in-Some.ensures.area in
    let changes : (pairs : _) → ChangesTab c.args.tab (map_set g.K.Ord.cmp c.args.key.now pairs areas) c.args.self.now (c.shared_mut.follows.lender pairs) =
    λ pairs. rw c.in-Some.is at (c.shared_mut.follows.holds pairs) in (
      (
        refl,
        (λ w ok. subst (λ pairs. ChangesTab c.args.tab (map_set g.K.Ord.cmp c.args.key.now pairs areas) c.args.self.now
            (c.shared_mut.follows.lender (c.own.follows.lender w)))
            (c.own.follows.holds w ok) (changes (c.own.follows.lender w))),
        on_err_weaker c.own.result (λ same.
            SameAreas-changed c.args.tab _ c.args.self.now _ (changes c.own.follows.lender-at-none)
            (set_value_same (is_at (g.K.Ord.cmp c.args.key.now)) areas c.own.follows.lender-at-none (sym found ∙ ap Some (sym same))))
            c.own.follows.holds-at-none,
      ),
      record {
        writes_back = tt;
        area = IfOk-weaker c.own.result _ _ (λ area is. ap Some is ∙ found) c.own.ensures.area;
        none = (
          (λ refused. absurd (cc (subst (λ r. IfErr r (λ e. e ≡ NoMemory)) refused c.own.ensures.memory))),
          (λ missing. absurd (cc (found ∙ missing))),
        );
      },
    )
