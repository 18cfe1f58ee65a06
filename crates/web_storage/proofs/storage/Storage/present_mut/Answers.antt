-- A write to an area that is there.
use Rattle.std.proofs.Common.{◌≡◌, refl, sym, ap, ◌∙◌}
use Rattle.std.specs.Prelude.{is_some, true, unwrap_or, [], option_map}
use Rattle.std.proofs.lemmas.Result.{IfOk-weaker, on_err_weaker}
use Rattle.storage_key.specs.Plain.{plain_key}
use Rattle.key_map.specs.Entries.{map_get}
use Rattle.buckets.specs.Shed.{area_at, with_pairs}
use Rattle.session_area.specs.Sessions.{session_area}
use Rattle.web_storage.specs.Stored.{Entries, areas_in, keys_in}
use Rattle.web_storage.proofs.OrderOfKeys.{order, alike}
use Rattle.web_storage.proofs.WriteLemmas.{held_found, pairs_written}
use Rattle.web_storage.proofs.SessionWrites.{session_held, sessions_set, sessions_kept}
use Rattle.web_storage.proofs.HeldLemmas.{local_of, session_of, local_held, session_held_with, local_kept, session_kept, area_or, lent_there, some_area}
use Rattle.web_storage.proofs.storage.Storage.present_mut.Goals as goal

pub returns-in-Some : goal.returns-in-Some
returns-in-Some c =
    let shed = c.self.inside.local in
    let entries : Entries = record { local = shed; session = c.self.inside.session } in
    let there : is_some (map_get order c.args.key.now shed) ≡ true =
    some_area (map_get order c.args.key.now shed) (ap is_some (sym c.in-Some.ensures.area)) in
    rw (← c.self.view_is) (
      (
        refl,
        (λ w ok beside.
            let is : c.area_mut.follows.lender w ≡ with_pairs order c.args.key.now w shed =
            rw c.in-Some.is at (c.area_mut.follows.holds w) in
            local_held beside c.args.kind c.args.tab (plain_key c.args.key.now) c.in-Local.is w entries
            (c.area_mut.follows.lender w)
            (ap areas_in is ∙ (pairs_written order alike c.args.key.now w shed there).0)
            (ap keys_in is ∙ (pairs_written order alike c.args.key.now w shed there).1)),
        tt,
      ),
      record {
        writes_back = tt;
        area = λ beside. ap (λ o. unwrap_or o []) c.in-Some.ensures.area
            ∙ area_or (map_get order c.args.key.now shed) ∙ held_found order alike c.args.key.now shed
            ∙ sym (local_of beside c.args.kind c.args.tab (plain_key c.args.key.now) c.in-Local.is entries);
        none = λ beside refused. absurd (cc refused);
        local = λ is. tt;
      },
    )

pub returns-in-None : goal.returns-in-None
returns-in-None c =
    let shed = c.self.inside.local in
    let entries : Entries = record { local = shed; session = c.self.inside.session } in
    rw (← c.self.view_is) (
      (
        refl,
        (λ w ok. absurd (cc ok)),
        (λ beside. local_kept beside entries c.area_mut.follows.lender-at-none
            (ap areas_in c.area_mut.follows.holds-at-none) (ap keys_in c.area_mut.follows.holds-at-none)),
      ),
      record {
        writes_back = tt;
        area = λ beside. tt;
        none = λ beside refused. local_of beside c.args.kind c.args.tab (plain_key c.args.key.now) c.in-Local.is entries
            ∙ sym (held_found order alike c.args.key.now shed) ∙ sym (area_or (map_get order c.args.key.now shed))
            ∙ ap (λ o. unwrap_or o []) (sym c.in-None.ensures.area);
        local = λ is. refl;
      },
    )

pub returns-in-Session : goal.returns-in-Session
returns-in-Session c =
    let sessions = c.self.inside.session in
    let entries : Entries = record { local = c.self.inside.local; session = sessions } in
    rw (← c.self.view_is) (
      (
        refl,
        (λ w ok beside.
            session_held_with beside c.args.kind c.args.tab (plain_key c.args.key.now) c.in-Session.is w entries
            (c.area_mut-in-Session.follows.lender w)
            (sessions_set order alike c.args.tab c.args.key.now w sessions (c.area_mut-in-Session.follows.lender w)
            (lent_there c.area_mut-in-Session.result (session_area order c.args.tab c.args.key.now sessions)
            c.area_mut-in-Session.ensures.area ok)
            (c.area_mut-in-Session.follows.holds w ok))),
        on_err_weaker c.area_mut-in-Session.result (λ same beside.
            session_kept beside entries c.area_mut-in-Session.follows.lender-at-none
            (sessions_kept sessions c.area_mut-in-Session.follows.lender-at-none same))
            c.area_mut-in-Session.follows.holds-at-none,
      ),
      record {
        writes_back = tt;
        area = λ beside. IfOk-weaker c.area_mut-in-Session.result _ _
            (λ area is. ap (λ o. unwrap_or o []) is
            ∙ session_held order alike c.args.tab c.args.key.now sessions
            ∙ sym (session_of beside c.args.kind c.args.tab (plain_key c.args.key.now) c.in-Session.is entries))
            c.area_mut-in-Session.ensures.area;
        none = λ beside refused.
            session_of beside c.args.kind c.args.tab (plain_key c.args.key.now) c.in-Session.is entries
            ∙ sym (session_held order alike c.args.tab c.args.key.now sessions)
            ∙ ap (λ o. unwrap_or o []) (c.area_mut-in-Session.ensures.none.0 refused);
        local = λ is. absurd (cc (sym is ∙ c.in-Session.is));
      },
    )
