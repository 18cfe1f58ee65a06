-- The other tab has the copies, and no tab else changes.
use Rattle.std.proofs.Common.{◌≡◌, ◌∙◌, ap, sym, [], Some}
use Rattle.std.specs.Prelude.{unwrap_or}
use Rattle.session_area.specs.Sessions.{areas_of}
use Rattle.session_area.proofs.SessionsLemmas.{ChangesTab-found, both_none}
use Rattle.session_area.proofs.sessions.Sessions.clone_tab.Goals as goal

pub returns-in-None-clause-copied : goal.returns-in-None-clause-copied
returns-in-None-clause-copied g c =
    let source : areas_of c.args.from c.args.self.now ≡ [] =
    sym (ap (λ o. unwrap_or o []) c.in-None.ensures.value ∙ ap (areas_of c.args.from) c.self.view_is) in
    λ key. rw (c.requires, source) (both_none _)

pub returns-in-Ok-clause-copied : goal.returns-in-Ok-clause-copied
returns-in-Ok-clause-copied g c =
    let source : areas_of c.args.from c.args.self.now ≡ c.in-Some.areas.now =
    sym (ap (λ o. unwrap_or o []) c.in-Some.ensures.value ∙ ap (areas_of c.args.from) c.self.view_is) in
    let changed = ChangesTab-found c.args.to (Some c.in_ok-copies-in-Some.copies) c.self.inside.tabs.entries c.insert.new.self.entries c.in-Ok.ensures.updates.0 in
    λ key. rw (changed.here, source) (c.in_ok-copies-in-Some.ensures.copied key)

pub returns-in-Ok-clause-elsewhere : goal.returns-in-Ok-clause-elsewhere
returns-in-Ok-clause-elsewhere g c =
    let changed = ChangesTab-found c.args.to (Some c.in_ok-copies-in-Some.copies) c.self.inside.tabs.entries c.insert.new.self.entries c.in-Ok.ensures.updates.0 in
    λ other differ. changed.elsewhere other differ ∙ ap (areas_of other) c.self.view_is
