use Rattle.std.proofs.Common.{◌≡◌, refl, sym, subst, false}
use Rattle.agent_model.specs.Partition.{no_holdings}
use Rattle.std.proofs.lemmas.Result.{on_ok_weaker, on_err_weaker}
use Rattle.agent_model.specs.Sessions.{has_session}
use Rattle.web_storage.specs.Stored.{held_with, areas_in, keys_in}
use Rattle.web_storage.proofs.CopyLemmas.{none_of_tab}
use Rattle.web_storage.proofs.HeldLemmas.{session_kept}
use Rattle.web_storage.proofs.storage.Storage.copy_tab.Goals as goal

pub copy_areas-requires : goal.copy_areas-requires
unfolding held_with
copy_areas-requires c =
    none_of_tab c.args.to (held_with no_holdings (record { local = c.self.inside.local; session = c.self.inside.session }))
    (subst (λ entries. has_session c.args.to (held_with no_holdings entries) ≡ false) (sym c.self.view_is) c.requires)

pub returns-clause-copied : goal.returns-clause-copied
unfolding held_with
returns-clause-copied c = rw (← c.self.view_is) (λ beside. on_ok_weaker c.copy_areas.result
    (λ is i. record beside { areas = areas_in c.self.inside.local; persistent = keys_in c.self.inside.local; sessions = is i })
    (c.copy_areas.ensures.copied (held_with beside
    (record { local = c.self.inside.local; session = c.self.inside.session })) refl))

pub returns-clause-unchanged : goal.returns-clause-unchanged
returns-clause-unchanged c = rw (← c.self.view_is) (λ beside. on_err_weaker c.copy_areas.result
    (λ is. session_kept beside (record { local = c.self.inside.local; session = c.self.inside.session })
    c.copy_areas.new.sessions is)
    c.copy_areas.ensures.unchanged)
