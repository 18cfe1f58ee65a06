-- A fresh bucket holds nothing, and a key without a bucket has no pairs.
use Rattle.std.proofs.Common.{ap, ◌∙◌, sym}
use Rattle.std.specs.Prelude.{is_some}
use Rattle.std.proofs.lemmas.Result.{on_ok_weaker, on_err_weaker}
use Rattle.key_map.specs.Entries.{map_get}
use Rattle.web_storage.specs.Stored.{areas_in, keys_in}
use Rattle.web_storage.proofs.OrderOfKeys.{order, alike}
use Rattle.web_storage.proofs.WriteLemmas.{made_same, made_there, no_area, either_way}
use Rattle.agent_base.proofs.Logic.{on_err}
use Rattle.web_storage.proofs.local.reserve_local.Goals as goal

pub returns-in_err-key-clause-area : goal.returns-in_err-key-clause-area
returns-in_err-key-clause-area c =
    on_err c.from_residual.result (no_area order alike c.args.key.now c.args.shed.now
    (sym c.contains.ensures.contains ∙ c.if-contains.false)).0

pub returns-in_err-key-clause-mode : goal.returns-in_err-key-clause-mode
returns-in_err-key-clause-mode c =
    on_err c.from_residual.result (no_area order alike c.args.key.now c.args.shed.now
    (sym c.contains.ensures.contains ∙ c.if-contains.false)).1

pub returns-clause-areas : goal.returns-clause-areas
returns-clause-areas c = either_way c.reserve.result
    (on_ok_weaker c.reserve.result (λ made. ap areas_in made
    ∙ (made_same order alike c.in_ok-key.key c.args.shed.now).0) c.reserve.ensures.made)
    (on_err_weaker c.reserve.result (λ same. ap areas_in same) c.reserve.ensures.unchanged)

pub returns-clause-modes : goal.returns-clause-modes
returns-clause-modes c = either_way c.reserve.result
    (on_ok_weaker c.reserve.result (λ made. ap keys_in made
    ∙ (made_same order alike c.in_ok-key.key c.args.shed.now).1) c.reserve.ensures.made)
    (on_err_weaker c.reserve.result (λ same. ap keys_in same) c.reserve.ensures.unchanged)

pub returns-clause-there : goal.returns-clause-there
returns-clause-there c =
    on_ok_weaker c.reserve.result
    (λ made. ap (λ shed. is_some (map_get order c.args.key.now shed)) made
    ∙ made_there order alike c.args.key.now c.in_ok-key.key c.args.shed.now c.in_ok-key.ensures.same)
    c.reserve.ensures.made

pub returns-clause-area : goal.returns-clause-area
returns-clause-area c =
    on_err c.reserve.result (no_area order alike c.args.key.now c.args.shed.now
    (sym c.contains.ensures.contains ∙ c.if-contains.false)).0

pub returns-clause-mode : goal.returns-clause-mode
returns-clause-mode c =
    on_err c.reserve.result (no_area order alike c.args.key.now c.args.shed.now
    (sym c.contains.ensures.contains ∙ c.if-contains.false)).1
