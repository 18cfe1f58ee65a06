-- An area that a refusal leaves is given back as it was.
use Rattle.std.proofs.Common.{◌∙◌, ap}
use Rattle.std.specs.Result.{is_ok}
use Rattle.std.proofs.lemmas.Result.{on_err_weaker}
use Rattle.storage_key.specs.Plain.{plain_key}
use Rattle.web_storage.specs.Lends.{HoldsPairs, HoldsSame}
use Rattle.web_storage.proofs.HeldLemmas.{area_itself}
use Rattle.web_storage.proofs.storage.Storage.put.Goals as goal

pub returns-in-Ok-clause-unchanged : goal.returns-in-Ok-clause-unchanged
returns-in-Ok-clause-unchanged c =
    let held : HoldsPairs c.args.kind c.args.tab (plain_key c.args.key.now) c.put.new.self c.args.self.now
    (c.present_mut.follows.lender c.put.new.self) =
    c.present_mut.follows.holds c.put.new.self (ap is_ok c.in-Ok.is) in
    on_err_weaker c.put.result (λ kept beside. held beside
    ∙ area_itself beside c.args.kind c.args.tab (plain_key c.args.key.now) c.put.new.self c.args.self.now
    (kept ∙ c.in-Ok.ensures.area beside))
    c.put.ensures.unchanged

pub returns-in-Ok-area_mut-clause-unchanged : goal.returns-in-Ok-area_mut-clause-unchanged
returns-in-Ok-area_mut-clause-unchanged c =
    let same : HoldsSame c.args.self.now c.present_mut.follows.lender-at-none =
    rw c.in-Err-NoArea.is at c.present_mut.follows.holds-at-none in
    on_err_weaker c.put-in-Ok-area_mut.result (λ kept beside.
    c.area_mut.follows.holds c.put-in-Ok-area_mut.new.self (ap is_ok c.in-Ok-area_mut.is) beside
    ∙ area_itself beside c.args.kind c.args.tab (plain_key c.args.key.now) c.put-in-Ok-area_mut.new.self _
    (kept ∙ c.in-Ok-area_mut.ensures.area beside)
    ∙ same beside)
    c.put-in-Ok-area_mut.ensures.unchanged
