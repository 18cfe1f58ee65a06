-- An area that is not there has no name.
use Rattle.std.proofs.Common.{◌∙◌, ap, sym}
use Rattle.std.specs.Prelude.{Err}
use Rattle.storage_key.specs.Plain.{plain_key}
use Rattle.local_area.specs.Area.{area_remove}
use Rattle.web_storage.specs.Lends.{HoldsSame}
use Rattle.web_storage.proofs.HeldLemmas.{area_itself}
use Rattle.web_storage.proofs.storage.Storage.take.Goals as goal

pub returns-in-Err-NoArea-clause-removed : goal.returns-in-Err-NoArea-clause-removed
returns-in-Err-NoArea-clause-removed c = λ beside.
    let same : HoldsSame c.args.self.now c.present_mut.follows.lender-at-none =
    rw c.in-Err-NoArea.is at c.present_mut.follows.holds-at-none in
    let none = c.in-Err-NoArea.ensures.none beside (ap Err c.in-Err-NoArea.field-0-is) in
    same beside
    ∙ sym (area_itself beside c.args.kind c.args.tab (plain_key c.args.key.now) _ c.args.self.now
    (ap (area_remove c.args.name.now) none ∙ sym none))
