-- Room first, and then the area that is there.
use Rattle.std.proofs.Common.{◌≡◌, ◌∙◌, ap, refl, sym}
use Rattle.std.specs.Prelude.{Err}
use Rattle.std.specs.Result.{is_ok}
use Rattle.storage_key.specs.Plain.{plain_key}
use Rattle.agent_model.specs.Partition.{area_of, with_area}
use Rattle.web_storage.specs.Lends.{HoldsPairs, HoldsSame}
use Rattle.web_storage.proofs.storage.Storage.area_mut.Goals as goal

pub returns-in-Ok : goal.returns-in-Ok
returns-in-Ok c = (
  (
    refl,
    (λ w ok beside.
        let held : HoldsPairs c.args.kind c.args.tab (plain_key c.args.key.now) w c.reserve.new.self
        (c.present_mut.follows.lender w) =
        c.present_mut.follows.holds w (ap is_ok c.in-Ok.is) in
        held beside ∙ ap (with_area c.args.kind c.args.tab (plain_key c.args.key.now) w) (c.reserve.ensures.same beside)),
    tt,
  ),
  record {
    writes_back = tt;
    area = λ beside. c.in-Ok.ensures.area beside
        ∙ ap (area_of c.args.kind c.args.tab (plain_key c.args.key.now)) (c.reserve.ensures.same beside);
    memory = λ is beside. tt;
  },
)

pub returns-in-Err : goal.returns-in-Err
returns-in-Err c = (
  (
    refl,
    (λ w ok. absurd (cc ok)),
    (λ beside.
        let same : HoldsSame c.reserve.new.self c.present_mut.follows.lender-at-none =
        rw c.in-Err.is at c.present_mut.follows.holds-at-none in
        same beside ∙ c.reserve.ensures.same beside),
  ),
  record {
    writes_back = tt;
    area = λ beside. tt;
    memory = λ is beside.
        ap (area_of c.args.kind c.args.tab (plain_key c.args.key.now)) (sym (c.reserve.ensures.same beside))
        ∙ c.in-Err.ensures.none beside (ap Err (c.in-Err.ensures.local is));
  },
)
