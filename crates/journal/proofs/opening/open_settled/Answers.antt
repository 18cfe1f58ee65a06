use Rattle.std.proofs.Common.{◌≡◌, ◌⊎◌, ◌<◌, List, ℕ, length, sym, ◌∙◌, subst}
use Rattle.std.specs.Prelude.{Some}
use Rattle.disk_model.specs.Disk.{Goes}
use Rattle.journal.specs.Store.{IsOpen, IsUnborn}
use Rattle.journal.specs.Opening.{IsGrown, IsUpgraded}
use Rattle.journal.specs.ReaderAnswers.{IsStoreRefusal}
use Rattle.journal.specs.declared.open_fault.OpenFault.TheVariants.{DeviceFault}
use Rattle.journal.proofs.Openings.{if_all, born_refusal}
use Rattle.journal.proofs.Opened.{opens_new, opens_born}
use Rattle.journal.proofs.opening.open_settled.Goals as goal

pub returns-then-is_born-clause-opened : goal.returns-then-is_born-clause-opened
returns-then-is_born-clause-opened g c =
    let V = g.D.Disk.view in
    let R = g.R.Replay in
    let takes = R.takes (R.rules c.args.into.now) in
    let old = (V c.args.disk.now).contents in
    let new = (V c.open_born.new.disk).contents in
    let same = c.read_all.ensures.stays.contents in
    let bytes = c.deref-then-is_born.result.now in
    let is_bytes : (x : List ℕ) → old ≡ Some x → bytes ≡ x = λ x is. c.deref-then-is_born.ensures.value ∙ c.in_ok-bytes.ensures.bytes x is in
    let read_same = c.deref.ensures.value ∙ sym c.deref-then-is_born.ensures.value in
    let born = subst (λ (l : List ℕ). IsOpen l 0 × (1 < length l)) read_same (c.is_born.ensures.born c.if-is_born.true) in
    if_all c.open_born.result _ _ _ _ c.open_born.ensures.frames c.open_born.ensures.usable c.open_born.ensures.upgraded
    (λ j reads usable upgraded. opens_born takes R.empty (R.state c.open_born.new.into) j c.args.digest.now old new bytes is_bytes born (subst (λ o. Goes IsUpgraded o new) same upgraded) reads)

pub returns-then-is_born-clause-refused : goal.returns-then-is_born-clause-refused
returns-then-is_born-clause-refused g c = λ why is_err x is.
    let R = g.R.Replay in
    let by = R.rules c.args.into.now in
    let bytes = c.deref-then-is_born.ensures.value ∙ c.in_ok-bytes.ensures.bytes x is in
    let at_x = c.deref.ensures.value ∙ c.in_ok-bytes.ensures.bytes x is in
    let born = subst (λ (l : List ℕ). IsOpen l 0 × (1 < length l)) at_x (c.is_born.ensures.born c.if-is_born.true) in
    let Q = λ (l : List ℕ). (why ≡ DeviceFault) ⊎ IsStoreRefusal (R.takes by) (R.refuses by) R.empty l why in
    born_refusal (R.takes by) (R.refuses by) R.empty x born.0 born.1 why (subst Q bytes (c.open_born.ensures.refused why is_err))

pub returns-clause-opened : goal.returns-clause-opened
returns-clause-opened g c =
    let V = g.D.Disk.view in
    let R = g.R.Replay in
    let takes = R.takes (R.rules c.args.into.now) in
    let old = (V c.args.disk.now).contents in
    let new = (V c.make.new.disk).contents in
    let same = c.read_all.ensures.stays.contents in
    let unborn = c.is_born.ensures.unborn c.if-is_born.false in
    if_all c.make.result _ _ _ _ c.make.ensures.made c.make.ensures.empty c.make.ensures.long
    (λ j made at_empty grown. opens_new takes R.empty (R.state c.make.new.into) j c.args.digest.now old new
    (λ x is. subst IsUnborn (c.deref.ensures.value ∙ c.in_ok-bytes.ensures.bytes x is) unborn)
    (subst (λ o. Goes IsGrown o new) same grown) made at_empty)
