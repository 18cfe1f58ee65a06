use Rattle.std.proofs.Common.{◌≡◌, ◌≢◌, ◌∷◌, [], List, ℕ, slice_index, inl, inr, arith, refl, sym, ◌∙◌, ap}
use Rattle.std.proofs.lemmas.Result.{on_ok_weaker}
use Rattle.disk_model.specs.Disk.{Written, Torn}
use Rattle.journal.specs.Frame.{IsFirst, IsSecond}
use Rattle.journal.specs.Opening.{IsUpgraded}
use Rattle.journal.specs.ReaderAnswers.{IsKept}
use Rattle.journal.proofs.Moments.{weaker, goes_weaker, goes_nowhere, started, settled_images}
use Rattle.journal.proofs.Opened.{calls_of_first, calls_of_second}
use Rattle.journal.proofs.opening.leave_first.Goals as goal

-- the version that was read is that of the file
first_of : (bytes file : List ℕ) → bytes ≡ file → slice_index bytes 8 ≡ 1 → IsFirst file
first_of bytes file same one = ap (λ (l : List ℕ). slice_index l 8) (sym same) ∙ one

second_of : (bytes file : List ℕ) → bytes ≡ file → slice_index bytes 8 ≢ 1 → IsSecond file
second_of bytes file same other one = other (ap (λ (l : List ℕ). slice_index l 8) same ∙ one)

pub returns-then-bytes-eq1-clause-upgraded : goal.returns-then-bytes-eq1-clause-upgraded
returns-then-bytes-eq1-clause-upgraded g c = on_ok_weaker c.upgrade.result (λ goes.
    let V = g.D.Disk.view in
    goes_weaker (Written 8 (2 ∷ [])) IsUpgraded (V c.args.disk.now).contents (V c.upgrade.new.disk).contents goes (λ x d is w. inl (first_of c.args.bytes.now x (c.requires.bytes x is) c.if-bytes-eq1.true, w))) c.upgrade.ensures.written

pub returns-then-bytes-eq1-clause-kept : goal.returns-then-bytes-eq1-clause-kept
returns-then-bytes-eq1-clause-kept g c =
    let V = g.D.Disk.view in
    goes_weaker (Torn 8 1) IsKept (V c.args.disk.now).contents (V c.upgrade.new.disk).contents c.upgrade.ensures.torn (λ x d is torn. inr (record { first = first_of c.args.bytes.now x (c.requires.bytes x is) c.if-bytes-eq1.true; torn = torn }))

pub returns-then-bytes-eq1-clause-calls : goal.returns-then-bytes-eq1-clause-calls
returns-then-bytes-eq1-clause-calls g c = λ x is.
    let made = c.upgrade.ensures.device.calls in
    let two = calls_of_first x (first_of c.args.bytes.now x (c.requires.bytes x is) c.if-bytes-eq1.true) in
    record { later = made.later; most = omega (arith, made.most, two); all = on_ok_weaker c.upgrade.result (λ all. omega (arith, all, two)) made.all }

pub returns-then-bytes-eq1-clause-any_moment : goal.returns-then-bytes-eq1-clause-any_moment
returns-then-bytes-eq1-clause-any_moment g c = λ x is.
    let V = g.D.Disk.view in
    weaker (V c.args.disk.now) (V c.upgrade.new.disk) (Torn 8 1 x) (IsKept x) (λ image torn. inr (record { first = first_of c.args.bytes.now x (c.requires.bytes x is) c.if-bytes-eq1.true; torn = torn })) (c.upgrade.ensures.any_moment x is)

pub returns-else-bytes-eq1-clause-upgraded : goal.returns-else-bytes-eq1-clause-upgraded
returns-else-bytes-eq1-clause-upgraded g c =
    let V = g.D.Disk.view in
    goes_nowhere IsUpgraded (V c.args.disk.now).contents (V c.args.disk.now).contents refl (λ x is. inr (second_of c.args.bytes.now x (c.requires.bytes x is) c.if-bytes-eq1.false, refl))

pub returns-else-bytes-eq1-clause-kept : goal.returns-else-bytes-eq1-clause-kept
returns-else-bytes-eq1-clause-kept g c =
    let V = g.D.Disk.view in
    goes_nowhere IsKept (V c.args.disk.now).contents (V c.args.disk.now).contents refl (λ x is. inl refl)

pub returns-else-bytes-eq1-clause-calls : goal.returns-else-bytes-eq1-clause-calls
returns-else-bytes-eq1-clause-calls g c = λ x is.
    let none = calls_of_second x (second_of c.args.bytes.now x (c.requires.bytes x is) c.if-bytes-eq1.false) in
    record { later = omega arith; most = omega arith; all = omega (arith, none) }

pub returns-else-bytes-eq1-clause-any_moment : goal.returns-else-bytes-eq1-clause-any_moment
returns-else-bytes-eq1-clause-any_moment g c = λ x is.
    let v = g.D.Disk.view c.args.disk.now in
    started v (IsKept x) (g.met.D.Disk.lawful c.args.disk.now).only_now (settled_images v x (IsKept x) c.requires.settled is (inl refl))
