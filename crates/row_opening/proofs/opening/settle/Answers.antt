-- Either nothing is written, or all of what stays.
use Rattle.std.proofs.Common.{◌≡◌, inl, inr, Bool, true, false, not, bytes_eq, List, ℕ, refl, sym, ◌∙◌, ap, subst}
use Rattle.std.proofs.lemmas.Slice.Eq.{bytes_eq-Decides}
use Rattle.disk_model.specs.Disk.{LeavesOnly}
use Rattle.journal.proofs.Moments.{settled_images, started, weaker}
use Rattle.open_store.specs.Commits.{IsEither2}
use Rattle.durable_model.specs.Migrate.{IsUnder, migrate, stays_whole}
use Rattle.durable_model.specs.Saved.{Saved, nothing_saved}
use Rattle.row_store.specs.Bodies.{Takes}
use Rattle.row_store.specs.Stored.{saved_of}
use Rattle.row_opening.specs.Opened.{IsAtBase}
use Rattle.row_opening.specs.Settling.{IsSettling}
use Rattle.row_opening.specs.Under.{migrates}
use Rattle.row_opening.proofs.Openings.{is_opened, other_goes}
use Rattle.row_opening.proofs.opening.settle.Goals.{else-not-went-via-then-not-went+else-eq, else-not-went-via-else-not-went}
use Rattle.row_opening.proofs.opening.settle.Goals as goal

-- nothing went
all_stays : (went whole : Bool) → went ≡ not whole → went ≡ false → whole ≡ true
all_stays went true is none = refl
all_stays went false is none = absurd (cc)

something_goes : (went whole : Bool) → went ≡ not whole → went ≡ true → whole ≡ false
something_goes went true is some = absurd (cc)
something_goes went false is some = refl

pub returns-then-eq-clause-opened : goal.returns-then-eq-clause-opened
returns-then-eq-clause-opened g c =
    let rules = c.args.list.now.rules in
    let was = saved_of c.args.rows.parts in
    let law = c.states_migrate.ensures.law rules was in
    let rows = c.migrate-went.new.self in
    let whole = all_stays c.migrate-went.result (stays_whole rules was) c.migrate-went.ensures.went c.if-not-went.true in
    let same : saved_of rows.parts ≡ was = c.migrate-went.ensures.state ∙ law.whole whole in
    let parts = c.into_parts_under.ensures in
    let equal = (bytes_eq-Decides _ _).0 (sym c.eq.ensures ∙ c.if-eq.true) in
    is_opened c.args.list.now c.args.journal (g.D.Disk.view c.args.disk.now) c.into_parts_under.result rows.parts parts.parts
    (subst (λ (d : Saved). IsAtBase c.args.journal (g.D.Disk.view c.args.disk.now) d) (sym same) c.requires.stands)
    (sym c.digest.ensures ∙ equal ∙ c.digest-then-not-went.ensures.value)
    (subst (λ (d : Saved). IsUnder rules d) (sym c.migrate-went.ensures.state) law.once)
    parts.valid parts.read_under parts.storable parts.spelled_under parts.sessions

pub returns-else-not-went-clause-any_moment : goal.returns-else-not-went-clause-any_moment
returns-else-not-went-clause-any_moment g c = λ file told.
    let V = g.D.Disk.view in
    let list = c.args.list.now in
    let j = c.args.journal in
    let was = saved_of c.args.rows.parts in
    let now = saved_of c.migrate-went.new.self.parts in
    let moved = c.migrate-went.ensures.state in
    let goes : migrates list j.digest was ≡ true = elim c.else-not-went.branch [
      | else-not-went-via-then-not-went+else-eq w ↦ other_goes list j.digest was (inl (ap (λ (d : List ℕ). bytes_eq d list.digest) (sym w.digest.ensures) ∙ ap (λ (d : List ℕ). bytes_eq w.digest.result.now d) (sym w.digest-then-not-went.ensures.value) ∙ sym w.eq.ensures ∙ w.if-eq.false))
      | else-not-went-via-else-not-went w ↦ other_goes list j.digest was (inr (something_goes c.migrate-went.result (stays_whole list.rules was) c.migrate-went.ensures.went w.if-not-went.false))
    ] in
    let tells = (g.met.D.Disk.lawful c.args.disk.now).tells_contents file told in
    let made = c.rewrite.ensures.any_moment was c.requires.stands tells in
    let at_moved = subst (λ (d : Saved). LeavesOnly (V c.args.disk.now) (V c.rewrite.new.disk) (IsEither2 Takes nothing_saved j.digest was j.changes list.digest d j.changes)) moved made in
    weaker (V c.args.disk.now) (V c.rewrite.new.disk) (IsEither2 Takes nothing_saved j.digest was j.changes list.digest (migrate list.rules was) j.changes)
    (IsSettling list j.digest was j.changes file) (λ image is. inr (goes, is.0, is.1)) at_moved

pub rewrite-requires-clause-under : goal.rewrite-requires-clause-under
rewrite-requires-clause-under g c =
    let rules = c.args.list.now.rules in
    let law = c.states_migrate.ensures.law rules (saved_of c.args.rows.parts) in
    subst (λ (d : Saved). IsUnder rules d) (sym c.migrate-went.ensures.state) law.once

pub returns-then-eq-clause-any_moment : goal.returns-then-eq-clause-any_moment
returns-then-eq-clause-any_moment g c = λ file told.
    let v = g.D.Disk.view c.args.disk.now in
    let P = IsSettling c.args.list.now c.args.journal.digest (saved_of c.args.rows.parts) c.args.journal.changes file in
    started v P (g.met.D.Disk.lawful c.args.disk.now).only_now (settled_images v file P c.requires.stands.rests.settled told (inl refl))
