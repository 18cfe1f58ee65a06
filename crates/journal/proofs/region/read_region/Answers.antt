use Rattle.std.proofs.Common.{◌≡◌, ◌+◌, ◌∷◌, ◌++◌, [], List, ap, ℕ, Bool, Ok, Err, None, Some, true, arith, sym, ◌∙◌, subst, rules}
use Rattle.std.specs.Prelude.{if◌then◌else◌}
use Rattle.journal.specs.Frame.{Frame, frames_len, base_of}
use Rattle.journal.specs.Region.{is_first, IsRightKind, IsFaultAt, Runs}
use Rattle.journal.specs.declared.region.Taken.{Taken}
use Rattle.journal.specs.declared.region.RegionFault.TheVariants.{NotAStore}
use Rattle.journal.proofs.Runs.{opens_push, opens_end, runs_push, fresh_is, frames_len-push, is_first-push, base-push}
use Rattle.journal.proofs.Frames.{sound_push}
use Rattle.journal.proofs.region.read_region.Goals as goal

base_is : (frames : List Frame) (f : Frame) (base : ℕ) (taken : Taken) → IsRightKind (is_first frames) f.snapshot f.body → base ≡ base_of frames → f.snapshot ≡ taken.snapshot → f.last ≡ taken.last
    → base_of (frames ++ f ∷ []) ≡ (if taken.snapshot then taken.last else base)
base_is frames f base taken kind is snapshot last =
    base-push frames f kind ∙ ap (λ (b : Bool). if b then f.last else base_of frames) snapshot ∙ ap (λ (n : ℕ). if taken.snapshot then n else base_of frames) last ∙ ap (λ (n : ℕ). if taken.snapshot then taken.last else n) (sym is)

pub returns-clause-frames : goal.returns-clause-frames
returns-clause-frames g c =
    let i = c.loop-taken.invariant in
    let e : c.take_frame.result ≡ Ok None = search rules in
    let ended = c.take_frame.ensures.end e in
    let R = g.R.Replay in
    let Q = λ (s : R.State). Runs (R.takes (R.rules c.args.into.now)) true R.empty 0 i.0 s c.loop-taken.last in
    (i.0, opens_end c.args.bytes.now i.0 c.args.begin c.loop-taken.at i.3 i.1 ended.0, i.5, subst Q (sym ended.1) i.2, i.3, i.6)

pub loop-taken-preserved : goal.loop-taken-preserved
loop-taken-preserved g c =
    let i = c.loop-taken.invariant in
    let e : c.take_frame.result ≡ Ok (Some c.in-Some.taken) = search rules in
    let t = c.take_frame.ensures.taken c.in-Some.taken e in
    let f = t.0 in
    let R = g.R.Replay in
    let takes = R.takes (R.rules c.args.into.now) in
    let before = R.state c.loop-taken.into in
    let after = R.state c.take_frame.new.into in
    let T = λ (by : R.Rules). R.takes by before f.snapshot f.body after c.in-Some.taken.changes in
    let is_fresh = i.4 ∙ sym (fresh_is i.0) in
    let kind = subst (λ (b : Bool). IsRightKind b f.snapshot f.body) is_fresh t.1.2 in
    let runs = runs_push takes true R.empty 0 i.0 before c.loop-taken.last f after c.in-Some.taken.changes i.2 kind (subst T i.7 t.2) t.3 in
    let Q = λ (n : ℕ). Runs takes true R.empty 0 (i.0 ++ f ∷ []) after n in (
      i.0 ++ f ∷ [],
      opens_push c.args.bytes.now i.0 f c.args.begin c.loop-taken.at i.3 i.1 t.1.0 t.1.1,
      subst Q t.5 runs,
      omega (arith, frames_len-push i.0 f, t.6, i.3),
      sym (is_first-push i.0 f),
      sound_push c.args.bytes.now i.0 f i.5 t.1.4 t.1.5 t.1.6,
      c.base_after-base.ensures ∙ sym (base_is i.0 f c.loop-taken.base c.in-Some.taken (subst (λ (b : Bool). IsRightKind b f.snapshot f.body) i.4 t.1.2) i.6 t.4 t.5),
      c.take_frame.ensures.rules ∙ i.7,
    )

pub returns-in_err-taken-clause-bad : goal.returns-in_err-taken-clause-bad
returns-in_err-taken-clause-bad g c = λ o is.
    let i = c.loop-taken.invariant in
    let e : c.take_frame.result ≡ Err (NotAStore o) = search rules in
    let fault = c.take_frame.ensures.bad o e in
    let R = g.R.Replay in
    let by = R.rules c.args.into.now in
    let before = R.state c.loop-taken.into in
    let T = λ (r : R.Rules). IsFaultAt (R.takes r) (R.refuses r) c.args.bytes.now c.loop-taken.at c.loop-taken.fresh before c.loop-taken.last o in
    let A = λ (k : ℕ). IsFaultAt (R.takes by) (R.refuses by) c.args.bytes.now k c.loop-taken.fresh before c.loop-taken.last o in
    let B = λ (b : Bool). IsFaultAt (R.takes by) (R.refuses by) c.args.bytes.now (c.args.begin + frames_len i.0) b before c.loop-taken.last o in
    (i.0, before, c.loop-taken.last, i.1, i.5, i.2, subst B i.4 (subst A i.3 (subst T i.7 fault)))
