use Rattle.std.proofs.Common.{arith, ◌∙◌, inl, refl}
use Rattle.std.proofs.lemmas.Result.{on_ok_weaker}
use Rattle.journal.specs.Opening.{IsOpening, IsWithin}
use Rattle.journal.proofs.Moments.{synced, stays_on, and_then, settled_images}
use Rattle.journal.proofs.Openings.{within_limit, limited_refusal}
use Rattle.journal.proofs.Opened.{calls_behind}
use Rattle.journal.proofs.opening.open_store.Goals as goal

pub returns-clause-refused : goal.returns-clause-refused
returns-clause-refused g c = λ why is_err x is.
    let R = g.R.Replay in
    let by = R.rules c.args.into.now in
    let at_len = c.sync.ensures.contents ∙ is in
    let told = c.reserve.ensures.stays.contents ∙ c.len.ensures.stays.contents ∙ at_len in
    let within : IsWithin c.args.limit x = within_limit c.args.limit c.in-Ok-len.len x c.else-limit.either (c.in-Ok-len.ensures.len x at_len) in
    limited_refusal (R.takes by) (R.refuses by) R.empty x c.args.limit within why (c.open_settled.ensures.refused why is_err x told)

pub returns-clause-calls : goal.returns-clause-calls
returns-clause-calls g c = λ x is.
    let told = c.reserve.ensures.stays.contents ∙ c.len.ensures.stays.contents ∙ c.sync.ensures.contents ∙ is in
    let first = c.sync.ensures.device.calls in
    let second = c.len.ensures.stays.changing in
    let third = c.reserve.ensures.stays.changing in
    let made = c.open_settled.ensures.calls x told in
    let sum = calls_behind x in
    record {
      later = omega (arith, first.later, second, third, made.later);
      most = omega (arith, first.most, second, third, made.most, sum);
      all = on_ok_weaker c.open_settled.result (λ all. omega (arith, c.in-Ok.ensures.device.calls.all, second, third, all, sum)) made.all;
    }

pub returns-clause-any_moment : goal.returns-clause-any_moment
returns-clause-any_moment g c = λ rest x is.
    let V = g.D.Disk.view in
    let P = IsOpening c.args.digest.now x in
    let v = V c.args.disk.now in
    let s = V c.sync.new.self in
    let l = V c.len.new.self in
    let r = V c.reserve.new.self in
    let told = c.reserve.ensures.stays.contents ∙ c.len.ensures.stays.contents ∙ c.sync.ensures.contents ∙ is in
    let at_sync = synced v s P (g.met.D.Disk.lawful c.args.disk.now).only_now (settled_images v x P rest is (inl refl)) c.sync.ensures.images c.sync.ensures.time in
    let reserved = stays_on v l r P (stays_on v s l P at_sync c.len.ensures.stays) c.reserve.ensures.stays in
    and_then v r (V c.open_settled.new.disk) P reserved (c.open_settled.ensures.any_moment x told)
