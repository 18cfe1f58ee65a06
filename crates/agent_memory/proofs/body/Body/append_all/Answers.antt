-- The row changes of a line are appended to a body, or refused.
use Rattle.std.proofs.Common.{rules, ◌≡◌, subst, length, map, take, OnErr, ℕ}
use Rattle.row_changes.specs.Appended.{Appends}
use Rattle.row_changes.specs.Plain.{plain_change}
use Rattle.agent_memory.specs.Body.{BodyView}
use Rattle.agent_memory.proofs.BodyLemmas.{kept_is}
use Rattle.agent_memory.proofs.body.Body.append_all.Goals as goal

pub returns-clause-appended : goal.returns-clause-appended
returns-clause-appended c =
    let before : c.len-before.result ≡ length c.self.inside.bytes.items = search rules in
    let cut : OnErr c.kept.result (c.kept.new.bytes.items
    ≡ take (length c.self.inside.bytes.items) c.append_changes-written.new.out.items) =
    subst (λ (n : ℕ). OnErr c.kept.result (c.kept.new.bytes.items
    ≡ take n c.append_changes-written.new.out.items)) before c.kept.ensures.cut in
    subst (λ (v : BodyView). Appends (map plain_change c.args.changes.now)
    v.bytes c.kept.new.bytes.items c.kept.result) c.self.view_is
    (kept_is (map plain_change c.args.changes.now)
    c.self.inside.bytes.items c.append_changes-written.new.out.items c.kept.new.bytes.items
    c.append_changes-written.result c.kept.result
    c.append_changes-written.ensures.appended c.kept.ensures.same cut)
