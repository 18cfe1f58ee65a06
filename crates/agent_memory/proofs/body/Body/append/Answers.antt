-- A row change is appended to a body, or refused.
use Rattle.std.proofs.Common.{rules, ◌≡◌, ◌∷◌, [], subst, length, take, OnErr, ℕ}
use Rattle.row_changes.specs.Appended.{Appends}
use Rattle.row_changes.specs.Plain.{plain_ref}
use Rattle.agent_memory.specs.Body.{BodyView, IsRefused}
use Rattle.agent_memory.proofs.BodyLemmas.{kept_is, refused_is}
use Rattle.agent_memory.proofs.body.Body.append.Goals as goal

-- the bytes are cut back to those before
cut : (c : goal.After-kept) → OnErr c.kept.result (c.kept.new.bytes.items
    ≡ take (length c.self.inside.bytes.items) c.append_change-written.new.out.items)
cut c =
    let before : c.len-before.result ≡ length c.self.inside.bytes.items = search rules in
    subst (λ (n : ℕ). OnErr c.kept.result (c.kept.new.bytes.items
    ≡ take n c.append_change-written.new.out.items)) before c.kept.ensures.cut

pub returns-clause-appended : goal.returns-clause-appended
returns-clause-appended c =
    subst (λ (v : BodyView). Appends (plain_ref c.args.change ∷ []) v.bytes c.kept.new.bytes.items c.kept.result) c.self.view_is
    (kept_is (plain_ref c.args.change ∷ []) c.self.inside.bytes.items c.append_change-written.new.out.items
    c.kept.new.bytes.items c.append_change-written.result c.kept.result
    c.append_change-written.ensures.appended c.kept.ensures.same (cut c))

pub returns-clause-refused : goal.returns-clause-refused
returns-clause-refused c =
    subst (λ (v : BodyView). OnErr c.kept.result (IsRefused v
    (record { bytes = c.kept.new.bytes.items; limit = c.self.inside.limit; wanted = c.kept.new.wanted }))) c.self.view_is
    (refused_is (plain_ref c.args.change ∷ []) c.self.inside.bytes.items c.append_change-written.new.out.items
    c.kept.new.bytes.items
    c.self.inside.limit c.self.inside.wanted c.kept.new.wanted c.append_change-written.result c.kept.result
    c.append_change-written.ensures.appended (cut c) c.kept.ensures.wanted)
