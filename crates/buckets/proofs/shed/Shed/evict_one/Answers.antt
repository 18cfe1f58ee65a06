-- One key: a best-effort bucket that was there is gone, and there is no other entry of the key.
use Rattle.std.proofs.Common.{◌≡◌, ◌∙◌, ap, sym, true, false, not}
use Rattle.std.specs.Prelude.{unwrap_or, if◌then◌else◌}
use Rattle.buckets.specs.Shed.{bucket_at, fresh_bucket, is_best_effort}
use Rattle.buckets.proofs.EvictLemmas.{none-evicted, none-counted, apart-missing, removed-evicted, persistent-kept, persistent-uncounted, best_effort-counted}
use Rattle.buckets.proofs.shed.Shed.evict_one.Goals as goal

pub returns-in_default-clause-evicted : goal.returns-in_default-clause-evicted
returns-in_default-clause-evicted g c =
    rw (← c.self.view_is) (sym (none-evicted g.K.Ord.cmp c.args.key.now _ (apart-missing g.K.Ord.cmp c.args.key.now _ (sym c.in_default.ensures.value))))

pub returns-in_default-clause-lost : goal.returns-in_default-clause-lost
returns-in_default-clause-lost g c =
    rw (← c.self.view_is) (sym (none-counted g.K.Ord.cmp c.args.key.now _ (apart-missing g.K.Ord.cmp c.args.key.now _ (sym c.in_default.ensures.value))))

pub returns-then-not-is_best_effort-clause-evicted : goal.returns-then-not-is_best_effort-clause-evicted
returns-then-not-is_best_effort-clause-evicted g c =
    let best : is_best_effort (bucket_at g.K.Ord.cmp c.args.key.now c.self.inside.buckets).mode ≡ false =
    ap (λ o. is_best_effort (unwrap_or o fresh_bucket).mode) (sym c.in-Some.ensures.value) ∙ sym c.is_best_effort.ensures ∙ c.if-not-is_best_effort.true in
    rw (← c.self.view_is) (sym (persistent-kept g.K.Ord.cmp g.met.K.Ord.total c.args.key.now c.self.inside.buckets c.get.ensures.ordered best))

pub returns-then-not-is_best_effort-clause-lost : goal.returns-then-not-is_best_effort-clause-lost
returns-then-not-is_best_effort-clause-lost g c =
    rw (← c.self.view_is) (sym (persistent-uncounted g.K.Ord.cmp g.met.K.Ord.total c.args.key.now c.in-Some.bucket.now c.self.inside.buckets c.get.ensures.ordered
    (sym c.in-Some.ensures.value) (sym c.is_best_effort.ensures ∙ c.if-not-is_best_effort.true)))

pub returns-clause-evicted : goal.returns-clause-evicted
returns-clause-evicted g c =
    let best : is_best_effort (bucket_at g.K.Ord.cmp c.args.key.now c.self.inside.buckets).mode ≡ true =
    ap (λ o. is_best_effort (unwrap_or o fresh_bucket).mode) (sym c.in-Some.ensures.value) ∙ sym c.is_best_effort.ensures ∙ c.if-not-is_best_effort.false in
    rw (← c.self.view_is) (c.remove.ensures.removed ∙ removed-evicted g.K.Ord.cmp g.met.K.Ord.total c.args.key.now c.self.inside.buckets c.get.ensures.ordered best)

pub returns-clause-lost : goal.returns-clause-lost
returns-clause-lost g c =
    rw (← c.self.view_is) (ap (λ b. if not b then 1 else 0) c.is_empty-lost.ensures.empty
    ∙ sym (best_effort-counted g.K.Ord.cmp g.met.K.Ord.total c.args.key.now c.in-Some.bucket.now c.self.inside.buckets c.get.ensures.ordered
    (sym c.in-Some.ensures.value) (sym c.is_best_effort.ensures ∙ c.if-not-is_best_effort.false)))
