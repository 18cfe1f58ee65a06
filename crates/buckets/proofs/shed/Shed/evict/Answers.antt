-- One key more is evicted, and counted if it lost pairs.
use Rattle.std.proofs.Common.{◌≡◌, ◌+◌, ◌++◌, ◌∷◌, [], ◌∙◌, ap, sym, arith, take}
use Rattle.std.specs.Prelude.{if◌then◌else◌}
use Rattle.std.proofs.lemmas.List.{take_more}
use Rattle.buckets.specs.Shed.{evicted, count_evicted}
use Rattle.buckets.specs.Evicting.{evicted_one, count_evicted_one}
use Rattle.buckets.proofs.EvictLemmas.{evicted-push, counted-push, evicted-nil, counted-nil}
use Rattle.buckets.proofs.shed.Shed.evict.Goals as goal
use Rattle.buckets.proofs.shed.Shed.evict.Goals.{then-evict_one, else-evict_one}

pub loop-key-init : goal.loop-key-init
loop-key-init g c = record {
  gone = sym (evicted-nil g.K.Ord.cmp _);
  counted = omega (arith, counted-nil g.K.Ord.cmp c.args.self.now);
}

pub loop-key-preserved : goal.loop-key-preserved
loop-key-preserved g c =
    let cmp = g.K.Ord.cmp in
    let before = take c.loop-key.key-index c.args.keys.now in
    let more : take (c.loop-key.key-index + 1) c.args.keys.now ≡ before ++ c.key-item.result ∷ [] =
    rw (← c.key-item.is) at (take_more c.args.keys.now c.loop-key.key-index c.key-item.result c.loop-key-test.true) in
    let lost : (if c.evict_one.result then 1 else 0) ≡ count_evicted_one cmp c.key-item.result (evicted cmp before c.args.self.now) =
    c.evict_one.ensures.lost ∙ ap (count_evicted_one cmp c.key-item.result) c.loop-key.invariant.gone in
    let sum : count_evicted cmp (take (c.loop-key.key-index + 1) c.args.keys.now) c.args.self.now
    ≡ count_evicted cmp before c.args.self.now + (if c.evict_one.result then 1 else 0) =
    ap (λ ks. count_evicted cmp ks c.args.self.now) more
    ∙ counted-push cmp before c.key-item.result c.args.self.now
    ∙ ap (λ n. count_evicted cmp before c.args.self.now + n) (sym lost) in
    record {
      gone =
          c.evict_one.ensures.evicted
          ∙ ap (evicted_one cmp c.key-item.result) c.loop-key.invariant.gone
          ∙ sym (evicted-push cmp before c.key-item.result c.args.self.now)
          ∙ ap (λ ks. evicted cmp ks c.args.self.now) (sym more);
      counted = elim c.if-evict_one.branch [
        | then-evict_one w ↦
            let one : count_evicted cmp (take (c.loop-key.key-index + 1) c.args.keys.now) c.args.self.now
            ≡ count_evicted cmp before c.args.self.now + 1 = rw w.if-evict_one.true at sum in
            omega (arith, one, w.count-is, w.saturating_add-count.ensures, c.loop-key.invariant.counted)
        | else-evict_one w ↦
            let none : count_evicted cmp (take (c.loop-key.key-index + 1) c.args.keys.now) c.args.self.now
            ≡ count_evicted cmp before c.args.self.now + 0 = rw w.if-evict_one.false at sum in
            omega (arith, none, w.count-is, c.loop-key.invariant.counted)
      ];
    }
