-- The area of the bucket that is lent.
use Rattle.std.proofs.Common.{◌≡◌, ◌∙◌, ap, refl}
use Rattle.std.specs.Prelude.{option_map, unwrap_or}
use Rattle.key_map.specs.Entries.{map_set}
use Rattle.buckets.specs.Shed.{area_at, fresh_bucket, mode_at, with_pairs}
use Rattle.buckets.specs.declared.shed.Mode.{Mode}
use Rattle.buckets.proofs.shed.Shed.area_mut.Goals as goal

pub returns-in-Some : goal.returns-in-Some
returns-in-Some g c =
    let mode : c.in-Some.bucket.now.mode ≡ mode_at g.K.Ord.cmp c.args.key.now c.self.inside.buckets =
    ap (λ o. (unwrap_or o fresh_bucket).mode) c.in-Some.ensures.value in (
      (
        refl,
        (λ w.
            (rw c.in-Some.is at (c.get_mut.follows.holds (record { mode = c.in-Some.bucket.now.mode; area = w })))
            ∙ ap (λ (m : Mode). map_set g.K.Ord.cmp c.args.key.now (record { mode = m; area = w }) c.self.inside.buckets) mode
            ∙ ap (with_pairs g.K.Ord.cmp c.args.key.now w) c.self.view_is),
        refl,
      ),
      record {
        writes_back = tt;
        area = ap (option_map (λ b. b.area)) c.in-Some.ensures.value ∙ ap (area_at g.K.Ord.cmp c.args.key.now) c.self.view_is;
      },
    )
