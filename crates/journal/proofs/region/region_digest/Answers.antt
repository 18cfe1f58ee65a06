use Rattle.std.proofs.Common.{◌≡◌, ◌+◌, slice_index, inl, inr, arith, sym, ◌∙◌}
use Rattle.std.specs.Prelude.{◌⊎◌}
use Rattle.journal.proofs.Unique.{holds_unique}
use Rattle.journal.proofs.Reading.{region_there, front_there, digest_there, digest_of_three, digest_of_others}
use Rattle.journal.proofs.region.region_digest.Goals as goal
use Rattle.journal.proofs.region.region_digest.Goals.{else-bytes-begin-ne0-via-then-bytes-begin-ne0+else-bytes-begin-eq3, else-bytes-begin-ne0-via-else-bytes-begin-ne0}

pub bounds-bytes-begin : goal.bounds-bytes-begin
bounds-bytes-begin c = let r = c.requires.region in region_there c.args.bytes.now c.args.begin r.0 r.1

pub bounds-bytes-begin-then-bytes-begin-ne0 : goal.bounds-bytes-begin-then-bytes-begin-ne0
bounds-bytes-begin-then-bytes-begin-ne0 c =
    let r = c.requires.region in
    omega (arith, front_there c.args.bytes.now c.args.begin r.0 r.1 c.if-bytes-begin-ne0.true)

pub digest_at-requires : goal.digest_at-requires
digest_at-requires c =
    let r = c.requires.region in
    digest_there c.args.bytes.now c.args.begin r.0 r.1 r.2 c.if-bytes-begin-ne0.true c.if-bytes-begin-eq3.true

pub returns-then-bytes-begin-eq3-clause-digest : goal.returns-then-bytes-begin-eq3-clause-digest
returns-then-bytes-begin-eq3-clause-digest c = λ kept frames size at here sound.
    digest_of_three c.args.bytes.now c.args.begin kept c.digest_at.result frames here sound c.if-bytes-begin-ne0.true c.if-bytes-begin-eq3.true c.digest_at.ensures.len c.digest_at.ensures.at

pub returns-else-bytes-begin-ne0-clause-digest : goal.returns-else-bytes-begin-ne0-clause-digest
returns-else-bytes-begin-ne0-clause-digest c = λ kept frames size at here sound.
    let file = c.args.bytes.now in
    let read = c.digest_at-else-bytes-begin-ne0 in
    let other : (slice_index file c.args.begin ≡ 0) ⊎ (slice_index file (c.args.begin + 1) ≡ 3 → ⊥) = elim c.else-bytes-begin-ne0.branch [
      | else-bytes-begin-ne0-via-then-bytes-begin-ne0+else-bytes-begin-eq3 w ↦ inr w.if-bytes-begin-eq3.false
      | else-bytes-begin-ne0-via-else-bytes-begin-ne0 w ↦ inl w.if-bytes-begin-ne0.false
    ] in
    holds_unique file 12 read.result kept (read.ensures.len ∙ sym size) read.ensures.at at ∙ digest_of_others file c.args.begin kept frames here sound other
