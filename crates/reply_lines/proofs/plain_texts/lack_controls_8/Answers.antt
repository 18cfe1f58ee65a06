use Rattle.std.proofs.Common.{◌∙◌, ap, arith, w8}
use Rattle.std.specs.Prelude.{◌==◌, nat_lt}
use Rattle.std.proofs.lemmas.Simd.{bitmask_splat}
use Rattle.reply_lines.proofs.PlainLemmas.{none_set}
use Rattle.reply_lines.proofs.plain_texts.lack_controls_8.Goals as goal

pub returns : goal.returns
returns c =
    ap (λ m. m == 0) (bitmask_splat w8 nat_lt c.args.bytes 8 32 c.fits-bytes.0 (omega arith)) ∙ none_set (λ b. nat_lt b 32) c.args.bytes
