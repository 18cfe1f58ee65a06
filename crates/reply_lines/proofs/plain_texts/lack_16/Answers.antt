use Rattle.std.proofs.Common.{◌∙◌, ap, arith, w8}
use Rattle.std.specs.Prelude.{◌==◌}
use Rattle.std.proofs.lemmas.Simd.{bitmask_splat}
use Rattle.reply_lines.proofs.PlainLemmas.{none_set}
use Rattle.reply_lines.proofs.plain_texts.lack_16.Goals as goal

pub returns : goal.returns
returns c =
    ap (λ m. m == 0) (bitmask_splat w8 (λ a b. a == b) c.args.bytes 16 c.args.byte c.fits-bytes.0 (omega arith)) ∙ none_set (λ b. b == c.args.byte) c.args.bytes
