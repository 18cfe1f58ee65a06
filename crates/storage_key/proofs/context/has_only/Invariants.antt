use Rattle.std.proofs.Common.{◌≡◌, map, drop}
use Rattle.storage_key.specs.Context.{has_only}
use Rattle.storage_key.specs.Plain.{plain_chain_site}
use Rattle.origin_site.specs.Plain.{plain_site}
use Rattle.storage_key.proofs.context.has_only.Given as goal

abbrev pub invariant-loop-site : goal.invariant-loop-site
invariant-loop-site l =
    has_only (plain_site l.top) (map plain_chain_site (drop l.site-index l.chain))
    ≡ has_only (plain_site l.top) (map plain_chain_site l.chain)
