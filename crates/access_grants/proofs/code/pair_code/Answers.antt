-- The writes of one site, and then those of the other.
use Rattle.std.proofs.Common.{◌∙◌, ap, fold}
use Rattle.std.specs.Hash.DefaultHasher as sip
use Rattle.origin_site.specs.Plain.{plain_site}
use Rattle.access_grants.specs.Index.{pair_code, site_writes}
use Rattle.access_grants.proofs.code.pair_code.Goals as goal

pub returns : goal.returns
unfolding pair_code
returns c =
    c.finish.ensures
    ∙ ap sip.finish
    (c.hash-2.ensures
    ∙ ap (λ s. fold sip.write s (site_writes (plain_site c.args.site.now)))
    (c.hash.ensures ∙ ap (λ s. fold sip.write s (site_writes (plain_site c.args.top.now))) c.new-state.ensures))
