-- None of the areas so far is under the site with pairs, so that what is left decides.
use Rattle.std.proofs.Common.{◌≡◌}
use Rattle.std.specs.List.{list_any}
use Rattle.origin_site.specs.Plain.{plain_site}
use Rattle.web_storage.specs.SiteSessions.{has_pairs_under}
use Rattle.web_storage.proofs.session.has_pairs_under.Given as goal

abbrev pub invariant-loop-key : goal.invariant-loop-key
invariant-loop-key l = list_any (has_pairs_under (plain_site l.site)) l.key-iterator
    ≡ list_any (has_pairs_under (plain_site l.site)) l.areas
