-- Without a first key there are none, and else the two walks find those under the site.
use Rattle.origin_site.specs.Plain.{plain_site}
use Rattle.web_storage.proofs.RisingLemmas.{none_rise, walked}
use Rattle.web_storage.proofs.under.entries_under.Goals as goal

pub returns-in_default-clause-found : goal.returns-in_default-clause-found
returns-in_default-clause-found g c =
    none_rise (plain_site c.args.site.now) c.args.entries.now c.new-found.result.items c.in_default.ensures.key
    c.new-found.ensures.items

pub returns-clause-found : goal.returns-clause-found
returns-clause-found g c =
    walked (plain_site c.args.site.now) c.in_ok-place.place c.in_ok-place.ensures.under c.args.entries.now
    c.next_key.ensures.ordered
    c.range_below.result c.range_from.result c.range_below.ensures.entries c.range_from.ensures.entries
    c.new-found.result.items _ _ _ c.new-found.ensures.items c.in_ok-push_below.ensures.pushed
    c.reverse.ensures.items c.in_ok-push_from.ensures.pushed
