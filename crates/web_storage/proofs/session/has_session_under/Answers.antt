-- A tab has such an area where one of its areas is such, and none where it has no areas.
use Rattle.std.proofs.Common.{◌∙◌, ap, subst}
use Rattle.std.specs.List.{list_any}
use Rattle.std.specs.List.Sorted.{IsStrictlySortedBy}
use Rattle.std.specs.Map.{keys_of}
use Rattle.origin_site.specs.Plain.{plain_site}
use Rattle.web_storage.specs.Evicting.{key_cmp}
use Rattle.web_storage.specs.SiteSessions.{has_pairs_under}
use Rattle.web_storage.proofs.SiteSessionLemmas.{any_area, no_area}
use Rattle.web_storage.proofs.session.has_session_under.Goals as goal

pub returns-in-Some : goal.returns-in-Some
returns-in-Some c =
    c.has_pairs_under.ensures.pairs
    ∙ ap (list_any (has_pairs_under (plain_site c.args.site.now))) c.in-Some.ensures.areas
    ∙ any_area (plain_site c.args.site.now) c.args.tab c.args.sessions.now
    (subst (λ es. IsStrictlySortedBy key_cmp (keys_of es)) c.in-Some.ensures.areas c.has_pairs_under.ensures.ordered)

pub returns-in-None : goal.returns-in-None
returns-in-None c = no_area (plain_site c.args.site.now) c.args.tab c.args.sessions.now c.in-None.ensures.areas
