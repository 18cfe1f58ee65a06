-- A site that has no tab left has no entry.
use Rattle.std.proofs.Common.{◌∙◌, sym, None}
use Rattle.live_state.proofs.SiteTabsLemmas.{listed-same, room-apart}
use Rattle.live_state.proofs.site_tabs.SiteTabs.drop.Goals as goal

pub returns-then-is_emptied-clause-dropped : goal.returns-then-is_emptied-clause-dropped
returns-then-is_emptied-clause-dropped c = λ other.
    listed-same c.args.site.now c.is_emptied.new.self.numbers c.remove.new.self None c.remove.ensures.updates
    (sym (c.is_emptied.ensures.none c.if-is_emptied.true)) other
    ∙ c.is_emptied.ensures.dropped other

pub returns-then-is_emptied-clause-kept : goal.returns-then-is_emptied-clause-kept
returns-then-is_emptied-clause-kept c = λ other apart.
    room-apart c.args.site.now c.is_emptied.new.self.numbers c.remove.new.self None c.remove.ensures.updates other apart
    ∙ c.is_emptied.ensures.kept other apart
