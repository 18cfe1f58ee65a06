-- Each hearer is there, and stands once.
use Rattle.storage_key.specs.Plain.{plain_key}
use Rattle.storage_events.specs.declared.event.AreaKind.TheVariants.{Local, Session}
use Rattle.live_state.proofs.HearerLemmas.{hearers-once, hearers-there}
use Rattle.live_state.proofs.live.Live.hearers.Goals as goal

pub returns-in-Local-clause-once : goal.returns-in-Local-clause-once
returns-in-Local-clause-once c =
    hearers-once Local c.args.writer (plain_key c.args.key.now) c.local_hearers.result c.args.self.now.tabs c.local_hearers.ensures.rising
    c.local_hearers.ensures.hearers

pub returns-in-Local-clause-there : goal.returns-in-Local-clause-there
returns-in-Local-clause-there c =
    hearers-there Local c.args.writer (plain_key c.args.key.now) c.local_hearers.result c.args.self.now.tabs c.local_hearers.ensures.rising
    c.local_hearers.ensures.hearers

pub returns-in-Session-clause-once : goal.returns-in-Session-clause-once
returns-in-Session-clause-once c =
    hearers-once Session c.args.writer (plain_key c.args.key.now) c.session_hearers.result c.args.self.now.tabs c.session_hearers.ensures.rising
    c.session_hearers.ensures.hearers

pub returns-in-Session-clause-there : goal.returns-in-Session-clause-there
returns-in-Session-clause-there c =
    hearers-there Session c.args.writer (plain_key c.args.key.now) c.session_hearers.result c.args.self.now.tabs c.session_hearers.ensures.rising
    c.session_hearers.ensures.hearers
