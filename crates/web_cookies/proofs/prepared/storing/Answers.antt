-- Both cells become those of the jars, where they have a place.
use Rattle.std.specs.Rc.{rc_value}
use Rattle.web_cookies.specs.Keys.{own_of}
use Rattle.web_cookies.proofs.PreparedLemmas.{made_left, stored_place}
use Rattle.web_cookies.proofs.prepared.storing.Goals as goal

pub returns-clause-left : goal.returns-clause-left
returns-clause-left c = rw (← c.both.view_is) (λ rules how entries keys. made_left rules how entries _ keys)

pub returns-clause-ready : goal.returns-clause-ready
returns-clause-ready c = λ entries own partition.
    record { own = stored_place (own_of (rc_value c.args.keys)) entries _ own; partition = partition }
