-- What a value of all that is held shows.
use Rattle.agent_memory.specs.HoldingsView.{HoldingsView}
use Rattle.agent_memory.specs.declared.holdings.Holdings.TheInside.{Inside}

-- the view of its parts
abbrev pub shown : Inside → HoldingsView
shown own = record { live = own.live; storage = own.storage; cookies = own.cookies; grants = own.grants.rows }
