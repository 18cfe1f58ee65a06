-- The answer of a store, as contracts see it.
use Rattle.cookie_jar.specs.declared.store.Stored.{Stored}
use Rattle.cookie_jar.specs.Planned.{PlainStored}

-- the plain answer
abbrev pub plain_stored : Stored → PlainStored
plain_stored s = record { kind = s.kind; steps = s.steps.items }
