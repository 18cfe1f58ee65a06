-- Lines that a document does.
-- Source: none; a line is one of a script.
use Rattle.std.specs.Prelude.{Bool, true, false}
use Rattle.script_actions.specs.Action.{PlainAction, Tick, Open, Close, Go, Evict, Act}

-- a line names a document, which acts
abbrev pub is_of_document : PlainAction → Bool
is_of_document (Tick s) = false
is_of_document (Open tab url opener noopener method head) = false
is_of_document (Close tab) = false
is_of_document (Go tab url by_page method head) = false
is_of_document (Evict site) = false
is_of_document (Act at action) = true
