-- The document that a line names.
-- Source: none; the script language is our own.
use Rattle.std.specs.Prelude.{Option, Some, None}
use Rattle.agent_base.specs.declared.refusals.Label.{Label}
use Rattle.script_actions.specs.Action.{PlainAction, Tick, Open, Close, Go, Evict, Act}

-- the document that a line names, if it names one
abbrev pub label_of : PlainAction → Option Label
label_of (Tick s) = None
label_of (Open tab url opener noopener method head) = None
label_of (Close tab) = None
label_of (Go tab url by_page method head) = None
label_of (Evict site) = None
label_of (Act at action) = Some at
