-- Names that several files of facts share. Those of sites, addresses and cookies are the ones of
-- `agent_model`'s own facts.
use Rattle.std.proofs.Common.{ℕ, false, [], ◌∷◌, Some, None}
use Rattle.std.specs.Prelude.{codes}
use Rattle.origin_site.specs.Address.{PlainAddress}
use Rattle.frame_tree.specs.Document.{loaded}
use Rattle.frame_tree.specs.Sandbox.{unrestricted}
use Rattle.frame_tree.specs.Tree.{PlainFrame}
use Rattle.live_state.specs.Tabs.{PlainFrameQueue}
use Rattle.storage_events.specs.Event.{PlainEvent}
use Rattle.storage_events.specs.declared.event.AreaKind.TheVariants.{Local}
use Rattle.agent_model.specs.Partition.{Holdings, Partition}
use Rattle.agent_model.proofs.StandardFacts.{site, a}

-- a frame below a parent, at an address
abbrev pub at_address : (number parent : ℕ) → PlainAddress → PlainFrame
at_address number parent url = record { frame = number; parent = parent; document = loaded [] unrestricted false url }

-- `https://a.test` with these holdings
abbrev pub site_with : Holdings → Partition
site_with held = record { site = site a; held = held }

-- a name of a local area got a value
abbrev pub event : PlainEvent
event = record { area = Local; key = Some (codes "k"); before = None; after = Some (codes "v"); url = codes "https://a.test/" }

-- the queue of a frame: no event waits, one does, and one does behind which two were lost
abbrev pub none_waits : ℕ → PlainFrameQueue
none_waits number = record { frame = number; events = []; lost = 0 }

abbrev pub one_waits : ℕ → PlainFrameQueue
one_waits number = record { frame = number; events = event ∷ []; lost = 0 }

abbrev pub two_lost : ℕ → PlainFrameQueue
two_lost number = record { frame = number; events = event ∷ []; lost = 2 }
