-- The law of the example, without premises.
-- Source: none.
use Rattle.std.specs.Prelude.{◌≡◌, ℕ, List}
use Rattle.unwinding.specs.declared.example.Site.{Site}
use Rattle.unwinding.specs.Durable.{Durable}
use Rattle.unwinding.specs.Epochs.{Epoch, Opening, world_replies}
use Rattle.unwinding.specs.LocalScript.{local_script}
use Rattle.unwinding.specs.SiteRun.{site_run}
use Rattle.unwinding.specs.Example.{Cell, Line}
use Rattle.unwinding.specs.ExampleSetting.{machine, keeping}

-- the replies to a site over every history are its own machine's on its local script
abbrev pub ExampleUnwound : Type 0
ExampleUnwound =
    (s : Site) (o : Opening ℕ (Durable Site ℕ (Cell → ℕ))) (es : List (Epoch Line))
    → world_replies machine keeping s o.rest o.state es
    ≡ site_run machine keeping s (local_script machine keeping s o es)
