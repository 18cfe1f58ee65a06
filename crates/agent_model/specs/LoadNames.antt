-- The names of top-level loads, as replies have them.
-- Source: the script format of docs/FORMATS.md.
-- Our own choice: the name is that of the line's member `do`.
use Rattle.std.specs.Prelude.{ℕ, List, codes}
use Rattle.agent_model.specs.SiteEvent.{TopLoad, Opens, Goes}

-- the name of a load
abbrev pub load_name : TopLoad → List ℕ
load_name Opens = codes "open"
load_name Goes = codes "go"
