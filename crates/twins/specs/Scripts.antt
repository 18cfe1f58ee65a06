-- The local script of one script as contracts see it.
-- Source: none; these are the words of the promise.
use Rattle.std.specs.Prelude.{◌<◌, ◌^◌, List, ◌++◌, ◌∷◌, [], map}
use Rattle.script_actions.specs.Action.{PlainStep}
use Rattle.local_scripts.specs.Items.{AgentItem, item_of}
use Rattle.local_scripts.specs.declared.item.Item.TheVariants as item
use Rattle.script_courses.specs.Twins.{HasItems, TwinSetting, acknowledged_in}
use Rattle.twins.specs.declared.scripts.LocalScript.{LocalScript}

-- the entries
abbrev pub entries_in : LocalScript → List AgentItem
entries_in script = map item_of script.entries.items

-- the end
abbrev pub end_in : LocalScript → AgentItem
end_in script = item_of (item.Restarts script.end)

-- all items
abbrev pub items_of : LocalScript → List AgentItem
items_of script = entries_in script ++ end_in script ∷ []

-- some lines give the site this local script, and its counts keep in range
abbrev pub Gives : TwinSetting → List PlainStep → LocalScript → Type 0
Gives at steps script =
    HasItems at steps (entries_in script) (end_in script)
    × (acknowledged_in (items_of script) < 2 ^ 64)
