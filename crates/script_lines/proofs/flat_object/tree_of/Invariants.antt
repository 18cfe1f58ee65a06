use Rattle.std.proofs.Common.{◌≡◌, take}
use Rattle.serde_json.specs.View.{members_view}
use Rattle.script_lines.specs.Flat.{members_of}
use Rattle.script_lines.proofs.flat_object.tree_of.Given as goal

abbrev pub invariant-loop-member : goal.invariant-loop-member
invariant-loop-member l = members_view l.tree.entries ≡ members_of (take l.member-index l.members)
