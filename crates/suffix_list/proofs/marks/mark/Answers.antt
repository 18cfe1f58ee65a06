use Rattle.std.proofs.Common.{◌∙◌, ap}
use Rattle.suffix_list.specs.Names.{joined}
use Rattle.suffix_list.proofs.NoteLemmas.{mark_put}
use Rattle.suffix_list.proofs.marks.mark.Goals as goal

pub returns : goal.returns
returns c = λ other.
    mark_put c.args.names.now c.insert.new.self c.in_ok-from_str.field-0 c.args.name.now other c.joined-all.result c.args.more c.in_ok-insert.ensures.updates c.in_ok-from_str.ensures.ok
    (c.joined-all.ensures ∙ ap (λ m. joined m c.args.more) c.marks_of.ensures)
