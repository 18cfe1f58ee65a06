use Rattle.suffix_list.proofs.NoteLemmas.{marks_more, rules_more}
use Rattle.suffix_list.proofs.rules.Rules.add.Goals as goal

pub invariant_of-self : goal.invariant_of-self
invariant_of-self c = (
  rules_more c.self.inside.listed.items c.push.new.self.items c.args.rule c.in_ok-push.ensures.items c.self.invariant.0 c.requires,
  λ name. marks_more c.self.inside.listed.items c.push.new.self.items c.args.rule name _ _ _ _ c.in_ok-push.ensures.items (c.self.invariant.1 name) (c.in_ok-note_name.ensures name) (c.in_ok-note_parent.ensures name) (c.in_ok-note_ends.ensures name),
)
