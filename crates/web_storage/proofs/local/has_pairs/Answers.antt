use Rattle.std.proofs.Common.{not, ap, ◌∙◌}
use Rattle.std.specs.Prelude.{None, Some}
use Rattle.web_storage.proofs.StoredKeyLemmas.{told_pairs}
use Rattle.web_storage.proofs.local.has_pairs.Goals as goal

pub returns-in-Some : goal.returns-in-Some
returns-in-Some c = ap not c.is_empty.ensures.empty
    ∙ told_pairs c.args.key.now c.args.shed.now (Some c.in-Some.area.now) c.in-Some.ensures.area

pub returns-in-None : goal.returns-in-None
returns-in-None c = told_pairs c.args.key.now c.args.shed.now None c.in-None.ensures.area
