use Rattle.journal.proofs.Upgrades.{upgrade_store}
use Rattle.journal.proofs.laws.upgrade_keeps.Goals as goal

pub returns : goal.returns
returns c = record { law = upgrade_store }
