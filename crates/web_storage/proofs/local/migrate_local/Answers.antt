-- The buckets stay whose keys do.
use Rattle.std.proofs.Common.{◌∙◌, ap, not, rules}
use Rattle.storage_key.specs.Plain.{plain_key}
use Rattle.storage_key.specs.Stays.{key_stays}
use Rattle.web_storage.specs.Stored.{areas_in, keys_in}
use Rattle.web_storage.proofs.MigrateLemmas.{all_stay_by, areas_left, modes_left}
use Rattle.web_storage.proofs.local.migrate_local.Goals as goal

pub returns-clause-areas : goal.returns-clause-areas
returns-clause-areas c =
    let stays = key_stays c.args.list.now.rules in
    ap areas_in (c.retain.ensures.retained (λ key. stays (plain_key key)) (λ key told says. search rules))
    ∙ areas_left stays c.args.shed.now c.retain.ensures.ordered

pub returns-clause-modes : goal.returns-clause-modes
returns-clause-modes c =
    let stays = key_stays c.args.list.now.rules in
    ap keys_in (c.retain.ensures.retained (λ key. stays (plain_key key)) (λ key told says. search rules))
    ∙ modes_left stays c.args.shed.now c.retain.ensures.ordered

pub returns-clause-went : goal.returns-clause-went
returns-clause-went c =
    let stays = key_stays c.args.list.now.rules in
    c.retain.ensures.went (λ key. stays (plain_key key)) (λ key told says. search rules)
    ∙ ap not (all_stay_by stays c.args.shed.now c.retain.ensures.ordered)
