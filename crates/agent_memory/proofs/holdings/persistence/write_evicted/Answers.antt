-- The row changes are those of the keys that an eviction takes.
use Rattle.std.proofs.Common.{map, ap, ◌∙◌, refl}
use Rattle.storage_key.specs.Plain.{plain_key}
use Rattle.row_changes.specs.Change.{AreaClear}
use Rattle.row_changes.specs.Plain.{plain_change}
use Rattle.agent_memory.proofs.WritesLemmas.{front_same, writes_as, writes_wanting}
use Rattle.agent_memory.proofs.holdings.persistence.write_evicted.Goals as goal

pub returns-in_err-keys : goal.returns-in_err-keys
returns-in_err-keys c =
    record {
      limit = refl;
      changes = λ beside. writes_wanting _ c.args.body.now.bytes c.args.body.now.bytes
          c.from_residual.result c.from_residual.ensures.0 (front_same c.args.body.now.bytes);
    }

pub returns-in_err-changes : goal.returns-in_err-changes
returns-in_err-changes c =
    record {
      limit = refl;
      changes = λ beside. writes_wanting _ c.args.body.now.bytes c.args.body.now.bytes
          c.from_residual-in_err-changes.result c.from_residual-in_err-changes.ensures.0 (front_same c.args.body.now.bytes);
    }

pub returns : goal.returns
returns c =
    record {
      limit = c.append_all.ensures.limit;
      changes = λ beside. writes_as _ _ c.args.body.now.bytes
          c.append_all.new.self.bytes c.append_all.result
          (ap (map plain_change) c.as_slice-2.ensures.value ∙ c.in_ok-changes.ensures.changes
          ∙ ap (map (λ key. AreaClear (plain_key key))) c.as_slice.ensures.value
          ∙ c.in_ok-keys.ensures.keys beside) c.append_all.ensures.appended;
    }
