-- The row changes are those of each effect that it was prepared for.
use Rattle.std.proofs.Common.{map, ap}
use Rattle.row_changes.specs.Plain.{plain_change}
use Rattle.agent_memory.proofs.LoadWritesLemmas.{rows_written}
use Rattle.agent_memory.proofs.WritesLemmas.{writes_front}
use Rattle.agent_memory.proofs.holdings.requests.write_rows.Goals as goal

pub returns : goal.returns
returns c = record {
  limit = c.append_all.ensures.limit;
  rows = rows_written c.args.prepared.now _ (ap (map plain_change) c.rows.ensures.value)
      c.args.body.now.bytes c.append_all.new.self.bytes c.append_all.result c.append_all.ensures.appended;
  front = writes_front _ c.args.body.now.bytes c.append_all.new.self.bytes c.append_all.result c.append_all.ensures.appended;
}
