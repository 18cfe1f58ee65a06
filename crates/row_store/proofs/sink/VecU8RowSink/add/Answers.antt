use Rattle.row_changes.specs.Plain.{plain_ref}
use Rattle.row_store.specs.Sinks.{written_one}
use Rattle.row_store.proofs.sink.VecU8RowSink.add.Goals as goal

pub returns : goal.returns
returns c = record {
  added = written_one c.append_row.result c.args.self.now.items c.append_row.new.out.items
      (plain_ref c.args.change) c.append_row.ensures.bytes c.append_row.ensures.texts;
}
