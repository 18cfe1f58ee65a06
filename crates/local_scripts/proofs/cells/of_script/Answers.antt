-- The document is there, and has a key.
use Rattle.std.proofs.Common.{sym}
use Rattle.frame_tree.specs.Plain.{plain_document}
use Rattle.storage_key.specs.Plain.{plain_key}
use Rattle.local_scripts.proofs.CellLemmas.{script_is}
use Rattle.local_scripts.proofs.cells.of_script.Goals as goal

pub returns : goal.returns
returns c = record {
  cells =
      script_is c.args.list.now.rules c.args.tab.now c.args.frame
      (plain_document c.in_ok-document.document.now) (plain_key c.in_ok-key.key.now) c.used.result
      (sym c.in_ok-document.ensures.document) (sym c.in_ok-key.ensures.key) c.used.ensures.used;
}
