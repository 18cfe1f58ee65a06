use Rattle.row_changes.proofs.ChangeLaws.{change_again, change_takes}
use Rattle.row_changes.proofs.PieceLaws.{body_again, snapshot_again}
use Rattle.row_changes.proofs.SpelledLaws.{pieces_spelled}
use Rattle.row_changes.proofs.UnderLaws.{hosts_tell_rows}
use Rattle.row_changes.proofs.laws.changes_read_back.Goals as goal

pub returns-clause-reads_back : goal.returns-clause-reads_back
returns-clause-reads_back c = change_again

pub returns-clause-one_spelling : goal.returns-clause-one_spelling
returns-clause-one_spelling c = λ bytes change rest fits e. let t = change_takes bytes change rest fits e in (t.is, t.parts)

pub returns-clause-bodies : goal.returns-clause-bodies
returns-clause-bodies c = body_again

pub returns-clause-snapshots : goal.returns-clause-snapshots
returns-clause-snapshots c = snapshot_again

pub returns-clause-spelled : goal.returns-clause-spelled
returns-clause-spelled c = pieces_spelled

pub returns-clause-stays : goal.returns-clause-stays
returns-clause-stays c = hosts_tell_rows
