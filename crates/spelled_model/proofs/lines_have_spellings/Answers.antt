use Rattle.spelled_model.proofs.SavedLemmas.{nothing_read, opens_read, read_under, rows_stay_read, rows_stay_under}
use Rattle.spelled_model.proofs.WorldLemmas.{lines_are_spelled, lines_stay_read}
use Rattle.spelled_model.proofs.lines_have_spellings.Goals as goal

pub returns : goal.returns
returns c =
    record {
      spelled = lines_are_spelled;
      stays = lines_stay_read;
      opens = opens_read;
      nothing = nothing_read;
      rows = rows_stay_read;
      under = rows_stay_under;
      read = read_under;
    }
