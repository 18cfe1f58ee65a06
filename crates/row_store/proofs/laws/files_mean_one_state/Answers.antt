use Rattle.row_store.proofs.FileLemmas.{files_mean_one, stores_have_no_fault, stores_mean_one}
use Rattle.row_store.proofs.laws.files_mean_one_state.Goals as goal

pub returns : goal.returns
returns c = record { stores = stores_mean_one; files = files_mean_one; faultless = stores_have_no_fault }
