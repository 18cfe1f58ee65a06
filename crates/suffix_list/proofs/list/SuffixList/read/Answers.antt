use Rattle.std.proofs.Common.{◌≡◌, ◌∙◌, ◌⊎◌, inl, inr, ap, List, ℕ}
use Rattle.std.specs.Prelude.{Result, Ok, Err, MatchResult, IsErrOf}
use Rattle.suffix_list.specs.declared.fault.ListFault.{ListFault}
use Rattle.suffix_list.specs.declared.fault.ListFault.TheVariants.{NoMemory, ReadFault}
use Rattle.suffix_list.specs.ListText.{list_of}
use Rattle.suffix_list.proofs.LineLemmas.{no_read_fault_in}
use Rattle.suffix_list.proofs.list.SuffixList.read.Goals as goal

-- reading from bytes that are there has no fault of the source
from_bytes : {T : Type 0} (result : Result T ListFault) (P : T → Type 0) (bytes : List ℕ) → MatchResult result P (λ why. (why ≡ NoMemory) ⊎ (list_of bytes ≡ Err why)) → IsErrOf result ReadFault → ⊥
from_bytes (Ok list) P bytes answer failed = cc
from_bytes (Err why) P bytes (inl memory) failed = cc
from_bytes (Err why) P bytes (inr fault) failed = let own : why ≡ ReadFault = cc in no_read_fault_in bytes (fault ∙ ap Err own)

pub returns-in-Ok-clause-read_fault : goal.returns-in-Ok-clause-read_fault
returns-in-Ok-clause-read_fault g c = λ failed. absurd (from_bytes c.of_bytes.result _ c.as_slice.result.now c.of_bytes.ensures failed)
