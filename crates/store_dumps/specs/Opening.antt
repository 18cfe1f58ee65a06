-- How a dump opens its store.
-- Source: none.
-- Our own choice: as an agent does, with the limit of size on. A file that is no store yet is made
-- one, one of version 1 becomes one of version 2, and a store under another list, or with rows that
-- are none under the list, is written anew as what stays of it.
use Rattle.std.specs.Prelude.{◌≡◌, ◌⊎◌, ℕ, List, true, Some, Result, Ok, Err}
use Rattle.std.specs.Prelude.{IfErr, IsErrOf, MatchResult, OnOk}
use Rattle.disk_model.specs.Disk.{IsSettled, LeavesOnly, View}
use Rattle.journal.specs.Opening.{IsExcused, IsLimitRefusal, IsOfFile, IsOver, IsRefusal}
use Rattle.journal.specs.Opening.{IsWithin, Opens}
use Rattle.journal.specs.declared.open_fault.OpenFault.{OpenFault}
use Rattle.suffix_list.specs.ListText.{RuleList}
use Rattle.durable_model.specs.Saved.{Saved, nothing_saved}
use Rattle.row_store.specs.Bodies.{Refuses, Takes}
use Rattle.row_opening.specs.Under.{IsOpeningUnder, MakesCalls, MeansUnder}
use Rattle.store_dumps.specs.declared.fault.DumpFault.{DumpFault}
use Rattle.store_dumps.specs.declared.fault.DumpFault.TheVariants.{Open, Write, NoMemory}

-- what an opening answered, apart from what it gives
abbrev pub opened : {T : Type 0} → Result T OpenFault → Result (Unit {0}) OpenFault
opened (Ok given) = Ok tt
opened (Err why) = Err why

-- what the opening of a dump answered
abbrev pub opening_of : {T : Type 0} → Result T DumpFault → Result (Unit {0}) OpenFault
opening_of (Ok done) = Ok tt
opening_of (Err (Open why)) = Err why
opening_of (Err Write) = Ok tt
opening_of (Err NoMemory) = Ok tt

-- the refusal has its cause in this file
abbrev pub IsCause : List ℕ → OpenFault → Type 0
IsCause file why = IsRefusal Takes Refuses nothing_saved true file why

-- the store on a disk was opened under a list, or not
pub record OpensStore {T : Type 0} (list : RuleList) (old new : View) (result : Result T OpenFault)
    : Type 0 where
  -- each refusal of a file has its cause, and comes wherever the cause is
  pub refused : (why : OpenFault) → IsErrOf result why → (c : List ℕ) → old.contents ≡ Some c
      → IsCause c why
  pub exactly : (why : OpenFault) (c : List ℕ) → old.contents ≡ Some c → IsOfFile why
      → IsCause c why → MatchResult result (λ _. ⊥) (λ w. (w ≡ why) ⊎ IsExcused w)
  -- one over the limit is told with its length, and never as want of memory
  pub limit : (c : List ℕ) → old.contents ≡ Some c → IsOver true c
      → MatchResult result (λ _. ⊥) (IsLimitRefusal c)
  -- a file that stands for a state, under whichever list, is opened, but for want of memory and
  -- device faults
  pub excused : (c kept : List ℕ) (d : Saved) (n : ℕ) → old.contents ≡ Some c → IsWithin true c
      → MeansUnder list.digest kept c d n → IfErr result IsExcused
  -- a file that is refused stays as it is, in whatever a cut may leave
  pub unchanged : (why : OpenFault) → IsErrOf result why → IsOfFile why
      → new.contents ≡ old.contents
  pub images : (why : OpenFault) → IsErrOf result why → IsOfFile why
      → (file : List ℕ) → new.may_leave file → old.may_leave file
  -- a device fault comes where a call of the disk failed
  pub device : Opens result old new
  pub settled : OnOk result (IsSettled new)
  pub calls : (c : List ℕ) → old.contents ≡ Some c → MakesCalls list c result old new
  -- a cut at any moment leaves the file as it was, but for the byte of its version; of one that is
  -- no store yet a store without frames or none; or of a store that is written anew a store of its
  -- state still, or of what stays of it, under the list
  pub any_moment : IsSettled old → (c : List ℕ) → old.contents ≡ Some c
      → LeavesOnly old new (IsOpeningUnder list c)
