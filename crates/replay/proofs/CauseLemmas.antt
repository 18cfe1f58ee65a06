-- What follows of a list that was read, or was not, for the command that named it.
use Rattle.std.proofs.Common.{◌≡◌, ◌⊎◌, ℕ, Bool, true, List, Option, Some, None, refl, sym, subst, ap, inl, inr, ◌∙◌, arith}
use Rattle.std.specs.Prelude.{IfSome, IsOk, Ok}
use Rattle.agent_base.specs.Counts.{Rose}
use Rattle.suffix_list.specs.ListText.{RuleList, list_of}
use Rattle.script_lines.specs.Script.{PlainScript}
use Rattle.store_runs.specs.declared.ending.Ending.{Ending}
use Rattle.command_line.specs.Words.{PlainCommand, Replay}
use Rattle.hosts.specs.Hosts.{LeavesOtherStores, LeavesOthers, LeavesStores, SameImages, raised}
use Rattle.replay.specs.BeforeAfter.{BeforeAfter}
use Rattle.replay.specs.Causes.{DeviceCounts, ListCause, ListFailed, ReadCause, ReadCounts, RoseByStore, StoreUnopened}
use Rattle.replay.specs.Commands.{IsAfterList, StoreCounts}
use Rattle.replay.specs.Readings.{IsListOf, ScriptCounts}
use Rattle.replay.specs.Runs.{ListRead, ReadAndRan, ScriptRead, WritesScript, Written}
use Rattle.replay.specs.Openings.{Images}
use Rattle.replay.specs.Stores.{LeftAlone, RanOverStore, RanStored}
use Rattle.replay.specs.declared.status.Status.{Status}
use Rattle.replay.specs.declared.status.Status.TheVariants.{Done, Usage, Script, List as ListStatus, Store, Read, InUse, Write, Device, Memory}
use Rattle.replay.proofs.StatusLemmas.{written_weaker}

-- ---- the list was read

abbrev pub list_read : (list : RuleList) (told : Option (List ℕ)) → IsListOf told list → ListRead told
list_read list told read = record { bytes = read.0; list = list; given = read.1.0; grammar = read.1.1 }

-- its bytes have no fault
pub list_fine : (told : Option (List ℕ)) (list : RuleList) → IsListOf told list → IfSome told (λ bytes. IsOk (list_of bytes))
list_fine None list read = tt
list_fine (Some own) list (bytes, (has, grammar)) =
    let same : list_of own ≡ Ok list = cc in
    subst IsOk (sym same) refl

-- what was written of a script was written under that list
pub writes_under : (status : Status) (allowed : Bool) (told : Option (List ℕ)) (left : BeforeAfter (Option (List ℕ))) (Nothing : Type 0) (list : RuleList) (Ran : Ending → RuleList → PlainScript → Type 0) → IsListOf told list
    → Written status Nothing (λ e. (read : ScriptRead allowed left) × Ran e list read.script) → WritesScript status allowed told left Nothing Ran
writes_under status allowed told left Nothing list Ran read written =
    written_weaker status Nothing Nothing (λ e. (script : ScriptRead allowed left) × Ran e list script.script) (λ e. ReadAndRan allowed told left (Ran e)) (λ nothing. nothing)
    (λ e ran. (list_read list told read, (ran.0, ran.1))) written

pub later_list : (status : Status) (told : Option (List ℕ)) → IsAfterList status → IfSome told (λ bytes. IsOk (list_of bytes)) → ListCause status told
later_list Done told later fine = fine
later_list Usage told later fine = tt
later_list (Script why) told later fine = fine
later_list (ListStatus why) told later fine = absurd later
later_list (Store why) told later fine = fine
later_list Read told later fine = tt
later_list InUse told later fine = fine
later_list Write told later fine = fine
later_list Device told later fine = fine
later_list Memory told later fine = tt

-- nothing rose by a store that was never opened
pub rose_by_none : (host stores : BeforeAfter ℕ) → host.after ≡ host.before → stores.after ≡ stores.before → RoseByStore host stores
rose_by_none host stores h s = (0, h ∙ none host.before, s ∙ none stores.before)
  where
    none : (n : ℕ) → n ≡ raised 0 n
    none n = omega arith

pub script_read_counts : (status : Status) (host stores script : BeforeAfter ℕ) → host.after ≡ host.before → stores.after ≡ stores.before → ScriptCounts status script → (status ≡ InUse → ⊥) → ReadCounts status host stores script
script_read_counts Done host stores script h s counts not_used = (rose_by_none host stores h s, counts)
script_read_counts Usage host stores script h s counts not_used = (rose_by_none host stores h s, counts)
script_read_counts (Script why) host stores script h s counts not_used = (rose_by_none host stores h s, counts)
script_read_counts (ListStatus why) host stores script h s counts not_used = (rose_by_none host stores h s, counts)
script_read_counts (Store why) host stores script h s counts not_used = (rose_by_none host stores h s, counts)
script_read_counts Read host stores script h s counts not_used = (s, inr counts)
script_read_counts InUse host stores script h s counts not_used = absurd (not_used refl)
script_read_counts Write host stores script h s counts not_used = (rose_by_none host stores h s, counts)
script_read_counts Device host stores script h s counts not_used = (rose_by_none host stores h s, counts)
script_read_counts Memory host stores script h s counts not_used = (rose_by_none host stores h s, counts)

-- where the list is told, it has no fault and this holds
if_told : (A B : Type 0) (told : Option (List ℕ)) → IfSome told (λ bytes. IsOk (list_of bytes)) → A → IfSome told (λ bytes. B ⊎ (IsOk (list_of bytes) × A))
if_told A B None fine rose = tt
if_told A B (Some bytes) fine rose = inr (fine, rose)

-- why reading failed, of a command that came behind its list
pub read_cause : (command : Option PlainCommand) (list script : Option (List ℕ)) (host reads scripts : BeforeAfter ℕ) (status : Status) → IfSome list (λ bytes. IsOk (list_of bytes))
    → (status ≡ Read → Rose scripts.before scripts.after ⊎ StoreUnopened command script host) → ReadCause command status list script host reads scripts
read_cause command list script host reads scripts Done fine cause = tt
read_cause command list script host reads scripts Usage fine cause = tt
read_cause command list script host reads scripts (Script why) fine cause = tt
read_cause command list script host reads scripts (ListStatus why) fine cause = tt
read_cause command list script host reads scripts (Store why) fine cause = tt
read_cause command list script host reads scripts InUse fine cause = tt
read_cause command list script host reads scripts Read fine cause = if_told _ (Rose reads.before reads.after) list fine (cause refl)
read_cause command list script host reads scripts Write fine cause = tt
read_cause command list script host reads scripts Device fine cause = tt
read_cause command list script host reads scripts Memory fine cause = tt

-- a script over a new store, or two scripts
pub script_read_cause : (command : Option PlainCommand) (list script : Option (List ℕ)) (host reads scripts : BeforeAfter ℕ) (status : Status) → IfSome list (λ bytes. IsOk (list_of bytes))
    → ScriptCounts status scripts → ReadCause command status list script host reads scripts
script_read_cause command list script host reads scripts status fine counts =
    read_cause command list script host reads scripts status fine (λ is. inl (subst (λ s. ScriptCounts s scripts) is counts))

-- the store of a path
pub replay_device : (list store : List ℕ) (batch checkpoint start : ℕ) (stores : BeforeAfter ℕ) (status : Status) → StoreCounts status stores → DeviceCounts (Some (Replay list (Some store) batch checkpoint start)) status stores
replay_device list store batch checkpoint start stores Done rose = tt
replay_device list store batch checkpoint start stores Usage rose = tt
replay_device list store batch checkpoint start stores (Script why) rose = tt
replay_device list store batch checkpoint start stores (ListStatus why) rose = tt
replay_device list store batch checkpoint start stores (Store why) rose = tt
replay_device list store batch checkpoint start stores Read rose = tt
replay_device list store batch checkpoint start stores InUse rose = tt
replay_device list store batch checkpoint start stores Write rose = tt
replay_device list store batch checkpoint start stores Device rose = rose
replay_device list store batch checkpoint start stores Memory rose = tt

-- ---- what the host told before the list was read

module _ (start batch checkpoint : ℕ) (taken : BeforeAfter (Option (List ℕ))) (counts : BeforeAfter ℕ) (old mid after : Images) (same : SameImages old mid) where
  pub ran_before : (e : Ending) (list : RuleList) (steps : List _) → RanOverStore start batch checkpoint taken counts mid after e list steps → RanOverStore start batch checkpoint taken counts old after e list steps
  ran_before e list steps ran = record { file = ran.file; found = same.no_more ran.file ran.found; wrote = ran.wrote; refused = ran.refused; limit = ran.limit; tidy = ran.tidy }

  pub stored_before : (tells told : Bool) → told ≡ tells → (e : Ending) (list : RuleList) (script : PlainScript) → RanStored start batch checkpoint taken counts told mid after e list script → RanStored start batch checkpoint taken counts tells old after e list script
  stored_before tells told is e list script ran = ((λ tell. ran_before e list _ (ran.0 (is ∙ tell))), ran.1)

pub images_before : (old mid new : Images) → SameImages old mid → SameImages mid new → SameImages old new
images_before old mid new first then = record {
  no_more = λ file is. first.no_more file (then.no_more file is);
  no_fewer = λ file is. then.no_fewer file (first.no_fewer file is);
}

pub others_before : (path : List ℕ) (old mid new : List ℕ → Images) → LeavesStores old mid → LeavesOtherStores path mid new → LeavesOtherStores path old new
others_before path old mid new first then other apart = images_before (old other) (mid other) (new other) (first other) (then other apart)

-- and nothing was done
pub alone_before : (taken : BeforeAfter (Option (List ℕ))) (old mid new : Images) → SameImages old mid → LeftAlone taken mid new → LeftAlone taken old new
alone_before taken old mid new first nothing = (nothing.0, images_before old mid new first nothing.1)

-- lists that stand as they stood when the list was read
pub lists_before : (path : List ℕ) (old mid new : List ℕ → Option (List ℕ)) → LeavesOthers path old mid → new ≡ mid → LeavesOthers path old new
lists_before path old mid new first then other apart = ap (λ lists. lists other) then ∙ first other apart

-- no call failed at a list that was opened
pub never_failed : {T : Type 0} (reads : BeforeAfter ℕ) → reads.after ≡ reads.before → ListFailed reads → T
never_failed reads same failed =
    let never : ⊥ = omega (arith, failed, same) in
    absurd never
