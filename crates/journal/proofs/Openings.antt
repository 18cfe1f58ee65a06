-- What an opening leaves.
use Rattle.std.proofs.Common.{◌≡◌, inl, inr, ℕ, ◌+◌, ◌<◌, ◌≤◌, Bool, true, false, List, length, slice_index, arith, sym, ◌∙◌, ap, subst}
use Rattle.std.specs.Prelude.{◌⊎◌, Option, Some, Result, Ok, Err, IfOk, IfErr, OnOk}
use Rattle.std.proofs.lemmas.Bool.Decides.{nat_tests}
use Rattle.journal.specs.Append.{IsReady, IsSettling, settle_calls}
use Rattle.journal.specs.Store.{IsUnborn, IsOpen}
use Rattle.journal.specs.Opening.{IsOfFile, IsWithin, IsRefusal, LeavesAlone, limit}
use Rattle.journal.specs.ReaderAnswers.{IsStoreRefusal, behind_sync}
use Rattle.journal.specs.declared.open_fault.OpenFault.{OpenFault}
use Rattle.journal.specs.declared.open_fault.OpenFault.TheVariants.{DeviceFault, NotAStore, TooLarge, NoMemory}

pub if_all : {T E : Type 0} (r : Result T E) (A B Q : T → Type 0) (C : Type 0) → IfOk r A → IfOk r B → OnOk r C → ((v : T) → A v → B v → C → Q v) → IfOk r Q
if_all (Ok v) A B Q C a b c to = to v a b c
if_all (Err e) A B Q C a b c to = tt

-- a new store takes the calls that make its file ready, and four
pub unborn_calls : (file : List ℕ) → IsUnborn file → behind_sync file ≡ settle_calls file + 4
unborn_calls file (inl short) = grind (arith, nat_tests, short)
unborn_calls file (inr shut) = grind (arith, nat_tests, shut)

-- meanwhile the file stays unborn
pub settling : (old new : List ℕ) → IsUnborn old → IsSettling old new → IsUnborn new
settling old new unborn (inl same) = subst (λ (f : List ℕ). IsUnborn f) (sym same) unborn
settling old new unborn (inr short) = inl short.1

-- and then its first byte is there, and is 0
pub ready_place : (old new : List ℕ) → IsUnborn old → IsReady old new → (1 ≤ length new) × (slice_index new 0 ≡ 0)
ready_place old new (inl short) (inl long) = absurd (omega (arith, short, long.0))
ready_place old new (inr shut) (inl long) = (omega (arith, long.0, ap length long.1), ap (λ (l : List ℕ). slice_index l 0) long.1 ∙ shut)
ready_place old new unborn (inr short) = (omega (arith, short.1), short.2)

-- why a born file is refused
module _ {S : Type 0} (takes : S → Bool → List ℕ → S → ℕ → Type 0) (refuses : S → Bool → List ℕ → ℕ → Type 0) (empty : S) (file : List ℕ) where
  no_limit : IsWithin false file
  no_limit on = absurd (cc)

  store_refusal : IsOpen file 0 → 1 < length file → (why : OpenFault) → IsStoreRefusal takes refuses empty file why → IsRefusal takes refuses empty false file why
  store_refusal gate long DeviceFault is = tt
  store_refusal gate long NoMemory is = tt
  store_refusal gate long (NotAStore offset) is = (no_limit, gate, long, is)
  store_refusal gate long (TooLarge len) is = absurd is

  pub born_refusal : IsOpen file 0 → 1 < length file → (why : OpenFault) → (why ≡ DeviceFault) ⊎ IsStoreRefusal takes refuses empty file why → IsRefusal takes refuses empty false file why
  born_refusal gate long why (inl device) = subst (λ (w : OpenFault). IsRefusal takes refuses empty false file w) (sym device) tt
  born_refusal gate long why (inr is) = store_refusal gate long why is

  -- and one that may be looked at under a limit
  pub limited_refusal : (limited : Bool) → IsWithin limited file → (why : OpenFault) → IsRefusal takes refuses empty false file why → IsRefusal takes refuses empty limited file why
  limited_refusal limited within DeviceFault is = tt
  limited_refusal limited within NoMemory is = tt
  limited_refusal limited within (NotAStore offset) is = (within, is.1, is.2, is.3)
  limited_refusal limited within (TooLarge len) is = absurd (let e = is.0 in cc)

pub within_limit : (limited : Bool) (len : ℕ) (file : List ℕ) → ((limited ≡ true) × (len ≤ limit)) ⊎ (limited ≡ false) → len ≡ length file → IsWithin limited file
within_limit limited len file (inr off) is on = absurd (true_false limited on off)
  where
    true_false : (b : Bool) → b ≡ true → b ≡ false → ⊥
    true_false b is not = cc
within_limit limited len file (inl le) is on = omega (arith, le.1)

pub err_of : {T E : Type 0} (r : Result T E) (P : E → Type 0) → IfErr r P → (e : E) → r ≡ Err e → P e
err_of (Ok v) P holds e is = absurd (cc)
err_of (Err w) P holds e is = let same : w ≡ e = cc in subst P same holds

pub if_then : {T E : Type 0} (r : Result T E) (P Q : T → Type 0) → ((v : T) → P v → Q v) → IfOk r P → IfOk r Q
if_then (Ok v) P Q to p = to v p
if_then (Err e) P Q to p = tt

-- what holds of each told file
pub if_told : {T E : Type 0} (r : Result T E) (old : Option (List ℕ)) (P : List ℕ → T → Type 0) → ((c : List ℕ) → old ≡ Some c → IfOk r (P c)) → IfOk r (λ v. (c : List ℕ) → old ≡ Some c → P c v)
if_told (Ok v) old P each = each
if_told (Err e) old P each = tt

-- a file is refused before anything is written
pub of_file_alone : (why : OpenFault) → IsOfFile why → LeavesAlone why
of_file_alone DeviceFault of_file = of_file
of_file_alone NoMemory of_file = tt
of_file_alone (NotAStore offset) of_file = of_file
of_file_alone (TooLarge len) of_file = of_file
