-- What a body is after row changes were written behind it, and were kept or cut off.
use Rattle.std.proofs.Common.{◌≡◌, ◌∙◌, sym, ap, subst, ℕ, List, [], length, take, Result, Ok, Err, OnOk, OnErr, ◌⊎◌, ◌<◌}
use Rattle.std.proofs.Math.Seq.{take-append_seam}
use Rattle.std.proofs.lemmas.List.{append-nil}
use Rattle.agent_base.specs.declared.refusals.NoMemory.{NoMemory}
use Rattle.row_changes.specs.Appended.{Appends, IsAppended}
use Rattle.row_changes.specs.Body.{durable_bytes}
use Rattle.row_changes.specs.Change.{PlainChange}
use Rattle.agent_memory.specs.Body.{IsRefused}

-- what was there is left where the bytes are cut back to it
pub cut_back : (changes : List PlainChange) (before after : List ℕ) (written : Result (Unit {0}) NoMemory)
    → Appends changes before after written → take (length before) after ≡ before
cut_back changes before after (Ok u) appended = ap (take (length before)) appended.0
    ∙ take-append_seam before (durable_bytes changes)
cut_back changes before after (Err why) front = ap (take (length before)) front.1 ∙ take-append_seam before front.0

-- what was written is appended where it is kept, and what was there is left where it is not
pub kept_is : (changes : List PlainChange) (before after left : List ℕ)
    (written result : Result (Unit {0}) NoMemory) → Appends changes before after written
    → OnOk result ((written ≡ Ok tt) × (left ≡ after)) → OnErr result (left ≡ take (length before) after)
    → Appends changes before left result
kept_is changes before after left written (Ok u) writes same cut =
    subst (IsAppended changes before) (sym same.1) (subst (Appends changes before after) same.0 writes)
kept_is changes before after left written (Err why) writes same cut =
    ([], cut ∙ cut_back changes before after written writes ∙ sym (append-nil before))

-- a body of which what was written is not kept was refused
pub refused_is : (changes : List PlainChange) (before after left : List ℕ) (limit was now : ℕ)
    (written result : Result (Unit {0}) NoMemory) → Appends changes before after written
    → OnErr result (left ≡ take (length before) after) → OnErr result ((now ≡ was) ⊎ (limit < now))
    → OnErr result (IsRefused (record { bytes = before; limit = limit; wanted = was })
    (record { bytes = left; limit = limit; wanted = now }))
refused_is changes before after left limit was now written (Ok u) writes cut wanted = tt
refused_is changes before after left limit was now written (Err why) writes cut wanted =
    record { bytes = cut ∙ cut_back changes before after written writes; wanted = wanted }
