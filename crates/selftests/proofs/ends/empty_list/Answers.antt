use Rattle.std.proofs.Common.{◌≡◌, ◌⊎◌, inl, inr, [], Ok, Err, ap, refl, sym, ◌∙◌, arith}
use Rattle.std.specs.Prelude.{IsErrOf, Result}
use Rattle.std.specs.Str.{chars, is_utf8}
use Rattle.agent_base.specs.Counts.{Rose}
use Rattle.sha2.specs.Sha256.{sha256}
use Rattle.suffix_list.specs.ListText.{RuleList, list_of}
use Rattle.suffix_list.specs.declared.fault.ListFault.{ListFault}
use Rattle.suffix_list.specs.declared.fault.ListFault.TheVariants.{NoMemory, ReadFault}
use Rattle.selftests.proofs.ends.empty_list.Goals as goal

no_rules : list_of [] ≡ Ok (record { rules = []; digest = sha256 [] })
unfolding chars is_utf8
no_rules = refl

differ : {T E : Type 0} (value : T) (why : E) → ◌≡◌ {A = Result T E} (Ok value) (Err why) → ⊥
differ value why is = cc

-- no other fault can come
memory_alone : (why : ListFault) → (why ≡ NoMemory) ⊎ ((why ≡ ReadFault) ⊎ (list_of [] ≡ Err why))
    → (IsErrOf {T = RuleList} (Err why) ReadFault → Rose 0 0) → why ≡ NoMemory
memory_alone why (inl is) read = is
memory_alone why (inr (inl is)) read =
    let rose : Rose 0 0 = read (ap Err is) in
    absurd (omega (arith, rose))
memory_alone why (inr (inr fault)) read = absurd (differ (record { rules = []; digest = sha256 [] }) why (sym no_rules ∙ fault))

pub memory-requires : goal.memory-requires
memory-requires c = record { memory = memory_alone c.in-Err.fault c.in-Err.ensures.answer c.in-Err.ensures.read_fault }
