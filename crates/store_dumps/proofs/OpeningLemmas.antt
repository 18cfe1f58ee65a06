-- An opening, apart from what it gives.
use Rattle.std.proofs.Common.{◌≡◌, inl, inr, ⊎_elim, refl, sym, ap, subst, ◌∙◌, Result, Ok, Err}
use Rattle.std.specs.Prelude.{MatchResult, unwrap_or, ⊤}
use Rattle.std.specs.Result.{result_err}
use Rattle.disk_model.specs.Disk.{View}
use Rattle.journal.specs.Opening.{Opens}
use Rattle.journal.specs.declared.open_fault.OpenFault.{OpenFault}
use Rattle.journal.specs.declared.open_fault.OpenFault.TheVariants.{DeviceFault}
use Rattle.suffix_list.specs.ListText.{RuleList}
use Rattle.row_opening.proofs.Calls.{makes_err, makes_ok}
use Rattle.store_dumps.specs.Opening.{OpensStore, opened}

-- what was given is no refusal
given_is : {T E : Type 0} (x : T) (why : E) → Ok x ≡ Err why → ⊥
given_is x why is = subst (λ r. MatchResult r (λ _. ⊤) (λ _. ⊥)) is tt

-- the same refusal, of calls that give different things
refusal_is : {T U E : Type 0} (why again : E) (r : Result U E) (s : Result T E) → r ≡ Err why → s ≡ Err why
    → r ≡ Err again → s ≡ Err again
refusal_is why again r s one two is = two ∙ ap (λ w. Err w) (ap (λ q. unwrap_or (result_err q) why) (sym one ∙ is))

opens_as : {T : Type 0} (old new : View) (result : Result T OpenFault) → Opens result old new → Opens (opened result) old new
opens_as old new (Ok x) o = record {
  tells = o.tells;
  later = o.later;
  counted = λ is. absurd (given_is tt DeviceFault is);
  failed = λ is. absurd (given_is tt DeviceFault is);
  only = ⊎_elim (λ is. absurd (given_is x DeviceFault is)) (λ none. inr none) o.only;
  ok = o.ok;
}
opens_as {T} old new (Err why) o = record {
  tells = o.tells;
  later = o.later;
  counted = λ is. o.counted (refusal_is why DeviceFault (opened {T = T} (Err why)) (Err why) refl refl is);
  failed = λ is. o.failed (refusal_is why DeviceFault (opened {T = T} (Err why)) (Err why) refl refl is);
  only = ⊎_elim (λ is. inl (refusal_is why DeviceFault (Err why) (opened {T = T} (Err why)) refl refl is))
      (λ none. inr none) o.only;
  ok = o.ok;
}

module _ {T : Type 0} (list : RuleList) (old new : View) where
  pub opened_as : (result : Result T OpenFault) → OpensStore list old new result → OpensStore list old new (opened result)
  opened_as (Ok x) o = record {
    refused = λ why is. absurd (given_is tt why is);
    exactly = o.exactly;
    limit = o.limit;
    excused = λ c kept d n told within means. tt;
    unchanged = λ why is. absurd (given_is tt why is);
    images = λ why is. absurd (given_is tt why is);
    device = opens_as old new (Ok x) o.device;
    settled = o.settled;
    calls = λ c told. makes_ok list c x tt old new (o.calls c told);
    any_moment = o.any_moment;
  }
  opened_as (Err why) o = record {
    refused = λ again is. o.refused again (refusal_is why again (opened {T = T} (Err why)) (Err why) refl refl is);
    exactly = o.exactly;
    limit = o.limit;
    excused = o.excused;
    unchanged = λ again is. o.unchanged again (refusal_is why again (opened {T = T} (Err why)) (Err why) refl refl is);
    images = λ again is. o.images again (refusal_is why again (opened {T = T} (Err why)) (Err why) refl refl is);
    device = opens_as old new (Err why) o.device;
    settled = o.settled;
    calls = λ c told. makes_err list c why old new (o.calls c told);
    any_moment = o.any_moment;
  }
