-- Calls with their bytes, put behind one another.
use Rattle.std.proofs.Common.{◌≡◌, ℕ, suc, ◌+◌, ◌≤◌, List, [], ◌∷◌, ◌++◌, length, take, drop, arith, refl, sym, ◌∙◌, ap, length-drop}
use Rattle.std.specs.Prelude.{IsTrue, nat_eq, Result, Ok, Err, IsOk, is_ok, if◌then◌else◌}
use Rattle.std.proofs.Common.{get_or, ◌<◌}
use Rattle.std.proofs.Math.Seq.{drop-cons}
use Rattle.std.proofs.lemmas.Bool.Decides.{nat_tests}
use Rattle.std.proofs.lemmas.List.{take-append-le, drop-append-le, take_all, drop_all}
use Rattle.disk_model.specs.History.{Event, wrote, synced}
use Rattle.carried_disk.specs.declared.call_list.ListedCall.{ListedCall}
use Rattle.carried_disk.specs.declared.call_list.ListedCall.TheVariants as listed
use Rattle.carried_disk.specs.CallBuffers.{events_of, written}

pub written_push : (calls : List ListedCall) (c : ListedCall) → written (calls ++ c ∷ []) ≡ written calls + written (c ∷ [])
written_push [] c = omega arith
written_push (listed.Write at len ∷ calls) c = omega (arith, written_push calls c)
written_push (listed.Sync ∷ calls) c = written_push calls c

-- one write more
pub events_write : (calls : List ListedCall) (bytes : List ℕ) (at : ℕ) (new : List ℕ) → written calls ≡ length bytes
    → events_of (calls ++ listed.Write at (length new) ∷ []) (bytes ++ new) ≡ events_of calls bytes ++ wrote at new ∷ []
events_write [] [] at new is = ap (λ (l : List ℕ). wrote at l ∷ []) (take_all (length new) new (omega arith))
events_write [] (b ∷ bytes) at new is = absurd (omega (arith, is))
events_write (listed.Write at' len ∷ calls) bytes at new is =
    let fits : len ≤ length bytes = omega (arith, is) in
    let rest : written calls ≡ length (drop len bytes) = omega (arith, is, length-drop len bytes) in
    ap (λ (l : List ℕ). wrote at' l ∷ events_of (calls ++ listed.Write at (length new) ∷ []) (drop len (bytes ++ new))) (take-append-le len bytes new fits)
    ∙ ap (λ (l : List ℕ). wrote at' (take len bytes) ∷ events_of (calls ++ listed.Write at (length new) ∷ []) l) (drop-append-le len bytes new fits)
    ∙ ap (λ (l : List Event). wrote at' (take len bytes) ∷ l) (events_write calls (drop len bytes) at new rest)
events_write (listed.Sync ∷ calls) bytes at new is = ap (λ (l : List Event). synced ∷ l) (events_write calls bytes at new is)

-- one sync more
pub events_sync : (calls : List ListedCall) (bytes : List ℕ) → events_of (calls ++ listed.Sync ∷ []) bytes ≡ events_of calls bytes ++ synced ∷ []
events_sync [] bytes = refl
events_sync (listed.Write at len ∷ calls) bytes = ap (λ (l : List Event). wrote at (take len bytes) ∷ l) (events_sync calls (drop len bytes))
events_sync (listed.Sync ∷ calls) bytes = ap (λ (l : List Event). synced ∷ l) (events_sync calls bytes)

-- none is left where none is listed, and nowhere else
pub events_none : (calls : List ListedCall) (bytes : List ℕ) → events_of calls bytes ≡ [] → calls ≡ []
events_none [] bytes is = refl
events_none (listed.Write at len ∷ calls) bytes is = cc
events_none (listed.Sync ∷ calls) bytes is = cc

pub none_left : (calls : List ListedCall) (bytes : List ℕ) (next from len : ℕ) → len ≡ length calls → IsTrue (nat_eq next len) → events_of (drop next calls) (drop from bytes) ≡ []
none_left calls bytes next from len is e =
    let all : next ≡ len = at_end next len e in
    ap (λ (l : List ListedCall). events_of l (drop from bytes)) (drop_all next calls (omega (arith, all, is)))
  where
    at_end : (m n : ℕ) → IsTrue (nat_eq m n) → m ≡ n
    at_end m n t = grind (arith, nat_tests, t)

pub left_none : (calls : List ListedCall) (bytes : List ℕ) (next from len : ℕ) → len ≡ length calls → next ≤ len → events_of (drop next calls) (drop from bytes) ≡ [] → IsTrue (nat_eq next len)
left_none calls bytes next from len is le none =
    let dropped : length (drop next calls) ≡ 0 = ap length (events_none (drop next calls) (drop from bytes) none) in
    at_end next len (omega (arith, is, le, dropped, length-drop next calls))
  where
    at_end : (m n : ℕ) → m ≡ n → IsTrue (nat_eq m n)
    at_end m n t = grind (arith, nat_tests, t)

pub is_extended : {E : Type 0} (r : Result (Unit {0}) E) (old more new : List ℕ) → new ≡ (if is_ok r then old ++ more else old) → IsOk r → new ≡ old ++ more
is_extended (Ok v) old more new is ok = is
is_extended (Err e) old more new is ok = cc

-- the call at a place, and those behind it
pub listed_next : (calls : List ListedCall) (next : ℕ) (call : ListedCall) → next < length calls → call ≡ get_or calls next call → drop next calls ≡ call ∷ drop (suc next) calls
listed_next calls next call below is = drop-cons calls next call below ∙ ap (λ (x : ListedCall). x ∷ drop (suc next) calls) (sym is)
