-- Row changes: what is read is what was written, and what was written is read again.
use Rattle.std.proofs.Common.{◌≡◌, ℕ, zero, suc, ◌<◌, List, [], ◌∷◌, ◌++◌, Some, None, refl, sym, ap, subst, ◌∙◌, arith}
use Rattle.std.proofs.lemmas.Option.{none-some}
use Rattle.storage_key.specs.Key.{PlainKey}
use Rattle.stored_cookie.specs.StoredCookie.{PlainCookie}
use Rattle.cookie_jar.specs.Key.{PlainKey as PlainCell}
use Rattle.row_changes.specs.Change.{PlainChange, AreaPut, AreaRemove, AreaClear, SetMode}
use Rattle.row_changes.specs.Change.{CookieInsert, CookieReplace, CookieRemove, Grant}
use Rattle.row_changes.specs.Fields.{both, byte_at, text_at, text_bytes}
use Rattle.row_changes.specs.Spelling.{key_bytes, cell_bytes, change_bytes}
use Rattle.row_changes.specs.Spelled.{IsText, IsKey, IsNamed, IsSpelled}
use Rattle.row_changes.specs.Reading.{key_at, cell_at, change_behind, change_at}
use Rattle.row_changes.proofs.FieldLaws.{IsBytes, differs, Reads, Takes, respelled, both_reads, built_takes, built_again, byte_reads, text_reads}
use Rattle.row_changes.proofs.RowLaws.{key_reads, cell_reads}
use Rattle.row_changes.proofs.CookieLaws.{placed_reads, grant_reads}

-- ---- what is behind the codes

named_reads : Reads (both key_at text_at) (λ p. key_bytes p.0 ++ text_bytes p.1) (λ p. IsKey p.0 × IsText p.1)
named_reads = both_reads key_reads text_reads

pair_reads : Reads (both (both key_at text_at) text_at) (λ p. key_bytes p.0.0 ++ text_bytes p.0.1 ++ text_bytes p.1)
    (λ p. (IsKey p.0.0 × IsText p.0.1) × IsText p.1)
pair_reads =
    respelled (λ p. key_bytes p.0.0 ++ text_bytes p.0.1 ++ text_bytes p.1) (λ p. refl)
    (both_reads named_reads text_reads)

place_reads : Reads (both cell_at byte_at) (λ p. cell_bytes p.0 ++ p.1 ∷ []) (λ p. IsNamed p.0 × (p.1 < 256))
place_reads = both_reads cell_reads byte_reads

abbrev put_of : (PlainKey × List ℕ) × List ℕ → PlainChange
put_of p = AreaPut p.0.0 p.0.1 p.1

abbrev remove_of : PlainKey × List ℕ → PlainChange
remove_of p = AreaRemove p.0 p.1

abbrev insert_of : (PlainCell × ℕ) × PlainCookie → PlainChange
insert_of p = CookieInsert p.0.0 p.0.1 p.1

abbrev replace_of : (PlainCell × ℕ) × PlainCookie → PlainChange
replace_of p = CookieReplace p.0.0 p.0.1 p.1

abbrev cookie_remove_of : PlainCell × ℕ → PlainChange
cookie_remove_of p = CookieRemove p.0 p.1

-- what was written is read again
pub change_again : (change : PlainChange) (rest : List ℕ) → IsSpelled change → change_at (change_bytes change ++ rest) ≡ Some (change, rest)
unfolding change_at
change_again (AreaPut key name value) rest h = built_again put_of pair_reads ((key, name), value) rest ((h.0, h.1), h.2)
change_again (AreaRemove key name) rest h = built_again remove_of named_reads (key, name) rest (h.0, h.1)
change_again (AreaClear key) rest h = built_again AreaClear key_reads key rest h
change_again (SetMode key) rest h = built_again SetMode key_reads key rest h
change_again (CookieInsert cell place c) rest h = built_again insert_of placed_reads ((cell, place), c) rest (((h.0, h.1), h.2), h.3)
change_again (CookieReplace cell place c) rest h = built_again replace_of placed_reads ((cell, place), c) rest (((h.0, h.1), h.2), h.3)
change_again (CookieRemove cell place) rest h = built_again cookie_remove_of place_reads (cell, place) rest (h.0, h.1)
change_again (Grant row) rest h = built_again Grant grant_reads row rest h

-- what a row change took from the front of bytes
abbrev pub TakesChange : List ℕ → PlainChange → List ℕ → Type 0
TakesChange bytes change rest = Takes change_bytes IsSpelled bytes change rest

-- a row change that is built of the fields behind its code
built_change : {A : Type 0} {w : A → List ℕ} {P : A → Type 0} (code : ℕ) (build : A → PlainChange) (bytes : List ℕ) (change : PlainChange) (rest : List ℕ)
    → ((a : A) → code ∷ w a ≡ change_bytes (build a)) → ((a : A) → P a → IsSpelled (build a))
    → (a : A) × (build a ≡ change) × Takes w P bytes a rest → TakesChange (code ∷ bytes) change rest
built_change code build bytes change rest spelled is b =
    let whole : code ∷ bytes ≡ change_bytes (build b.0) ++ rest = ap (λ (l : List ℕ). code ∷ l) b.2.parts ∙ ap (λ (l : List ℕ). l ++ rest) (spelled b.0) in
    subst (λ c. TakesChange (code ∷ bytes) c rest) b.1 (record { is = is b.0 b.2.is; parts = whole; rest_bytes = b.2.rest_bytes })

behind_takes : (code : ℕ) (bytes : List ℕ) (change : PlainChange) (rest : List ℕ) → IsBytes bytes → change_behind code bytes ≡ Some (change, rest)
    → TakesChange (code ∷ bytes) change rest
behind_takes zero bytes change rest fits e = absurd (none-some _ e)
behind_takes (suc zero) bytes change rest fits e =
    built_change 1 put_of bytes change rest (λ p. refl) (λ p h. (h.0.0, h.0.1, h.1)) (built_takes put_of pair_reads bytes change rest fits e)
behind_takes (suc (suc zero)) bytes change rest fits e =
    built_change 2 remove_of bytes change rest (λ p. refl) (λ p h. h) (built_takes remove_of named_reads bytes change rest fits e)
behind_takes (suc (suc (suc zero))) bytes change rest fits e =
    built_change 3 AreaClear bytes change rest (λ p. refl) (λ p h. h) (built_takes AreaClear key_reads bytes change rest fits e)
behind_takes (suc (suc (suc (suc zero)))) bytes change rest fits e =
    built_change 4 SetMode bytes change rest (λ p. refl) (λ p h. h) (built_takes SetMode key_reads bytes change rest fits e)
behind_takes (suc (suc (suc (suc (suc zero))))) bytes change rest fits e =
    built_change 5 insert_of bytes change rest (λ p. refl) (λ p h. (h.0.0.0, h.0.0.1, h.0.1, h.1)) (built_takes insert_of placed_reads bytes change rest fits e)
behind_takes (suc (suc (suc (suc (suc (suc zero)))))) bytes change rest fits e =
    built_change 6 replace_of bytes change rest (λ p. refl) (λ p h. (h.0.0.0, h.0.0.1, h.0.1, h.1)) (built_takes replace_of placed_reads bytes change rest fits e)
behind_takes (suc (suc (suc (suc (suc (suc (suc zero))))))) bytes change rest fits e =
    built_change 7 cookie_remove_of bytes change rest (λ p. refl) (λ p h. h) (built_takes cookie_remove_of place_reads bytes change rest fits e)
behind_takes (suc (suc (suc (suc (suc (suc (suc (suc zero)))))))) bytes change rest fits e =
    built_change 8 Grant bytes change rest (λ p. refl) (λ p h. h) (built_takes Grant grant_reads bytes change rest fits e)
behind_takes (suc (suc (suc (suc (suc (suc (suc (suc (suc n))))))))) bytes change rest fits e =
    let m = suc (suc (suc (suc (suc (suc (suc (suc (suc n)))))))) in
    let none : change_behind m bytes ≡ None =
    rw (differs m 1 (omega arith), differs m 2 (omega arith), differs m 3 (omega arith), differs m 4 (omega arith), differs m 5 (omega arith), differs m 6 (omega arith), differs m 7 (omega arith), differs m 8 (omega arith)) refl in
    absurd (none-some (change, rest) (sym none ∙ e))

pub change_takes : (bytes : List ℕ) (change : PlainChange) (rest : List ℕ) → IsBytes bytes → change_at bytes ≡ Some (change, rest)
    → TakesChange bytes change rest
unfolding change_at
change_takes [] change rest fits e = absurd (none-some _ e)
change_takes (code ∷ bytes) change rest fits e = behind_takes code bytes change rest (λ i. fits (suc i)) e

pub change_reads : Reads change_at change_bytes IsSpelled
change_reads = record { again = change_again; takes = change_takes }
