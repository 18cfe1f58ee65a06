-- Pieces of a body: each takes a byte at least, so what is left of a body has the pieces to come.
use Rattle.std.proofs.Common.{◌≡◌, ℕ, zero, suc, ◌+◌, ◌<◌, ◌≤◌, Bool, true, false, cond, ltb, List, [], ◌∷◌, length, take, drop, Option, Some, None, refl, sym, ap, ◌∙◌, arith, inl, inr, ◌⊎◌}
use Rattle.std.specs.Prelude.{not, ◌&&◌, ◌==◌, nat_lt}
use Rattle.std.specs.Int.{Width, w32, w64, byte_len, from_le_bytes, cast_signed}
use Rattle.std.specs.Result.{result_ok}
use Rattle.std.specs.Str.{is_utf8}
use Rattle.std.proofs.lemmas.Bool.{ltb-false}
use Rattle.std.proofs.lemmas.List.{length-drop}
use Rattle.std.proofs.lemmas.Option.{none-some, same_Some}
use Rattle.origin_site.specs.Site.{site_of_text}
use Rattle.cookie_jar.specs.Key.{OwnCell, PartitionCell}
use Rattle.row_changes.specs.Change.{PlainChange, AreaPut, AreaRemove, AreaClear, SetMode}
use Rattle.row_changes.specs.Change.{CookieInsert, CookieReplace, CookieRemove, Grant}
use Rattle.row_changes.specs.Fields.{both, made, passing, nothing_at, byte_at, number_at, bytes_at, text_at, bit_of, bit_at, signed_at}
use Rattle.row_changes.specs.Names.{origin_of_text, is_host}
use Rattle.row_changes.specs.Spelled.{suits}
use Rattle.row_changes.specs.Reading.{key_of, flags_of, same_site_of, cookie_of, answer_of, grant_of}
use Rattle.row_changes.specs.Reading.{origin_at, site_at, domain_at, key_at, cell_behind, cell_at, flags_at, same_site_at, texts_at, marks_at, cookie_at, placed_at, grant_at}
use Rattle.row_changes.specs.Reading.{change_behind, change_at}
use Rattle.row_changes.specs.Body.{PlainPiece, PlainProgress, count_at, begun, rowed, is_over, next_piece, pieces_within, pieces_from}
use Rattle.row_changes.proofs.FieldLaws.{second_is, cond_none, and_then_some, made_some, both_some}

-- ---- what a field leaves is no longer than what it was read from

abbrev Keeps : {A : Type 0} → (List ℕ → Option (A × List ℕ)) → Type 0
Keeps {A} f = (bytes : List ℕ) (a : A) (rest : List ℕ) → f bytes ≡ Some (a, rest) → length rest ≤ length bytes

keeps_both : {A B : Type 0} {f : List ℕ → Option (A × List ℕ)} {g : List ℕ → Option (B × List ℕ)} → Keeps f → Keeps g → Keeps (both f g)
keeps_both {f = f} {g = g} k l bytes p rest e =
    let b = both_some f g bytes p rest e in
    let first : length b.0 ≤ length bytes = k bytes p.0 b.0 b.1 in
    let second : length rest ≤ length b.0 = l b.0 p.1 rest b.2 in
    omega (arith, first, second)

keeps_made : {A B : Type 0} {f : List ℕ → Option (A × List ℕ)} (meaning : A → Option B) → Keeps f → Keeps (made meaning f)
keeps_made {f = f} meaning k bytes b rest e =
    let m = made_some meaning f bytes b rest e in
    k bytes m.0 rest m.1

keeps_if : {A : Type 0} {f g : List ℕ → Option (A × List ℕ)} (b : Bool) → Keeps f → Keeps g → Keeps (cond b f g)
keeps_if true k l = k
keeps_if false k l = l

keeps_nothing : {A : Type 0} → Keeps (nothing_at {A = A})
keeps_nothing bytes a rest e = absurd (none-some _ e)

keeps_byte : Keeps byte_at
keeps_byte [] b rest e = absurd (none-some _ e)
keeps_byte (x ∷ xs) b rest e =
    let same : xs ≡ rest = second_is (same_Some (x, xs) (b, rest) e) in
    rw (← same) (omega arith)

number_left : (w : Width) (bytes : List ℕ) (n : ℕ) (rest : List ℕ) → number_at w bytes ≡ Some (n, rest) → length rest + byte_len w ≡ length bytes
number_left w bytes n rest e =
    let g = cond_none (ltb (length bytes) (byte_len w)) (Some (from_le_bytes w (take (byte_len w) bytes), drop (byte_len w) bytes)) (n, rest) e in
    let same : drop (byte_len w) bytes ≡ rest = second_is (same_Some (from_le_bytes w (take (byte_len w) bytes), drop (byte_len w) bytes) (n, rest) g.1) in
    let long : byte_len w ≤ length bytes = ltb-false _ _ g.0 in
    rw (← same) (omega (arith, length-drop (byte_len w) bytes))

keeps_number : (w : Width) → Keeps (number_at w)
keeps_number w bytes n rest e =
    let left : length rest + byte_len w ≡ length bytes = number_left w bytes n rest e in
    omega (arith, left)

keeps_bytes : (count : ℕ) → Keeps (bytes_at count)
keeps_bytes count bytes text rest e =
    let g = cond_none (ltb (length bytes) count) (Some (take count bytes, drop count bytes)) (text, rest) e in
    let same : drop count bytes ≡ rest = second_is (same_Some (take count bytes, drop count bytes) (text, rest) g.1) in
    rw (← same) (omega (arith, length-drop count bytes))

keeps_text : Keeps text_at
unfolding text_at
keeps_text bytes text rest e =
    let c = and_then_some (λ count. made (passing is_utf8) (bytes_at count.0) count.1) (number_at w32 bytes) (text, rest) e in
    let first : length c.0.1 ≤ length bytes = keeps_number w32 bytes c.0.0 c.0.1 c.1 in
    let second : length rest ≤ length c.0.1 = keeps_made (passing is_utf8) (keeps_bytes c.0.0) c.0.1 text rest c.2 in
    omega (arith, first, second)

keeps_bit_field : Keeps bit_at
unfolding bit_at
keeps_bit_field = keeps_made bit_of keeps_byte

keeps_signed : Keeps signed_at
unfolding signed_at
keeps_signed = keeps_made (λ n. Some (cast_signed w64 n)) (keeps_number w64)

keeps_site : Keeps site_at
unfolding site_at
keeps_site = keeps_made (λ text. result_ok (site_of_text text)) keeps_text

keeps_domain : Keeps domain_at
unfolding domain_at
keeps_domain = keeps_made (passing is_host) keeps_text

keeps_key : Keeps key_at
unfolding key_at origin_at
keeps_key =
    keeps_made (λ parts. Some (key_of parts))
    (keeps_both (keeps_both (keeps_made origin_of_text keeps_text) keeps_site) keeps_bit_field)

keeps_cell_behind : (kind : ℕ) → Keeps (cell_behind kind)
keeps_cell_behind kind =
    keeps_if (kind == 0) (keeps_made (λ domain. Some (OwnCell domain)) keeps_domain)
    (keeps_if (kind == 1)
    (keeps_made (λ parts. Some (PartitionCell parts.0.0 parts.0.1 parts.1)) (keeps_both (keeps_both keeps_site keeps_bit_field) keeps_domain))
    keeps_nothing)

keeps_cell : Keeps cell_at
unfolding cell_at
keeps_cell [] cell rest e = absurd (none-some _ e)
keeps_cell (kind ∷ bytes) cell rest e =
    let left : length rest ≤ length bytes = keeps_cell_behind kind bytes cell rest e in
    omega (arith, left)

keeps_cookie : Keeps cookie_at
unfolding cookie_at texts_at marks_at flags_at same_site_at
keeps_cookie =
    keeps_made (λ parts. Some (cookie_of parts))
    (keeps_both (keeps_both (keeps_both (keeps_both keeps_text keeps_text) keeps_text) keeps_text)
    (keeps_both (keeps_both (keeps_both (keeps_made flags_of keeps_byte) (keeps_made same_site_of keeps_byte)) keeps_signed) keeps_signed))

keeps_placed : Keeps placed_at
unfolding placed_at
keeps_placed =
    keeps_made (passing (λ placed. suits placed.0.0 placed.1)) (keeps_both (keeps_both keeps_cell keeps_byte) keeps_cookie)

keeps_grant : Keeps grant_at
unfolding grant_at
keeps_grant =
    keeps_made grant_of (keeps_both (keeps_both (keeps_both keeps_site keeps_site) (keeps_made answer_of keeps_byte)) keeps_signed)

keeps_behind : (code : ℕ) → Keeps (change_behind code)
keeps_behind code =
    keeps_if (code == 1) (keeps_made (λ p. Some (AreaPut p.0.0 p.0.1 p.1)) (keeps_both (keeps_both keeps_key keeps_text) keeps_text))
    (keeps_if (code == 2) (keeps_made (λ p. Some (AreaRemove p.0 p.1)) (keeps_both keeps_key keeps_text))
    (keeps_if (code == 3) (keeps_made (λ key. Some (AreaClear key)) keeps_key)
    (keeps_if (code == 4) (keeps_made (λ key. Some (SetMode key)) keeps_key)
    (keeps_if (code == 5) (keeps_made (λ p. Some (CookieInsert p.0.0 p.0.1 p.1)) keeps_placed)
    (keeps_if (code == 6) (keeps_made (λ p. Some (CookieReplace p.0.0 p.0.1 p.1)) keeps_placed)
    (keeps_if (code == 7) (keeps_made (λ p. Some (CookieRemove p.0 p.1)) (keeps_both keeps_cell keeps_byte))
    (keeps_if (code == 8) (keeps_made (λ row. Some (Grant row)) keeps_grant) keeps_nothing)))))))

-- ---- a count and a row change take a byte at least

pub change_shorter : (bytes : List ℕ) (change : PlainChange) (rest : List ℕ) → change_at bytes ≡ Some (change, rest) → length rest < length bytes
unfolding change_at
change_shorter [] change rest e = absurd (none-some _ e)
change_shorter (code ∷ bytes) change rest e =
    let left : length rest ≤ length bytes = keeps_behind code bytes change rest e in
    omega (arith, left)

count_shorter : (bytes : List ℕ) (count : ℕ) (rest : List ℕ) → count_at bytes ≡ Some (count, rest) → length rest < length bytes
unfolding count_at
count_shorter bytes count rest e =
    let m = made_some (passing (λ count. nat_lt 0 count)) (number_at w32) bytes count rest e in
    let left : length rest + 4 ≡ length bytes = number_left w32 bytes m.0 rest m.1 in
    omega (arith, left)

-- behind a piece less is left, or nothing is to come
abbrev Shortens : PlainProgress → PlainProgress → Type 0
Shortens p q = (length q.rest < length p.rest) ⊎ (is_over q ≡ true)

begun_shortens : (size : ℕ) (p : PlainProgress) (o : Option (ℕ × List ℕ)) → ((count : ℕ) (rest : List ℕ) → o ≡ Some (count, rest) → length rest < length p.rest)
    → Shortens p (begun size p o).1
begun_shortens size p None h = inr refl
begun_shortens size p (Some found) h = inl (h found.0 found.1 refl)

rowed_shortens : (size : ℕ) (p : PlainProgress) (o : Option (PlainChange × List ℕ)) → ((change : PlainChange) (rest : List ℕ) → o ≡ Some (change, rest) → length rest < length p.rest)
    → Shortens p (rowed size p o).1
rowed_shortens size p None h = inr refl
rowed_shortens size p (Some found) h = inl (h found.0 found.1 refl)

chosen_shortens : (p : PlainProgress) (b : Bool) (x y : PlainPiece × PlainProgress) → Shortens p x.1 → Shortens p y.1 → Shortens p (cond b x y).1
chosen_shortens p true x y h k = h
chosen_shortens p false x y h k = k

next_shortens : (snapshot : Bool) (size : ℕ) (p : PlainProgress) → Shortens p (next_piece snapshot size p).1
unfolding next_piece
next_shortens snapshot size p =
    chosen_shortens p (p.left == 0 && not snapshot) (begun size p (count_at p.rest)) (rowed size p (change_at p.rest))
    (begun_shortens size p (count_at p.rest) (λ count rest e. count_shorter p.rest count rest e))
    (rowed_shortens size p (change_at p.rest) (λ change rest e. change_shorter p.rest change rest e))

-- ---- the pieces to come

none_within : (most : ℕ) (snapshot : Bool) (size : ℕ) (p : PlainProgress) → is_over p ≡ true → pieces_within most snapshot size p ≡ []
none_within zero snapshot size p over = refl
none_within (suc most) snapshot size p over = rw over refl

-- more than the bytes that are left is always enough
enough : (m n : ℕ) (snapshot : Bool) (size : ℕ) (p : PlainProgress) → length p.rest < m → length p.rest < n
    → pieces_within m snapshot size p ≡ pieces_within n snapshot size p
enough zero n snapshot size p h k = absurd (omega arith)
enough (suc m) zero snapshot size p h k = absurd (omega arith)
enough (suc m) (suc n) snapshot size p h k =
    let next = next_piece snapshot size p in
    let q = next.1 in
    let same : pieces_within m snapshot size q ≡ pieces_within n snapshot size q =
    elim (next_shortens snapshot size p) [
      | inl less ↦ enough m n snapshot size q (omega (arith, less)) (omega (arith, less))
      | inr over ↦ none_within m snapshot size q over ∙ sym (none_within n snapshot size q over)
    ] in
    ap (λ (l : List PlainPiece). cond (is_over p) [] (next.0 ∷ l)) same

pub none_from : (snapshot : Bool) (size : ℕ) (p : PlainProgress) → is_over p ≡ true → pieces_from snapshot size p ≡ []
none_from snapshot size p over = none_within (suc (length p.rest)) snapshot size p over

-- the next piece, and those behind it
pub next_from : (snapshot : Bool) (size : ℕ) (p : PlainProgress) → is_over p ≡ false
    → pieces_from snapshot size p ≡ (next_piece snapshot size p).0 ∷ pieces_from snapshot size (next_piece snapshot size p).1
next_from snapshot size p more =
    let next = next_piece snapshot size p in
    let q = next.1 in
    let same : pieces_within (length p.rest) snapshot size q ≡ pieces_from snapshot size q =
    elim (next_shortens snapshot size p) [
      | inl less ↦ enough (length p.rest) (suc (length q.rest)) snapshot size q less (omega arith)
      | inr over ↦ none_within (length p.rest) snapshot size q over ∙ sym (none_from snapshot size q over)
    ] in
    rw more (ap (λ (l : List PlainPiece). next.0 ∷ l) same)
