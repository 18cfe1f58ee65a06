-- A field that is read is the field that was written, and what was written is read again.
use Rattle.std.proofs.Common.{◌≡◌, ℕ, zero, suc, ◌+◌, ◌^◌, ◌<◌, ◌≤◌, ℤ, Bool, true, false, cond, ltb, eqb, List, [], ◌∷◌, ◌++◌, length, get_or, take, drop, Option, Some, None, refl, sym, ap, subst, ◌∙◌, append_assoc, arith, inl, inr, ◌⊎◌}
use Rattle.std.specs.Prelude.{FitsSigned, ◌&&◌, option_and_then, option_map}
use Rattle.std.specs.Int.{Width, w32, w64, byte_len, from_le_bytes, to_le_bytes, cast_signed, cast_unsigned}
use Rattle.std.specs.Str.{is_utf8}
use Rattle.std.proofs.lemmas.Bool.{eqb-true, cases_lt, ltb-false, le-ltb, cond-true}
use Rattle.std.proofs.lemmas.Int.{to_z-of_z, of_z-to_z}
use Rattle.std.proofs.Math.Facts.{Fits-of_z, sfits_to_z}
use Rattle.std.proofs.lemmas.List.{take_at, drop_at, take-append-drop, length-append, length-take, get_or-drop, get_or-take, get_or_past}
use Rattle.std.proofs.lemmas.Nat.{le_bytes_4, le_bytes_8, from_le_bytes-to_le_bytes_4, from_le_bytes-to_le_bytes_8}
use Rattle.std.proofs.lemmas.Option.{cond_some, none-some, same_Some}
use Rattle.row_changes.specs.Fields.{Reading, both, made, passing, byte_at, number_at, signed_bytes, signed_at, text_bytes, bytes_at, text_at, bit_byte, bit_of, bit_at}
use Rattle.row_changes.specs.Spelled.{IsText}

abbrev pub IsBytes : List ℕ → Type 0
IsBytes bytes = (i : ℕ) → get_or bytes i 0 < 256

pub IsBytes-drop : (n : ℕ) (bytes : List ℕ) → IsBytes bytes → IsBytes (drop n bytes)
IsBytes-drop n bytes h i = rw get_or-drop (h (n + i))

pub IsBytes-take : (n : ℕ) (bytes : List ℕ) → IsBytes bytes → IsBytes (take n bytes)
IsBytes-take n bytes h i =
    elim (cases_lt i n) [
      | inl lt ↦ rw (get_or-take n bytes i 0 lt) (h i)
      | inr le ↦ rw (get_or_past (take n bytes) i 0 (omega (arith, length-take n bytes))) (omega arith)
    ]

-- what a field took from the front of bytes
pub record Takes {A : Type 0} (bytes_of : A → List ℕ) (Is : A → Type 0) (bytes : List ℕ) (a : A) (rest : List ℕ) : Type 0 where
  pub is : Is a
  pub parts : bytes ≡ bytes_of a ++ rest
  pub rest_bytes : IsBytes rest

-- a field reads what has this spelling, and nothing else
pub record Reads {A : Type 0} (field : List ℕ → Option (A × List ℕ)) (bytes_of : A → List ℕ) (Is : A → Type 0) : Type 0 where
  pub again : (a : A) (rest : List ℕ) → Is a → field (bytes_of a ++ rest) ≡ Some (a, rest)
  pub takes : (bytes : List ℕ) (a : A) (rest : List ℕ) → IsBytes bytes → field bytes ≡ Some (a, rest) → Takes bytes_of Is bytes a rest

-- ---- an option that is there

pub and_then_some : {A B : Type 0} (f : A → Option B) (o : Option A) (y : B) → option_and_then f o ≡ Some y → (x : A) × (o ≡ Some x) × (f x ≡ Some y)
and_then_some f None y e = absurd (none-some y e)
and_then_some f (Some x) y e = (x, refl, e)

pub map_some : {A B : Type 0} (f : A → B) (o : Option A) (y : B) → option_map f o ≡ Some y → (x : A) × (o ≡ Some x) × (f x ≡ y)
map_some f None y e = absurd (none-some y e)
map_some f (Some x) y e = (x, refl, same_Some (f x) y e)

pub cond_none : {A : Type 0} (b : Bool) (x : Option A) (y : A) → cond b None x ≡ Some y → (b ≡ false) × (x ≡ Some y)
cond_none true x y e = absurd (none-some y e)
cond_none false x y e = (refl, e)

pub chosen : {A : Type 0} (b : Bool) (x y z : A) → cond b x y ≡ z → ((b ≡ true) × (x ≡ z)) ⊎ ((b ≡ false) × (y ≡ z))
chosen true x y z e = inl (refl, e)
chosen false x y z e = inr (refl, e)

pub both_true : (a b : Bool) → (a && b) ≡ true → (a ≡ true) × (b ≡ true)
both_true true b e = (refl, e)
both_true false b e = absurd cc

pub first_is : {A B : Type 0} {p q : A × B} → p ≡ q → p.0 ≡ q.0
first_is e = ap (λ p. p.0) e

pub second_is : {A B : Type 0} {p q : A × B} → p ≡ q → p.1 ≡ q.1
second_is e = ap (λ p. p.1) e

-- the greater of two numbers is not the other
pub differs : (a b : ℕ) → b < a → eqb a b ≡ false
differs a b lt = by (eqb a b) refl
  where
    by : (t : Bool) → eqb a b ≡ t → eqb a b ≡ false
    by true e = let same : a ≡ b = eqb-true a b e in absurd (omega arith)
    by false e = e

-- ---- fields of fields

-- the same field by an equal spelling
pub respelled : {A : Type 0} {field : List ℕ → Option (A × List ℕ)} {w : A → List ℕ} {Is : A → Type 0} (v : A → List ℕ)
    → ((a : A) → w a ≡ v a) → Reads field w Is → Reads field v Is
respelled {field = field} v same r = record {
  again = λ a rest h. ap (λ (x : List ℕ). field (x ++ rest)) (sym (same a)) ∙ r.again a rest h;
  takes = λ bytes a rest fits e.
      let t = r.takes bytes a rest fits e in
      record { is = t.is; parts = t.parts ∙ ap (λ (x : List ℕ). x ++ rest) (same a); rest_bytes = t.rest_bytes };
}

pub both_some : {A B : Type 0} (f : Reading A) (g : Reading B) (bytes : List ℕ) (p : A × B) (rest : List ℕ) → both f g bytes ≡ Some (p, rest)
    → (mid : List ℕ) × (f bytes ≡ Some (p.0, mid)) × (g mid ≡ Some (p.1, rest))
both_some f g bytes p rest e =
    let a = and_then_some (λ a. option_map (λ b. ((a.0, b.0), b.1)) (g a.1)) (f bytes) (p, rest) e in
    let b = map_some (λ b. ((a.0.0, b.0), b.1)) (g a.0.1) (p, rest) a.2 in
    let same = first_is b.2 in
    let first : a.0.0 ≡ p.0 = first_is same in
    let second : b.0.0 ≡ p.1 = second_is same in (
      a.0.1,
      a.1 ∙ ap (λ x. Some (x, a.0.1)) first,
      b.1 ∙ ap (λ x. Some (x, b.0.1)) second ∙ ap (λ x. Some (p.1, x)) (second_is b.2),
    )

pub both_reads : {A B : Type 0} {f : List ℕ → Option (A × List ℕ)} {g : List ℕ → Option (B × List ℕ)} {w : A → List ℕ} {v : B → List ℕ} {P : A → Type 0} {Q : B → Type 0}
    → Reads f w P → Reads g v Q → Reads (both f g) (λ p. w p.0 ++ v p.1) (λ p. P p.0 × Q p.1)
both_reads {f = f} {g = g} {w = w} {v = v} r s = record {
  again = λ p rest h.
      ap (both f g) (append_assoc (w p.0) (v p.1) rest) ∙ rw (r.again p.0 (v p.1 ++ rest) h.0, s.again p.1 rest h.1) refl;
  takes = λ bytes p rest fits e.
      let b = both_some f g bytes p rest e in
      let t = r.takes bytes p.0 b.0 fits b.1 in
      let u = s.takes b.0 p.1 rest t.rest_bytes b.2 in
      record {
        is = (t.is, u.is);
        parts = t.parts ∙ ap (λ (x : List ℕ). w p.0 ++ x) u.parts ∙ sym (append_assoc (w p.0) (v p.1) rest);
        rest_bytes = u.rest_bytes;
      };
}

pub made_some : {A B : Type 0} (meaning : A → Option B) (f : Reading A) (bytes : List ℕ) (b : B) (rest : List ℕ) → made meaning f bytes ≡ Some (b, rest)
    → (a : A) × (f bytes ≡ Some (a, rest)) × (meaning a ≡ Some b)
made_some meaning f bytes b rest e =
    let a = and_then_some (λ a. option_map (λ b. (b, a.1)) (meaning a.0)) (f bytes) (b, rest) e in
    let m = map_some (λ b. (b, a.0.1)) (meaning a.0.0) (b, rest) a.2 in
    (a.0.0, a.1 ∙ ap (λ x. Some (a.0.0, x)) (second_is m.2), m.1 ∙ ap Some (first_is m.2))

-- a field with a meaning, where what has the meaning has one spelling
pub made_reads : {A B : Type 0} {f : List ℕ → Option (A × List ℕ)} {w : A → List ℕ} {P : A → Type 0} (meaning : A → Option B) (back : B → A) (Q : B → Type 0)
    → ((b : B) → Q b → P (back b) × (meaning (back b) ≡ Some b)) → ((a : A) (b : B) → P a → meaning a ≡ Some b → Q b × (back b ≡ a))
    → Reads f w P → Reads (made meaning f) (λ b. w (back b)) Q
made_reads {f = f} {w = w} meaning back Q forth only r = record {
  again = λ b rest h.
      let q = forth b h in
      rw (r.again (back b) rest q.0, q.1) refl;
  takes = λ bytes b rest fits e.
      let m = made_some meaning f bytes b rest e in
      let t = r.takes bytes m.0 rest fits m.1 in
      let q = only m.0 b t.is m.2 in
      record { is = q.0; parts = t.parts ∙ ap (λ a. w a ++ rest) (sym q.1); rest_bytes = t.rest_bytes };
}

-- a value that is built of a field
pub built_takes : {A C : Type 0} {f : List ℕ → Option (A × List ℕ)} {w : A → List ℕ} {P : A → Type 0} (build : A → C) → Reads f w P
    → (bytes : List ℕ) (c : C) (rest : List ℕ) → IsBytes bytes → made (λ a. Some (build a)) f bytes ≡ Some (c, rest)
    → (a : A) × (build a ≡ c) × Takes w P bytes a rest
built_takes {f = f} build r bytes c rest fits e =
    let m = made_some (λ a. Some (build a)) f bytes c rest e in
    (m.0, same_Some (build m.0) c m.2, r.takes bytes m.0 rest fits m.1)

pub built_again : {A C : Type 0} {f : List ℕ → Option (A × List ℕ)} {w : A → List ℕ} {P : A → Type 0} (build : A → C) → Reads f w P
    → (a : A) (rest : List ℕ) → P a → made (λ a. Some (build a)) f (w a ++ rest) ≡ Some (build a, rest)
built_again build r a rest h = rw (r.again a rest h) refl

pub passing_some : {A : Type 0} (test : A → Bool) (a b : A) → passing test a ≡ Some b → (test b ≡ true) × (a ≡ b)
passing_some test a b e =
    let p = cond_some (test a) a b e in
    (subst (λ x. test x ≡ true) p.1 p.0, p.1)

pub passing_is : {A : Type 0} (test : A → Bool) (a : A) → test a ≡ true → passing test a ≡ Some a
passing_is test a h = cond-true _ _ _ h

-- a value that passes a test
pub passing_reads : {A : Type 0} {f : List ℕ → Option (A × List ℕ)} {w : A → List ℕ} {P : A → Type 0} (test : A → Bool) → Reads f w P
    → Reads (made (passing test) f) w (λ a. P a × (test a ≡ true))
passing_reads {P = P} test r =
    made_reads (passing test) (λ a. a) (λ a. P a × (test a ≡ true)) (λ b q. (q.0, passing_is test b q.1))
    (λ a b p e. let s = passing_some test a b e in ((subst P s.1 p, s.0), sym s.1)) r

-- ---- bytes and numbers

IsBytes-rest : (b : ℕ) (bytes : List ℕ) → IsBytes (b ∷ bytes) → IsBytes bytes
IsBytes-rest b bytes h i = h (suc i)

byte_takes : (bytes : List ℕ) (b : ℕ) (rest : List ℕ) → IsBytes bytes → byte_at bytes ≡ Some (b, rest) → Takes (λ b. b ∷ []) (λ b. b < 256) bytes b rest
byte_takes [] b rest fits e = absurd (none-some _ e)
byte_takes (x ∷ xs) b rest fits e =
    let p = same_Some (x, xs) (b, rest) e in
    let x-is : x ≡ b = first_is p in
    let xs-is : xs ≡ rest = second_is p in
    record {
      is = subst (λ (n : ℕ). n < 256) x-is (fits 0);
      parts = ap (λ (n : ℕ). n ∷ xs) x-is ∙ ap (λ (l : List ℕ). b ∷ l) xs-is;
      rest_bytes = subst IsBytes xs-is (IsBytes-rest x xs fits);
    }

pub byte_reads : Reads byte_at (λ b. b ∷ []) (λ b. b < 256)
byte_reads = record { again = λ b rest h. refl; takes = byte_takes }

pub record IsWide (w : Width) (limit : ℕ) : Type 0 where
  pub len : (n : ℕ) → length (to_le_bytes w n) ≡ byte_len w
  pub back : (bytes : List ℕ) → length bytes ≡ byte_len w → IsBytes bytes → to_le_bytes w (from_le_bytes w bytes) ≡ bytes
  pub again : (n : ℕ) → n < limit → from_le_bytes w (to_le_bytes w n) ≡ n
  pub below : (bytes : List ℕ) → IsBytes bytes → from_le_bytes w bytes < limit

wide32 : IsWide w32 (2 ^ 32)
wide32 = record {
  len = λ n. refl;
  back = λ bytes len fits. le_bytes_4 bytes _ len fits refl;
  again = λ n lt. from_le_bytes-to_le_bytes_4 n lt;
  below = λ bytes fits. omega (arith, fits 0, fits 1, fits 2, fits 3);
}

wide64 : IsWide w64 (2 ^ 64)
wide64 = record {
  len = λ n. refl;
  back = λ bytes len fits. le_bytes_8 bytes _ len fits refl;
  again = λ n lt. from_le_bytes-to_le_bytes_8 n lt;
  below = λ bytes fits. omega (arith, fits 0, fits 1, fits 2, fits 3, fits 4, fits 5, fits 6, fits 7);
}

number_again : (w : Width) (limit : ℕ) (wide : IsWide w limit) (n : ℕ) (rest : List ℕ) → n < limit → number_at w (to_le_bytes w n ++ rest) ≡ Some (n, rest)
number_again w limit wide n rest lt =
    let len = wide.len n in
    let long : ltb (length (to_le_bytes w n ++ rest)) (byte_len w) ≡ false = le-ltb _ _ (omega (arith, length-append (to_le_bytes w n) rest)) in
    rw (long, take_at (to_le_bytes w n) rest (byte_len w) len, drop_at (to_le_bytes w n) rest (byte_len w) len, wide.again n lt) refl

number_takes : (w : Width) (limit : ℕ) (wide : IsWide w limit) (bytes : List ℕ) (n : ℕ) (rest : List ℕ) → IsBytes bytes → number_at w bytes ≡ Some (n, rest)
    → Takes (to_le_bytes w) (λ n. n < limit) bytes n rest
number_takes w limit wide bytes n rest fits e =
    let g = cond_none (ltb (length bytes) (byte_len w)) (Some (from_le_bytes w (take (byte_len w) bytes), drop (byte_len w) bytes)) (n, rest) e in
    let p = same_Some (from_le_bytes w (take (byte_len w) bytes), drop (byte_len w) bytes) (n, rest) g.1 in
    let long : byte_len w ≤ length bytes = ltb-false _ _ g.0 in
    let n-is : from_le_bytes w (take (byte_len w) bytes) ≡ n = first_is p in
    let rest-is : drop (byte_len w) bytes ≡ rest = second_is p in
    let front : to_le_bytes w n ≡ take (byte_len w) bytes = rw (← n-is) (wide.back (take (byte_len w) bytes) (omega (arith, length-take (byte_len w) bytes)) (IsBytes-take (byte_len w) bytes fits)) in
    record {
      is = rw (← n-is) (wide.below (take (byte_len w) bytes) (IsBytes-take (byte_len w) bytes fits));
      parts = rw (front, ← rest-is) (sym (take-append-drop (byte_len w) bytes));
      rest_bytes = rw (← rest-is) (IsBytes-drop (byte_len w) bytes fits);
    }

number_reads : (w : Width) (limit : ℕ) (wide : IsWide w limit) → Reads (number_at w) (to_le_bytes w) (λ n. n < limit)
number_reads w limit wide = record { again = number_again w limit wide; takes = number_takes w limit wide }

pub count_reads : Reads (number_at w32) (to_le_bytes w32) (λ n. n < 2 ^ 32)
count_reads = number_reads w32 (2 ^ 32) wide32

signed_below : (z : ℤ) → FitsSigned w64 z → cast_unsigned w64 z < 2 ^ 64
signed_below z h = (Fits-of_z h).fits

signed_only : (n : ℕ) (z : ℤ) → n < 2 ^ 64 → cast_signed w64 n ≡ z → FitsSigned w64 z × (cast_unsigned w64 z ≡ n)
signed_only n z below e =
    (subst (λ y. FitsSigned w64 y) e (sfits_to_z (record { fits = below })), ap (cast_unsigned w64) (sym e) ∙ of_z-to_z w64 n below)

pub signed_reads : Reads signed_at signed_bytes (λ z. FitsSigned w64 z)
unfolding signed_at
signed_reads =
    made_reads (λ n. Some (cast_signed w64 n)) (cast_unsigned w64) (λ z. FitsSigned w64 z)
    (λ z h. (signed_below z h, ap Some (to_z-of_z w64 z h)))
    (λ n z below e. signed_only n z below (same_Some (cast_signed w64 n) z e))
    (number_reads w64 (2 ^ 64) wide64)

-- ---- texts

text_again : (text rest : List ℕ) → IsText text → text_at (text_bytes text ++ rest) ≡ Some (text, rest)
unfolding text_at
text_again text rest h =
    let long : ltb (length (text ++ rest)) (length text) ≡ false = le-ltb _ _ (omega (arith, length-append text rest)) in
    let parted : text_bytes text ++ rest ≡ to_le_bytes w32 (length text) ++ (text ++ rest) = append_assoc (to_le_bytes w32 (length text)) text rest in
    ap text_at parted ∙ rw (count_reads.again (length text) (text ++ rest) h.1, long, take_at text rest (length text) refl, drop_at text rest (length text) refl, h.0) refl

text_takes : (bytes text rest : List ℕ) → IsBytes bytes → text_at bytes ≡ Some (text, rest) → Takes text_bytes IsText bytes text rest
unfolding text_at
text_takes bytes text rest fits e =
    let c = and_then_some (λ count. made (passing is_utf8) (bytes_at count.0) count.1) (number_at w32 bytes) (text, rest) e in
    let n = c.0.0 in
    let tail = c.0.1 in
    let t = count_reads.takes bytes n tail fits c.1 in
    let m = made_some (passing is_utf8) (bytes_at n) tail text rest c.2 in
    let s = passing_some is_utf8 m.0 text m.2 in
    let g = cond_none (ltb (length tail) n) (Some (take n tail, drop n tail)) (m.0, rest) m.1 in
    let p = same_Some (take n tail, drop n tail) (m.0, rest) g.1 in
    let long : n ≤ length tail = ltb-false _ _ g.0 in
    let text-is : take n tail ≡ text = first_is p ∙ s.1 in
    let rest-is : drop n tail ≡ rest = second_is p in
    let taken : length (take n tail) ≡ n = omega (arith, length-take n tail) in
    let len : n ≡ length text = sym taken ∙ ap length text-is in
    let tail-is : tail ≡ text ++ rest = sym (take-append-drop n tail) ∙ ap (λ (l : List ℕ). l ++ drop n tail) text-is ∙ ap (λ (l : List ℕ). text ++ l) rest-is in
    record {
      is = (s.0, subst (λ (k : ℕ). k < 2 ^ 32) len t.is);
      parts = t.parts ∙ ap (λ (k : ℕ). to_le_bytes w32 k ++ tail) len ∙ ap (λ (l : List ℕ). to_le_bytes w32 (length text) ++ l) tail-is
          ∙ sym (append_assoc (to_le_bytes w32 (length text)) text rest);
      rest_bytes = subst IsBytes rest-is (IsBytes-drop n tail t.rest_bytes);
    }

pub text_reads : Reads text_at text_bytes IsText
text_reads = record { again = text_again; takes = text_takes }

-- ---- bytes of few values

-- any value of such a type has a spelling
abbrev pub Any : {A : Type 0} → A → Type 0
Any a = Unit {0}

bit_back : (n : ℕ) (b : Bool) → bit_of n ≡ Some b → bit_byte b ≡ n
bit_back zero b e = ap bit_byte (sym (same_Some false b e))
bit_back (suc zero) b e = ap bit_byte (sym (same_Some true b e))
bit_back (suc (suc n)) b e =
    let none : bit_of (suc (suc n)) ≡ None = rw (differs (suc (suc n)) 0 (omega arith), differs (suc (suc n)) 1 (omega arith)) refl in
    absurd (none-some b (sym none ∙ e))

bit_forth : (b : Bool) → (bit_byte b < 256) × (bit_of (bit_byte b) ≡ Some b)
bit_forth true = (omega arith, refl)
bit_forth false = (omega arith, refl)

pub bit_reads : Reads bit_at (λ b. bit_byte b ∷ []) Any
unfolding bit_at
bit_reads = made_reads bit_of bit_byte Any (λ b h. bit_forth b) (λ n b below e. (tt, bit_back n b e)) byte_reads
