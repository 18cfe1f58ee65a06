-- Cookies at their places, and permissions: what is read is what was written.
use Rattle.std.proofs.Common.{◌≡◌, ℕ, zero, suc, ◌<◌, ℤ, pos, Bool, true, false, List, [], ◌∷◌, ◌++◌, Option, Some, None, refl, sym, ap, subst, ◌∙◌, append_assoc, arith}
use Rattle.std.specs.Prelude.{FitsSigned, unwrap_or, ◌&&◌}
use Rattle.std.specs.Int.{w64}
use Rattle.std.proofs.lemmas.Option.{cond_some, none-some, same_Some}
use Rattle.std.proofs.lemmas.Bool.{cond-true}
use Rattle.origin_site.specs.Site.{PlainSite, site_text}
use Rattle.setcookie_parse.specs.declared.cookie.SameSite.{SameSite}
use Rattle.stored_cookie.specs.StoredCookie.{PlainCookie}
use Rattle.cookie_jar.specs.Key.{PlainKey as PlainCell}
use Rattle.access_grants.specs.Grant.{PlainGrant}
use Rattle.row_changes.specs.Fields.{made, byte_at, text_bytes, signed_bytes}
use Rattle.row_changes.specs.Spelling.{cell_bytes, same_site_byte, cookie_bytes, answer_byte, grant_bytes}
use Rattle.row_changes.specs.Spelled.{IsText, IsSite, IsNamed, HasSpelledFields, IsRow, suits}
use Rattle.row_changes.specs.Reading.{texts_at, marks_at, cookie_of, cookie_at, placed_at, answer_of, grant_of, grant_at}
use Rattle.row_changes.proofs.FieldLaws.{both_true, differs, Reads, respelled, both_reads, made_reads, passing_reads, byte_reads, text_reads, signed_reads, Any}
use Rattle.row_changes.proofs.NameLaws.{site_reads}
use Rattle.row_changes.proofs.RowLaws.{cell_reads, flags_sum, flags_reads, same_site_reads}

-- ---- cookies

abbrev Texts : Type 0
Texts = ((List ℕ × List ℕ) × List ℕ) × List ℕ

abbrev Marks : Type 0
Marks = ((((Bool × Bool) × Bool) × SameSite) × ℤ) × ℤ

abbrev texts_bytes : Texts → List ℕ
texts_bytes t = text_bytes t.0.0.0 ++ text_bytes t.0.0.1 ++ text_bytes t.0.1 ++ text_bytes t.1

abbrev AreTexts : Texts → Type 0
AreTexts t = ((IsText t.0.0.0 × IsText t.0.0.1) × IsText t.0.1) × IsText t.1

texts_respelled : (t : Texts) → ((text_bytes t.0.0.0 ++ text_bytes t.0.0.1) ++ text_bytes t.0.1) ++ text_bytes t.1 ≡ texts_bytes t
texts_respelled t = refl

texts_reads : Reads texts_at texts_bytes AreTexts
unfolding texts_at
texts_reads = respelled texts_bytes texts_respelled (both_reads (both_reads (both_reads text_reads text_reads) text_reads) text_reads)

abbrev marks_bytes : Marks → List ℕ
marks_bytes m = flags_sum m.0.0.0 ∷ same_site_byte m.0.0.1 ∷ signed_bytes m.0.1 ++ signed_bytes m.1

abbrev AreMarks : Marks → Type 0
AreMarks m = ((Any m.0.0.0 × Any m.0.0.1) × FitsSigned w64 m.0.1) × FitsSigned w64 m.1

marks_reads : Reads marks_at marks_bytes AreMarks
unfolding marks_at
marks_reads = respelled marks_bytes (λ m. refl) (both_reads (both_reads (both_reads flags_reads same_site_reads) signed_reads) signed_reads)

abbrev cookie_texts : PlainCookie → Texts
cookie_texts c = (((c.name, c.value), c.domain), c.path)

abbrev cookie_marks : PlainCookie → Marks
cookie_marks c = (((((c.host_only, c.secure), c.http_only), c.same_site), c.creation), unwrap_or c.expiry (pos 0))

abbrev cookie_parts : PlainCookie → Texts × Marks
cookie_parts c = (cookie_texts c, cookie_marks c)

abbrev cookie_with : PlainCookie → Option ℤ → ℤ → PlainCookie
cookie_with c expiry last = record c { expiry = expiry; last = last }

abbrev cookie_again : PlainCookie → Option PlainCookie
cookie_again c = Some (cookie_of (cookie_parts c))

cookie_forth : (c : PlainCookie) → HasSpelledFields c → (AreTexts (cookie_texts c) × AreMarks (cookie_marks c)) × (cookie_again c ≡ Some c)
cookie_forth c h =
    let end_is : unwrap_or c.expiry (pos 0) ≡ h.end = ap (λ (e : Option ℤ). unwrap_or e (pos 0)) h.expiry in
    let fits : FitsSigned w64 (unwrap_or c.expiry (pos 0)) = subst (λ z. FitsSigned w64 z) (sym end_is) h.fits in
    let expiry_is : Some (unwrap_or c.expiry (pos 0)) ≡ c.expiry = ap Some end_is ∙ sym h.expiry in (
      ((((h.name, h.value), h.domain), h.path), (((tt, tt), h.creation), fits)),
      ap Some (ap (λ (e : Option ℤ). cookie_with c e (pos 0)) expiry_is ∙ ap (λ (l : ℤ). cookie_with c c.expiry l) (sym h.last)),
    )

cookie_only : (p : Texts × Marks) (c : PlainCookie) → AreTexts p.0 × AreMarks p.1 → Some (cookie_of p) ≡ Some c → HasSpelledFields c × (cookie_parts c ≡ p)
cookie_only p c h e =
    let same : cookie_of p ≡ c = same_Some (cookie_of p) c e in
    let kept : HasSpelledFields (cookie_of p) = record {
      name = h.0.0.0.0;
      value = h.0.0.0.1;
      domain = h.0.0.1;
      path = h.0.1;
      creation = h.1.0.1;
      end = p.1.1;
      expiry = refl;
      fits = h.1.1;
      last = refl;
    } in
    (subst HasSpelledFields same kept, ap cookie_parts (sym same))

cookie_respelled : (c : PlainCookie) → texts_bytes (cookie_texts c) ++ marks_bytes (cookie_marks c) ≡ cookie_bytes c
cookie_respelled c = refl

cookie_reads : Reads cookie_at cookie_bytes HasSpelledFields
unfolding cookie_at
cookie_reads =
    respelled cookie_bytes cookie_respelled
    (made_reads (λ p. Some (cookie_of p)) cookie_parts HasSpelledFields cookie_forth cookie_only (both_reads texts_reads marks_reads))

-- ---- places

abbrev pub placed_bytes : (PlainCell × ℕ) × PlainCookie → List ℕ
placed_bytes p = cell_bytes p.0.0 ++ p.0.1 ∷ cookie_bytes p.1

abbrev pub ArePlaced : (PlainCell × ℕ) × PlainCookie → Type 0
ArePlaced p = ((IsNamed p.0.0 × (p.0.1 < 256)) × HasSpelledFields p.1) × (suits p.0.0 p.1 ≡ true)

pub placed_reads : Reads placed_at placed_bytes ArePlaced
unfolding placed_at
placed_reads =
    respelled placed_bytes (λ p. append_assoc (cell_bytes p.0.0) (p.0.1 ∷ []) (cookie_bytes p.1))
    (passing_reads (λ placed. suits placed.0.0 placed.1) (both_reads (both_reads cell_reads byte_reads) cookie_reads))

-- ---- permissions

answer_forth : (b : Bool) → (answer_byte b < 256) × (answer_of (answer_byte b) ≡ Some b)
answer_forth true = (omega arith, refl)
answer_forth false = (omega arith, refl)

answer_only : (n : ℕ) (b : Bool) → answer_of n ≡ Some b → answer_byte b ≡ n
answer_only zero b e = absurd (none-some _ e)
answer_only (suc zero) b e = ap answer_byte (sym (same_Some true b e))
answer_only (suc (suc zero)) b e = ap answer_byte (sym (same_Some false b e))
answer_only (suc (suc (suc n))) b e =
    let m = suc (suc (suc n)) in
    let none : answer_of m ≡ None = rw (differs m 1 (omega arith), differs m 2 (omega arith)) refl in
    absurd (none-some b (sym none ∙ e))

answer_reads : Reads (made answer_of byte_at) (λ b. answer_byte b ∷ []) Any
answer_reads = made_reads answer_of answer_byte Any (λ b h. answer_forth b) (λ n b below e. (tt, answer_only n b e)) byte_reads

abbrev grant_parts : PlainGrant → ((PlainSite × PlainSite) × Bool) × ℤ
grant_parts row = (((row.top, row.site), row.granted), row.until)

grant_forth : (row : PlainGrant) → IsRow row
    → (((IsSite row.top × IsSite row.site) × Any row.granted) × FitsSigned w64 row.until) × (grant_of (grant_parts row) ≡ Some row)
grant_forth row h =
    let both : (row.top.https && row.site.https) ≡ true = rw (h.3, h.4) refl in
    ((((h.0, h.1), tt), h.2), cond-true _ _ _ both)

grant_only : (p : ((PlainSite × PlainSite) × Bool) × ℤ) (row : PlainGrant)
    → ((IsSite p.0.0.0 × IsSite p.0.0.1) × Any p.0.1) × FitsSigned w64 p.1 → grant_of p ≡ Some row → IsRow row × (grant_parts row ≡ p)
grant_only p row h e =
    let made_row : PlainGrant = record { top = p.0.0.0; site = p.0.0.1; granted = p.0.1; until = p.1 } in
    let c = cond_some (p.0.0.0.https && p.0.0.1.https) made_row row e in
    let both = both_true p.0.0.0.https p.0.0.1.https c.0 in
    (subst IsRow c.1 (h.0.0.0, h.0.0.1, h.1, both.0, both.1), ap grant_parts (sym c.1))

grant_respelled : (row : PlainGrant)
    → ((text_bytes (site_text row.top) ++ text_bytes (site_text row.site)) ++ answer_byte row.granted ∷ []) ++ signed_bytes row.until ≡ grant_bytes row
grant_respelled row =
    append_assoc (text_bytes (site_text row.top) ++ text_bytes (site_text row.site)) (answer_byte row.granted ∷ []) (signed_bytes row.until)

pub grant_reads : Reads grant_at grant_bytes IsRow
unfolding grant_at
grant_reads =
    respelled grant_bytes grant_respelled
    (made_reads grant_of grant_parts IsRow grant_forth grant_only
    (both_reads (both_reads (both_reads site_reads site_reads) answer_reads) signed_reads))
