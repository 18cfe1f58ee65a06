-- What a change of one cell leaves.
use Rattle.std.proofs.Common.{◌≡◌, Bool, true, false, cond, ℕ, List, ℤ, ◌+◌, ◌==◌, [], ◌∷◌, Option, Some, None, length, map, refl, sym, ap, subst, ◌∙◌}
use Rattle.std.proofs.lemmas.List.{nil_from_length}
use Rattle.std.specs.Prelude.{IfSome, is_some, slice_set}
use Rattle.std.specs.List.{enumerate_from, list_any}
use Rattle.std.specs.Ordering.{eq_by_cmp}
use Rattle.key_map.specs.Entries.{map_get, map_set}
use Rattle.cookie_jar.specs.declared.key.CellKey.{CellKey}
use Rattle.cookie_jar.specs.Cookie.{PlainJar}
use Rattle.cookie_jar.specs.Key.{PlainKey, plain_key}
use Rattle.cookie_jar.specs.Plain.{plain_cookie}
use Rattle.cookie_jar.specs.Sending.{marked, used}
use Rattle.partition_limits.specs.declared.tally.CellKind.{CellKind}
use Rattle.agent_model.specs.CookieCells.{Cookies}
use Rattle.web_cookies.specs.Stored.{Entries}
use Rattle.web_cookies.specs.Cells.{HaveKinds, cell_order, cookies_at, cookies_of, jar_at, kind_of}
use Rattle.web_cookies.specs.Becoming.{FitsKey, becomes_of, kind_after, replaced_in}
use Rattle.web_cookies.specs.Prepared.{HasPlace}
use Rattle.web_cookies.specs.declared.change.Becomes.{Becomes}
use Rattle.web_cookies.specs.declared.change.Becomes.TheVariants.{Marked, Stored}
use Rattle.web_cookies.specs.declared.change.Replacement.{Replacement}
use Rattle.web_cookies.proofs.OrderOfCells.{alike, cell_order_total, equal_keys, order}
use Rattle.key_map.proofs.PlainKeyLemmas as plain
use Rattle.web_cookies.proofs.CellLemmas.{cookies_cond}
use Rattle.web_cookies.proofs.LimitLemmas.{replace_past}

module _ (key : CellKey) (becomes : Becomes) (entries : Entries) where
  -- the jar of a key is that of its plain key
  at_key : map_get order key entries ≡ jar_at (plain_key key) entries
  at_key = plain.found-key plain_key cell_order cell_order_total order alike key entries

  module _ (old new : PlainJar) (there : map_get order key entries ≡ Some old) where
    set_at : (q : PlainKey) → jar_at q (map_set order key new entries) ≡ cond (eq_by_cmp cell_order q (plain_key key)) (Some new) (jar_at q entries)
    set_at q = plain.found-set plain_key cell_order cell_order_total order alike q key new entries (ap is_some there)

    -- the old jar is of the kind of the key
    kind_there : HaveKinds entries → old.kind ≡ kind_of (plain_key key)
    kind_there kinds = subst (λ o. IfSome o (λ j. j.kind ≡ kind_of (plain_key key))) (sym at_key ∙ there) (kinds (plain_key key))

    pub change_set : HaveKinds entries → new.cookies ≡ becomes_of old.kind becomes old.cookies → (q : PlainKey)
        → cookies_at q (map_set order key new entries)
        ≡ cond (eq_by_cmp cell_order q (plain_key key)) (becomes_of (kind_of (plain_key key)) becomes (cookies_at q entries)) (cookies_at q entries)
    change_set kinds is q =
        ap cookies_of (set_at q)
        ∙ cookies_cond (eq_by_cmp cell_order q (plain_key key)) new (jar_at q entries)
        ∙ at (eq_by_cmp cell_order q (plain_key key)) refl
      where
        at : (b : Bool) → eq_by_cmp cell_order q (plain_key key) ≡ b
            → cond b new.cookies (cookies_at q entries) ≡ cond b (becomes_of (kind_of (plain_key key)) becomes (cookies_at q entries)) (cookies_at q entries)
        at true tie =
            is ∙ ap (λ k. becomes_of k becomes old.cookies) (kind_there kinds) ∙ ap (becomes_of (kind_of (plain_key key)) becomes)
            (ap cookies_of (sym there ∙ at_key) ∙ ap (λ k. cookies_at k entries) (sym (equal_keys q (plain_key key) tie)))
        at false apart = refl

    still : (b : Bool) (o : Option PlainJar) → is_some o ≡ true → is_some (cond b (Some new) o) ≡ true
    still true o is = refl
    still false o is = is

    pub kept_set : (q : PlainKey) → is_some (jar_at q entries) ≡ true → is_some (jar_at q (map_set order key new entries)) ≡ true
    kept_set q is = ap is_some (set_at q) ∙ still (eq_by_cmp cell_order q (plain_key key)) (jar_at q entries) is

    -- the new jar is of the kind of the key
    pub kind_set : HaveKinds entries → FitsKey (plain_key key) becomes → new.kind ≡ kind_after becomes old.kind → new.kind ≡ kind_of (plain_key key)
    kind_set kinds fits is = is ∙ ap (kind_after becomes) (kind_there kinds) ∙ fits

  -- no cookie is replaced where there is none
  none_replaced : (kind : CellKind) (new : Option Replacement) → replaced_in kind new [] ≡ []
  none_replaced kind None = refl
  none_replaced kind (Some new) = ap (λ b. cond b (slice_set [] new.place (plain_cookie new.cookie)) []) (sym (replace_past kind [] new.place (plain_cookie new.cookie) refl))

  nothing : (kind : CellKind) (b : Becomes) → HasPlace (plain_key key) entries b → map_get order key entries ≡ None → becomes_of kind b [] ≡ []
  nothing kind (Marked places now new) place none = none_replaced kind new
  nothing kind (Stored jar) place none = let no : true ≡ false = sym place ∙ ap is_some (sym at_key ∙ none) in cc

  -- what has a place, and no jar, has no cookies to be changed
  pub change_none : HasPlace (plain_key key) entries becomes → map_get order key entries ≡ None → (q : PlainKey)
      → cookies_at q entries ≡ cond (eq_by_cmp cell_order q (plain_key key)) (becomes_of (kind_of (plain_key key)) becomes (cookies_at q entries)) (cookies_at q entries)
  change_none place none q = at (eq_by_cmp cell_order q (plain_key key)) refl
    where
      at : (b : Bool) → eq_by_cmp cell_order q (plain_key key) ≡ b
          → cookies_at q entries ≡ cond b (becomes_of (kind_of (plain_key key)) becomes (cookies_at q entries)) (cookies_at q entries)
      at true tie =
          let empty : cookies_at q entries ≡ [] = ap (λ k. cookies_at k entries) (equal_keys q (plain_key key) tie) ∙ ap cookies_of (sym at_key ∙ none) in
          empty ∙ sym (ap (becomes_of (kind_of (plain_key key)) becomes) empty ∙ nothing (kind_of (plain_key key)) becomes place none)
      at false apart = refl

-- where nothing is marked the cookies stay
none_marked : (n : ℕ) (now : ℤ) (cookies : Cookies)
    → map (λ c. cond (list_any (λ p. p == c.0) []) (used now c.1) c.1) (enumerate_from n cookies) ≡ cookies
none_marked n now [] = refl
none_marked n now (c ∷ cs) = ap (λ rest. c ∷ rest) (none_marked (n + 1) now cs)

-- and where nothing is replaced either, any cell stays as it is
pub stays : (places : List ℕ) (now : ℤ) (new : Option Replacement) → length places ≡ 0 → is_some new ≡ false
    → (kind : CellKind) (cookies : Cookies) → replaced_in kind new (marked places now cookies) ≡ cookies
stays places now None none same kind cookies =
    ap (λ places. marked places now cookies) (nil_from_length places none) ∙ none_marked 0 now cookies
stays places now (Some new) none same kind cookies = cc
