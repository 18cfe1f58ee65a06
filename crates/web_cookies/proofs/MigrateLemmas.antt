-- What the cookies of all sites are of what they were, where the cells stay that a list of rules has.
use Rattle.std.proofs.Common.{◌≡◌, Bool, true, false, cond, List, [], ◌∷◌, length, Option, Some, None, refl, sym, ap, ◌∙◌}
use Rattle.std.specs.Prelude.{◌&&◌, ◌||◌, ◌==◌, IfSome, is_some}
use Rattle.std.specs.FinMap as finite
use Rattle.std.specs.List.{list_all}
use Rattle.std.specs.List.Sorted.{IsStrictlySortedBy}
use Rattle.std.specs.Map.{keys_of}
use Rattle.std.proofs.lemmas.Bool.{and_parts}
use Rattle.std.proofs.lemmas.Map.Entries.{option_filter}
use Rattle.unwinding.specs.FiniteCells.{Full, get_cell, list_of, restrict_cells}
use Rattle.unwinding.proofs.FiniteCellsLemmas as cells
use Rattle.suffix_list.specs.Suffix.{Rule}
use Rattle.key_map.specs.Retain.{all_pass, retain_entries}
use Rattle.key_map.proofs.PlainKeyLemmas as plain
use Rattle.key_map.proofs.RetainLemmas.{all_had, both_ways, each_had, some_length}
use Rattle.cookie_jar.specs.declared.key.CellKey.{CellKey}
use Rattle.cookie_jar.specs.Cookie.{PlainCookie, PlainJar}
use Rattle.cookie_jar.specs.Key.{PlainKey, OwnCell, PartitionCell, plain_key}
use Rattle.cookie_jar.specs.Stays.{cell_stays}
use Rattle.agent_model.specs.CookieCells.{Cookies, Domain, domain_order}
use Rattle.agent_model.specs.PartitionedCells.{PartitionedKey, partitioned_order}
use Rattle.agent_model.proofs.CookieCellsLemmas.{domain_order_total, domain_order_same}
use Rattle.agent_model.proofs.PartitionedLemmas.{partitioned_order_total, partitioned_order_same}
use Rattle.web_cookies.specs.Stored.{Entries, partitioned_in, shared_in}
use Rattle.web_cookies.specs.Cells.{HaveKinds, cell_key, cell_order, cookies_at, cookies_of, jar_at, kind_of}
use Rattle.web_cookies.specs.Migrated.{all_stay, jar_stays, partitioned_kept, partitioned_stays, shared_kept, shared_stays}
use Rattle.web_cookies.proofs.CellLemmas.{partitioned_at, shared_at}
use Rattle.web_cookies.proofs.OrderOfCells.{alike, cell_order_same, cell_order_total, order}

module _ (rules : List Rule) where
  abbrev pub test : CellKey → PlainJar → Bool
  test key jar = jar_stays rules (plain_key key) jar

  abbrev pub left : Entries → Entries
  left entries = retain_entries test entries

  nothing_left : {A : Type 0} (s : Bool) → ◌≡◌ {A = List A} (cond s [] []) []
  nothing_left true = refl
  nothing_left false = refl

  pick : (s : Bool) (jar : PlainJar) → cookies_of (cond s (Some jar) None) ≡ cond s jar.cookies []
  pick true jar = refl
  pick false jar = refl

  -- the cookies of a jar that stays, or of none
  passed : (q : PlainKey) (o : Option PlainJar) → cookies_of (option_filter (jar_stays rules q) o) ≡ cond (cell_stays rules q (cookies_of o)) (cookies_of o) []
  passed q None = sym (nothing_left (cell_stays rules q []))
  passed q (Some jar) = at jar.cookies refl
    where
      at : (cookies : Cookies) → jar.cookies ≡ cookies
          → cookies_of (cond ((length jar.cookies == 0) || cell_stays rules q jar.cookies) (Some jar) None) ≡ cond (cell_stays rules q jar.cookies) jar.cookies []
      at [] is =
          pick ((length jar.cookies == 0) || cell_stays rules q jar.cookies) jar
          ∙ (λ i. cond ((length (is i) == 0) || cell_stays rules q (is i)) (is i) [])
          ∙ sym (nothing_left (cell_stays rules q []))
          ∙ (λ i. cond (cell_stays rules q (sym is i)) (sym is i) [])
      at (c ∷ cs) is =
          pick ((length jar.cookies == 0) || cell_stays rules q jar.cookies) jar
          ∙ ap (λ e. cond (e || cell_stays rules q jar.cookies) jar.cookies []) (ap (λ cookies. length cookies == 0) is ∙ some_length c cs)

  module _ (entries : Entries) (sorted : IsStrictlySortedBy order (keys_of entries)) where
    jar_left : (q : PlainKey) → jar_at q (left entries) ≡ option_filter (jar_stays rules q) (jar_at q entries)
    jar_left q = plain.found-retained plain_key cell_order cell_order_total order alike cell_order_same test (jar_stays rules) (λ k v. refl) q entries sorted

    -- the cookies of a cell afterwards
    cookies_left : (q : PlainKey) → cookies_at q (left entries) ≡ cond (cell_stays rules q (cookies_at q entries)) (cookies_at q entries) []
    cookies_left q = ap cookies_of (jar_left q) ∙ passed q (jar_at q entries)

    pub shared_left : shared_in (left entries) ≡ shared_kept rules (shared_in entries)
    unfolding restrict_cells
    shared_left = cells.same_cells domain_order domain_order_total domain_order_same _ _ (λ d.
        shared_at d (left entries)
        ∙ cookies_left (OwnCell d)
        ∙ (λ i. cond (cell_stays rules (OwnCell d) (sym (shared_at d entries) i)) (sym (shared_at d entries) i) [])
        ∙ sym (cells.get_restrict domain_order domain_order_total domain_order_same (shared_stays rules (shared_in entries)) (shared_in entries) d))

    pub partitioned_left : partitioned_in (left entries) ≡ partitioned_kept rules (partitioned_in entries)
    unfolding restrict_cells
    partitioned_left = cells.same_cells partitioned_order partitioned_order_total partitioned_order_same _ _ (λ k.
        partitioned_at k (left entries)
        ∙ cookies_left (cell_key k)
        ∙ (λ i. cond (cell_stays rules (cell_key k) (sym (partitioned_at k entries) i)) (sym (partitioned_at k entries) i) [])
        ∙ sym (cells.get_restrict partitioned_order partitioned_order_total partitioned_order_same (partitioned_stays rules (partitioned_in entries)) (partitioned_in entries) k))

    -- each jar is of the kind of its key
    kept_kind : (q : PlainKey) (o : Option PlainJar) → IfSome o (λ jar. jar.kind ≡ kind_of q) → IfSome (option_filter (jar_stays rules q) o) (λ jar. jar.kind ≡ kind_of q)
    kept_kind q None is = is
    kept_kind q (Some jar) is = at (jar_stays rules q jar)
      where
        at : (s : Bool) → IfSome (cond s (Some jar) None) (λ j. j.kind ≡ kind_of q)
        at true = is
        at false = tt

    pub kinds_left : HaveKinds entries → HaveKinds (left entries)
    kinds_left kinds q = rw (jar_left q) (kept_kind q (jar_at q entries) (kinds q))

    -- ---- which cells there are

    cookies_had : (m : Option (Full PlainCookie)) → is_some m ≡ true → list_of m ≡ [] → ⊥
    cookies_had None had none = cc
    cookies_had (Some cookies) had none = cc

    had_cookies : (m : Option (Full PlainCookie)) → (list_of m ≡ [] → ⊥) → is_some m ≡ true
    had_cookies None some = absurd (some refl)
    had_cookies (Some cookies) some = refl

    no_cookies_there : (c : PlainCookie) (cs : Cookies) → ◌≡◌ {A = Cookies} (c ∷ cs) [] → ⊥
    no_cookies_there c cs is = cc

    -- where all entries pass, a cell stays that has cookies
    stays_by : all_pass test entries ≡ true → (q : PlainKey) (o : Option PlainJar) → jar_at q entries ≡ o → (cookies_of o ≡ [] → ⊥) → cell_stays rules q (cookies_of o) ≡ true
    stays_by all q None is some = absurd (some refl)
    stays_by all q (Some jar) is some = at jar.cookies refl
        (plain.passes_at plain_key cell_order cell_order_total order alike cell_order_same test (jar_stays rules) (λ k v. refl) entries all q jar is)
      where
        at : (cookies : Cookies) → jar.cookies ≡ cookies → ((length jar.cookies == 0) || cell_stays rules q jar.cookies) ≡ true → cell_stays rules q jar.cookies ≡ true
        at [] none passes = absurd (some none)
        at (c ∷ cs) is passes = sym (ap (λ e. e || cell_stays rules q jar.cookies) (ap (λ cookies. length cookies == 0) is ∙ some_length c cs)) ∙ passes

    own_stays : all_pass test entries ≡ true → (d : Domain) → finite.contains_key (shared_in entries) d ≡ true → shared_stays rules (shared_in entries) d ≡ true
    unfolding get_cell
    own_stays all d had =
        ap (cell_stays rules (OwnCell d)) (shared_at d entries)
        ∙ stays_by all (OwnCell d) (jar_at (OwnCell d) entries) refl (λ none. cookies_had (finite.get (shared_in entries) d) had (shared_at d entries ∙ none))

    partition_stays : all_pass test entries ≡ true → (k : PartitionedKey) → finite.contains_key (partitioned_in entries) k ≡ true → partitioned_stays rules (partitioned_in entries) k ≡ true
    unfolding get_cell
    partition_stays all k had =
        ap (cell_stays rules (cell_key k)) (partitioned_at k entries)
        ∙ stays_by all (cell_key k) (jar_at (cell_key k) entries) refl (λ none. cookies_had (finite.get (partitioned_in entries) k) had (partitioned_at k entries ∙ none))

    -- where each cell stays, an entry passes
    passes_by : list_all (shared_stays rules (shared_in entries)) (finite.keys (shared_in entries)) ≡ true
        → list_all (partitioned_stays rules (partitioned_in entries)) (finite.keys (partitioned_in entries)) ≡ true
        → (q : PlainKey) (jar : PlainJar) → jar_at q entries ≡ Some jar → jar_stays rules q jar ≡ true
    unfolding get_cell
    passes_by own partition q jar is = at jar.cookies refl
      where
        here : cookies_at q entries ≡ jar.cookies
        here = ap cookies_of is

        by : (p : PlainKey) → p ≡ q → (jar.cookies ≡ [] → ⊥) → cell_stays rules p (cookies_at p entries) ≡ true
        by (OwnCell d) same some =
            let there : cookies_at (OwnCell d) entries ≡ jar.cookies = ap (λ k. cookies_at k entries) same ∙ here in
            sym (ap (cell_stays rules (OwnCell d)) (shared_at d entries))
            ∙ each_had domain_order domain_order_total domain_order_same (shared_stays rules (shared_in entries)) (shared_in entries) own d
            (had_cookies (finite.get (shared_in entries) d) (λ none. some (sym there ∙ sym (shared_at d entries) ∙ none)))
        by (PartitionCell top bit domain) same some =
            let k : PartitionedKey = record { top = top; bit = bit; domain = domain } in
            let there : cookies_at (cell_key k) entries ≡ jar.cookies = ap (λ c. cookies_at c entries) same ∙ here in
            sym (ap (cell_stays rules (cell_key k)) (partitioned_at k entries))
            ∙ each_had partitioned_order partitioned_order_total partitioned_order_same (partitioned_stays rules (partitioned_in entries)) (partitioned_in entries) partition k
            (had_cookies (finite.get (partitioned_in entries) k) (λ none. some (sym there ∙ sym (partitioned_at k entries) ∙ none)))

        at : (cookies : Cookies) → jar.cookies ≡ cookies → ((length jar.cookies == 0) || cell_stays rules q jar.cookies) ≡ true
        at [] none = ap (λ cookies. (length cookies == 0) || cell_stays rules q cookies) none
        at (c ∷ cs) some =
            ap (λ e. e || cell_stays rules q jar.cookies) (ap (λ cookies. length cookies == 0) some ∙ some_length c cs)
            ∙ ap (cell_stays rules q) (sym here)
            ∙ by q refl (λ none. no_cookies_there c cs (sym some ∙ none))

    -- all entries pass where each cell that has cookies stays, and only there
    pub all_stay_by : all_pass test entries ≡ all_stay rules (shared_in entries) (partitioned_in entries)
    all_stay_by = both_ways _ _
        (λ all i.
        all_had domain_order domain_order_total domain_order_same (shared_stays rules (shared_in entries)) (shared_in entries) (own_stays all) i
        && all_had partitioned_order partitioned_order_total partitioned_order_same (partitioned_stays rules (partitioned_in entries)) (partitioned_in entries) (partition_stays all) i)
        (λ all.
        let parts = and_parts _ _ all in
        plain.all_found plain_key cell_order cell_order_total order alike cell_order_same test (jar_stays rules) (λ k v. refl) entries sorted (passes_by parts.0 parts.1))
