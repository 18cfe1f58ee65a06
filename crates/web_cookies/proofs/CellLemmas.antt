-- What the cookies of all sites are to the machine of a site, by the cookies of each key.
use Rattle.std.proofs.Common.{◌≡◌, Bool, true, false, cond, [], ◌∷◌, Option, Some, None, Bor, refl, sym, ap, subst, ◌∙◌}
use Rattle.std.specs.Prelude.{Result, Ok, Err, OnOk, OnErr, IfSome, is_some, option_copied, unwrap_or}
use Rattle.std.specs.FinMap.{get-empty}
use Rattle.std.specs.Ordering.{eq_by_cmp}
use Rattle.unwinding.specs.FiniteCells.{get_cell, list_of}
use Rattle.unwinding.proofs.FiniteCellsLemmas as cells
use Rattle.key_map.specs.Entries.{map_get, map_put}
use Rattle.partition_limits.specs.declared.tally.CellKind.{CellKind}
use Rattle.cookie_jar.specs.declared.key.CellKey.{CellKey}
use Rattle.cookie_jar.specs.Cookie.{PlainJar}
use Rattle.cookie_jar.specs.Key.{PlainKey, OwnCell, PartitionCell, plain_key}
use Rattle.agent_model.specs.CookieCells.{Cookies, CookieCells, Domain, domain_order}
use Rattle.agent_model.specs.PartitionedCells.{PartitionedCells, PartitionedKey, no_partitioned_cells, partitioned_order}
use Rattle.agent_model.proofs.CookieCellsLemmas.{domain_order_total, domain_order_same, get_none}
use Rattle.agent_model.proofs.PartitionedLemmas.{partitioned_order_total, partitioned_order_same}
use Rattle.web_cookies.specs.Stored.{Entries, shared_in, partitioned_in, with_shared, with_partitioned}
use Rattle.web_cookies.specs.Cells.{cell_key, cell_order, cookies_at, cookies_of, jar_at}
use Rattle.web_cookies.proofs.OrderOfCells.{alike, cell_order_total, equal_keys, order, own_tie}
use Rattle.key_map.proofs.PlainKeyLemmas as plain

pub cookies_cond : (b : Bool) (x : PlainJar) (y : Option PlainJar) → cookies_of (cond b (Some x) y) ≡ cond b x.cookies (cookies_of y)
cookies_cond true x y = refl
cookies_cond false x y = refl

pub shared_with : (d : Domain) (key : PlainKey) (cookies : Cookies) (m : CookieCells)
    → get_cell domain_order (with_shared key cookies m) d ≡ cond (eq_by_cmp cell_order (OwnCell d) key) cookies (get_cell domain_order m d)
shared_with d (OwnCell c) cookies m = cells.get_set domain_order domain_order_total domain_order_same d c cookies m
shared_with d (PartitionCell top bit c) cookies m = refl

-- the cookies of a domain are those of its key
pub shared_at : (d : Domain) (entries : Entries) → get_cell domain_order (shared_in entries) d ≡ cookies_at (OwnCell d) entries
shared_at d [] = get_none d
shared_at d (e ∷ es) =
    shared_with d (plain_key e.0) e.1.cookies (shared_in es)
    ∙ ap (λ r. cond (eq_by_cmp cell_order (OwnCell d) (plain_key e.0)) e.1.cookies r) (shared_at d es)
    ∙ sym (cookies_cond (eq_by_cmp cell_order (OwnCell d) (plain_key e.0)) e.1 (jar_at (OwnCell d) es))

pub partitioned_with : (k : PartitionedKey) (key : PlainKey) (cookies : Cookies) (m : PartitionedCells)
    → get_cell partitioned_order (with_partitioned key cookies m) k ≡ cond (eq_by_cmp cell_order (cell_key k) key) cookies (get_cell partitioned_order m k)
partitioned_with k (OwnCell c) cookies m = refl
partitioned_with k (PartitionCell top bit c) cookies m =
    cells.get_set partitioned_order partitioned_order_total partitioned_order_same k (record { top = top; bit = bit; domain = c }) cookies m

none_partitioned : (k : PartitionedKey) → get_cell partitioned_order no_partitioned_cells k ≡ []
unfolding get_cell no_partitioned_cells
none_partitioned k = ap list_of (get-empty partitioned_order k)

-- the cookies of a partitioned cell are those of its key
pub partitioned_at : (k : PartitionedKey) (entries : Entries) → get_cell partitioned_order (partitioned_in entries) k ≡ cookies_at (cell_key k) entries
partitioned_at k [] = none_partitioned k
partitioned_at k (e ∷ es) =
    partitioned_with k (plain_key e.0) e.1.cookies (partitioned_in es)
    ∙ ap (λ r. cond (eq_by_cmp cell_order (cell_key k) (plain_key e.0)) e.1.cookies r) (partitioned_at k es)
    ∙ sym (cookies_cond (eq_by_cmp cell_order (cell_key k) (plain_key e.0)) e.1 (jar_at (cell_key k) es))

-- ---- look-ups

-- a jar that is there, or another that stands for none
pub jar_kind : (at : Option (Bor PlainJar)) (other : Bor PlainJar) (jar : Option PlainJar) (kind : CellKind) → option_copied at ≡ jar
    → IfSome jar (λ j. j.kind ≡ kind) → other.now.kind ≡ kind → (unwrap_or at other).now.kind ≡ kind
jar_kind None other jar kind is one none = none
jar_kind (Some at) other jar kind is one none = subst (λ o. IfSome o (λ j. j.kind ≡ kind)) (sym is) one

pub jar_cookies : (at : Option (Bor PlainJar)) (other : Bor PlainJar) (jar : Option PlainJar) → option_copied at ≡ jar
    → other.now.cookies ≡ [] → (unwrap_or at other).now.cookies ≡ cookies_of jar
jar_cookies None other jar is none = none ∙ ap cookies_of is
jar_cookies (Some at) other jar is none = ap cookies_of is

-- what holds at Ok and at Err holds
pub either_way : {T E P : Type 0} (r : Result T E) → OnOk r P → OnErr r P → P
either_way (Ok v) p e = p
either_way (Err x) p e = e

-- ---- room

found_none : (b : Bool) (o : Option PlainJar) (fresh : PlainJar) → fresh.cookies ≡ [] → (b ≡ true → is_some o ≡ false)
    → cookies_of (cond b (Some fresh) o) ≡ cookies_of o
found_none true None fresh empty none = empty
found_none true (Some jar) fresh empty none = let no : true ≡ false = none refl in cc
found_none false o fresh empty none = refl

module _ (key copy : CellKey) (same : plain_key copy ≡ plain_key key) (fresh : PlainJar) (entries : Entries) where
  abbrev pub with_room : Entries
  with_room = map_put order copy fresh entries

  at_copy : (q : PlainKey) → jar_at q with_room ≡ cond (eq_by_cmp cell_order q (plain_key key)) (Some fresh) (jar_at q entries)
  at_copy q =
      plain.found-put plain_key cell_order cell_order_total order alike q copy fresh entries
      ∙ ap (λ k. cond (eq_by_cmp cell_order q k) (Some fresh) (jar_at q entries)) same

  -- an empty jar at a key that had none changes no cookie
  pub room_same : fresh.cookies ≡ [] → is_some (map_get order key entries) ≡ false → (q : PlainKey) → cookies_at q with_room ≡ cookies_at q entries
  room_same empty none q =
      ap cookies_of (at_copy q)
      ∙ found_none (eq_by_cmp cell_order q (plain_key key)) (jar_at q entries) fresh empty
      (λ tie. ap (λ k. is_some (jar_at k entries)) (equal_keys q (plain_key key) tie)
      ∙ ap is_some (sym (plain.found-key plain_key cell_order cell_order_total order alike key entries)) ∙ none)

  still : (b : Bool) (o : Option PlainJar) → is_some o ≡ true → is_some (cond b (Some fresh) o) ≡ true
  still true o is = refl
  still false o is = is

  pub room_kept : (q : PlainKey) → is_some (jar_at q entries) ≡ true → is_some (jar_at q with_room) ≡ true
  room_kept q is = ap is_some (at_copy q) ∙ still (eq_by_cmp cell_order q (plain_key key)) (jar_at q entries) is

  pub room_there : is_some (jar_at (plain_key key) with_room) ≡ true
  room_there = ap is_some (at_copy (plain_key key)) ∙ ap (λ b. is_some (cond b (Some fresh) (jar_at (plain_key key) entries))) (own_tie (plain_key key))
