-- Keys, cells, cookies and permissions: what is read is what was written.
use Rattle.std.proofs.Common.{◌≡◌, ℕ, zero, suc, ◌+◌, ◌*◌, ◌<◌, Bool, true, false, List, [], ◌∷◌, ◌++◌, Option, Some, None, refl, sym, ap, subst, ◌∙◌, append_assoc, arith}
use Rattle.std.proofs.lemmas.Bool.{le-ltb}
use Rattle.std.proofs.lemmas.Option.{none-some, same_Some}
use Rattle.origin_site.specs.Origin.{PlainOrigin, origin_text}
use Rattle.origin_site.specs.Site.{PlainSite, site_text}
use Rattle.storage_key.specs.Key.{PlainKey}
use Rattle.setcookie_parse.specs.declared.cookie.SameSite.{SameSite}
use Rattle.setcookie_parse.specs.declared.cookie.SameSite.TheVariants.{Default, NoneSent, Lax, Strict}
use Rattle.cookie_jar.specs.Key.{PlainKey as PlainCell, OwnCell, PartitionCell}
use Rattle.cookie_jar.specs.Stays.{domain_of_cell}
use Rattle.row_changes.specs.Names.{is_host}
use Rattle.row_changes.specs.Fields.{both, passing, bit_at, text_at, text_bytes, bit_byte}
use Rattle.row_changes.specs.Spelling.{key_bytes, cell_bytes, same_site_byte}
use Rattle.row_changes.specs.Spelled.{IsSite, IsKey, IsNamed}
use Rattle.row_changes.specs.Reading.{site_at, domain_at, key_of, key_at, cell_behind, cell_at, flags_of, flags_at, same_site_of, same_site_at}
use Rattle.row_changes.proofs.FieldLaws.{IsBytes, Reads, Takes, respelled, both_reads, made_reads, both_some, made_some, passing_some, built_takes, built_again}
use Rattle.row_changes.proofs.FieldLaws.{differs, byte_reads, Any, bit_reads}
use Rattle.row_changes.proofs.NameLaws.{IsOrigin, origin_reads, site_reads, IsDomain, domain_reads}

-- ---- keys

abbrev key_parts : PlainKey → (PlainOrigin × PlainSite) × Bool
key_parts key = ((key.origin, key.top), key.bit)

key_forth : (key : PlainKey) → IsKey key → ((IsOrigin key.origin × IsSite key.top) × Any key.bit) × (◌≡◌ {A = Option PlainKey} (Some (key_of (key_parts key))) (Some key))
key_forth key h = ((((h.0, h.1), h.2), tt), refl)

key_only : (parts : (PlainOrigin × PlainSite) × Bool) (key : PlainKey) → (IsOrigin parts.0.0 × IsSite parts.0.1) × Any parts.1
    → ◌≡◌ {A = Option PlainKey} (Some (key_of parts)) (Some key) → IsKey key × (key_parts key ≡ parts)
key_only parts key p e =
    let same : key_of parts ≡ key = same_Some (key_of parts) key e in
    (subst IsKey same (p.0.0.0, p.0.0.1, p.0.1), ap key_parts (sym same))

key_respelled : (key : PlainKey) → (text_bytes (origin_text key.origin) ++ text_bytes (site_text key.top)) ++ bit_byte key.bit ∷ [] ≡ key_bytes key
key_respelled key = refl

pub key_reads : Reads key_at key_bytes IsKey
unfolding key_at
key_reads =
    respelled key_bytes key_respelled
    (made_reads (λ parts. Some (key_of parts)) key_parts IsKey key_forth key_only
    (both_reads (both_reads origin_reads site_reads) bit_reads))

-- ---- cells

partition_reads : Reads (both (both site_at bit_at) domain_at)
    (λ p. text_bytes (site_text p.0.0) ++ bit_byte p.0.1 ∷ text_bytes p.1) (λ p. (IsSite p.0.0 × Any p.0.1) × IsDomain p.1)
partition_reads =
    respelled (λ p. text_bytes (site_text p.0.0) ++ bit_byte p.0.1 ∷ text_bytes p.1)
    (λ p. append_assoc (text_bytes (site_text p.0.0)) (bit_byte p.0.1 ∷ []) (text_bytes p.1))
    (both_reads (both_reads site_reads bit_reads) domain_reads)

abbrev partition_of : (PlainSite × Bool) × List ℕ → PlainCell
partition_of p = PartitionCell p.0.0 p.0.1 p.1

cell_again : (cell : PlainCell) (rest : List ℕ) → IsNamed cell → cell_at (cell_bytes cell ++ rest) ≡ Some (cell, rest)
unfolding cell_at
cell_again (OwnCell domain) rest h = built_again OwnCell domain_reads domain rest h
cell_again (PartitionCell top bit domain) rest h =
    built_again partition_of partition_reads ((top, bit), domain) rest ((h.0, tt), (h.1, h.2))

no_cell : (kind : ℕ) (bytes : List ℕ) → cell_behind (suc (suc kind)) bytes ≡ None
no_cell kind bytes = rw (differs (suc (suc kind)) 0 (omega arith), differs (suc (suc kind)) 1 (omega arith)) refl

cell_behind_takes : (kind : ℕ) (bytes : List ℕ) (cell : PlainCell) (rest : List ℕ) → IsBytes bytes → cell_behind kind bytes ≡ Some (cell, rest)
    → Takes cell_bytes IsNamed (kind ∷ bytes) cell rest
cell_behind_takes zero bytes cell rest fits e =
    let b = built_takes OwnCell domain_reads bytes cell rest fits e in
    subst (λ c. Takes cell_bytes IsNamed (0 ∷ bytes) c rest) b.1
    (record { is = b.2.is; parts = ap (λ (l : List ℕ). 0 ∷ l) b.2.parts; rest_bytes = b.2.rest_bytes })
cell_behind_takes (suc zero) bytes cell rest fits e =
    let b = built_takes partition_of partition_reads bytes cell rest fits e in
    subst (λ c. Takes cell_bytes IsNamed (1 ∷ bytes) c rest) b.1
    (record { is = (b.2.is.0.0, b.2.is.1.0, b.2.is.1.1); parts = ap (λ (l : List ℕ). 1 ∷ l) b.2.parts; rest_bytes = b.2.rest_bytes })
cell_behind_takes (suc (suc kind)) bytes cell rest fits e = absurd (none-some (cell, rest) (sym (no_cell kind bytes) ∙ e))

cell_takes : (bytes : List ℕ) (cell : PlainCell) (rest : List ℕ) → IsBytes bytes → cell_at bytes ≡ Some (cell, rest)
    → Takes cell_bytes IsNamed bytes cell rest
unfolding cell_at
cell_takes [] cell rest fits e = absurd (none-some _ e)
cell_takes (kind ∷ bytes) cell rest fits e = cell_behind_takes kind bytes cell rest (λ i. fits (suc i)) e

pub cell_reads : Reads cell_at cell_bytes IsNamed
cell_reads = record { again = cell_again; takes = cell_takes }

-- the domain of a cell that was read is a host
domain_host : (bytes domain rest : List ℕ) → domain_at bytes ≡ Some (domain, rest) → is_host domain ≡ true
unfolding domain_at
domain_host bytes domain rest e =
    let m = made_some (passing is_host) text_at bytes domain rest e in
    (passing_some is_host m.0 domain m.2).0

host_behind : (kind : ℕ) (bytes : List ℕ) (cell : PlainCell) (rest : List ℕ) → cell_behind kind bytes ≡ Some (cell, rest) → is_host (domain_of_cell cell) ≡ true
host_behind zero bytes cell rest e =
    let m = made_some (λ domain. Some (OwnCell domain)) domain_at bytes cell rest e in
    subst (λ c. is_host (domain_of_cell c) ≡ true) (same_Some (OwnCell m.0) cell m.2) (domain_host bytes m.0 rest m.1)
host_behind (suc zero) bytes cell rest e =
    let m = made_some (λ parts. Some (partition_of parts)) (both (both site_at bit_at) domain_at) bytes cell rest e in
    let b = both_some (both site_at bit_at) domain_at bytes m.0 rest m.1 in
    subst (λ c. is_host (domain_of_cell c) ≡ true) (same_Some (partition_of m.0) cell m.2) (domain_host b.0 m.0.1 rest b.2)
host_behind (suc (suc kind)) bytes cell rest e = absurd (none-some (cell, rest) (sym (no_cell kind bytes) ∙ e))

pub cell_host : (bytes : List ℕ) (cell : PlainCell) (rest : List ℕ) → cell_at bytes ≡ Some (cell, rest) → is_host (domain_of_cell cell) ≡ true
unfolding cell_at
cell_host [] cell rest e = absurd (none-some _ e)
cell_host (kind ∷ bytes) cell rest e = host_behind kind bytes cell rest e

-- ---- flags and the SameSite attribute

abbrev pub flags_sum : (Bool × Bool) × Bool → ℕ
flags_sum f = bit_byte f.0.0 + (2 * bit_byte f.0.1 + 4 * bit_byte f.1)

flags_forth : (f : (Bool × Bool) × Bool) → (flags_sum f < 256) × (flags_of (flags_sum f) ≡ Some f)
flags_forth ((true, true), true) = (omega arith, refl)
flags_forth ((true, true), false) = (omega arith, refl)
flags_forth ((true, false), true) = (omega arith, refl)
flags_forth ((true, false), false) = (omega arith, refl)
flags_forth ((false, true), true) = (omega arith, refl)
flags_forth ((false, true), false) = (omega arith, refl)
flags_forth ((false, false), true) = (omega arith, refl)
flags_forth ((false, false), false) = (omega arith, refl)

flags_only : (n : ℕ) (f : (Bool × Bool) × Bool) → flags_of n ≡ Some f → flags_sum f ≡ n
flags_only zero f e = ap flags_sum (sym (same_Some _ f e))
flags_only (suc zero) f e = ap flags_sum (sym (same_Some _ f e))
flags_only (suc (suc zero)) f e = ap flags_sum (sym (same_Some _ f e))
flags_only (suc (suc (suc zero))) f e = ap flags_sum (sym (same_Some _ f e))
flags_only (suc (suc (suc (suc zero)))) f e = ap flags_sum (sym (same_Some _ f e))
flags_only (suc (suc (suc (suc (suc zero))))) f e = ap flags_sum (sym (same_Some _ f e))
flags_only (suc (suc (suc (suc (suc (suc zero)))))) f e = ap flags_sum (sym (same_Some _ f e))
flags_only (suc (suc (suc (suc (suc (suc (suc zero))))))) f e = ap flags_sum (sym (same_Some _ f e))
flags_only (suc (suc (suc (suc (suc (suc (suc (suc n)))))))) f e =
    let none : flags_of (suc (suc (suc (suc (suc (suc (suc (suc n)))))))) ≡ None = rw (le-ltb (suc (suc (suc (suc (suc (suc (suc (suc n)))))))) 8 (omega arith)) refl in
    absurd (none-some f (sym none ∙ e))

pub flags_reads : Reads flags_at (λ f. flags_sum f ∷ []) Any
unfolding flags_at
flags_reads = made_reads flags_of flags_sum Any (λ f h. flags_forth f) (λ n f below e. (tt, flags_only n f e)) byte_reads

same_site_forth : (s : SameSite) → (same_site_byte s < 256) × (same_site_of (same_site_byte s) ≡ Some s)
same_site_forth Default = (omega arith, refl)
same_site_forth NoneSent = (omega arith, refl)
same_site_forth Lax = (omega arith, refl)
same_site_forth Strict = (omega arith, refl)

same_site_only : (n : ℕ) (s : SameSite) → same_site_of n ≡ Some s → same_site_byte s ≡ n
same_site_only zero s e = ap same_site_byte (sym (same_Some _ s e))
same_site_only (suc zero) s e = ap same_site_byte (sym (same_Some _ s e))
same_site_only (suc (suc zero)) s e = ap same_site_byte (sym (same_Some _ s e))
same_site_only (suc (suc (suc zero))) s e = ap same_site_byte (sym (same_Some _ s e))
same_site_only (suc (suc (suc (suc n)))) s e =
    let m = suc (suc (suc (suc n))) in
    let none : same_site_of m ≡ None = rw (differs m 0 (omega arith), differs m 1 (omega arith), differs m 2 (omega arith), differs m 3 (omega arith)) refl in
    absurd (none-some s (sym none ∙ e))

pub same_site_reads : Reads same_site_at (λ s. same_site_byte s ∷ []) Any
unfolding same_site_at
same_site_reads = made_reads same_site_of same_site_byte Any (λ s h. same_site_forth s) (λ n s below e. (tt, same_site_only n s e)) byte_reads
