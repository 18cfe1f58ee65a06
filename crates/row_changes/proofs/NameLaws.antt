-- Names by their texts: an origin, a site and a domain that are read have the text that was read.
use Rattle.std.proofs.Common.{◌≡◌, ℕ, Bool, true, false, cond, List, Some, Result, Ok, Err, refl, sym, ap, subst, ◌∙◌}
use Rattle.std.specs.Result.{result_ok}
use Rattle.std.specs.Prelude.{bytes_eq, ◌&&◌, nat_le, length}
use Rattle.std.proofs.lemmas.Option.{cond_some, none-some, same_Some}
use Rattle.std.proofs.lemmas.Slice.Eq.{bytes_eq-Decides}
use Rattle.origin_site.specs.Address.{PlainAddress, address_of}
use Rattle.origin_site.specs.Origin.{PlainOrigin, origin_of_address, origin_text}
use Rattle.origin_site.specs.Site.{PlainSite, site_by, site_of_text, site_text, whole_host}
use Rattle.origin_site.specs.declared.address.AddressFault.{AddressFault}
use Rattle.origin_site.specs.declared.site.SiteFault.TheVariants.{NotSite}
use Rattle.row_changes.specs.Fields.{text_bytes}
use Rattle.row_changes.specs.Names.{origin_by, origin_of_text, origin_limit, is_host}
use Rattle.row_changes.specs.Spelled.{IsText, IsSite}
use Rattle.row_changes.specs.Reading.{origin_at, site_at, domain_at}
use Rattle.row_changes.proofs.FieldLaws.{both_true, Reads, made_reads, passing_reads, text_reads}

origin_is : {E : Type 0} (text : List ℕ) (read : Result PlainAddress E) (origin : PlainOrigin) → origin_by text read ≡ Some origin → origin_text origin ≡ text
origin_is text (Err why) origin e = absurd (none-some _ e)
origin_is text (Ok address) origin e =
    let own = origin_of_address address in
    let c = cond_some (bytes_eq (origin_text own) text && nat_le (length text) origin_limit) own origin e in
    let both = both_true (bytes_eq (origin_text own) text) (nat_le (length text) origin_limit) c.0 in
    ap origin_text (sym c.1) ∙ (bytes_eq-Decides (origin_text own) text).0 both.0

pub not_ok : {A E : Type 0} (why : E) (a : A) → ◌≡◌ {A = Result A E} (Err why) (Ok a) → ⊥
not_ok why a e = cc

pub same_ok : {A E : Type 0} (a b : A) → ◌≡◌ {A = Result A E} (Ok a) (Ok b) → a ≡ b
same_ok a b e = cc

pub cond_ok : {A E : Type 0} (b : Bool) (a c : A) (why : E) → cond b (Ok a) (Err why) ≡ Ok c → (b ≡ true) × (a ≡ c)
cond_ok true a c why e = (refl, same_ok a c e)
cond_ok false a c why e = absurd (not_ok why c e)

is_ok_of : {A E : Type 0} (read : Result A E) (a : A) → result_ok read ≡ Some a → read ≡ Ok a
is_ok_of (Ok x) a e = ap Ok (same_Some x a e)
is_ok_of (Err why) a e = absurd (none-some _ e)

-- a text that was read as a site is its text
site_is : (text : List ℕ) (read : Result PlainAddress AddressFault) (site : PlainSite) → site_by text read ≡ Ok site → site_text site ≡ text
site_is text (Err why) site e = absurd (not_ok NotSite site e)
site_is text (Ok address) site e =
    let c = cond_ok (bytes_eq (site_text (whole_host address)) text) (whole_host address) site NotSite e in
    ap site_text (sym c.1) ∙ (bytes_eq-Decides (site_text (whole_host address)) text).0 c.0

-- an origin has a spelling: its text reads back
abbrev pub IsOrigin : PlainOrigin → Type 0
IsOrigin origin = IsText (origin_text origin) × (origin_of_text (origin_text origin) ≡ Some origin)

origin_only : (text : List ℕ) (origin : PlainOrigin) → IsText text → origin_of_text text ≡ Some origin → IsOrigin origin × (origin_text origin ≡ text)
origin_only text origin h e =
    let same : origin_text origin ≡ text = origin_is text (address_of text) origin e in
    (subst (λ (t : List ℕ). IsText t × (origin_of_text t ≡ Some origin)) (sym same) (h, e), same)

pub origin_reads : Reads origin_at (λ o. text_bytes (origin_text o)) IsOrigin
unfolding origin_at
origin_reads = made_reads origin_of_text origin_text IsOrigin (λ o h. h) origin_only text_reads

site_only : (text : List ℕ) (site : PlainSite) → IsText text → result_ok (site_of_text text) ≡ Some site → IsSite site × (site_text site ≡ text)
site_only text site h e =
    let read : site_of_text text ≡ Ok site = is_ok_of (site_of_text text) site e in
    let same : site_text site ≡ text = site_is text (address_of text) site read in
    (subst (λ (t : List ℕ). IsText t × (site_of_text t ≡ Ok site)) (sym same) (h, read), same)

pub site_reads : Reads site_at (λ s. text_bytes (site_text s)) IsSite
unfolding site_at
site_reads = made_reads (λ text. result_ok (site_of_text text)) site_text IsSite (λ s h. (h.0, ap result_ok h.1)) site_only text_reads

-- a domain has a spelling: it is a host
abbrev pub IsDomain : List ℕ → Type 0
IsDomain domain = IsText domain × (is_host domain ≡ true)

pub domain_reads : Reads domain_at text_bytes IsDomain
unfolding domain_at
domain_reads = passing_reads is_host text_reads
