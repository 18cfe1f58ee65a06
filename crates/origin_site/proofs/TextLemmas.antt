-- The text of an origin and of a site determine what they are the text of.
use Rattle.std.proofs.Common.{◌≡◌, ℕ, Bool, true, false, List, Result, Ok, Err, ap, sym, ◌∙◌}
use Rattle.std.specs.Prelude.{drop, slice_index, ◌==◌}
use Rattle.std.proofs.lemmas.Bool.{true≢false}
use Rattle.origin_site.specs.Address.{PlainAddress, address_of}
use Rattle.origin_site.specs.declared.address.AddressFault.{AddressFault}
use Rattle.origin_site.specs.Origin.{PlainOrigin, ReadsBack, origin_text}
use Rattle.origin_site.specs.Site.{PlainSite, site_text}

-- the kind of host of an address that was read
abbrev ip_read : Result PlainAddress AddressFault → Bool
ip_read (Ok address) = address.ip
ip_read (Err why) = true

-- of origins that read back, equal scheme, host and port make equal kinds of host
pub ip_follows : (a b : PlainOrigin) → ReadsBack a → ReadsBack b → a.https ≡ b.https → a.host ≡ b.host
    → a.port ≡ b.port → a.ip ≡ b.ip
ip_follows a b read_a read_b https host port =
    let text : origin_text a ≡ origin_text b =
    λ i. origin_text (record { https = https i; ip = a.ip; host = host i; port = port i }) in
    ap ip_read (sym read_a ∙ ap address_of text ∙ read_b)

-- two sites of one text are the same
same_text : (x y : Bool) (g h : List ℕ)
    → site_text (record { https = x; host = g }) ≡ site_text (record { https = y; host = h })
    → ◌≡◌ {A = PlainSite} (record { https = x; host = g }) (record { https = y; host = h })
same_text true true g h e = λ i. record { https = true; host = drop 8 (e i) }
same_text false false g h e = λ i. record { https = false; host = drop 7 (e i) }
same_text true false g h e = absurd (true≢false (ap (λ t. slice_index t 4 == 115) e))
same_text false true g h e = absurd (true≢false (sym (ap (λ t. slice_index t 4 == 115) e)))

pub site_text_same : (a b : PlainSite) → site_text a ≡ site_text b → a ≡ b
site_text_same a b = same_text a.https b.https a.host b.host
