-- Values worked out by hand from the rules of contexts and keys.
use Rattle.std.proofs.Common.{◌≡◌, refl, [], ◌∷◌, true, false, Some, None}
use Rattle.std.specs.Prelude.{codes}
use Rattle.origin_site.specs.Origin.{PlainOrigin}
use Rattle.origin_site.specs.Site.{PlainSite}
use Rattle.storage_key.specs.Context.{context_of, is_first_party}
use Rattle.std.specs.declared.cmp.Ordering.TheVariants.{Less, Greater}
use Rattle.storage_key.specs.Key.{key_order, origin_order, own_bit, own_site, site_order, storage_key}
use Rattle.storage_key.specs.Plain.{plain_context, plain_chain_site, plain_key}
use Rattle.storage_key.specs.declared.context.Context.{Context}
use Rattle.storage_key.specs.declared.key.StorageKey.{StorageKey}
use Rattle.origin_site.specs.Plain.{plain_origin, plain_site}
use Rattle.origin_site.specs.declared.site.Site.{Site}

abbrev a : PlainSite
a = record { https = true; host = codes "a.test" }

abbrev b : PlainSite
b = record { https = true; host = codes "b.test" }

-- the same domain over http is another site
abbrev http : PlainSite
http = record { https = false; host = codes "a.test" }

abbrev deep : PlainOrigin
deep = record { https = true; ip = false; host = codes "x.a.test"; port = 8443 }

top_alone : is_first_party (Some a ∷ []) a ≡ true
top_alone = refl

same_site_below : is_first_party (Some a ∷ Some a ∷ []) a ≡ true
same_site_below = refl

other_url : is_first_party (Some a ∷ Some a ∷ []) b ≡ false
other_url = refl

other_scheme : is_first_party (Some a ∷ []) http ≡ false
other_scheme = refl

-- A in B in A
foreign_ancestor : context_of (Some a ∷ Some b ∷ Some a ∷ []) a ≡ record { first = false; bit = true }
foreign_ancestor = refl

opaque_ancestor : is_first_party (Some a ∷ None ∷ Some a ∷ []) a ≡ false
opaque_ancestor = refl

opaque_top : is_first_party (None ∷ Some a ∷ []) a ≡ false
opaque_top = refl

no_documents : is_first_party [] a ≡ false
no_documents = refl

-- the own context ends with the own site
bit_of_the_inner_document : own_bit (Some a ∷ Some b ∷ Some a ∷ []) ≡ true
bit_of_the_inner_document = refl

bit_of_the_top : own_bit (Some a ∷ []) ≡ false
bit_of_the_top = refl

bit_of_a_foreign_frame : own_bit (Some b ∷ Some a ∷ []) ≡ true
bit_of_a_foreign_frame = refl

inner_and_top_differ : storage_key (Some a ∷ Some b ∷ Some a ∷ []) (Some deep)
    ≡ Some (record { origin = deep; top = a; bit = true })
inner_and_top_differ = refl

key_of_the_top : storage_key (Some a ∷ []) (Some deep) ≡ Some (record { origin = deep; top = a; bit = false })
key_of_the_top = refl

-- a document of another site in a page is kept under the page's site, with the bit set
key_in_another_page : storage_key (Some b ∷ Some a ∷ []) (Some deep) ≡ Some (record { origin = deep; top = b; bit = true })
key_in_another_page = refl

own_is_last : own_site (Some b ∷ None ∷ Some a ∷ []) ≡ Some a
own_is_last = refl

-- a sandboxed document has no site, so it is not of the top's
bit_of_an_opaque_document : own_bit (Some a ∷ None ∷ []) ≡ true
bit_of_an_opaque_document = refl

opaque_has_no_key : storage_key (Some a ∷ None ∷ []) None ≡ None
opaque_has_no_key = refl

-- the top-level site comes before the origin, and the origin before the bit
top_comes_first : key_order (record { top = a; origin = deep; bit = true })
    (record { top = b; origin = record deep { host = codes "a.test" }; bit = false }) ≡ Less
top_comes_first = refl

origin_comes_second : key_order (record { top = a; origin = deep; bit = false })
    (record { top = a; origin = record deep { host = codes "a.test" }; bit = true }) ≡ Greater
origin_comes_second = refl

bit_comes_last : key_order (record { top = a; origin = deep; bit = true }) (record { top = a; origin = deep; bit = false })
    ≡ Greater
bit_comes_last = refl

-- http comes before https, in origins and in sites, whatever the host
site_by_scheme : site_order (record { https = false; host = codes "b.test" }) a ≡ Less
site_by_scheme = refl

site_by_host : site_order b a ≡ Greater
site_by_host = refl

scheme_of_an_origin : origin_order deep (record deep { https = false; ip = true; host = codes "z"; port = 65535 }) ≡ Greater
scheme_of_an_origin = refl

kind_of_an_origin : origin_order (record deep { ip = true; host = codes "1.2.3.4" }) deep ≡ Greater
kind_of_an_origin = refl

host_of_an_origin : origin_order (record deep { host = codes "w.a.test"; port = 8444 }) deep ≡ Less
host_of_an_origin = refl

port_of_an_origin : origin_order (record deep { port = 8442 }) deep ≡ Less
port_of_an_origin = refl

-- what contracts see of a context and of a key
first_of_context : (c : Context) → (plain_context c).first ≡ c.first
first_of_context c = refl

bit_of_context : (c : Context) → (plain_context c).bit ≡ c.bit
bit_of_context c = refl

site_of_a_document : (site : Site) → plain_chain_site (Some site) ≡ Some (plain_site site)
site_of_a_document site = refl

parts_of_a_key : (key : StorageKey) → plain_key key
    ≡ record { top = plain_site key.top; origin = plain_origin key.origin; bit = key.bit }
parts_of_a_key key = refl
