-- What contracts see of a context, of the documents of a chain, and of a key.
use Rattle.std.specs.Prelude.{Option, option_map}
use Rattle.origin_site.specs.Site.{PlainSite}
use Rattle.origin_site.specs.Plain.{plain_origin, plain_site}
use Rattle.origin_site.specs.declared.site.Site.{Site}
use Rattle.storage_key.specs.Context.{PlainContext}
use Rattle.storage_key.specs.Key.{PlainKey}
use Rattle.storage_key.specs.declared.context.Context.{Context}
use Rattle.storage_key.specs.declared.key.StorageKey.{StorageKey}

-- a context
abbrev pub plain_context : Context → PlainContext
plain_context c = record { first = c.first; bit = c.bit }

-- the site of a document of a chain
abbrev pub plain_chain_site : Option Site → Option PlainSite
plain_chain_site site = option_map plain_site site

-- a storage key
abbrev pub plain_key : StorageKey → PlainKey
plain_key k = record { top = plain_site k.top; origin = plain_origin k.origin; bit = k.bit }
