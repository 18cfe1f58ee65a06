-- The words that answer a Set-Cookie text.
-- Source: none; the reply format of docs/FORMATS.md.
-- Our own choice: all of them.
use Rattle.std.specs.Prelude.{ℕ, List, [], codes}
use Rattle.setcookie_parse.specs.declared.cookie.DropCause.{DropCause}
use Rattle.setcookie_parse.specs.declared.cookie.DropCause.TheVariants as parse
use Rattle.cookie_jar.specs.declared.cause.CookieDrop.{CookieDrop}
use Rattle.cookie_jar.specs.declared.cause.CookieDrop.TheVariants as why
use Rattle.cookie_jar.specs.declared.plan.StoredKind.{StoredKind}
use Rattle.cookie_jar.specs.declared.plan.StoredKind.TheVariants as kind

-- a text that is no cookie
abbrev pub parse_word : DropCause → List ℕ
parse_word parse.Control = codes "control"
parse_word parse.TooLong = codes "too-long"
parse_word parse.Empty = codes "empty"

-- a cookie that was stored
abbrev pub stored_word : StoredKind → List ℕ
stored_word kind.Added = codes "added"
stored_word kind.Replaced = codes "replaced"
stored_word kind.Removed = codes "removed"

-- a cookie that was dropped. None is dropped for want of memory.
abbrev pub drop_word : CookieDrop → List ℕ
drop_word why.NonAsciiDomain = codes "non-ascii-domain"
drop_word why.PublicSuffix = codes "public-suffix"
drop_word why.DomainMismatch = codes "domain-mismatch"
drop_word why.NotSecureUrl = codes "not-secure-url"
drop_word why.HttpOnlyFromScript = codes "http-only-from-script"
drop_word why.OverlaysSecure = codes "overlays-secure"
drop_word why.SameSite = codes "same-site"
drop_word why.NoneNeedsSecure = codes "none-needs-secure"
drop_word why.SecurePrefix = codes "secure-prefix"
drop_word why.HostPrefix = codes "host-prefix"
drop_word why.NamelessPrefix = codes "nameless-prefix"
drop_word why.OverwritesHttpOnly = codes "overwrites-http-only"
drop_word why.PartitionedNeedsSecure = codes "partitioned-needs-secure"
drop_word why.ThirdParty = codes "third-party"
drop_word why.NoMemory = []
