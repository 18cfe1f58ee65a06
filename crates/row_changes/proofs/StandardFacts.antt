-- Worked row changes, written byte by byte from the format, so that a wrong rule in the specs does
-- not check.
use Rattle.std.proofs.Common.{◌≡◌, refl, true, false, ◌<◌, ◌^◌}
use Rattle.std.specs.Prelude.{ℕ, List, [], ◌∷◌, ◌++◌, codes, length, pos, negsuc, Some, None, Ok, Err}
use Rattle.url.proofs.OnLiterals.{url_on_literals}
use Rattle.origin_site.specs.Origin.{PlainOrigin, origin_text}
use Rattle.origin_site.specs.Site.{PlainSite, site_of_text, site_text}
use Rattle.origin_site.specs.declared.site.SiteFault.TheVariants.{NotSite}
use Rattle.storage_key.specs.Key.{PlainKey}
use Rattle.setcookie_parse.specs.declared.cookie.SameSite.TheVariants.{NoneSent}
use Rattle.stored_cookie.specs.StoredCookie.{PlainCookie}
use Rattle.cookie_jar.specs.Key.{PlainKey as PlainCell, OwnCell, PartitionCell}
use Rattle.access_grants.specs.Grant.{PlainGrant}
use Rattle.row_changes.specs.Change.{PlainChange, AreaPut, AreaRemove, AreaClear, SetMode, CookieInsert}
use Rattle.row_changes.specs.Change.{CookieReplace, CookieRemove, Grant}
use Rattle.row_changes.specs.Spelling.{change_bytes}
use Rattle.row_changes.specs.Names.{origin_of_text, is_host}
use Rattle.row_changes.specs.Reading.{flags_of, same_site_of, answer_of}
use Rattle.row_changes.specs.Spelled.{IsText, change_stays, is_sound}
use Rattle.row_changes.specs.Body.{changes_bytes, Begins, Row}
use Rattle.row_changes.specs.Laws.{row_pieces, body_pieces, IsSpelledPiece}
use Rattle.row_changes.specs.Appended.{HasTexts, IsAppended}

-- `https://a.test`
abbrev a_site : PlainSite
a_site = record { https = true; host = codes "a.test" }

abbrev a_origin : PlainOrigin
a_origin = record { https = true; ip = false; host = codes "a.test"; port = 443 }

abbrev a_key : PlainKey
a_key = record { top = a_site; origin = a_origin; bit = false }

-- the text `https://a.test` with its length: 18 bytes
abbrev a_text : List ℕ
a_text = 14 ∷ 0 ∷ 0 ∷ 0 ∷ codes "https://a.test"

-- `v` is put under `k` in the local area of `https://a.test`: the row change of 48 bytes
abbrev put_k : PlainChange
put_k = AreaPut a_key (codes "k") (codes "v")

put_bytes : change_bytes put_k ≡
    1 ∷ a_text ++ a_text ++ 0 ∷ 1 ∷ 0 ∷ 0 ∷ 0 ∷ 0x6b ∷ 1 ∷ 0 ∷ 0 ∷ 0 ∷ 0x76 ∷ []
put_bytes = refl

put_length : length (change_bytes put_k) ≡ 48
put_length = refl

-- and the body of one durable change with it alone: 52 bytes
put_body : changes_bytes (put_k ∷ []) ≡ 1 ∷ 0 ∷ 0 ∷ 0 ∷ change_bytes put_k
put_body = refl

-- two durable changes, of two row changes and of one: their row changes are behind their counts
put_pieces : body_pieces 0 ((put_k ∷ put_k ∷ []) ∷ (put_k ∷ []) ∷ []) ≡
    Begins ∷ Row 4 put_k ∷ Row 52 put_k ∷ Begins ∷ Row 104 put_k ∷ []
put_pieces = refl

-- a snapshot of two
put_snapshot : row_pieces 0 (put_k ∷ put_k ∷ []) ≡ Row 0 put_k ∷ Row 48 put_k ∷ []
put_snapshot = refl

-- a partitioned cookie `n=1` of `w.test` under `https://a.test`, of all fields
abbrev n_cookie : PlainCookie
n_cookie = record {
  name = codes "n";
  value = codes "1";
  domain = codes "w.test";
  path = codes "/";
  host_only = true;
  secure = true;
  http_only = false;
  same_site = NoneSent;
  creation = pos 1767225600;
  expiry = Some (negsuc 0);
  last = pos 0;
}

-- 1767225600 is 0x6955b900, and -1 has each byte 0xff
cookie_row : change_bytes (CookieInsert (PartitionCell a_site true (codes "w.test")) 3 n_cookie) ≡
    5 ∷ 1 ∷ a_text ++ 1 ∷ 6 ∷ 0 ∷ 0 ∷ 0 ∷ codes "w.test" ++ 3 ∷ 1 ∷ 0 ∷ 0 ∷ 0 ∷ 0x6e ∷ 1 ∷ 0 ∷ 0 ∷ 0 ∷ 0x31 ∷ []
    ++ 6 ∷ 0 ∷ 0 ∷ 0 ∷ codes "w.test" ++ 1 ∷ 0 ∷ 0 ∷ 0 ∷ 0x2f ∷ 3 ∷ 1 ∷ []
    ++ 0x00 ∷ 0xb9 ∷ 0x55 ∷ 0x69 ∷ 0 ∷ 0 ∷ 0 ∷ 0 ∷ []
    ++ 255 ∷ 255 ∷ 255 ∷ 255 ∷ 255 ∷ 255 ∷ 255 ∷ 255 ∷ []
cookie_row = refl

remove_row : change_bytes (CookieRemove (OwnCell (codes "a.test")) 179) ≡
    7 ∷ 0 ∷ 6 ∷ 0 ∷ 0 ∷ 0 ∷ codes "a.test" ++ 179 ∷ []
remove_row = refl

grant_row : change_bytes (Grant (record { top = a_site; site = a_site; granted = false; until = pos 256 })) ≡
    8 ∷ a_text ++ a_text ++ 2 ∷ 0 ∷ 1 ∷ 0 ∷ 0 ∷ 0 ∷ 0 ∷ 0 ∷ 0 ∷ []
grant_row = refl

-- the text of an origin has no path, and no default port
origin_text_is : origin_of_text (codes "https://a.test") ≡ Some a_origin
unfolding url_on_literals
origin_text_is = refl

origin_with_a_path : origin_of_text (codes "https://a.test/") ≡ None
unfolding url_on_literals
origin_with_a_path = refl

origin_with_its_default_port : origin_of_text (codes "https://a.test:443") ≡ None
unfolding url_on_literals
origin_with_its_default_port = refl

-- a host with more labels than a domain has is a site's too, under whatever list; one with a port
-- is none
site_of_a_subdomain : site_of_text (codes "https://x.a.test") ≡ Ok (record { https = true; host = codes "x.a.test" })
unfolding url_on_literals
site_of_a_subdomain = refl

site_with_a_port : site_of_text (codes "https://a.test:8443") ≡ Err NotSite
unfolding url_on_literals
site_with_a_port = refl

-- an IP address is a host, and its last labels are none: the parser makes an address of them
ip_host : is_host (codes "192.0.2.7") ≡ true
unfolding url_on_literals
ip_host = refl

ip_labels : is_host (codes "2.7") ≡ false
unfolding url_on_literals
ip_labels = refl

host_of_a_domain : is_host (codes "x.a.test") ≡ true
unfolding url_on_literals
host_of_a_domain = refl

-- a text with a port is no host
host_with_a_port : is_host (codes "a.test:80") ≡ false
unfolding url_on_literals
host_with_a_port = refl

-- a row change of `https://x.a.test` and of `https://a.test` reads under any list, and is one of rows
-- under the empty list where its top-level site is `https://a.test`
abbrev x_origin : PlainOrigin
x_origin = record { https = true; ip = false; host = codes "x.a.test"; port = 443 }

x_stays : change_stays [] (AreaClear (record { top = a_site; origin = x_origin; bit = false })) ≡ true
x_stays = refl

x_top_goes : change_stays [] (AreaClear (record { top = record { https = true; host = codes "x.a.test" }; origin = x_origin; bit = false })) ≡ false
x_top_goes = refl

-- with the bit set the origin may be of any site
other_stays : change_stays [] (AreaClear (record { top = record { https = true; host = codes "b.test" }; origin = x_origin; bit = true })) ≡ true
other_stays = refl

other_goes : change_stays [] (AreaClear (record { top = record { https = true; host = codes "b.test" }; origin = x_origin; bit = false })) ≡ false
other_goes = refl

-- a cookie of another domain than its cell's is none under the list
cookie_stays_there : change_stays [] (CookieInsert (OwnCell (codes "w.test")) 0 n_cookie) ≡ true
cookie_stays_there = refl

cookie_goes : change_stays [] (CookieInsert (OwnCell (codes "a.test")) 0 n_cookie) ≡ false
cookie_goes = refl

-- the last values of the bytes of few values, and the first past them
flags_last : flags_of 7 ≡ Some ((true, true), true)
flags_last = refl

flags_past : flags_of 8 ≡ None
flags_past = refl

same_site_past : same_site_of 4 ≡ None
same_site_past = refl

answer_zero : answer_of 0 ≡ None
answer_zero = refl

answer_past : answer_of 3 ≡ None
answer_past = refl

-- a cookie in a partition is Secure, and its path begins with `/`
secure_in_a_partition : is_sound true (record n_cookie { secure = false }) ≡ false
secure_in_a_partition = refl

not_secure_elsewhere : is_sound false (record n_cookie { secure = false }) ≡ true
not_secure_elsewhere = refl

path_without_slash : is_sound false (record n_cookie { path = codes "x/" }) ≡ false
path_without_slash = refl

no_pair : is_sound false (record n_cookie { name = []; value = [] }) ≡ false
no_pair = refl

-- ---- each text that is written is one, and so is each that is read

written_origin : (key : PlainKey) → HasTexts (AreaClear key) → IsText (origin_text key.origin)
written_origin key texts = texts.0

written_top : (key : PlainKey) → HasTexts (SetMode key) → IsText (site_text key.top)
written_top key texts = texts.1

written_value : (key : PlainKey) (name value : List ℕ) → HasTexts (AreaPut key name value) → IsText value
written_value key name value texts = texts.2

removed_name : (key : PlainKey) (name : List ℕ) → HasTexts (AreaRemove key name) → IsText name
removed_name key name texts = texts.1

written_path : (cell : PlainCell) (c : PlainCookie) → HasTexts (CookieInsert cell 0 c) → IsText c.path
written_path cell c texts = texts.1.3

written_domain : (cell : PlainCell) (c : PlainCookie) → HasTexts (CookieReplace cell 0 c) → IsText c.domain
written_domain cell c texts = texts.1.2

written_cell : (top : PlainSite) (domain : List ℕ) → HasTexts (CookieRemove (PartitionCell top true domain) 0)
    → IsText (site_text top)
written_cell top domain texts = texts.0

written_site : (row : PlainGrant) → HasTexts (Grant row) → IsText (site_text row.site)
written_site row texts = texts.1

read_name : (key : PlainKey) (name : List ℕ) → IsSpelledPiece (Row 4 (AreaRemove key name)) → IsText name
read_name key name spelled = spelled.1

-- the number of appended row changes has room in four bytes
room_for_the_count : (changes : List PlainChange) (before after : List ℕ) → IsAppended changes before after
    → length changes < 2 ^ 32
room_for_the_count changes before after is = is.2
