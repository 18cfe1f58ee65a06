-- Fields, row changes and bodies, read and written byte by byte after the page of the format, and what
-- the words of the laws leave out, so that a wrong rule in the specs does not check.
use Rattle.std.proofs.Common.{◌≡◌, refl, true, false, Bool, ◌<◌, ◌^◌, ◌↔◌}
use Rattle.std.specs.Prelude.{ℕ, ◌==◌, List, [], ◌∷◌, ◌++◌, codes, length, replicate, pos, negsuc, string_bytes}
use Rattle.std.specs.Prelude.{Some, None, Ok, Err, FitsSigned, flat_map, slice_index}
use Rattle.std.specs.Int.{w32, w64}
use Rattle.std.specs.List.{All}
use Rattle.std.specs.Str.{is_utf8}
use Rattle.url.proofs.OnLiterals.{url_on_literals}
use Rattle.agent_base.specs.declared.refusals.NoMemory.{NoMemory}
use Rattle.suffix_list.specs.Suffix.{Rule}
use Rattle.origin_site.specs.Address.{address_of}
use Rattle.origin_site.specs.Domain.{host_domain}
use Rattle.origin_site.specs.Origin.{PlainOrigin, origin_text}
use Rattle.origin_site.specs.Site.{IsOwnSite, PlainSite, SiteReadsBack, site_of_origin, site_text}
use Rattle.storage_key.specs.Key.{PlainKey}
use Rattle.setcookie_parse.specs.declared.cookie.SameSite.TheVariants.{Default, NoneSent, Lax, Strict}
use Rattle.stored_cookie.specs.StoredCookie.{PlainCookie}
use Rattle.cookie_jar.specs.Key.{PlainKey as PlainCell, OwnCell, PartitionCell}
use Rattle.cookie_jar.specs.Stays.{domain_of_cell}
use Rattle.access_grants.specs.Grant.{PlainGrant}
use Rattle.storage_key.specs.Plain.{plain_key}
use Rattle.cookie_jar.specs.Key.{plain_key as plain_cell}
use Rattle.cookie_jar.specs.Plain.{plain_cookie}
use Rattle.access_grants.specs.Plain.{plain_grant}
use Rattle.row_changes.specs.declared.body.Piece.TheVariants as piece
use Rattle.row_changes.specs.declared.body.Progress.{Progress}
use Rattle.row_changes.specs.declared.change.Change.TheVariants as change
use Rattle.row_changes.specs.declared.change.ChangeRef.TheVariants as borrowed
use Rattle.row_changes.specs.Pieces.{plain_piece, plain_progress}
use Rattle.row_changes.specs.Plain.{plain_change, plain_ref}
use Rattle.row_changes.specs.Appended.{Appends, HasTexts, IsAppended, IsFront}
use Rattle.row_changes.specs.Body.{Begins, Fault, Row, begun, changes_bytes, count_at, durable_bytes, faulty}
use Rattle.row_changes.specs.Body.{is_over, next_piece, pieces_from, pieces_of, pieces_within, rowed, rows_bytes}
use Rattle.row_changes.specs.Change.{PlainChange, AreaPut, AreaRemove, AreaClear, SetMode, CookieInsert}
use Rattle.row_changes.specs.Change.{CookieReplace, CookieRemove, Grant}
use Rattle.row_changes.specs.Fields.{behind_byte, bit_at, bit_of, both, byte_at, bytes_at, made, nothing_at, number_at}
use Rattle.row_changes.specs.Fields.{passing, signed_at, signed_bytes, text_at}
use Rattle.row_changes.specs.Laws.{AreBytes, BodiesReadBack, IsOneSpelling, IsSpelledPiece, IsWritable, PiecesAreSpelled}
use Rattle.row_changes.specs.Laws.{ReadsBack, SnapshotsReadBack, body_pieces, row_pieces}
use Rattle.row_changes.specs.Names.{is_host, origin_limit, origin_of_text}
use Rattle.row_changes.specs.Reading.{answer_of, cell_at, change_at, cookie_at, cookie_of}
use Rattle.row_changes.specs.Reading.{domain_at, flags_at, flags_of, grant_at}
use Rattle.row_changes.specs.Reading.{grant_of, key_at, marks_at, origin_at, placed_at, same_site_at, same_site_of}
use Rattle.row_changes.specs.Reading.{site_at, texts_at}
use Rattle.row_changes.specs.Spelled.{HasSpelledFields, IsKey, IsNamed, IsPlaced, IsRow, IsSite, IsSpelled, IsSpelledUnder}
use Rattle.row_changes.specs.Spelled.{IsText, change_stays, is_sound, suits}
use Rattle.row_changes.specs.Spelling.{answer_byte, change_bytes, same_site_byte}
use Rattle.row_changes.specs.Under.{HostsTellRows, IsCellUnder, IsHostOf, IsKeyUnder, IsUnderList}

-- ---- fields

two_bytes : both byte_at byte_at (1 ∷ 2 ∷ 3 ∷ []) ≡ Some ((1, 2), 3 ∷ [])
two_bytes = refl

one_byte_is_not_two : both byte_at byte_at (1 ∷ []) ≡ None
one_byte_is_not_two = refl

a_bit : made bit_of byte_at (1 ∷ 7 ∷ []) ≡ Some (true, 7 ∷ [])
a_bit = refl

no_bit : made bit_of byte_at (2 ∷ 7 ∷ []) ≡ None
no_bit = refl

passes : passing (λ n. n == 3) 3 ≡ Some 3
passes = refl

does_not_pass : passing (λ n. n == 3) 4 ≡ None
does_not_pass = refl

no_byte : byte_at [] ≡ None
no_byte = refl

-- as many bytes as the first one says
behind_the_first : behind_byte bytes_at (2 ∷ 7 ∷ 8 ∷ 9 ∷ []) ≡ Some (7 ∷ 8 ∷ [], 9 ∷ [])
behind_the_first = refl

nothing_is_read : nothing_at {A = ℕ} (1 ∷ []) ≡ None
nothing_is_read = refl

-- little-endian
number_of_four : number_at w32 (1 ∷ 2 ∷ 0 ∷ 0 ∷ 9 ∷ []) ≡ Some (513, 9 ∷ [])
number_of_four = refl

four_alone : number_at w32 (0 ∷ 0 ∷ 0 ∷ 1 ∷ []) ≡ Some (16777216, [])
four_alone = refl

three_are_no_number : number_at w32 (1 ∷ 2 ∷ 0 ∷ []) ≡ None
three_are_no_number = refl

-- -2 in two's complement
minus_two : signed_bytes (negsuc 1) ≡ 254 ∷ replicate 7 255
minus_two = refl

minus_two_is_read : signed_at (254 ∷ replicate 7 255) ≡ Some (negsuc 1, [])
unfolding signed_at
minus_two_is_read = refl

seven_are_no_signed : signed_at (replicate 7 0) ≡ None
unfolding signed_at
seven_are_no_signed = refl

two_of_three : bytes_at 2 (7 ∷ 8 ∷ 9 ∷ []) ≡ Some (7 ∷ 8 ∷ [], 9 ∷ [])
two_of_three = refl

two_of_two : bytes_at 2 (7 ∷ 8 ∷ []) ≡ Some (7 ∷ 8 ∷ [], [])
two_of_two = refl

two_of_one : bytes_at 2 (7 ∷ []) ≡ None
two_of_one = refl

text_of_two : text_at (2 ∷ 0 ∷ 0 ∷ 0 ∷ 0x6b ∷ 0x76 ∷ 9 ∷ []) ≡ Some (codes "kv", 9 ∷ [])
unfolding text_at url_on_literals
text_of_two = refl

-- 255 is in no text of UTF-8
text_that_is_none : text_at (1 ∷ 0 ∷ 0 ∷ 0 ∷ 255 ∷ []) ≡ None
unfolding text_at url_on_literals
text_that_is_none = refl

text_that_is_cut : text_at (2 ∷ 0 ∷ 0 ∷ 0 ∷ 0x6b ∷ []) ≡ None
unfolding text_at
text_that_is_cut = refl

bit_clear : bit_of 0 ≡ Some false
bit_clear = refl

bit_is_read : bit_at (1 ∷ 9 ∷ []) ≡ Some (true, 9 ∷ [])
unfolding bit_at
bit_is_read = refl

-- ---- the bytes of row changes

abbrev a_site : PlainSite
a_site = record { https = true; host = codes "a.test" }

abbrev b_site : PlainSite
b_site = record { https = false; host = codes "b.test" }

abbrev x_origin : PlainOrigin
x_origin = record { https = true; ip = false; host = codes "x.a.test"; port = 8443 }

-- the key of `https://x.a.test:8443` under `http://b.test`
abbrev key : PlainKey
key = record { top = b_site; origin = x_origin; bit = true }

-- the origin's text, then that of the top-level site, each behind its length, and the bit
abbrev key_is : List ℕ
key_is = (21 ∷ 0 ∷ 0 ∷ 0 ∷ codes "https://x.a.test:8443") ++ (13 ∷ 0 ∷ 0 ∷ 0 ∷ codes "http://b.test") ++ 1 ∷ []

put_row : change_bytes (AreaPut key (codes "kk") (codes "v"))
    ≡ 1 ∷ key_is ++ (2 ∷ 0 ∷ 0 ∷ 0 ∷ codes "kk") ++ (1 ∷ 0 ∷ 0 ∷ 0 ∷ codes "v")
unfolding url_on_literals
put_row = refl

area_remove_row : change_bytes (AreaRemove key (codes "kk")) ≡ 2 ∷ key_is ++ (2 ∷ 0 ∷ 0 ∷ 0 ∷ codes "kk")
unfolding url_on_literals
area_remove_row = refl

area_clear_row : change_bytes (AreaClear key) ≡ 3 ∷ key_is
unfolding url_on_literals
area_clear_row = refl

mode_row : change_bytes (SetMode key) ≡ 4 ∷ key_is
unfolding url_on_literals
mode_row = refl

-- a cookie `nn=1` of `a.test`, which is HttpOnly and Lax
abbrev cookie : PlainCookie
cookie = record {
  name = codes "nn";
  value = codes "1";
  domain = codes "a.test";
  path = codes "/";
  host_only = false;
  secure = false;
  http_only = true;
  same_site = Lax;
  creation = pos 258;
  expiry = Some (pos 259);
  last = pos 0;
}

abbrev cookie_is : List ℕ
cookie_is = (2 ∷ 0 ∷ 0 ∷ 0 ∷ codes "nn") ++ (1 ∷ 0 ∷ 0 ∷ 0 ∷ codes "1") ++ (6 ∷ 0 ∷ 0 ∷ 0 ∷ codes "a.test")
    ++ (1 ∷ 0 ∷ 0 ∷ 0 ∷ codes "/")
    ++ 4 ∷ 2 ∷ 2 ∷ 1 ∷ 0 ∷ 0 ∷ 0 ∷ 0 ∷ 0 ∷ 0 ∷ 3 ∷ 1 ∷ 0 ∷ 0 ∷ 0 ∷ 0 ∷ 0 ∷ 0 ∷ []

-- an unpartitioned cell is 0 and its domain
abbrev own_is : List ℕ
own_is = 0 ∷ 6 ∷ 0 ∷ 0 ∷ 0 ∷ codes "a.test"

insert_row : change_bytes (CookieInsert (OwnCell (codes "a.test")) 179 cookie) ≡ 5 ∷ own_is ++ 179 ∷ cookie_is
insert_row = refl

replace_row : change_bytes (CookieReplace (OwnCell (codes "a.test")) 0 cookie) ≡ 6 ∷ own_is ++ 0 ∷ cookie_is
replace_row = refl

-- a partition is 1, its top-level site, its bit and its domain
partition_row : change_bytes (CookieRemove (PartitionCell b_site false (codes "a.test")) 7)
    ≡ 7 ∷ 1 ∷ (13 ∷ 0 ∷ 0 ∷ 0 ∷ codes "http://b.test") ++ 0 ∷ (6 ∷ 0 ∷ 0 ∷ 0 ∷ codes "a.test") ++ 7 ∷ []
partition_row = refl

abbrev grant : PlainGrant
grant = record { top = a_site; site = record b_site { https = true }; granted = true; until = pos 258 }

grant_row : change_bytes (Grant grant)
    ≡ 8 ∷ (14 ∷ 0 ∷ 0 ∷ 0 ∷ codes "https://a.test") ++ (14 ∷ 0 ∷ 0 ∷ 0 ∷ codes "https://b.test")
    ++ 1 ∷ 2 ∷ 1 ∷ 0 ∷ 0 ∷ 0 ∷ 0 ∷ 0 ∷ 0 ∷ []
grant_row = refl

denied_byte : answer_byte false ≡ 2
denied_byte = refl

strict_byte : same_site_byte Strict ≡ 3
strict_byte = refl

none_byte : same_site_byte NoneSent ≡ 1
none_byte = refl

default_byte : same_site_byte Default ≡ 0
default_byte = refl

-- ---- and what they say

host_only_flag : flags_of 1 ≡ Some ((true, false), false)
host_only_flag = refl

secure_flag : flags_of 2 ≡ Some ((false, true), false)
secure_flag = refl

http_only_flag : flags_of 4 ≡ Some ((false, false), true)
http_only_flag = refl

-- a byte with another bit says nothing
flags_are_read : flags_at (5 ∷ 9 ∷ []) ≡ Some (((true, false), true), 9 ∷ [])
unfolding flags_at
flags_are_read = refl

fourth_flag : flags_at (9 ∷ []) ≡ None
unfolding flags_at
fourth_flag = refl

each_field_in_its_place : cookie_of
    ((((codes "n", codes "1"), codes "a.test"), codes "/"), (((((true, false), false), Lax), pos 1), pos 2))
    ≡ record {
      name = codes "n";
      value = codes "1";
      domain = codes "a.test";
      path = codes "/";
      host_only = true;
      secure = false;
      http_only = false;
      same_site = Lax;
      creation = pos 1;
      expiry = Some (pos 2);
      last = pos 0;
    }
each_field_in_its_place = refl

default_is_read : same_site_of 0 ≡ Some Default
default_is_read = refl

none_is_read : same_site_of 1 ≡ Some NoneSent
none_is_read = refl

lax_is_read : same_site_of 2 ≡ Some Lax
lax_is_read = refl

strict_is_read : same_site_of 3 ≡ Some Strict
strict_is_read = refl

grant_is_read : answer_of 1 ≡ Some true
grant_is_read = refl

deny_is_read : answer_of 2 ≡ Some false
deny_is_read = refl

-- a row change is read of its bytes, and what is behind them is left
reads_put : change_at (1 ∷ key_is ++ (2 ∷ 0 ∷ 0 ∷ 0 ∷ codes "kk") ++ (1 ∷ 0 ∷ 0 ∷ 0 ∷ codes "v") ++ 9 ∷ [])
    ≡ Some (AreaPut key (codes "kk") (codes "v"), 9 ∷ [])
unfolding change_at key_at origin_at site_at bit_at text_at url_on_literals
reads_put = refl

reads_remove : change_at (2 ∷ key_is ++ 2 ∷ 0 ∷ 0 ∷ 0 ∷ codes "kk") ≡ Some (AreaRemove key (codes "kk"), [])
unfolding change_at key_at origin_at site_at bit_at text_at url_on_literals
reads_remove = refl

reads_clear : change_at (3 ∷ key_is) ≡ Some (AreaClear key, [])
unfolding change_at key_at origin_at site_at bit_at text_at url_on_literals
reads_clear = refl

reads_mode : change_at (4 ∷ key_is) ≡ Some (SetMode key, [])
unfolding change_at key_at origin_at site_at bit_at text_at url_on_literals
reads_mode = refl

reads_insert : change_at (5 ∷ own_is ++ 179 ∷ cookie_is) ≡ Some (CookieInsert (OwnCell (codes "a.test")) 179 cookie, [])
unfolding change_at placed_at cell_at domain_at cookie_at texts_at marks_at flags_at same_site_at signed_at text_at
    url_on_literals
reads_insert = refl

reads_replace : change_at (6 ∷ own_is ++ 0 ∷ cookie_is) ≡ Some (CookieReplace (OwnCell (codes "a.test")) 0 cookie, [])
unfolding change_at placed_at cell_at domain_at cookie_at texts_at marks_at flags_at same_site_at signed_at text_at
    url_on_literals
reads_replace = refl

-- a cookie that is not Secure in a partition
reads_none : change_at (5 ∷ 1 ∷ (13 ∷ 0 ∷ 0 ∷ 0 ∷ codes "http://b.test") ++ 0 ∷ (6 ∷ 0 ∷ 0 ∷ 0 ∷ codes "a.test")
    ++ 7 ∷ cookie_is) ≡ None
unfolding change_at placed_at cell_at site_at bit_at domain_at cookie_at texts_at marks_at flags_at same_site_at signed_at
    text_at url_on_literals
reads_none = refl

reads_partition : change_at (7 ∷ 1 ∷ (13 ∷ 0 ∷ 0 ∷ 0 ∷ codes "http://b.test") ++ 0 ∷ (6 ∷ 0 ∷ 0 ∷ 0 ∷ codes "a.test") ++ 7 ∷ [])
    ≡ Some (CookieRemove (PartitionCell b_site false (codes "a.test")) 7, [])
unfolding change_at cell_at site_at bit_at domain_at text_at url_on_literals
reads_partition = refl

-- a domain that is no host
reads_no_domain : change_at (7 ∷ 0 ∷ (3 ∷ 0 ∷ 0 ∷ 0 ∷ codes "2.7") ++ 7 ∷ []) ≡ None
unfolding change_at cell_at domain_at text_at url_on_literals
reads_no_domain = refl

cell_with_a_bit : cell_at (1 ∷ (13 ∷ 0 ∷ 0 ∷ 0 ∷ codes "http://b.test") ++ 1 ∷ (6 ∷ 0 ∷ 0 ∷ 0 ∷ codes "a.test"))
    ≡ Some (PartitionCell b_site true (codes "a.test"), [])
unfolding cell_at site_at bit_at domain_at text_at url_on_literals
cell_with_a_bit = refl

no_third_cell : cell_at (2 ∷ 6 ∷ 0 ∷ 0 ∷ 0 ∷ codes "a.test") ≡ None
unfolding cell_at domain_at site_at bit_at text_at
no_third_cell = refl

reads_grant : change_at (8 ∷ (14 ∷ 0 ∷ 0 ∷ 0 ∷ codes "https://a.test") ++ (14 ∷ 0 ∷ 0 ∷ 0 ∷ codes "https://b.test")
    ++ 1 ∷ 2 ∷ 1 ∷ 0 ∷ 0 ∷ 0 ∷ 0 ∷ 0 ∷ 0 ∷ []) ≡ Some (Grant grant, [])
unfolding change_at grant_at site_at signed_at text_at url_on_literals
reads_grant = refl

-- both sites of a permission are https
http_site : grant_of (((a_site, b_site), true), pos 258) ≡ None
http_site = refl

denied_grant : grant_of (((a_site, record b_site { https = true }), false), pos 258) ≡ Some (record grant { granted = false })
denied_grant = refl

http_top : grant_of (((b_site, a_site), true), pos 258) ≡ None
http_top = refl

no_ninth : change_at (9 ∷ key_is) ≡ None
unfolding change_at
no_ninth = refl

no_zeroth : change_at (0 ∷ key_is) ≡ None
unfolding change_at
no_zeroth = refl

most_of_an_origin : origin_limit ≡ 8192
most_of_an_origin = refl

empty_host : is_host [] ≡ false
unfolding url_on_literals
empty_host = refl

-- ---- bodies

no_row_no_bytes : durable_bytes [] ≡ []
no_row_no_bytes = refl

two_rows : durable_bytes (AreaClear key ∷ SetMode key ∷ []) ≡ 2 ∷ 0 ∷ 0 ∷ 0 ∷ 3 ∷ key_is ++ 4 ∷ key_is
unfolding url_on_literals
two_rows = refl

rows_alone : rows_bytes (AreaClear key ∷ SetMode key ∷ []) ≡ 3 ∷ key_is ++ 4 ∷ key_is
unfolding url_on_literals
rows_alone = refl

-- a durable change has a row change at least
count_of_two : count_at (2 ∷ 0 ∷ 0 ∷ 0 ∷ 9 ∷ []) ≡ Some (2, 9 ∷ [])
unfolding count_at
count_of_two = refl

count_of_none : count_at (0 ∷ 0 ∷ 0 ∷ 0 ∷ 9 ∷ []) ≡ None
unfolding count_at
count_of_none = refl

-- a fault is where what is read begins, and nothing comes behind it
fault_at_its_beginning : faulty 10 (record { left = 3; rest = 1 ∷ 2 ∷ [] }) ≡ (Fault 8, record { left = 0; rest = [] })
fault_at_its_beginning = refl

count_begins : begun 10 (record { left = 0; rest = 1 ∷ 2 ∷ [] }) (Some (3, 2 ∷ [])) ≡ (Begins, record { left = 3; rest = 2 ∷ [] })
count_begins = refl

no_count_is_a_fault : begun 10 (record { left = 0; rest = 1 ∷ 2 ∷ [] }) None ≡ (Fault 8, record { left = 0; rest = [] })
no_count_is_a_fault = refl

row_at_its_beginning : rowed 10 (record { left = 3; rest = 1 ∷ 2 ∷ [] }) (Some (SetMode key, 2 ∷ []))
    ≡ (Row 8 (SetMode key), record { left = 2; rest = 2 ∷ [] })
row_at_its_beginning = refl

no_row_is_a_fault : rowed 10 (record { left = 3; rest = 1 ∷ 2 ∷ [] }) None ≡ (Fault 8, record { left = 0; rest = [] })
no_row_is_a_fault = refl

over_at_the_end : is_over (record { left = 0; rest = [] }) ≡ true
over_at_the_end = refl

row_is_due : is_over (record { left = 1; rest = [] }) ≡ false
row_is_due = refl

bytes_are_left : is_over (record { left = 0; rest = 7 ∷ [] }) ≡ false
bytes_are_left = refl

empty_body : pieces_of false [] ≡ []
empty_body = refl

empty_snapshot : pieces_of true [] ≡ []
empty_snapshot = refl

body_of_a_zero_count : pieces_of false (0 ∷ 0 ∷ 0 ∷ 0 ∷ []) ≡ Fault 0 ∷ []
unfolding next_piece count_at
body_of_a_zero_count = refl

body_of_a_cut_count : pieces_of false (1 ∷ 0 ∷ 0 ∷ []) ≡ Fault 0 ∷ []
unfolding next_piece count_at
body_of_a_cut_count = refl

-- a row change that is due at the end of the body is missing there
body_of_a_count_alone : pieces_of false (1 ∷ 0 ∷ 0 ∷ 0 ∷ []) ≡ Begins ∷ Fault 4 ∷ []
unfolding next_piece count_at change_at
body_of_a_count_alone = refl

body_of_no_row : pieces_of false (1 ∷ 0 ∷ 0 ∷ 0 ∷ 99 ∷ []) ≡ Begins ∷ Fault 4 ∷ []
unfolding next_piece count_at change_at
body_of_no_row = refl

-- a snapshot has no counts
snapshot_of_no_row : pieces_of true (0 ∷ 99 ∷ []) ≡ Fault 0 ∷ []
unfolding next_piece count_at change_at
snapshot_of_no_row = refl

-- the key has 43 bytes, so the fault behind its row change is at 48
body_and_a_byte : pieces_of false (1 ∷ 0 ∷ 0 ∷ 0 ∷ 4 ∷ key_is ++ 7 ∷ []) ≡ Begins ∷ Row 4 (SetMode key) ∷ Fault 48 ∷ []
unfolding next_piece count_at change_at key_at origin_at site_at bit_at text_at url_on_literals
body_and_a_byte = refl

none_within_none : pieces_within 0 true 1 (record { left = 0; rest = 99 ∷ [] }) ≡ []
none_within_none = refl

-- a row change that is due where no byte is left is a fault
fault_at_the_end : pieces_from false 4 (record { left = 1; rest = [] }) ≡ Fault 4 ∷ []
unfolding next_piece change_at
fault_at_the_end = refl

-- offsets count from the body's front
fault_behind_what_was_read : pieces_from true 5 (record { left = 0; rest = 99 ∷ [] }) ≡ Fault 4 ∷ []
unfolding next_piece change_at
fault_behind_what_was_read = refl

-- ---- which row changes have a spelling

abbrev long : ℕ → PlainCookie
long bytes = record cookie { value = replicate bytes 120 }

-- name and value have 4,096 bytes at most, of which the name has two here
longest_pair : is_sound false (long 4094) ≡ true
longest_pair = refl

longer_pair : is_sound false (long 4095) ≡ false
longer_pair = refl

shortest_pair : is_sound false (record cookie { name = [] }) ≡ true
shortest_pair = refl

empty_path : is_sound false (record cookie { path = [] }) ≡ false
empty_path = refl

suits_its_cell : suits (OwnCell (codes "a.test")) cookie ≡ true
unfolding url_on_literals
suits_its_cell = refl

not_secure_in_a_partition : suits (PartitionCell b_site false (codes "a.test")) cookie ≡ false
not_secure_in_a_partition = refl

of_no_host : suits (OwnCell (codes "a.test")) (record cookie { domain = codes "2.7" }) ≡ false
unfolding url_on_literals
of_no_host = refl

text_is_utf8 : (text : List ℕ) → IsText text → is_utf8 text ≡ true
text_is_utf8 text is = is.0

text_has_room : (text : List ℕ) → IsText text → length text < 2 ^ 32
text_has_room text is = is.1

site_reads_back : (site : PlainSite) → IsSite site → SiteReadsBack site
site_reads_back site is = is.1

top_of_a_key : (k : PlainKey) → IsKey k → IsSite k.top
top_of_a_key k is = is.2

domain_of_an_own_cell : (domain : List ℕ) → IsNamed (OwnCell domain) → is_host domain ≡ true
domain_of_an_own_cell domain is = is.1

top_of_a_partition : (top : PlainSite) (bit : Bool) (domain : List ℕ) → IsNamed (PartitionCell top bit domain) → IsSite top
top_of_a_partition top bit domain is = is.0

domain_of_a_partition : (top : PlainSite) (bit : Bool) (domain : List ℕ) → IsNamed (PartitionCell top bit domain)
    → is_host domain ≡ true
domain_of_a_partition top bit domain is = is.2

origin_of_a_key : (k : PlainKey) → IsKey k → origin_of_text (origin_text k.origin) ≡ Some k.origin
origin_of_a_key k is = is.1

texts_of_a_cookie : (c : PlainCookie) → HasSpelledFields c → IsText c.name × IsText c.value × IsText c.domain × IsText c.path
texts_of_a_cookie c is = (is.name, is.value, is.domain, is.path)

creation_of_a_cookie : (c : PlainCookie) → HasSpelledFields c → FitsSigned w64 c.creation
creation_of_a_cookie c is = is.creation

expiry_of_a_cookie : (c : PlainCookie) (is : HasSpelledFields c) → c.expiry ≡ Some is.end
expiry_of_a_cookie c is = is.expiry

end_of_a_cookie : (c : PlainCookie) (is : HasSpelledFields c) → FitsSigned w64 is.end
end_of_a_cookie c is = is.fits

last_use_of_a_cookie : (c : PlainCookie) → HasSpelledFields c → c.last ≡ pos 0
last_use_of_a_cookie c is = is.last

place_has_a_byte : (cell : PlainCell) (place : ℕ) (c : PlainCookie) → IsPlaced cell place c → place < 2 ^ 8
place_has_a_byte cell place c is = is.1

cookie_suits_its_cell : (cell : PlainCell) (place : ℕ) (c : PlainCookie) → IsPlaced cell place c → suits cell c ≡ true
cookie_suits_its_cell cell place c is = is.3

top_of_a_permission : (row : PlainGrant) → IsRow row → row.top.https ≡ true
top_of_a_permission row is = is.3

site_of_a_permission : (row : PlainGrant) → IsRow row → row.site.https ≡ true
site_of_a_permission row is = is.4

end_of_a_permission : (row : PlainGrant) → IsRow row → FitsSigned w64 row.until
end_of_a_permission row is = is.2

value_of_a_pair : (k : PlainKey) (name value : List ℕ) → IsSpelled (AreaPut k name value) → IsText value
value_of_a_pair k name value is = is.2

name_that_goes : (k : PlainKey) (name : List ℕ) → IsSpelled (AreaRemove k name) → IsText name
name_that_goes k name is = is.1

key_of_an_area : (k : PlainKey) → IsSpelled (AreaClear k) → IsKey k
key_of_an_area k is = is

key_of_a_bucket : (k : PlainKey) → IsSpelled (SetMode k) → IsKey k
key_of_a_bucket k is = is

cookie_that_is_put : (cell : PlainCell) (place : ℕ) (c : PlainCookie) → IsSpelled (CookieInsert cell place c)
    → IsPlaced cell place c
cookie_that_is_put cell place c is = is

cookie_in_the_place : (cell : PlainCell) (place : ℕ) (c : PlainCookie) → IsSpelled (CookieReplace cell place c)
    → IsPlaced cell place c
cookie_in_the_place cell place c is = is

place_that_goes : (cell : PlainCell) (place : ℕ) → IsSpelled (CookieRemove cell place) → place < 2 ^ 8
place_that_goes cell place is = is.1

cell_of_what_goes : (cell : PlainCell) (place : ℕ) → IsSpelled (CookieRemove cell place) → IsNamed cell
cell_of_what_goes cell place is = is.0

permission_that_is_kept : (row : PlainGrant) → IsSpelled (Grant row) → IsRow row
permission_that_is_kept row is = is

-- ---- and which are rows under a list: here under that without rules, by which a domain has two labels

abbrev at_a : PlainKey
at_a = record { top = a_site; origin = x_origin; bit = false }

put_stays : change_stays [] (AreaPut at_a (codes "kk") (codes "v")) ≡ true
put_stays = refl

put_goes : change_stays [] (AreaPut (record at_a { top = b_site }) (codes "kk") (codes "v")) ≡ false
put_goes = refl

remove_stays : change_stays [] (AreaRemove at_a (codes "kk")) ≡ true
remove_stays = refl

remove_goes : change_stays [] (AreaRemove (record at_a { top = b_site }) (codes "kk")) ≡ false
remove_goes = refl

mode_stays : change_stays [] (SetMode at_a) ≡ true
mode_stays = refl

mode_goes : change_stays [] (SetMode (record at_a { top = b_site })) ≡ false
mode_goes = refl

replacement_stays : change_stays [] (CookieReplace (OwnCell (codes "a.test")) 0 cookie) ≡ true
replacement_stays = refl

replacement_goes : change_stays [] (CookieReplace (OwnCell (codes "b.test")) 0 cookie) ≡ false
replacement_goes = refl

-- a partition under what is no site there
abbrev below_b : PlainSite
below_b = record { https = true; host = codes "x.b.test" }

partition_goes : change_stays [] (CookieInsert (PartitionCell below_b true (codes "a.test")) 0 cookie) ≡ false
partition_goes = refl

replacement_in_a_partition_goes : change_stays [] (CookieReplace (PartitionCell below_b true (codes "a.test")) 0 cookie) ≡ false
replacement_in_a_partition_goes = refl

removal_stays : change_stays [] (CookieRemove (OwnCell (codes "a.test")) 0) ≡ true
removal_stays = refl

removal_goes : change_stays [] (CookieRemove (OwnCell (codes "x.a.test")) 0) ≡ false
removal_goes = refl

grant_stays_there : change_stays [] (Grant grant) ≡ true
grant_stays_there = refl

grant_goes : change_stays [] (Grant (record grant { site = record { https = true; host = codes "x.b.test" } })) ≡ false
grant_goes = refl

written_under_the_list : (rules : List Rule) (change : PlainChange) → IsSpelledUnder rules change → change_stays rules change
    ≡ true
written_under_the_list rules change is = is.1

-- ---- what the laws say

numbers_are_bytes : (bytes : List ℕ) → AreBytes bytes → slice_index bytes 0 < 256
numbers_are_bytes bytes are = are 0

reads_back_before_others : ReadsBack → (change : PlainChange) → IsSpelled change
    → change_at (change_bytes change ++ 7 ∷ []) ≡ Some (change, 7 ∷ [])
reads_back_before_others law change is = law change (7 ∷ []) is

read_has_a_spelling : IsOneSpelling → (bytes : List ℕ) (change : PlainChange) → AreBytes bytes
    → change_at bytes ≡ Some (change, 7 ∷ []) → IsSpelled change
read_has_a_spelling law bytes change are is = (law bytes change (7 ∷ []) are is).0

read_of_its_bytes : IsOneSpelling → (bytes : List ℕ) (change : PlainChange) → AreBytes bytes
    → change_at bytes ≡ Some (change, 7 ∷ []) → bytes ≡ change_bytes change ++ 7 ∷ []
read_of_its_bytes law bytes change are is = (law bytes change (7 ∷ []) are is).1

written_has_a_row : (changes : List PlainChange) → IsWritable changes → 0 < length changes
written_has_a_row changes is = is.0

written_has_room : (changes : List PlainChange) → IsWritable changes → length changes < 2 ^ 32
written_has_room changes is = is.1

written_are_spelled : (changes : List PlainChange) → IsWritable changes → All IsSpelled changes
written_are_spelled changes is = is.2

body_reads_back : BodiesReadBack → (written : List (List PlainChange)) → All IsWritable written
    → pieces_of false (flat_map changes_bytes written) ≡ body_pieces 0 written
body_reads_back law written are = law written are

snapshot_reads_back : SnapshotsReadBack → (changes : List PlainChange) → All IsSpelled changes
    → pieces_of true (rows_bytes changes) ≡ row_pieces 0 changes
snapshot_reads_back law changes are = law changes are

count_is_spelled : IsSpelledPiece Begins
count_is_spelled = tt

fault_is_spelled : IsSpelledPiece (Fault 7)
fault_is_spelled = tt

snapshot_is_spelled : PiecesAreSpelled → (body : List ℕ) → AreBytes body → All IsSpelledPiece (pieces_of true body)
snapshot_is_spelled law body are = law true body are

body_is_spelled : PiecesAreSpelled → (body : List ℕ) → AreBytes body → All IsSpelledPiece (pieces_of false body)
body_is_spelled law body are = law false body are

host_is_of_its_domain : (rules : List Rule) (domain host : List ℕ) (is : IsHostOf rules domain host)
    → host_domain rules is.address.ip is.address.host ≡ domain
host_is_of_its_domain rules domain host is = is.has

host_is_that_of_the_address : (rules : List Rule) (domain host : List ℕ) (is : IsHostOf rules domain host) → is.address.host
    ≡ host
host_is_that_of_the_address rules domain host is = is.whole

host_reads : (rules : List Rule) (domain host : List ℕ) (is : IsHostOf rules domain host)
    → address_of (site_text (record { https = is.https; host = host })) ≡ Ok is.address
host_reads rules domain host is = is.reads

origin_is_of_the_top : (rules : List Rule) (k : PlainKey) → IsKeyUnder rules k → k.bit ≡ false → site_of_origin rules k.origin
    ≡ k.top
origin_is_of_the_top rules k is = is.1

top_is_its_own_site : (rules : List Rule) (k : PlainKey) → IsKeyUnder rules k → IsOwnSite rules k.top
top_is_its_own_site rules k is = is.0

own_domain_is_its_own : (rules : List Rule) (domain : List ℕ) → IsCellUnder rules (OwnCell domain) → IsHostOf rules domain domain
own_domain_is_its_own rules domain is = is

partition_is_under_a_site : (rules : List Rule) (top : PlainSite) (bit : Bool) (domain : List ℕ)
    → IsCellUnder rules (PartitionCell top bit domain) → IsOwnSite rules top
partition_is_under_a_site rules top bit domain is = is.0

cookie_is_of_its_cell : (rules : List Rule) (cell : PlainCell) (c : PlainCookie) → IsUnderList rules (CookieInsert cell 0 c)
    → IsHostOf rules (domain_of_cell cell) c.domain
cookie_is_of_its_cell rules cell c is = is.1

replacement_is_of_its_cell : (rules : List Rule) (cell : PlainCell) (c : PlainCookie) → IsUnderList rules (CookieReplace cell 0 c)
    → IsHostOf rules (domain_of_cell cell) c.domain
replacement_is_of_its_cell rules cell c is = is.1

cell_of_what_is_put : (rules : List Rule) (cell : PlainCell) (c : PlainCookie) → IsUnderList rules (CookieInsert cell 0 c)
    → IsCellUnder rules cell
cell_of_what_is_put rules cell c is = is.0

cell_of_a_replacement : (rules : List Rule) (cell : PlainCell) (c : PlainCookie) → IsUnderList rules (CookieReplace cell 0 c)
    → IsCellUnder rules cell
cell_of_a_replacement rules cell c is = is.0

cell_of_a_removal : (rules : List Rule) (cell : PlainCell) → IsUnderList rules (CookieRemove cell 0) → IsCellUnder rules cell
cell_of_a_removal rules cell is = is

key_of_a_pair : (rules : List Rule) (k : PlainKey) → IsUnderList rules (AreaPut k [] []) → IsKeyUnder rules k
key_of_a_pair rules k is = is

key_of_a_pair_that_goes : (rules : List Rule) (k : PlainKey) → IsUnderList rules (AreaRemove k []) → IsKeyUnder rules k
key_of_a_pair_that_goes rules k is = is

key_of_a_cleared_area : (rules : List Rule) (k : PlainKey) → IsUnderList rules (AreaClear k) → IsKeyUnder rules k
key_of_a_cleared_area rules k is = is

key_of_a_mode : (rules : List Rule) (k : PlainKey) → IsUnderList rules (SetMode k) → IsKeyUnder rules k
key_of_a_mode rules k is = is

top_of_a_grant : (rules : List Rule) (row : PlainGrant) → IsUnderList rules (Grant row) → IsOwnSite rules row.top
top_of_a_grant rules row is = is.0

embedded_site_is_its_own : (rules : List Rule) (row : PlainGrant) → IsUnderList rules (Grant row) → IsOwnSite rules row.site
embedded_site_is_its_own rules row is = is.1

hosts_tell : HostsTellRows → (rules : List Rule) (change : PlainChange) → IsSpelled change
    → (change_stays rules change ≡ true) ↔ IsUnderList rules change
hosts_tell law rules change is = law rules change is

-- ---- what is appended

name_of_a_written_pair : (k : PlainKey) (name value : List ℕ) → HasTexts (AreaPut k name value) → IsText name
name_of_a_written_pair k name value texts = texts.1

value_of_a_cookie : (cell : PlainCell) (c : PlainCookie) → HasTexts (CookieInsert cell 0 c) → IsText c.value
value_of_a_cookie cell c texts = texts.1.1

domain_of_a_written_partition : (top : PlainSite) (domain : List ℕ) → HasTexts (CookieRemove (PartitionCell top true domain) 0)
    → IsText domain
domain_of_a_written_partition top domain texts = texts.1

domain_of_a_written_cell : (domain : List ℕ) → HasTexts (CookieRemove (OwnCell domain) 0) → IsText domain
domain_of_a_written_cell domain texts = texts

top_of_a_written_permission : (row : PlainGrant) → HasTexts (Grant row) → IsText (site_text row.top)
top_of_a_written_permission row texts = texts.0

front_is_there : (front whole : List ℕ) (is : IsFront front whole) → whole ≡ front ++ is.0
front_is_there front whole is = is.1

bytes_are_behind : (changes : List PlainChange) (before after : List ℕ) → IsAppended changes before after
    → after ≡ before ++ durable_bytes changes
bytes_are_behind changes before after is = is.0

texts_are_texts : (changes : List PlainChange) (before after : List ℕ) → IsAppended changes before after → All HasTexts changes
texts_are_texts changes before after is = is.1

appended_where_it_is_done : (changes : List PlainChange) (before after : List ℕ) → Appends {T = ℕ} changes before after (Ok 7)
    → IsAppended changes before after
appended_where_it_is_done changes before after is = is

front_where_memory_is_wanted : (changes : List PlainChange) (before after : List ℕ) (why : NoMemory)
    → Appends {T = ℕ} changes before after (Err why) → IsFront before after
front_where_memory_is_wanted changes before after why is = is

-- ---- what contracts see of what the program holds

put_is_seen : (k name value : _) → plain_change (change.AreaPut k name value)
    ≡ AreaPut (plain_key k) (string_bytes name) (string_bytes value)
put_is_seen k name value = refl

remove_is_seen : (k name : _) → plain_change (change.AreaRemove k name) ≡ AreaRemove (plain_key k) (string_bytes name)
remove_is_seen k name = refl

clear_is_seen : (k : _) → plain_change (change.AreaClear k) ≡ AreaClear (plain_key k)
clear_is_seen k = refl

mode_is_seen : (k : _) → plain_change (change.SetMode k) ≡ SetMode (plain_key k)
mode_is_seen k = refl

cookie_that_is_put_is_seen : (cell place c : _)
    → plain_change (change.CookieInsert cell place c) ≡ CookieInsert (plain_cell cell) place (plain_cookie c)
cookie_that_is_put_is_seen cell place c = refl

replacement_is_seen : (cell place c : _)
    → plain_change (change.CookieReplace cell place c) ≡ CookieReplace (plain_cell cell) place (plain_cookie c)
replacement_is_seen cell place c = refl

cookie_that_goes_is_seen : (cell place : _) → plain_change (change.CookieRemove cell place) ≡ CookieRemove (plain_cell cell) place
cookie_that_goes_is_seen cell place = refl

permission_is_seen : (row : _) → plain_change (change.Grant row) ≡ Grant (plain_grant row)
permission_is_seen row = refl

borrowed_put : (k name value : _) → plain_ref (borrowed.AreaPut k name value) ≡ AreaPut (plain_key k.now) name.now value.now
borrowed_put k name value = refl

borrowed_remove : (k name : _) → plain_ref (borrowed.AreaRemove k name) ≡ AreaRemove (plain_key k.now) name.now
borrowed_remove k name = refl

borrowed_clear : (k : _) → plain_ref (borrowed.AreaClear k) ≡ AreaClear (plain_key k.now)
borrowed_clear k = refl

borrowed_mode : (k : _) → plain_ref (borrowed.SetMode k) ≡ SetMode (plain_key k.now)
borrowed_mode k = refl

borrowed_insert : (cell place c : _)
    → plain_ref (borrowed.CookieInsert cell place c) ≡ CookieInsert (plain_cell cell.now) place (plain_cookie c.now)
borrowed_insert cell place c = refl

borrowed_replace : (cell place c : _)
    → plain_ref (borrowed.CookieReplace cell place c) ≡ CookieReplace (plain_cell cell.now) place (plain_cookie c.now)
borrowed_replace cell place c = refl

borrowed_cookie_remove : (cell place : _) → plain_ref (borrowed.CookieRemove cell place)
    ≡ CookieRemove (plain_cell cell.now) place
borrowed_cookie_remove cell place = refl

borrowed_grant : (row : _) → plain_ref (borrowed.Grant row) ≡ Grant (plain_grant row.now)
borrowed_grant row = refl

count_is_seen : plain_piece piece.Begins ≡ Begins
count_is_seen = refl

row_is_seen : (at c : _) → plain_piece (piece.Row at c) ≡ Row at (plain_change c)
row_is_seen at c = refl

fault_is_seen : (at : _) → plain_piece (piece.Fault at) ≡ Fault at
fault_is_seen at = refl

progress_is_seen : (p : Progress) → plain_progress p ≡ record { left = p.left; rest = p.rest.now }
progress_is_seen p = refl
