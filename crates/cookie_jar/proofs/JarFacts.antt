-- Cells, plans, steps with their ranks, changes of what outlives a restart, and what goes out, worked
-- out by hand from RFC 6265bis, "Storage Model" and "Retrieval Algorithm", from the CHIPS draft, and
-- from our own choices.
use Rattle.std.proofs.Common.{◌≡◌, ◌≤◌, refl, List, [], ◌∷◌, ◌++◌, true, false, Bool, Some, None, ℕ}
use Rattle.std.specs.Prelude.{codes, pos, replicate, string_bytes, Ok, Err}
use Rattle.std.specs.Rc.{rc_value}
use Rattle.std.specs.List.Sorted.{IsPermutation, IsSortedBy}
use Rattle.suffix_list.specs.Suffix.{Rule}
use Rattle.origin_site.specs.Plain.{plain_site}
use Rattle.origin_site.specs.declared.site.Site.{Site}
use Rattle.setcookie_parse.specs.SetCookie.{CookieText, pair_limit}
use Rattle.setcookie_parse.specs.declared.cookie.SameSite.TheVariants as site
use Rattle.partition_limits.specs.declared.tally.CellKind.{CellKind}
use Rattle.partition_limits.specs.declared.tally.CellKind.TheVariants as kind
use Rattle.partition_limits.specs.declared.tally.Tally.{Tally}
use Rattle.cookie_jar.specs.declared.access.Access.{Access as Accessing}
use Rattle.cookie_jar.specs.declared.access.Destination.TheVariants as to
use Rattle.cookie_jar.specs.declared.cause.CookieDrop.TheVariants as why
use Rattle.cookie_jar.specs.declared.cookie.Cookie.{Cookie as Kept}
use Rattle.cookie_jar.specs.declared.key.CellKey.TheVariants as key
use Rattle.cookie_jar.specs.declared.plan.StoredKind.TheVariants as done
use Rattle.cookie_jar.specs.declared.step.JarStep.TheVariants.{Insert, Replace, Remove}
use Rattle.cookie_jar.specs.declared.store.Stored.{Stored}
use Rattle.cookie_jar.specs.Access.{PlainAccess, destination, is_nowhere}
use Rattle.cookie_jar.specs.Cookie.{PlainCookie, PlainJar, IsCell, copies, counted, keeps_limits, pair_bytes, same}
use Rattle.cookie_jar.specs.Key.{OwnCell, PartitionCell, plain_key}
use Rattle.cookie_jar.specs.NewCookie.{kind_with, stored_kind}
use Rattle.cookie_jar.specs.Persistent.{RowInsert, RowReplace, RowRemove, after_rows, apply_row, apply_rows, kept_cookie}
use Rattle.cookie_jar.specs.Persistent.{insert_row, persistent_part, remove_row, replace_row, row_edit, row_fits}
use Rattle.cookie_jar.specs.Persistent.{rows_of_step, rows_of_steps}
use Rattle.cookie_jar.specs.Plain.{plain_access, plain_cookie}
use Rattle.cookie_jar.specs.Planned.{IsPlanFor, PlainPlan, place_replaced, planned, planned_with, replacement_of}
use Rattle.cookie_jar.specs.Planned.{stored_answer, stored_of}
use Rattle.cookie_jar.specs.Sending.{IsOrderOf, PlainSent, header, in_order, joined, marked, ordered, pair_text}
use Rattle.cookie_jar.specs.Sending.{select, sent, sent_at, sent_of, stands_before}
use Rattle.cookie_jar.specs.Steps.{after_step, after_steps, going, live_steps, persists_at, place_now, place_of, put}
use Rattle.cookie_jar.specs.Steps.{put_step, rank, removal_at, removals, remove_step, steps, stored, weigh}
use Rattle.cookie_jar.specs.Stored.{plain_stored}

-- session cookies `a=1` to `d=1` of the host `x.a.test`, of the second 10
abbrev named : List ℕ → PlainCookie
named name =
    record {
      name = name;
      value = codes "1";
      domain = codes "x.a.test";
      path = codes "/";
      host_only = true;
      secure = false;
      http_only = false;
      same_site = site.Default;
      creation = pos 10;
      expiry = None;
      last = pos 10;
    }

abbrev a : PlainCookie
a = named (codes "a")

abbrev b : PlainCookie
b = named (codes "b")

abbrev d : PlainCookie
d = named (codes "d")

-- a cookie that expires at the second 100
abbrev lasting : PlainCookie → PlainCookie
lasting c = record c { expiry = Some (pos 100) }

-- a cell: the first and the last of three are persistent
abbrev cell : List PlainCookie
cell = lasting a ∷ b ∷ lasting (named (codes "c")) ∷ []

-- ---- cookies and cells

path_tells_apart : same a (record a { path = codes "/p" }) ≡ false
path_tells_apart = refl

domain_tells_apart : same a (record a { domain = codes "a.test" }) ≡ false
domain_tells_apart = refl

host_only_tells_apart : same a (record a { host_only = false }) ≡ false
host_only_tells_apart = refl

nothing_else_does : same a (record (lasting a) { value = codes "2"; secure = true; http_only = true; creation = pos 3 }) ≡ true
nothing_else_does = refl

same_ones_are_counted : copies a (a ∷ b ∷ record a { value = codes "2" } ∷ []) ≡ 2
same_ones_are_counted = refl

-- name and value, without the `=`
bytes_of_a_pair : pair_bytes (record a { name = codes "ab"; value = codes "xyz" }) ≡ 5
bytes_of_a_pair = refl

counted_in_a_partition : counted kind.Partition (record a { name = codes "ab"; value = codes "xyz" }) ≡ 5
counted_in_a_partition = refl

counted_in_no_other : counted kind.Own (record a { name = codes "ab"; value = codes "xyz" }) ≡ 0
counted_in_no_other = refl

-- a cookie whose name has one byte, and whose value has so many
abbrev heavy : ℕ → PlainCookie → PlainCookie
heavy bytes c = record c { value = replicate bytes 120 }

full_partition : keeps_limits kind.Partition (heavy 5119 a ∷ heavy 5119 b ∷ []) ≡ true
full_partition = refl

one_byte_more : keeps_limits kind.Partition (heavy 5119 a ∷ heavy 5120 b ∷ []) ≡ false
one_byte_more = refl

many_bytes_elsewhere : keeps_limits kind.Own (heavy 5119 a ∷ heavy 5120 b ∷ []) ≡ true
many_bytes_elsewhere = refl

one_cookie_more : keeps_limits kind.Own (replicate 181 a) ≡ false
one_cookie_more = refl

-- a cell keeps its limits, and has no cookie twice
within_its_limits : (k : CellKind) (tally : Tally) (cs : List PlainCookie) → IsCell k tally cs
    → keeps_limits k cs ≡ true
within_its_limits k tally cs is = is.within

none_is_twice : (k : CellKind) (tally : Tally) (cs : List PlainCookie) → IsCell k tally cs → (c : PlainCookie) → copies c cs ≤ 1
none_is_twice k tally cs is = is.distinct

-- ---- what contracts see of what the program holds

own_name : (domain : _) → plain_key (key.Own domain) ≡ OwnCell (string_bytes domain)
own_name domain = refl

partition_name : (top : Site) (bit : Bool) (domain : _)
    → plain_key (key.Partition top bit domain) ≡ PartitionCell (plain_site top) bit (string_bytes domain)
partition_name top bit domain = refl

fields_of_a_cookie : (c : Kept) → plain_cookie c ≡ record {
  name = string_bytes (rc_value c.identity).name;
  value = string_bytes (rc_value c.value);
  domain = string_bytes (rc_value c.identity).domain;
  path = string_bytes (rc_value c.identity).path;
  host_only = c.host_only;
  secure = c.secure;
  http_only = c.http_only;
  same_site = c.same_site;
  creation = c.creation;
  expiry = c.expiry;
  last = c.last;
}
fields_of_a_cookie c = refl

fields_of_an_access : (access : Accessing) → plain_access access ≡ record {
  https = access.https;
  host = access.host.now;
  ip = access.ip;
  path = access.path.now;
  first = access.first;
  same_site = access.same_site;
  top_load = access.top_load;
  safe = access.safe;
  script = access.script;
  granted = access.granted;
}
fields_of_an_access access = refl

fields_of_an_answer : (s : Stored) → plain_stored s ≡ record { kind = s.kind; steps = s.steps.items }
fields_of_an_answer s = refl

-- ---- plans

-- `pub.test`
abbrev list : List Rule
list = record { is_exception = false; labels = codes "pub" ∷ codes "test" ∷ [] } ∷ []

-- the text `a=2`
abbrev text : CookieText
text =
    record {
      name = codes "a";
      value = codes "2";
      domain = None;
      path = None;
      has_path = false;
      secure = false;
      http_only = false;
      partitioned = false;
      same_site = site.Default;
      expiry = None;
    }

-- a request of a page of `https://x.a.test/` for itself
abbrev here : PlainAccess
here =
    record {
      https = true;
      host = codes "x.a.test";
      ip = false;
      path = codes "/";
      first = true;
      same_site = true;
      top_load = false;
      safe = true;
      script = false;
      granted = false;
    }

-- a third party has its partition alone, and by granted access the other cell
partition_of_a_third_party : destination (record text { partitioned = true }) (record here { first = false }) ≡ to.Partition
partition_of_a_third_party = refl

partition_over_http : destination (record text { partitioned = true }) (record here { https = false; first = false })
    ≡ to.Partition
partition_over_http = refl

none_of_a_third_party : destination text (record here { first = false }) ≡ to.Nowhere
none_of_a_third_party = refl

own_by_grant : destination text (record here { first = false; granted = true }) ≡ to.Own
own_by_grant = refl

partition_is_a_cell : is_nowhere to.Partition ≡ false
partition_is_a_cell = refl

-- the second of creation is that of the cookie which is replaced, and the last use is now
replaces_in_place : planned list text here kind.Own (pos 50) (b ∷ a ∷ []) ≡ Ok (record {
  kind = done.Replaced;
  steps = Replace 1 0 false ∷ [];
  fresh = record a { value = codes "2"; last = pos 50 };
})
replaces_in_place = refl

drops_over_http : planned list (record text { secure = true }) (record here { https = false }) kind.Own (pos 50) []
    ≡ Err why.NotSecureUrl
drops_over_http = refl

-- a Domain in lower case
adds_with_domain : planned_with list (Some (codes "a.test")) text here kind.Own (pos 50) [] ≡ Ok (record {
  kind = done.Added;
  steps = Insert 0 0 ∷ [];
  fresh = record a { value = codes "2"; domain = codes "a.test"; host_only = false; creation = pos 50; last = pos 50 };
})
adds_with_domain = refl

drops_with_domain : planned_with list (Some (codes "b.test")) text here kind.Own (pos 50) [] ≡ Err why.DomainMismatch
drops_with_domain = refl

-- each of the three words
added : stored_kind (pos 50) d cell ≡ done.Added
added = refl

replaced_one : stored_kind (pos 50) b cell ≡ done.Replaced
replaced_one = refl

-- an expired one is none that is replaced
beside_an_expired_one : stored_kind (pos 100) a cell ≡ done.Added
beside_an_expired_one = refl

removed : kind_with (pos 100) (lasting a) true ≡ done.Removed
removed = refl

removes_none : kind_with (pos 100) (lasting a) false ≡ done.Removed
removes_none = refl

lasting_still : kind_with (pos 99) (lasting a) true ≡ done.Replaced
lasting_still = refl

-- a plan is one of the cell that it was made for
steps_for_the_cell : (jar : PlainJar) (plan : PlainPlan) (is : IsPlanFor jar plan) → plan.steps
    ≡ steps jar.kind is.0 plan.fresh jar.cookies
steps_for_the_cell jar plan is = is.1

pair_for_a_cell : (jar : PlainJar) (plan : PlainPlan) → IsPlanFor jar plan → pair_bytes plan.fresh ≤ pair_limit
pair_for_a_cell jar plan is = is.2

none_twice_for_a_plan : (jar : PlainJar) (plan : PlainPlan) → IsPlanFor jar plan → (c : PlainCookie) → copies c jar.cookies ≤ 1
none_twice_for_a_plan jar plan is = is.3

-- a plan that replaces one cookie, and does that alone
replaces_alone : replacement_of (record { kind = done.Replaced; steps = Replace 2 1 false ∷ []; fresh = a }) ≡ Some (2, a)
replaces_alone = refl

replaces_and_removes : place_replaced (Replace 2 1 false ∷ Remove 0 0 false ∷ []) ≡ None
replaces_and_removes = refl

inserts_alone : place_replaced (Insert 2 1 ∷ []) ≡ None
inserts_alone = refl

answer_of_a_plan : stored_of (record { kind = done.Replaced; steps = Replace 2 1 false ∷ []; fresh = a })
    ≡ record { kind = done.Replaced; steps = Replace 2 1 false ∷ [] }
answer_of_a_plan = refl

answer_of_a_drop : stored_answer (Err why.HostPrefix) ≡ Err why.HostPrefix
answer_of_a_drop = refl

-- ---- steps

place_of_the_same : place_of (record b { value = codes "2" }) cell ≡ 1
place_of_the_same = refl

place_of_another : place_of d cell ≡ 3
place_of_another = refl

put_in_its_place : put (record b { value = codes "2" }) cell
    ≡ lasting a ∷ record b { value = codes "2" } ∷ lasting (named (codes "c")) ∷ []
put_in_its_place = refl

put_last : put d cell ≡ cell ++ d ∷ []
put_last = refl

weighed : weigh kind.Partition (pos 100) (record (lasting a) { secure = true; last = pos 7 })
    ≡ record { expired = true; secure = true; last = pos 7; bytes = 2 }
weighed = refl

not_expired_yet : weigh kind.Own (pos 99) (lasting a) ≡ record { expired = false; secure = false; last = pos 10; bytes = 0 }
not_expired_yet = refl

place_behind_one_that_went : place_now (0 ∷ 3 ∷ []) 2 ≡ 1
place_behind_one_that_went = refl

persistent_ones_before : rank 2 cell ≡ 1
persistent_ones_before = refl

session_cookie_at : persists_at 1 cell ≡ false
session_cookie_at = refl

persistent_cookie_at : persists_at 2 cell ≡ true
persistent_cookie_at = refl

removal_of_the_last : remove_step 2 cell ≡ Remove 2 1 true
removal_of_the_last = refl

-- each place and rank is counted where those before have gone
two_removals : removals cell [] (0 ∷ 2 ∷ []) ≡ Remove 0 0 true ∷ Remove 1 0 true ∷ []
two_removals = refl

inserted : after_step d cell (Insert 1 1) ≡ lasting a ∷ d ∷ b ∷ lasting (named (codes "c")) ∷ []
inserted = refl

replaced_at : after_step d cell (Replace 1 1 false) ≡ lasting a ∷ d ∷ lasting (named (codes "c")) ∷ []
replaced_at = refl

removed_at : after_step d cell (Remove 1 1 false) ≡ lasting a ∷ lasting (named (codes "c")) ∷ []
removed_at = refl

one_after_another : after_steps d cell (Remove 0 0 true ∷ Insert 2 1 ∷ []) ≡ b ∷ lasting (named (codes "c")) ∷ d ∷ []
one_after_another = refl

put_at_the_same : put_step 1 cell ≡ Replace 1 1 false
put_at_the_same = refl

put_at_the_end : put_step 3 cell ≡ Insert 3 2
put_at_the_end = refl

-- a partition of 10,002 bytes, to which 1,001 come: the cookie of the earliest use goes
abbrev used_later : PlainCookie
used_later = record (lasting (heavy 5000 a)) { last = pos 20 }

abbrev full : List PlainCookie
full = used_later ∷ heavy 5000 b ∷ []

goes_for_a_fresh_one : going kind.Partition (pos 30) (heavy 1000 d) full ≡ 1 ∷ []
goes_for_a_fresh_one = refl

evicts : live_steps kind.Partition (pos 30) (heavy 1000 d) full ≡ Remove 1 1 false ∷ Insert 1 1 ∷ []
evicts = refl

left_after_an_eviction : stored kind.Partition (pos 30) (heavy 1000 d) full ≡ used_later ∷ heavy 1000 d ∷ []
left_after_an_eviction = refl

evicts_none_elsewhere : stored kind.Own (pos 30) (heavy 1000 d) full ≡ full ++ heavy 1000 d ∷ []
evicts_none_elsewhere = refl

-- an expired new cookie removes the same one, and is not kept
expired_removes : steps kind.Own (pos 100) (lasting a) cell ≡ Remove 0 0 true ∷ []
expired_removes = refl

lasting_replaces : steps kind.Own (pos 99) (lasting a) cell ≡ Replace 0 0 true ∷ []
lasting_replaces = refl

left_without_the_expired : stored kind.Own (pos 100) (lasting a) cell ≡ b ∷ lasting (named (codes "c")) ∷ []
left_without_the_expired = refl

expired_removes_none : removal_at 3 cell ≡ []
expired_removes_none = refl

-- ---- what outlives a restart

-- without its last use
kept_without_use : kept_cookie (lasting a) ≡ record (lasting a) { last = pos 0 }
kept_without_use = refl

-- what is kept of `cell`: two cookies
abbrev kept : List PlainCookie
kept = kept_cookie (lasting a) ∷ kept_cookie (lasting (named (codes "c"))) ∷ []

persistent_ones : persistent_part cell ≡ kept
persistent_ones = refl

abbrev d_row : PlainCookie
d_row = kept_cookie (lasting d)

row_of_an_insertion : insert_row true 2 (lasting d) ≡ RowInsert 2 d_row ∷ []
row_of_an_insertion = refl

no_row_of_an_insertion : insert_row false 2 d ≡ []
no_row_of_an_insertion = refl

row_of_a_removal : remove_row true 2 ≡ RowRemove 2 ∷ []
row_of_a_removal = refl

no_row_of_a_removal : remove_row false 2 ≡ []
no_row_of_a_removal = refl

both_persistent : replace_row true true 1 (lasting d) ≡ RowReplace 1 d_row ∷ []
both_persistent = refl

new_one_persistent : replace_row true false 1 (lasting d) ≡ RowInsert 1 d_row ∷ []
new_one_persistent = refl

old_one_persistent : replace_row false true 1 d ≡ RowRemove 1 ∷ []
old_one_persistent = refl

neither_persistent : replace_row false false 1 d ≡ []
neither_persistent = refl

row_at_its_rank : rows_of_step (lasting d) (Insert 3 2) ≡ RowInsert 2 d_row ∷ []
row_at_its_rank = refl

session_in_the_place : rows_of_step a (Replace 2 1 true) ≡ RowRemove 1 ∷ []
session_in_the_place = refl

removal_at_its_rank : rows_of_step a (Remove 2 1 true) ≡ RowRemove 1 ∷ []
removal_at_its_rank = refl

rows_in_their_order : rows_of_steps (lasting d) (Remove 0 0 true ∷ Insert 2 1 ∷ []) ≡ RowRemove 0 ∷ RowInsert 1 d_row ∷ []
rows_in_their_order = refl

row_inserted : row_edit kept (RowInsert 1 d_row)
    ≡ kept_cookie (lasting a) ∷ d_row ∷ kept_cookie (lasting (named (codes "c"))) ∷ []
row_inserted = refl

row_replaced : row_edit kept (RowReplace 1 d_row) ≡ kept_cookie (lasting a) ∷ d_row ∷ []
row_replaced = refl

row_removed : row_edit kept (RowRemove 1) ≡ kept_cookie (lasting a) ∷ []
row_removed = refl

rows_one_after_another : after_rows kept (RowRemove 0 ∷ RowInsert 1 d_row ∷ [])
    ≡ kept_cookie (lasting (named (codes "c"))) ∷ d_row ∷ []
rows_one_after_another = refl

-- a change is valid at its place, for the cookie there, within the limits
insert_at_the_end : row_fits kind.Own kept (RowInsert 2 d_row) ≡ true
insert_at_the_end = refl

insert_past_the_end : row_fits kind.Own kept (RowInsert 3 d_row) ≡ false
insert_past_the_end = refl

insert_of_the_same : row_fits kind.Own kept (RowInsert 2 (kept_cookie (lasting a))) ≡ false
insert_of_the_same = refl

insert_over_the_limit : row_fits kind.Partition full (RowInsert 2 (heavy 1000 d)) ≡ false
insert_over_the_limit = refl

replace_of_the_same : row_fits kind.Own kept (RowReplace 0 (kept_cookie (lasting a))) ≡ true
replace_of_the_same = refl

replace_of_another : row_fits kind.Own kept (RowReplace 1 (kept_cookie (lasting a))) ≡ false
replace_of_another = refl

replace_over_the_limit : row_fits kind.Partition full (RowReplace 1 (heavy 6000 b)) ≡ false
replace_over_the_limit = refl

remove_past_the_end : row_fits kind.Own kept (RowRemove 2) ≡ false
remove_past_the_end = refl

remove_of_the_last : row_fits kind.Own kept (RowRemove 1) ≡ true
remove_of_the_last = refl

invalid_changes_nothing : apply_row kind.Own kept (RowInsert 2 (kept_cookie (lasting a))) ≡ kept
invalid_changes_nothing = refl

valid_changes : apply_rows kind.Own kept (RowRemove 0 ∷ RowInsert 1 (kept_cookie (lasting (named (codes "c"))))
    ∷ RowInsert 1 d_row ∷ [])
    ≡ kept_cookie (lasting (named (codes "c"))) ∷ d_row ∷ []
valid_changes = refl

-- ---- which cookies go out

abbrev one_cookie : PlainCookie → List ℕ
one_cookie c = select kind.Own here (pos 50) (c ∷ [])

-- a host-only cookie goes to its domain alone, and another one below it too
host_only_above : one_cookie (record a { domain = codes "a.test" }) ≡ []
host_only_above = refl

domain_above : one_cookie (record a { domain = codes "a.test"; host_only = false }) ≡ 0 ∷ []
domain_above = refl

domain_below : one_cookie (record a { domain = codes "y.x.a.test"; host_only = false }) ≡ []
domain_below = refl

other_path : one_cookie (record a { path = codes "/p" }) ≡ []
other_path = refl

path_above : select kind.Own (record here { path = codes "/p/q" }) (pos 50) (record a { path = codes "/p" } ∷ []) ≡ 0 ∷ []
path_above = refl

expired_stays : select kind.Own here (pos 100) (lasting a ∷ b ∷ []) ≡ 1 ∷ []
expired_stays = refl

secure_over_http : select kind.Own (record here { https = false }) (pos 50) (record a { secure = true } ∷ b ∷ []) ≡ 1 ∷ []
secure_over_http = refl

http_only_to_a_script : select kind.Own (record here { script = true }) (pos 50) (record a { http_only = true } ∷ b ∷ []) ≡ 1 ∷ []
http_only_to_a_script = refl

-- a script of a document that is not first party reads as a cross-site request does
script_is_cross_site : select kind.Own (record here { script = true; same_site = false }) (pos 50) (a
    ∷ record b { same_site = site.NoneSent } ∷ [])
    ≡ 1 ∷ []
script_is_cross_site = refl

-- a sending sets the last use, and nothing else
last_use_is_set : marked (1 ∷ []) (pos 50) (a ∷ b ∷ []) ≡ a ∷ record b { last = pos 50 } ∷ []
last_use_is_set = refl

-- ---- the text of the header

sent_from_its_place : sent_at true (a ∷ b ∷ []) 1 ≡ record { partitioned = true; place = 1; cookie = b } ∷ []
sent_from_its_place = refl

sent_from_no_place : sent_at true (a ∷ b ∷ []) 2 ≡ []
sent_from_no_place = refl

sent_from_places : sent_of false (1 ∷ 0 ∷ []) (a ∷ b ∷ [])
    ≡ record { partitioned = false; place = 1; cookie = b } ∷ record { partitioned = false; place = 0; cookie = a } ∷ []
sent_from_places = refl

sent_of_both : sent (a ∷ []) (0 ∷ []) (b ∷ []) (0 ∷ [])
    ≡ record { partitioned = false; place = 0; cookie = a } ∷ record { partitioned = true; place = 0; cookie = b } ∷ []
sent_of_both = refl

-- one does not stand before itself
abbrev first_place : PlainCookie → PlainSent
first_place c = record { partitioned = false; place = 0; cookie = c }

before_itself : stands_before (first_place a) (first_place a) ≡ false
before_itself = refl

longer_path_stands_before : stands_before (first_place (record b { path = codes "/p"; creation = pos 20 })) (first_place a) ≡ true
longer_path_stands_before = refl

-- equal cookies stay in their order
in_its_order : in_order (first_place a ∷ []) (record (first_place b) { place = 1 })
    ≡ first_place a ∷ record (first_place b) { place = 1 } ∷ []
in_its_order = refl

put_in_order : ordered (record (first_place b) { place = 1 } ∷ first_place a ∷ [])
    ≡ first_place a ∷ record (first_place b) { place = 1 } ∷ []
put_in_order = refl

-- the longer path first, then the earlier creation, then the unpartitioned one, then the lower place
in_a_header : header (a ∷ record b { path = codes "/p"; creation = pos 20 } ∷ record (named (codes "c")) { creation = pos 5 }
    ∷ named (codes "e") ∷ [])
    (3 ∷ 2 ∷ 1 ∷ 0 ∷ []) (record d { creation = pos 5 } ∷ []) (0 ∷ []) ≡ codes "b=1; c=1; d=1; a=1; e=1"
in_a_header = refl

no_header : header (a ∷ []) [] (b ∷ []) [] ≡ []
no_header = refl

nameless : pair_text (record a { name = [] }) ≡ codes "1"
nameless = refl

without_value : pair_text (record a { value = [] }) ≡ codes "a="
without_value = refl

two_pairs : joined (first_place a ∷ first_place b ∷ []) ≡ codes "a=1; b=1"
two_pairs = refl

-- an order has each cookie, and none stands before the one ahead
each_is_in_an_order : (ss order : List PlainSent) → IsOrderOf ss order → IsPermutation ss order
each_is_in_an_order ss order is = is.same

order_is_sorted : (ss order : List PlainSent) → IsOrderOf ss order → IsSortedBy stands_before order
order_is_sorted ss order is = is.sorted
