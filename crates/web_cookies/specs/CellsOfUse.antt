-- What a use finds among the cookies of all sites, and what is prepared to be left in its cells.
use Rattle.std.specs.Prelude.{◌≡◌, ⊤, ℕ, Bool, true, false, List, [], Option, Some, None}
use Rattle.std.specs.Prelude.{if◌then◌else◌, is_some, option_map, string_bytes}
use Rattle.std.specs.Ordering.{eq_by_cmp}
use Rattle.suffix_list.specs.Suffix.{Rule}
use Rattle.cookie_jar.specs.Cookie.{PlainJar}
use Rattle.cookie_jar.specs.Key.{PlainKey, OwnCell, PartitionCell, plain_key}
use Rattle.agent_model.specs.CookieCells.{Cookies, Domain}
use Rattle.agent_model.specs.CookieUse.{CookieUse, cookie_domain, key_of, uses_own}
use Rattle.cookie_jar.specs.Sending.{joined}
use Rattle.agent_model.specs.CookieStore.{BothCells, own_places, partition_places, sent}
use Rattle.web_cookies.specs.Stored.{Entries}
use Rattle.web_cookies.specs.Cells.{cell_key, cell_order, cookies_at, jar_at}
use Rattle.web_cookies.specs.Prepared.{cookies_after}
use Rattle.web_cookies.specs.declared.change.BothChanges.{BothChanges}
use Rattle.web_cookies.specs.declared.keys.UseKeys.{UseKeys}
use Rattle.web_cookies.specs.declared.sending.Sending.{Sending}

-- the key of the unpartitioned cell of a domain, where a use has one
abbrev pub own_key_at : Domain → CookieUse → Option PlainKey
own_key_at domain how = if uses_own how then Some (OwnCell domain) else None

-- the key of its unpartitioned cell, which is that of its domain
abbrev pub own_key : List Rule → CookieUse → Option PlainKey
own_key rules how = own_key_at (cookie_domain rules how) how

-- the key of the partitioned cell of a domain
abbrev pub partition_key_at : Domain → CookieUse → PlainKey
partition_key_at domain how = PartitionCell how.top how.context.bit domain

-- the key of its partitioned cell
abbrev pub partition_key : List Rule → CookieUse → PlainKey
partition_key rules how = cell_key (key_of rules how)

-- the keys of a use
pub record AreKeysOf (rules : List Rule) (how : CookieUse) (keys : UseKeys) : Type 0 where
  pub own : option_map plain_key keys.own ≡ own_key rules how
  pub partition : plain_key keys.partition ≡ partition_key rules how

-- the cookies of a key that there may be
abbrev pub cookies_if : Option PlainKey → Entries → Cookies
cookies_if None entries = []
cookies_if (Some key) entries = cookies_at key entries

-- both cells that a use finds
abbrev pub found : List Rule → CookieUse → Entries → BothCells
found rules how entries =
    record {
      own = cookies_if (own_key rules how) entries;
      partition = cookies_at (partition_key rules how) entries;
    }

-- the cookies of two jars
abbrev pub both_of : PlainJar → PlainJar → BothCells
both_of own partition = record { own = own.cookies; partition = partition.cookies }

-- a key is this one, where there is one
abbrev pub is_key : PlainKey → Option PlainKey → Bool
is_key key None = false
is_key key (Some other) = eq_by_cmp cell_order key other

-- the cookies of a key, once both cells of a use are left so
abbrev pub left_at : List Rule → CookieUse → BothCells → PlainKey → Cookies → Cookies
left_at rules how both key cookies =
    if eq_by_cmp cell_order key (partition_key rules how) then both.partition
    else (if is_key key (own_key rules how) then both.own else cookies)

-- changes leave both cells of a use so
pub record LeaveBoth (rules : List Rule) (how : CookieUse) (both : BothCells) (entries : Entries)
    (changes : BothChanges) : Type 0 where
  pub left : (key : PlainKey) → cookies_after changes key (cookies_at key entries)
      ≡ left_at rules how both key (cookies_at key entries)

-- each key has the cookies that it had
abbrev pub HoldSame : (old new : Entries) → Type 0
HoldSame old new = (key : PlainKey) → cookies_at key new ≡ cookies_at key old

-- each key that had a jar has one
abbrev pub KeepKeys : (old new : Entries) → Type 0
KeepKeys old new =
    (key : PlainKey) → is_some (jar_at key old) ≡ true → is_some (jar_at key new) ≡ true

-- a key that there may be has a jar
abbrev pub HasKey : Option PlainKey → Entries → Type 0
HasKey None entries = ⊤
HasKey (Some key) entries = is_some (jar_at key entries) ≡ true

-- what goes out of both cells of a use, as it stands among all cookies
pub record IsSending (rules : List Rule) (now : ℕ) (how : CookieUse) (entries : Entries)
    (s : Sending) : Type 0 where
  pub own : s.own_places.items ≡ own_places now how (found rules how entries)
  pub partition : s.partition_places.items ≡ partition_places now how (found rules how entries)
  pub text : string_bytes s.text ≡ joined (sent now how (found rules how entries))
