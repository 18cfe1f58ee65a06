-- Cells and uses, worked out by hand, so that a wrong rule in the specs does not check: a chat that
-- two shops embed, as in the uses that the draft "Cookies Having Independent Partitioned State"
-- (CHIPS) is made for.
use Rattle.std.proofs.Common.{◌≡◌, Bool, true, false, List, [], ◌∷◌, Some, None, Err, pos, refl}
use Rattle.std.specs.Prelude.{ℕ, codes}
use Rattle.std.specs.Ordering.{eq_by_cmp}
use Rattle.setcookie_parse.specs.declared.cookie.SameSite.TheVariants as when
use Rattle.origin_site.specs.Address.{PlainAddress}
use Rattle.origin_site.specs.Site.{PlainSite}
use Rattle.partition_limits.specs.declared.tally.CellKind.TheVariants as kind
use Rattle.cookie_jar.specs.declared.cause.CookieDrop.TheVariants as why
use Rattle.cookie_jar.specs.Key.{OwnCell, PartitionCell}
use Rattle.agent_model.specs.CookieCells.{Cookies}
use Rattle.agent_model.specs.CookieUse.{CookieUse}
use Rattle.agent_model.specs.CookieStore.{BothCells}
use Rattle.web_cookies.specs.Cells.{cell_order, kind_of}
use Rattle.web_cookies.specs.CellsOfUse.{is_key, left_at, own_key, partition_key}
use Rattle.web_cookies.specs.Words.{jar_left, word_by}

-- ---- names

abbrev chat : List ℕ
chat = codes "chat.test"

abbrev shop : PlainSite
shop = record { https = true; host = codes "shop.test" }

abbrev mall : PlainSite
mall = record { https = true; host = codes "mall.test" }

-- `https://www.chat.test/`
abbrev address : PlainAddress
address =
    record {
      text = codes "https://www.chat.test/";
      https = true;
      ip = false;
      host = codes "www.chat.test";
      port = 443;
      path = codes "/";
    }

-- a request of the chat in the pages of a site
abbrev under : PlainSite → (first granted : Bool) → CookieUse
under top first granted =
    record {
      url = address;
      top = top;
      context = record { first = first; bit = true };
      same_site = first;
      top_load = false;
      safe = true;
      script = false;
      granted = granted;
    }

-- the cookie `s=1` of the chat
abbrev session : Cookies
session =
    record {
      name = codes "s";
      value = codes "1";
      domain = codes "www.chat.test";
      path = codes "/";
      host_only = true;
      secure = true;
      http_only = false;
      same_site = when.NoneSent;
      creation = pos 7;
      expiry = None;
      last = pos 7;
    } ∷ []

-- ---- whose cells a use has

-- the partitioned cell is that of the URL's domain under the top-level site, whatever is granted
in_shop : partition_key [] (under shop false false) ≡ PartitionCell shop true chat
in_shop = refl

in_mall : partition_key [] (under mall false true) ≡ PartitionCell mall true chat
in_mall = refl

-- a third party has no unpartitioned cell
no_cell : own_key [] (under shop false false) ≡ None
no_cell = refl

-- with granted access it has that of its own domain, and so has a first party
granted_cell : own_key [] (under shop false true) ≡ Some (OwnCell chat)
granted_cell = refl

first_cell : own_key [] (under shop true false) ≡ Some (OwnCell chat)
first_cell = refl

-- ---- which keys name one cell

itself : eq_by_cmp cell_order (PartitionCell shop true chat) (PartitionCell shop true chat) ≡ true
itself = refl

-- another top-level site, its other scheme, the other ancestor bit, or another domain is another
other_site : eq_by_cmp cell_order (PartitionCell shop true chat) (PartitionCell mall true chat) ≡ false
other_site = refl

other_scheme : eq_by_cmp cell_order (PartitionCell shop true chat) (PartitionCell (record shop { https = false }) true chat) ≡ false
other_scheme = refl

other_bit : eq_by_cmp cell_order (PartitionCell shop true chat) (PartitionCell shop false chat) ≡ false
other_bit = refl

other_domain : eq_by_cmp cell_order (PartitionCell shop true chat) (PartitionCell shop true (codes "shop.test")) ≡ false
other_domain = refl

-- no partitioned cell is an unpartitioned one
unpartitioned : eq_by_cmp cell_order (OwnCell chat) (PartitionCell shop true chat) ≡ false
unpartitioned = refl

kinds : kind_of (OwnCell chat) ≡ kind.Own
kinds = refl

partition_kind : kind_of (PartitionCell shop true chat) ≡ kind.Partition
partition_kind = refl

-- ---- what a use leaves

-- the partitioned cell has a cookie, and the unpartitioned one none
abbrev stored : BothCells
stored = record { own = []; partition = session }

-- what is stored under one shop is there, and not under the other
here : left_at [] (under shop false false) stored (PartitionCell shop true chat) [] ≡ session
here = refl

not_there : left_at [] (under shop false false) stored (PartitionCell mall true chat) [] ≡ []
not_there = refl

-- without access nothing becomes of the unpartitioned cell, and with it that of the chat's domain
-- is left
kept : left_at [] (under shop false false) stored (OwnCell chat) session ≡ session
kept = refl

emptied : left_at [] (under shop false true) stored (OwnCell chat) session ≡ []
emptied = refl

-- but that of the shop's domain never
shops : left_at [] (under shop false true) stored (OwnCell (codes "shop.test")) session ≡ session
shops = refl

-- no key is that of a cell which there is not
none : is_key (OwnCell chat) None ≡ false
none = refl

-- ---- a cookie that is dropped

dropped : jar_left session (Err why.ThirdParty) ≡ session
dropped = refl

dropped_word : word_by (Err why.ThirdParty) ≡ codes "third-party"
dropped_word = refl
