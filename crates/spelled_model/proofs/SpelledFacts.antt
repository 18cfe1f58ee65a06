-- Row changes that lines make, worked out by hand, and their spelling.
use Rattle.std.proofs.Common.{◌≡◌, pos, Bool, true, false, List, [], ◌∷◌, ◌++◌, ℕ, Some, Ok, refl}
use Rattle.std.specs.Prelude.{codes}
use Rattle.url.proofs.OnLiterals.{url_on_literals}
use Rattle.origin_site.specs.Address.{PlainAddress}
use Rattle.origin_site.specs.Origin.{origin_of_address, origin_text}
use Rattle.origin_site.specs.Site.{PlainSite, site_of_text, site_text}
use Rattle.storage_key.specs.Key.{PlainKey}
use Rattle.storage_key.specs.Stays.{key_stays}
use Rattle.setcookie_parse.specs.declared.cookie.SameSite.TheVariants.{NoneSent}
use Rattle.stored_cookie.specs.StoredCookie.{PlainCookie}
use Rattle.cookie_jar.specs.Key.{PlainKey as PlainCell, PartitionCell}
use Rattle.frame_tree.specs.Document.{loaded}
use Rattle.frame_tree.specs.Keys.{key_of_frame}
use Rattle.frame_tree.specs.Sandbox.{unrestricted}
use Rattle.frame_tree.specs.Tree.{PlainFrame}
use Rattle.row_changes.specs.Change.{CookieInsert}
use Rattle.row_changes.specs.Names.{origin_of_text}
use Rattle.row_changes.specs.Spelled.{change_stays, suits}
use Rattle.agent_model.specs.CookieStore.{BothCells, store_text}
use Rattle.agent_model.specs.CookieUse.{CookieUse}

-- an https address of a host and a path
abbrev address : List ℕ → List ℕ → PlainAddress
address host path =
    record { text = codes "https://" ++ (host ++ path); https = true; ip = false; host = host; port = 443; path = path }

abbrev a_site : PlainSite
a_site = record { https = true; host = codes "a.test" }

-- ---- keys

-- a document of `https://a.test/`, and below it one of `https://w.test/`
abbrev frames : List PlainFrame
frames =
    record { frame = 0; parent = 0; document = loaded [] unrestricted false (address (codes "a.test") (codes "/")) }
    ∷ record { frame = 1; parent = 0; document = loaded [] unrestricted false (address (codes "w.test") (codes "/")) } ∷ []

-- the key of the framed document has the bit
abbrev framed_key : PlainKey
framed_key = record { top = a_site; origin = origin_of_address (address (codes "w.test") (codes "/")); bit = true }

framed : key_of_frame 1 frames ≡ Some framed_key
framed = refl

-- so it is a named key, and it would be none without the bit
framed_origin : origin_of_text (origin_text framed_key.origin) ≡ Some framed_key.origin
unfolding url_on_literals
framed_origin = refl

framed_top : site_of_text (site_text framed_key.top) ≡ Ok a_site
unfolding url_on_literals
framed_top = refl

framed_stays : key_stays [] framed_key ≡ true
framed_stays = refl

framed_without_bit : key_stays [] (record framed_key { bit = false }) ≡ false
framed_without_bit = refl

-- ---- cookies

-- a request for `https://x.w.test/b/c` in the framed document's context
abbrev use_of_w : CookieUse
use_of_w =
    record {
      url = address (codes "x.w.test") (codes "/b/c");
      top = a_site;
      context = record { first = false; bit = true };
      same_site = false;
      top_load = false;
      safe = true;
      script = false;
      granted = false;
    }

abbrev no_cells : BothCells
no_cells = record { own = []; partition = [] }

-- the cell of `w.test` under `https://a.test`
abbrev w_cell : PlainCell
w_cell = PartitionCell a_site true (codes "w.test")

-- the cookie `n=1` of a domain, set at the moment 7 for a minute; its path is that of the request
abbrev n_cookie : List ℕ → Bool → PlainCookie
n_cookie domain host_only =
    record {
      name = codes "n";
      value = codes "1";
      domain = domain;
      path = codes "/b";
      host_only = host_only;
      secure = true;
      http_only = false;
      same_site = NoneSent;
      creation = pos 7;
      expiry = Some (pos 67);
      last = pos 0;
    }

-- one with a Domain attribute goes to the cell of its registrable domain, and it suits and stays there
with_domain :
    (store_text [] 7 use_of_w no_cells (codes "n=1; Domain=.W.test; Max-Age=60; Secure; SameSite=None; Partitioned")).changes
    ≡ CookieInsert w_cell 0 (n_cookie (codes "w.test") false) ∷ []
with_domain = refl

domain_suits : suits w_cell (n_cookie (codes "w.test") false) ≡ true
unfolding url_on_literals
domain_suits = refl

domain_stays : change_stays [] (CookieInsert w_cell 0 (n_cookie (codes "w.test") false)) ≡ true
domain_stays = refl

-- so does one of the host alone, whose Path is none
without_domain :
    (store_text [] 7 use_of_w no_cells (codes "n=1; Path=b; Max-Age=60; Secure; SameSite=None; Partitioned")).changes
    ≡ CookieInsert w_cell 0 (n_cookie (codes "x.w.test") true) ∷ []
without_domain = refl

host_suits : suits w_cell (n_cookie (codes "x.w.test") true) ≡ true
unfolding url_on_literals
host_suits = refl

host_stays : change_stays [] (CookieInsert w_cell 0 (n_cookie (codes "x.w.test") true)) ≡ true
host_stays = refl

-- one that is not Secure is dropped, and would not suit
not_secure : (store_text [] 7 use_of_w no_cells (codes "n=1; Max-Age=60; Partitioned; SameSite=None")).changes ≡ []
not_secure = refl

not_secure_suits : suits w_cell (record (n_cookie (codes "w.test") false) { secure = false }) ≡ false
not_secure_suits = refl

-- and one of a host of another domain would suit, as a row that was written under another list
-- may, but would not stay
other_suits : suits w_cell (n_cookie (codes "v.test") true) ≡ true
unfolding url_on_literals
other_suits = refl

other_goes : change_stays [] (CookieInsert w_cell 0 (n_cookie (codes "v.test") true)) ≡ false
other_goes = refl
