-- What uses of cookies make of what a site has, from what they make of what is held for all.
use Rattle.std.proofs.Common.{◌≡◌, ℕ, Bool, true, false, cond, List, [], sym, ap, ◌∙◌}
use Rattle.unwinding.specs.FiniteCells.{get_cell}
use Rattle.suffix_list.specs.Suffix.{Rule}
use Rattle.origin_site.specs.Site.{PlainSite, same_plain_site}
use Rattle.cookie_jar.specs.Sending.{joined}
use Rattle.reply_lines.specs.Reply.{PlainBody, Cookie, Load, SetOne}
use Rattle.script_actions.specs.Action.{HeadField}
use Rattle.agent_model.specs.CookieCells.{Cookies}
use Rattle.agent_model.specs.PartitionedCells.{PartitionedKey, partitioned_order}
use Rattle.agent_model.specs.Partition.{Holdings, is_cell_under}
use Rattle.row_changes.specs.Change.{PlainChange}
use Rattle.agent_model.specs.Effects.{SharedCells, Done, answers}
use Rattle.agent_model.specs.Documents.{Keyed}
use Rattle.agent_model.specs.CookieUse.{CookieUse, key_of}
use Rattle.agent_model.specs.CookieUses.{script_use}
use Rattle.agent_model.specs.CookieStore.{BothCells, StoredText, StoredTexts, both_marked, cookie_texts, header_text, sent, store_text, store_texts}
use Rattle.agent_model.specs.Cookies.{leaves, own_found, read_cookies, request, set_cookie}
use Rattle.agent_model.proofs.KeptLemmas as kept
use Rattle.agent_model.proofs.PartitionedLemmas.{partitioned_order_total, partitioned_order_same}
use Rattle.one_store.specs.HeldAt.{held_at, done_at}

module _ (site : PlainSite) (here : ℕ → Bool) (held : Holdings) where
  -- a partitioned cell under the site is there as in all
  pub cookies_seen : (key : PartitionedKey) → is_cell_under site key ≡ true → get_cell partitioned_order (held_at site here held).cookies key ≡ get_cell partitioned_order held.cookies key
  cookies_seen key is =
      kept.kept_cell partitioned_order partitioned_order_total partitioned_order_same held.cookies (is_cell_under site) key
      ∙ ap (λ b. cond b (get_cell partitioned_order held.cookies key) []) is

  module _ (rules : List Rule) (how : CookieUse) (own left : Cookies → Cookies) (changes : Cookies → List PlainChange) (body : Cookies → PlainBody) (cells : SharedCells) where
    -- what is done, from the cookies of the partitioned cell
    abbrev made : Cookies → Holdings → Done
    made found all = leaves rules how (record { own = own found; partition = left found }) (changes found) (body found) cells all

    abbrev key : PartitionedKey
    key = key_of rules how

    -- a use under the site is the same at the site as in all
    pub use_seen : is_cell_under site key ≡ true
        → made (get_cell partitioned_order (held_at site here held).cookies key) (held_at site here held) ≡ done_at site here (made (get_cell partitioned_order held.cookies key) held)
    use_seen is =
        ap (λ found. made found (held_at site here held)) (cookies_seen key is)
        ∙ ap (λ cookies. record (made (get_cell partitioned_order held.cookies key) held) { held = record (held_at site here held) { cookies = cookies } })
        (sym (kept.cell_seen partitioned_order partitioned_order_total partitioned_order_same held.cookies (is_cell_under site) key (left (get_cell partitioned_order held.cookies key)) is))

    -- one under another site leaves what the site has
    pub use_unseen : is_cell_under site key ≡ false → held_at site here (made (get_cell partitioned_order held.cookies key) held).held ≡ held_at site here held
    use_unseen is =
        ap (λ cookies. record (held_at site here held) { cookies = cookies })
        (kept.cell_unseen partitioned_order partitioned_order_total partitioned_order_same held.cookies (is_cell_under site) key (left (get_cell partitioned_order held.cookies key)) is)

module _ (site : PlainSite) (here : ℕ → Bool) (held : Holdings) (rules : List Rule) (now : ℕ) (cells : SharedCells) where
  module _ (how : CookieUse) (head : List HeadField) where
    abbrev both : Cookies → BothCells
    both found = record { own = own_found rules how cells; partition = found }

    abbrev stored : Cookies → StoredTexts
    stored found = store_texts rules now how (both_marked now how (both found)) (cookie_texts head)

    -- a request
    pub request_seen : is_cell_under site (key_of rules how) ≡ true → request rules now how head cells (held_at site here held) ≡ done_at site here (request rules now how head cells held)
    request_seen = use_seen site here held rules how (λ found. (stored found).both.own) (λ found. (stored found).both.partition) (λ found. (stored found).changes) (λ found. Load (header_text (sent now how (both found))) (stored found).words) cells

    pub request_unseen : is_cell_under site (key_of rules how) ≡ false → held_at site here (request rules now how head cells held).held ≡ held_at site here held
    request_unseen = use_unseen site here held rules how (λ found. (stored found).both.own) (λ found. (stored found).both.partition) (λ found. (stored found).changes) (λ found. Load (header_text (sent now how (both found))) (stored found).words) cells

  module _ (top : PlainSite) (own : Keyed) where
    abbrev found_by : Cookies → BothCells
    found_by found = record { own = own_found rules (script_use top own) cells; partition = found }

    -- a script reads
    pub read_seen : same_plain_site site top ≡ true → read_cookies rules now top own cells (held_at site here held) ≡ done_at site here (read_cookies rules now top own cells held)
    read_seen is =
        ap (λ found. answers (Cookie (joined (sent now (script_use top own) (found_by found)))) cells (held_at site here held))
        (cookies_seen site here held (key_of rules (script_use top own)) is)

    -- a script sets a cookie
    abbrev set_by : List ℕ → Cookies → StoredText
    set_by text found = store_text rules now (script_use top own) (found_by found) text

    pub set_seen : (text : List ℕ) → same_plain_site site top ≡ true → set_cookie rules now top text own cells (held_at site here held) ≡ done_at site here (set_cookie rules now top text own cells held)
    set_seen text =
        use_seen site here held rules (script_use top own) (λ found. (set_by text found).both.own) (λ found. (set_by text found).both.partition) (λ found. (set_by text found).changes) (λ found. SetOne (set_by text found).word) cells

    pub set_unseen : (text : List ℕ) → same_plain_site site top ≡ false → held_at site here (set_cookie rules now top text own cells held).held ≡ held_at site here held
    set_unseen text =
        use_unseen site here held rules (script_use top own) (λ found. (set_by text found).both.own) (λ found. (set_by text found).both.partition) (λ found. (set_by text found).changes) (λ found. SetOne (set_by text found).word) cells
