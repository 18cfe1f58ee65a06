-- A use of cookies sees and leaves the shared cells that it consults, and no other.
use Rattle.std.proofs.Common.{◌≡◌, ℕ, Bool, true, false, cond, List, [], ◌∷◌, refl, sym, ap, ◌∙◌}
use Rattle.std.specs.Prelude.{bytes_eq}
use Rattle.std.proofs.lemmas.Slice.Eq.{bytes_eq-Decides}
use Rattle.unwinding.specs.FiniteCells.{get_cell, set_cell, restrict_cells, merge_cells}
use Rattle.unwinding.specs.World.{is_in}
use Rattle.suffix_list.specs.Suffix.{Rule}
use Rattle.cookie_jar.specs.Sending.{joined}
use Rattle.reply_lines.specs.Reply.{Cookie, Load, SetOne}
use Rattle.script_actions.specs.Action.{HeadField}
use Rattle.origin_site.specs.Site.{PlainSite}
use Rattle.agent_model.specs.CookieCells.{Domain, Cookies, domain_order}
use Rattle.agent_model.specs.PartitionedCells.{partitioned_order}
use Rattle.agent_model.specs.Partition.{Holdings}
use Rattle.agent_model.specs.Effects.{SharedCells, Done, Effect}
use Rattle.agent_model.specs.Documents.{Keyed}
use Rattle.agent_model.specs.CookieUse.{CookieUse, consulted_by, cookie_domain, key_of, uses_own}
use Rattle.agent_model.specs.CookieUses.{script_use}
use Rattle.agent_model.specs.CookieStore.{BothCells, StoredText, StoredTexts, both_marked, cookie_texts, header_text, sent, store_text, store_texts}
use Rattle.agent_model.specs.Cookies.{leaves, own_found, own_left, read_cookies, request, set_cookie}
use Rattle.agent_model.proofs.ApartLemmas.{with_cells}
use Rattle.agent_model.proofs.CookieCellsLemmas.{get_merge, get_restrict, get_set, none_left, same_cells}

-- one of some domains
abbrev pub among : List Domain → Domain → Bool
among names c = is_in bytes_eq c names

-- an effect sees and leaves these shared cells alone
abbrev pub IsLocal : List Domain → Effect → Type 0
IsLocal names does = (cells : SharedCells) (held : Holdings)
    → does cells held
    ≡ with_cells (merge_cells domain_order (among names) (does (restrict_cells domain_order (among names) cells) held).cells cells) (does (restrict_cells domain_order (among names) cells) held)

module _ (rules : List Rule) (how : CookieUse) (cells : SharedCells) where
  -- the cells that it consults
  abbrev names : List Domain
  names = consulted_by rules how

  abbrev seen : SharedCells
  seen = restrict_cells domain_order (among names) cells

  itself : bytes_eq (cookie_domain rules how) (cookie_domain rules how) ≡ true
  itself = (bytes_eq-Decides (cookie_domain rules how) (cookie_domain rules how)).1 refl

  -- it finds the same cookies among them
  found_seen : own_found rules how cells ≡ own_found rules how seen
  found_seen = by (uses_own how) refl
    where
      by : (own : Bool) → uses_own how ≡ own
          → cond own (get_cell domain_order cells (cookie_domain rules how)) [] ≡ cond own (get_cell domain_order seen (cookie_domain rules how)) []
      by true is =
          let d = cookie_domain rules how in
          sym (get_restrict (among names) cells d
          ∙ ap (λ own. cond (among (cond own (d ∷ []) []) d) (get_cell domain_order cells d) []) is
          ∙ ap (λ b. cond (cond b true false) (get_cell domain_order cells d) []) itself)
      by false is = refl

  -- and leaves the same in all
  left_seen : (cookies : Cookies) → own_left rules how cookies cells ≡ merge_cells domain_order (among names) (own_left rules how cookies seen) cells
  left_seen cookies = by (uses_own how) refl
    where
      d : Domain
      d = cookie_domain rules how

      there : (b : Bool) (x y z : Cookies) → cond b x y ≡ cond (cond b true false) (cond b x z) y
      there true x y z = refl
      there false x y z = refl

      by : (own : Bool) → uses_own how ≡ own
          → cond own (set_cell domain_order d cookies cells) cells
          ≡ merge_cells domain_order (among (cond own (d ∷ []) [])) (cond own (set_cell domain_order d cookies seen) seen) cells
      by true is =
          same_cells _ _ (λ c.
          get_set c d cookies cells
          ∙ there (bytes_eq c d) cookies (get_cell domain_order cells c) (get_cell domain_order seen c)
          ∙ ap (λ x. cond (cond (bytes_eq c d) true false) x (get_cell domain_order cells c)) (sym (get_set c d cookies seen))
          ∙ sym (get_merge (among (d ∷ [])) (set_cell domain_order d cookies seen) cells c))
      by false is = sym (none_left _ cells)

module _ (rules : List Rule) (now : ℕ) where
  -- what a use finds and leaves is the same in all cells as among those that it consults
  pub request_local : (how : CookieUse) (head : List HeadField) → IsLocal (consulted_by rules how) (request rules now how head)
  request_local how head cells held = λ i.
      record {
        held = (request_from (found_seen rules how cells i)).held;
        cells = (left_seen rules how cells (request_own (own_found rules how cells)) ∙ ap (λ own. merge_cells domain_order (among (consulted_by rules how)) (own_left rules how (request_own own) (seen rules how cells)) cells) (found_seen rules how cells)) i;
        changes = (request_from (found_seen rules how cells i)).changes;
        body = (request_from (found_seen rules how cells i)).body;
      }
    where
      both : Cookies → BothCells
      both own = record { own = own; partition = get_cell partitioned_order held.cookies (key_of rules how) }

      stored : Cookies → StoredTexts
      stored own = store_texts rules now how (both_marked now how (both own)) (cookie_texts head)

      request_own : Cookies → Cookies
      request_own own = (stored own).both.own

      request_from : Cookies → Done
      request_from own = leaves rules how (stored own).both (stored own).changes (Load (header_text (sent now how (both own))) (stored own).words) cells held

  pub set_local : (site : PlainSite) (text : List ℕ) (writer : Keyed) → IsLocal (consulted_by rules (script_use site writer)) (set_cookie rules now site text writer)
  set_local site text writer cells held = λ i.
      record {
        held = (set_from (found_seen rules how cells i)).held;
        cells = (left_seen rules how cells (set_own (own_found rules how cells)) ∙ ap (λ own. merge_cells domain_order (among (consulted_by rules how)) (own_left rules how (set_own own) (seen rules how cells)) cells) (found_seen rules how cells)) i;
        changes = (set_from (found_seen rules how cells i)).changes;
        body = (set_from (found_seen rules how cells i)).body;
      }
    where
      how : CookieUse
      how = script_use site writer

      both : Cookies → BothCells
      both own = record { own = own; partition = get_cell partitioned_order held.cookies (key_of rules how) }

      stored : Cookies → StoredText
      stored own = store_text rules now how (both own) text

      set_own : Cookies → Cookies
      set_own own = (stored own).both.own

      set_from : Cookies → Done
      set_from own = leaves rules how (stored own).both (stored own).changes (SetOne (stored own).word) cells held

  -- a script's reading leaves all cells
  pub read_local : (site : PlainSite) (reader : Keyed) → IsLocal (consulted_by rules (script_use site reader)) (read_cookies rules now site reader)
  read_local site reader cells held = λ i.
      record {
        held = held;
        cells = sym merged i;
        changes = [];
        body = Cookie (joined (sent now how (both (found_seen rules how cells i))));
      }
    where
      how : CookieUse
      how = script_use site reader

      both : Cookies → BothCells
      both own = record { own = own; partition = get_cell partitioned_order held.cookies (key_of rules how) }

      at : (b : Bool) (x : Cookies) → cond b (cond b x []) x ≡ x
      at true x = refl
      at false x = refl

      merged : merge_cells domain_order (among (consulted_by rules how)) (seen rules how cells) cells ≡ cells
      merged =
          same_cells _ _ (λ c.
          get_merge (among (consulted_by rules how)) (seen rules how cells) cells c
          ∙ ap (λ x. cond (among (consulted_by rules how) c) x (get_cell domain_order cells c)) (get_restrict (among (consulted_by rules how)) cells c)
          ∙ at (among (consulted_by rules how) c) (get_cell domain_order cells c))
