-- What uses of cookies change of what is kept.
use Rattle.std.proofs.Common.{◌≡◌, ℕ, pos, ◌≤◌, Bool, true, false, cond, List, [], ◌∷◌, refl, sym, ap, arith, subst, ◌∙◌}
use Rattle.std.specs.Prelude.{bytes_eq}
use Rattle.std.specs.Ordering.{eq_by_cmp}
use Rattle.std.proofs.lemmas.Bool.{true≢false}
use Rattle.std.proofs.lemmas.Slice.Eq.{bytes_eq-Decides}
use Rattle.unwinding.specs.FiniteCells.{get_cell, set_cell}
use Rattle.unwinding.specs.World.{is_in}
use Rattle.unwinding.proofs.FiniteCellsLemmas as cells_of
use Rattle.suffix_list.specs.Suffix.{Rule}
use Rattle.cookie_jar.specs.Cookie.{copies}
use Rattle.cookie_jar.specs.Persistent.{persistent_part}
use Rattle.cookie_jar.proofs.MarkLemmas.{kept_marked, marked_copies}
use Rattle.row_changes.specs.Change.{PlainChange}
use Rattle.script_actions.specs.Action.{HeadField}
use Rattle.reply_lines.specs.Reply.{PlainBody, Load, SetOne}
use Rattle.agent_model.specs.CookieCells.{Cookies, Domain, domain_order}
use Rattle.agent_model.specs.PartitionedCells.{PartitionedKey, partitioned_order}
use Rattle.agent_model.specs.Partition.{Holdings}
use Rattle.agent_model.specs.Effects.{SharedCells}
use Rattle.agent_model.specs.CookieStore.{BothCells, both_marked, cookie_texts, header_text, own_places, partition_places, sent, store_text, store_texts}
use Rattle.agent_model.specs.CookieUse.{CookieUse, consulted_by, cookie_domain, key_of, uses_own}
use Rattle.agent_model.specs.Cookies.{both_found, leaves, request, set_cookie_by}
use Rattle.agent_model.proofs.CookieCellsLemmas.{get_set}
use Rattle.agent_model.proofs.PartitionedLemmas.{partitioned_order_total, partitioned_order_same}
use Rattle.durable_model.proofs.CellsLemmas.{get_kept, kept_set}
use Rattle.durable_model.proofs.RowLemmas.{cookies_after}
use Rattle.durable_model.proofs.FollowsLemmas.{DoneFollows, IsOnce, rows_of}
use Rattle.durable_model.proofs.StoreLemmas.{Stores, consults_own, one_stores, texts_store}
use Rattle.durable_model.proofs.StoredLemmas.{AreOnce}

module _ (rules : List Rule) (now : ℕ) (how : CookieUse) (cells : SharedCells) (held : Holdings) (once : IsOnce cells held.cookies) where
  abbrev domain : Domain
  domain = cookie_domain rules how

  abbrev key : PartitionedKey
  key = key_of rules how

  abbrev found : BothCells
  found = both_found rules how cells held

  -- no two cookies that it finds are the same
  found_once : AreOnce found.own × AreOnce found.partition
  found_once = (at (uses_own how), once.partition key)
    where
      at : (b : Bool) → AreOnce (cond b (get_cell domain_order cells domain) [])
      at true = once.own domain
      at false = λ c. omega arith

  marked_once : AreOnce (both_marked now how found).own × AreOnce (both_marked now how found).partition
  marked_once = (
    λ c. omega (arith, marked_copies c (own_places now how found) (pos now) found.own, found_once.0 c),
    λ c. omega (arith, marked_copies c (partition_places now how found) (pos now) found.partition, found_once.1 c),
  )

  -- what both cells are left with is held and kept
  leaves_follow : (before after : BothCells) (changes : List PlainChange) (body : PlainBody) → persistent_part before.own ≡ persistent_part found.own → persistent_part before.partition ≡ persistent_part found.partition
      → Stores rules now how before after changes → DoneFollows how.top (consulted_by rules how) cells (rows_of held) (leaves rules how after changes body cells held)
  leaves_follow before after changes body same_own same_partition stores =
      record {
        under = stores.under;
        among = stores.among;
        valid = λ d has.
            stores.valid d (ap (λ rows. get_cell partitioned_order rows.cookies key) has.0 ∙ get_kept held.cookies key ∙ sym same_partition)
            (λ uses. has.1 domain (consults_own rules now how uses) ∙ kept_own uses);
        cell = λ c is. cell_by (uses_own how) refl c is;
        rows =
            stores.partition (rows_of held) (get_kept held.cookies key ∙ sym same_partition)
            ∙ ap (λ cookies. record (rows_of held) { cookies = cookies }) (sym (kept_set key after.partition held.cookies));
        once = record {
          own = λ d c. own_once (uses_own how) d c;
          partition = λ k c.
              subst (λ cookies. copies c cookies ≤ 1) (sym (cells_of.get_set partitioned_order partitioned_order_total partitioned_order_same k key after.partition held.cookies))
              (either (eq_by_cmp partitioned_order k key) after.partition (get_cell partitioned_order held.cookies k) stores.once.1 (once.partition k) c);
        };
      }
    where
      either : (b : Bool) (xs ys : Cookies) → AreOnce xs → AreOnce ys → AreOnce (cond b xs ys)
      either true xs ys first second = first
      either false xs ys first second = second

      own_once : (b : Bool) (d : Domain) → AreOnce (get_cell domain_order (cond b (set_cell domain_order domain after.own cells) cells) d)
      own_once true d = λ c.
          subst (λ cookies. copies c cookies ≤ 1) (sym (get_set d domain after.own cells))
          (either (bytes_eq d domain) after.own (get_cell domain_order cells d) stores.once.0 (once.own d) c)
      own_once false d = once.own d

      -- the cell of its own domain, where it uses that
      kept_own : uses_own how ≡ true → persistent_part (get_cell domain_order cells domain) ≡ persistent_part before.own
      kept_own uses = sym (same_own ∙ ap (λ b. persistent_part (cond b (get_cell domain_order cells domain) [])) uses)

      cell_own : (b : Bool) → uses_own how ≡ true → (c : Domain) → bytes_eq c domain ≡ b → cond b true false ≡ true
          → cookies_after c changes (persistent_part (get_cell domain_order cells c)) ≡ persistent_part (get_cell domain_order (set_cell domain_order domain after.own cells) c)
      cell_own true uses c tie is =
          subst (λ d. cookies_after d changes (persistent_part (get_cell domain_order cells d)) ≡ persistent_part (get_cell domain_order (set_cell domain_order domain after.own cells) d))
          (sym ((bytes_eq-Decides c domain).0 tie))
          (ap (cookies_after domain changes) (kept_own uses)
          ∙ stores.own uses
          ∙ ap persistent_part (sym (get_set domain domain after.own cells ∙ ap (λ b. cond b after.own (get_cell domain_order cells domain)) ((bytes_eq-Decides domain domain).1 refl))))
      cell_own false uses c tie is = absurd (true≢false (sym is))

      cell_by : (b : Bool) → uses_own how ≡ b → (c : Domain) → is_in bytes_eq c (cond b (domain ∷ []) []) ≡ true
          → cookies_after c changes (persistent_part (get_cell domain_order cells c)) ≡ persistent_part (get_cell domain_order (cond b (set_cell domain_order domain after.own cells) cells) c)
      cell_by true uses c is = cell_own (bytes_eq c domain) uses c refl is
      cell_by false uses c is = absurd (true≢false (sym is))

  -- a request
  pub request_leaves : (head : List HeadField) → DoneFollows how.top (consulted_by rules how) cells (rows_of held) (request rules now how head cells held)
  request_leaves head =
      let marked = both_marked now how found in
      let stored = store_texts rules now how marked (cookie_texts head) in
      leaves_follow marked stored.both stored.changes (Load (header_text (sent now how found)) stored.words)
      (kept_marked (own_places now how found) (pos now) found.own) (kept_marked (partition_places now how found) (pos now) found.partition)
      (texts_store rules now how marked marked_once (cookie_texts head))

  -- a script sets a cookie
  pub set_leaves : (text : List ℕ) → DoneFollows how.top (consulted_by rules how) cells (rows_of held) (set_cookie_by rules now how text cells held)
  set_leaves text =
      let stored = store_text rules now how found text in
      leaves_follow found stored.both stored.changes (SetOne stored.word) refl refl (one_stores rules now how found found_once text)
