-- What an action does at a site whose holdings were read: uses of cookies, and actions on frames.
use Rattle.std.proofs.Common.{◌≤◌, ℕ, pos, Bool, true, false, cond, List, [], Option, Some, Ok, Err, sym, subst}
use Rattle.std.specs.Prelude.{IfOk, Result, bytes_eq}
use Rattle.std.specs.List.{All}
use Rattle.std.specs.Ordering.{eq_by_cmp}
use Rattle.std.proofs.lemmas.List.Elements.{All-nil}
use Rattle.unwinding.specs.FiniteCells.{get_cell, set_cell}
use Rattle.unwinding.proofs.FiniteCellsLemmas as cells_of
use Rattle.suffix_list.specs.Suffix.{Rule}
use Rattle.frame_tree.specs.declared.tab.TreeFault.{TreeFault}
use Rattle.frame_tree.specs.Tree.{PlainFrame}
use Rattle.live_state.specs.Tabs.{PlainTab, made_tab}
use Rattle.row_changes.specs.Change.{PlainChange}
use Rattle.script_actions.specs.Action.{HeadField}
use Rattle.reply_lines.specs.Reply.{PlainBody, Load, SetOne}
use Rattle.agent_model.specs.CookieCells.{Domain, domain_order}
use Rattle.agent_model.specs.PartitionedCells.{PartitionedKey, partitioned_order}
use Rattle.agent_model.specs.Partition.{Holdings}
use Rattle.agent_model.specs.Effects.{Done, Effect, SharedCells, answers}
use Rattle.agent_model.specs.CookieStore.{BothCells, both_marked, cookie_texts, header_text, own_places, partition_places, sent, store_text, store_texts}
use Rattle.agent_model.specs.CookieUse.{CookieUse, cookie_domain, key_of, uses_own}
use Rattle.agent_model.specs.Cookies.{both_found, leaves, request, set_cookie_by}
use Rattle.agent_model.specs.Frames.{on_frames}
use Rattle.agent_base.specs.Seconds.{last_moment}
use Rattle.agent_model.proofs.CookieCellsLemmas.{get_set}
use Rattle.agent_model.proofs.EachTabLemmas.{IsOfFrames, OfEachTab, each_changed}
use Rattle.agent_model.proofs.KeptLemmas as kept
use Rattle.agent_model.proofs.PartitionedLemmas.{partitioned_order_total, partitioned_order_same}
use Rattle.spelled_model.specs.Frames.{AreReadFrames, IsReadTab}
use Rattle.spelled_model.specs.Rows.{IsReadCell}
use Rattle.spelled_model.specs.Worlds.{AreNamed}
use Rattle.spelled_model.proofs.CellLemmas.{either_read, marked_read, none_read}
use Rattle.spelled_model.proofs.SpellsLemmas.{Spells}
use Rattle.spelled_model.proofs.UseLemmas.{AreReadCells, IsReadUse, one_stored, texts_stored}

-- the holdings of a site were read
pub record IsReadHeld (rules : List Rule) (held : Holdings) : Type 0 where
  pub tabs : OfEachTab (λ number. IsReadTab rules) held
  pub areas : AreNamed rules held.areas
  pub partitioned : (key : PartitionedKey) → IsReadCell (get_cell partitioned_order held.cookies key)

-- and so were the shared cells
abbrev pub AreReadShared : SharedCells → Type 0
AreReadShared cells = (domain : Domain) → IsReadCell (get_cell domain_order cells domain)

-- an action whose row changes have a spelling, and what it leaves
pub record IsReadDone (rules : List Rule) (done : Done) : Type 0 where
  pub spells : All (Spells rules) done.changes
  pub held : IsReadHeld rules done.held
  pub shared : AreReadShared done.cells

-- frames are all that is read of a tab
pub by_frames : (rules : List Rule) → IsOfFrames (λ number. IsReadTab rules)
by_frames rules number before after same read = subst (AreReadFrames rules) (sym same) read

-- an answer alone
pub answered : (rules : List Rule) (cells : SharedCells) (held : Holdings) (body : PlainBody) → AreReadShared cells → IsReadHeld rules held → IsReadDone rules (answers body cells held)
answered rules cells held body shared read = record { spells = All-nil (Spells rules); held = read; shared = shared }

-- ---- uses of cookies

module _ (rules : List Rule) (now : ℕ) (short : now ≤ last_moment) (how : CookieUse) (use_read : IsReadUse rules how) (cells : SharedCells) (held : Holdings)
    (shared : AreReadShared cells) (read : IsReadHeld rules held) where
  abbrev found : BothCells
  found = both_found rules how cells held

  found_read : AreReadCells found
  found_read = (either_read (uses_own how) (get_cell domain_order cells (cookie_domain rules how)) [] (shared (cookie_domain rules how)) none_read, read.partitioned (key_of rules how))

  marked_both : AreReadCells (both_marked now how found)
  marked_both = (marked_read (own_places now how found) (pos now) found.own found_read.0, marked_read (partition_places now how found) (pos now) found.partition found_read.1)

  leaves_read : (both : BothCells) (changes : List PlainChange) (body : PlainBody) → All (Spells rules) changes → AreReadCells both → IsReadDone rules (leaves rules how both changes body cells held)
  leaves_read both changes body spells are =
      record {
        spells = spells;
        held = record {
          tabs = read.tabs;
          areas = read.areas;
          partitioned = λ key.
              subst IsReadCell (sym (cells_of.get_set partitioned_order partitioned_order_total partitioned_order_same key (key_of rules how) both.partition held.cookies))
              (either_read (eq_by_cmp partitioned_order key (key_of rules how)) both.partition (get_cell partitioned_order held.cookies key) are.1 (read.partitioned key));
        };
        shared = λ domain. own_left_read (uses_own how) domain;
      }
    where
      own_left_read : (b : Bool) (domain : Domain) → IsReadCell (get_cell domain_order (cond b (set_cell domain_order (cookie_domain rules how) both.own cells) cells) domain)
      own_left_read true domain =
          subst IsReadCell (sym (get_set domain (cookie_domain rules how) both.own cells))
          (either_read (bytes_eq domain (cookie_domain rules how)) both.own (get_cell domain_order cells domain) are.0 (shared domain))
      own_left_read false domain = shared domain

  -- a request
  pub request_read : (head : List HeadField) → IsReadDone rules (request rules now how head cells held)
  request_read head =
      let stored = store_texts rules now how (both_marked now how found) (cookie_texts head) in
      let is = texts_stored rules now short how use_read (both_marked now how found) marked_both (cookie_texts head) in
      leaves_read stored.both stored.changes (Load (header_text (sent now how found)) stored.words) is.spells is.cells

  -- a script sets a cookie
  pub set_read : (text : List ℕ) → IsReadDone rules (set_cookie_by rules now how text cells held)
  set_read text =
      let stored = store_text rules now how found text in
      let is = one_stored rules now short how use_read found found_read text in
      leaves_read stored.both stored.changes (SetOne stored.word) is.spells is.cells

-- ---- tabs

module _ (rules : List Rule) (cells : SharedCells) (held : Holdings) (shared : AreReadShared cells) (read : IsReadHeld rules held) where
  -- a tab is changed, opened or closed
  pub tab_changed : (number : ℕ) (tab : Option PlainTab) → IsReadTab rules tab → IsReadHeld rules (record held { tabs = kept.changed_at number tab held.tabs })
  tab_changed number tab is = record { tabs = each_changed (λ n. IsReadTab rules) held number tab is read.tabs; areas = read.areas; partitioned = read.partitioned }

  -- an action on the frames of a tab
  pub frames_done : (number : ℕ) (tab : PlainTab) (replaced : Option ℕ) (next : List PlainFrame → Effect) (after : Result (List PlainFrame) TreeFault) → IfOk after (AreReadFrames rules)
      → ((frames : List PlainFrame) (left : Holdings) → AreReadFrames rules frames → IsReadHeld rules left → IsReadDone rules (next frames cells left))
      → IsReadDone rules (on_frames number tab replaced next after cells held)
  frames_done number tab replaced next (Ok frames) is each = each frames _ is (tab_changed number (Some (made_tab number frames replaced (Some tab))) is)
  frames_done number tab replaced next (Err why) is each = answered rules cells held _ shared read
