-- What was prepared for an effect on cookies: done to the cookies as they stand, it makes of them
-- what the effect does, and has the row changes of the effect.
-- Source: none.
use Rattle.std.specs.Prelude.{◌≡◌, ⊤, true, Option, Some, None, is_some, map, if◌then◌else◌}
use Rattle.std.specs.Ordering.{eq_by_cmp}
use Rattle.std.specs.Rc.{rc_value}
use Rattle.cookie_jar.specs.Key.{PlainKey}
use Rattle.reply_lines.specs.Plain.{body_of}
use Rattle.agent_model.specs.CookieCells.{Cookies}
use Rattle.row_changes.specs.Plain.{plain_change}
use Rattle.agent_model.specs.Effects.{Effect}
use Rattle.agent_model.specs.Partition.{Holdings}
use Rattle.web_cookies.specs.Stored.{Entries, IsDoneBy, held_with, shared_in}
use Rattle.web_cookies.specs.Cells.{cell_order, cookies_at, jar_at, kind_of}
use Rattle.web_cookies.specs.Becoming.{becomes_of}
use Rattle.web_cookies.specs.Keys.{own_of, partition_of}
use Rattle.web_cookies.specs.declared.change.Becomes.{Becomes}
use Rattle.web_cookies.specs.declared.change.Becomes.TheVariants.{Marked, Stored}
use Rattle.web_cookies.specs.declared.change.BothChanges.{BothChanges}
use Rattle.web_cookies.specs.declared.prepared.Prepared.{Prepared}

-- there is a place for what a cell becomes
abbrev pub HasPlace : PlainKey → Entries → Becomes → Type 0
HasPlace key entries (Marked places now new) = ⊤
HasPlace key entries (Stored jar) = is_some (jar_at key entries) ≡ true

-- and for what one becomes that there may be
abbrev pub HasPlaceIf : Option PlainKey → Entries → Becomes → Type 0
HasPlaceIf None entries becomes = ⊤
HasPlaceIf (Some key) entries becomes = HasPlace key entries becomes

-- the cookies of a key, once a cell became so
abbrev pub changed : PlainKey → Becomes → PlainKey → Cookies → Cookies
changed cell becomes key cookies =
    if eq_by_cmp cell_order key cell then becomes_of (kind_of cell) becomes cookies else cookies

-- the cookies of a key, once a cell became so, if there is one
abbrev pub changed_if : Option PlainKey → Becomes → PlainKey → Cookies → Cookies
changed_if None becomes key cookies = cookies
changed_if (Some cell) becomes key cookies = changed cell becomes key cookies

-- both changes can be done to these cookies
pub record AreReady (changes : BothChanges) (entries : Entries) : Type 0 where
  pub own : HasPlaceIf (own_of (rc_value changes.keys)) entries changes.own
  pub partition : HasPlace (partition_of (rc_value changes.keys)) entries changes.partition

-- the cookies of a key, once both changes were done
abbrev pub cookies_after : BothChanges → PlainKey → Cookies → Cookies
cookies_after changes key cookies =
    changed (partition_of (rc_value changes.keys)) changes.partition key
    (changed_if (own_of (rc_value changes.keys)) changes.own key cookies)

-- they were done
abbrev pub AreDone : BothChanges → (old new : Entries) → Type 0
AreDone changes old new =
    (key : PlainKey) → cookies_at key new ≡ cookies_after changes key (cookies_at key old)

-- it was prepared for an effect on these cookies
pub record Prepares (does : Effect) (entries : Entries) (prepared : Prepared) : Type 0 where
  pub ready : AreReady prepared.cells entries
  pub done : (new : Entries) → AreDone prepared.cells entries new
      → IsDoneBy does entries new (body_of prepared.body)
  pub rows : (others : Holdings) → map plain_change prepared.rows.items
      ≡ (does (shared_in entries) (held_with entries others)).changes
