-- The durable changes of an open batch, their body, and what they lead to.
use Rattle.std.proofs.Common.{◌≡◌, inl, inr, ℕ, ◌<◌, ◌≤◌, false, List, [], ◌∷◌, ◌++◌, length, map, Option, Some, None, refl, sym, ap, subst, ◌∙◌, arith}
use Rattle.std.specs.Prelude.{◌⊎◌, fold, Ok}
use Rattle.std.specs.List.{All, flat_map}
use Rattle.std.specs.Int.{w32, to_le_bytes}
use Rattle.std.proofs.lemmas.List.{length-append, length-map}
use Rattle.std.proofs.lemmas.List.Concat.{flat_map-append}
use Rattle.std.proofs.lemmas.List.Elements.{All-cons, All-map, All-nil}
use Rattle.unwinding.specs.World.{after_sides, outcome}
use Rattle.unwinding.specs.Durable.{durable_change, line_changes, main_changes}
use Rattle.suffix_list.specs.Suffix.{Rule}
use Rattle.origin_site.specs.Site.{PlainSite}
use Rattle.script_actions.specs.Action.{PlainAction}
use Rattle.row_changes.specs.Appended.{HasTexts}
use Rattle.row_changes.specs.Body.{changes_bytes, rows_bytes}
use Rattle.row_changes.specs.Change.{PlainChange}
use Rattle.row_changes.specs.Laws.{IsWritable}
use Rattle.row_changes.specs.Spelled.{IsSpelledUnder}
use Rattle.agent_model.specs.Lines.{AgentWorld, SiteOccurrence, main_event}
use Rattle.agent_model.specs.TheMachine.{machine}
use Rattle.durable_model.specs.RowEdits.{AllAreValid, after_all, after_changes}
use Rattle.durable_model.specs.Saved.{Saved}
use Rattle.row_store.specs.Bodies.{Takes, body_means}
use Rattle.row_store.specs.Laws.{AreAllValid, WrittenBodiesMean}
use Rattle.agent_memory.specs.Written.{AgentChange, AreWritten, HasRoom, body_of}
use Rattle.open_store.specs.Commits.{BodyLeads}

-- ---- the durable change of a line

-- each has a row change
abbrev HaveRows : List AgentChange → Type 0
HaveRows made = All (λ one. 0 < length one.changes) made

pub line_rows : (rules : List Rule) (world : AgentWorld) (line : PlainAction)
    → HaveRows (line_changes (machine rules) world line)
unfolding line_changes machine
line_rows rules world line = by (main_event rules world line)
  where
    P : AgentChange → Type 0
    P one = 0 < length one.changes

    beside : AgentWorld
    beside = after_sides (machine rules) world line

    one : (site : PlainSite) (changes : List PlainChange)
        → All P (durable_change (machine rules) site changes)
    one site [] = All-nil P
    one site (change ∷ changes) =
        All-cons P (record { site = site; changes = change ∷ changes }) [] (omega arith) (All-nil P)

    by : (event : Option SiteOccurrence) → All P (main_changes (machine rules) beside event)
    by None = All-nil P
    by (Some a) =
        one a.site
        (outcome (machine rules) a.site (beside.partition a.site) world.cells a.event).changes

-- ---- one batch behind another

pub after_append : (d : Saved) (first second : List AgentChange)
    → after_all d (first ++ second) ≡ after_all (after_all d first) second
after_append d [] second = refl
after_append d (one ∷ first) second = after_append (after_changes d one.changes) first second

pub valid_append : (d : Saved) (first second : List AgentChange) → AllAreValid d first
    → AllAreValid (after_all d first) second → AllAreValid d (first ++ second)
valid_append d [] second valid more = more
valid_append d (one ∷ first) second valid more =
    (valid.0, valid_append (after_changes d one.changes) first second valid.1 more)

pub body_append : (first second : List AgentChange)
    → body_of (first ++ second) ≡ body_of first ++ body_of second
body_append first second = flat_map-append (λ one. changes_bytes one.changes) first second

-- ---- a body leads on

rows_of : List AgentChange → List (List PlainChange)
rows_of made = map (λ one. one.changes) made

body_rows : (made : List AgentChange) → flat_map changes_bytes (rows_of made) ≡ body_of made
unfolding rows_of
body_rows [] = refl
body_rows (one ∷ made) = ap (λ rest. changes_bytes one.changes ++ rest) (body_rows made)

rows_after : (d : Saved) (made : List AgentChange)
    → fold after_changes d (rows_of made) ≡ after_all d made
unfolding rows_of
rows_after d [] = refl
rows_after d (one ∷ made) = rows_after (after_changes d one.changes) made

rows_valid : (d : Saved) (made : List AgentChange) → AllAreValid d made
    → AreAllValid d (rows_of made)
unfolding rows_of
rows_valid d [] valid = tt
rows_valid d (one ∷ made) valid = (valid.0, rows_valid (after_changes d one.changes) made valid.1)

rows_writable : (made : List AgentChange) → All (λ one. IsWritable one.changes) made
    → All IsWritable (rows_of made)
unfolding rows_of
rows_writable made writable = All-map IsWritable (λ one. one.changes) made writable

rows_length : (made : List AgentChange) → length (rows_of made) ≡ length made
unfolding rows_of
rows_length made = length-map made (λ one. one.changes)

pub body_takes : WrittenBodiesMean → (base : Saved) (made : List AgentChange)
    → All (λ one. IsWritable one.changes) made → AllAreValid base made
    → Takes base false (body_of made) (after_all base made) (length made)
body_takes law base made writable valid =
    ap (λ body. body_means base false body) (sym (body_rows made))
    ∙ law base (rows_of made) (rows_writable made writable) (rows_valid base made valid)
    ∙ ap (λ (n : ℕ). Ok (fold after_changes base (rows_of made), n)) (rows_length made)
    ∙ ap (λ (d : Saved). Ok (d, length made)) (rows_after base made)

-- a durable change has four bytes and more
four : (changes : List PlainChange) → 4 ≤ length (changes_bytes changes)
four changes =
    let count : length (to_le_bytes w32 (length changes)) ≡ 4 = refl in
    omega (
      arith,
      count,
      length-append (to_le_bytes w32 (length changes)) (rows_bytes changes),
    )

some_bytes : (one : AgentChange) (made : List AgentChange) → 0 < length (body_of (one ∷ made))
some_bytes one made =
    omega (
      arith,
      length-append (changes_bytes one.changes) (body_of made),
      four one.changes,
    )

pub body_leads : WrittenBodiesMean → (base : Saved) (made : List AgentChange)
    (body : List ℕ) (changes : ℕ) → body ≡ body_of made → changes ≡ length made
    → All (λ one. IsWritable one.changes) made → AllAreValid base made
    → BodyLeads Takes base body changes (after_all base made)
body_leads law base [] body changes is count writable valid = inl (is, count, refl)
body_leads law base (one ∷ made) body changes is count writable valid =
    let all = one ∷ made in
    let takes = body_takes law base all writable valid in
    let P : List ℕ → ℕ → Type 0 =
    λ bytes n. (0 < length bytes) × Takes base false bytes (after_all base all) n in
    inr (subst (λ bytes. P bytes changes) (sym is)
    (subst (λ n. P (body_of all) n) (sym count) (some_bytes one made, takes)))

-- ---- a line more

pub line_count : (made : List AgentChange) (before after : List ℕ) → length made ≤ 1
    → AreWritten made before after
    → ((length before < length after) × (length made ≡ 1))
    ⊎ ((length after ≤ length before) × (length made ≡ 0))
line_count [] before after few written =
    inr (omega (arith, ap length written.behind, length-append before []), refl)
line_count (one ∷ made) before after few written =
    inl (
      omega (
        arith,
        ap length written.behind,
        length-append before (body_of (one ∷ made)),
        some_bytes one made,
      ),
      omega (arith, few),
    )

-- what a line wrote, of rows under a list, has a spelling
pub made_writable : (rules : List Rule) (made : List AgentChange) → HaveRows made
    → All HasRoom made → All (λ one. All (IsSpelledUnder rules) one.changes) made
    → All (λ one. IsWritable one.changes) made
made_writable rules made rows room spelled k d below =
    (rows k d below, (room k d below).1, λ i e under. (spelled k d below i e under).0)

pub made_texts : (made : List AgentChange) → All HasRoom made
    → All (λ one. All HasTexts one.changes) made
made_texts made room k d below = (room k d below).0
