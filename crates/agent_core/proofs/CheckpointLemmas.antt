-- What a checkpoint makes of what an agent stands for that holds nothing.
use Rattle.std.proofs.Common.{◌≡◌, ℕ, ◌≤◌, true, List, [], ◌∷◌, length, map, Vec, Global, refl, sym, ap, subst, ◌∙◌, arith}
use Rattle.std.specs.List.{All}
use Rattle.std.proofs.lemmas.List.Elements.{All-nil}
use Rattle.unwinding.specs.Course.{AtBase}
use Rattle.unwinding.specs.CourseSteps.{committed}
use Rattle.unwinding.specs.Durable.{IsKeptOf, apply_all}
use Rattle.disk_model.specs.Disk.{LeavesOnly, View}
use Rattle.disk_model.specs.DiskLaws.{IsLawful}
use Rattle.journal.specs.Journal.{JournalView}
use Rattle.open_store.specs.Commits.{IsEither2}
use Rattle.suffix_list.specs.Suffix.{Rule}
use Rattle.access_grants.specs.Grant.{HasDistinctPairs}
use Rattle.reply_lines.specs.Plain.{reply_of}
use Rattle.reply_lines.specs.declared.reply.Reply.{Reply}
use Rattle.row_changes.specs.Body.{rows_bytes}
use Rattle.row_changes.specs.Laws.{IsWritable}
use Rattle.row_changes.specs.Spelled.{IsSpelledUnder}
use Rattle.agent_model.specs.Isolation.{printed}
use Rattle.agent_model.specs.TheMachine.{machine}
use Rattle.durable_model.specs.Keeping.{AgentDurable, durable_of, keeping}
use Rattle.durable_model.specs.Migrate.{IsUnder}
use Rattle.durable_model.specs.RowEdits.{after_all}
use Rattle.durable_model.specs.Saved.{IsValid, Saved, nothing_saved}
use Rattle.durable_model.specs.Sound.{IsSavedOf}
use Rattle.row_store.specs.Bodies.{Takes}
use Rattle.row_store.specs.Laws.{IsSpelledStateUnder, IsStorable, SnapshotsAreSpelled, SnapshotsMean}
use Rattle.row_store.specs.MigrateLaws.{SpelledStays, UnderIsSpelled}
use Rattle.row_opening.specs.Opened.{IsAtBase, LeavesUnder}
use Rattle.row_store.specs.Listing.{listed}
use Rattle.agent_memory.specs.AgentState.{AgentState}
use Rattle.agent_memory.specs.Written.{AgentChange, body_of}
use Rattle.agent_core.specs.AgentView.{AgentView, may_find, may_of, since_opening}
use Rattle.agent_core.specs.Batch.{PlainBatch}
use Rattle.agent_core.specs.Means.{FlushMeans, IsBeforeOrAfter, after_commit}
use Rattle.agent_core.specs.Seen.{AgentSeen, IsSeen, IsUp}
use Rattle.agent_core.specs.Standing.{Finishes, HasNone, kept_in}
use Rattle.agent_core.specs.declared.agent.Power.{Power}
use Rattle.agent_core.specs.declared.agent.Power.TheVariants.{Down, Up}
use Rattle.agent_core.specs.declared.outcome.Outcome.TheVariants as outcome
use Rattle.agent_core.proofs.CommitLemmas.{failed_may, failed_stores, held_of, moments_after}
use Rattle.agent_core.proofs.SeenLemmas.{from_parts, up_at_base, up_stores}
use Rattle.agent_core.proofs.SnapshotLemmas.{kept_durable, snapshot_takes, spelled_same, storable_same, valid_same}

-- ---- what an answer gets from the value

pub none_is : {D : Type 0} (x y : AgentView D) → x ≡ y → HasNone y → HasNone x
none_is x y same none = subst HasNone (sym same) none

pub held_is : {D : Type 0} (x y : AgentView D) → x ≡ y → x.held ≡ [] → y.held ≡ []
held_is x y same none = sym (ap (λ v. v.held) same) ∙ none

pub snapshot_is : {D : Type 0} (x y : AgentView D) (body : List ℕ) → x ≡ y
    → body ≡ rows_bytes (listed (kept_in y.memory))
    → body ≡ rows_bytes (listed (kept_in x.memory))
snapshot_is x y body same is =
    is ∙ sym (ap (λ v. rows_bytes (listed (kept_in v.memory))) same)

pub distinct_is : {D : Type 0} (x y : AgentView D) → x ≡ y → HasDistinctPairs y.memory.grants
    → HasDistinctPairs x.memory.grants
distinct_is x y same distinct =
    subst (λ v. HasDistinctPairs v.memory.grants) (sym same) distinct

-- ---- nothing is pending

module _ (rules : List Rule) (a : AgentSeen) (none : length a.pending ≡ 0) where
  nothing_pending : a.pending ≡ []
  nothing_pending = empty a.pending none
    where
      empty : (made : List AgentChange) → length made ≡ 0 → made ≡ []
      empty [] is = refl
      empty (one ∷ made) is = absurd (omega (arith, is))

  state_stays : (after_commit rules a).base.state ≡ a.base.state
  unfolding committed
  state_stays =
      ap (λ (made : List AgentChange). apply_all keeping made a.base.state) nothing_pending

  count_stays : (after_commit rules a).base.count ≡ a.base.count
  unfolding committed
  count_stays = omega (arith, none)

-- ---- what a checkpoint does to a store

-- what each moment of it leaves, whatever the store stands for, under a list of this digest
abbrev pub LeavesBy : JournalView → View → View → (body given : List ℕ) → Type 0
LeavesBy j v w body given =
    (base next : Saved) (counted : ℕ) → IsAtBase j v base
    → Takes nothing_saved true body next counted → v.tells ≡ true
    → LeavesOnly v w
    (IsEither2 Takes nothing_saved j.digest base j.changes given next j.changes)

-- and under the store's own
abbrev pub LeavesSnapshot : JournalView → View → View → List ℕ → Type 0
LeavesSnapshot j v w body = LeavesBy j v w body j.digest

pub leaves_own : (j : JournalView) (v w : View) (body given : List ℕ) → given ≡ j.digest
    → LeavesBy j v w body given → LeavesSnapshot j v w body
leaves_own j v w body given same leaves =
    subst (λ (d : List ℕ). LeavesBy j v w body d) same leaves

-- what it makes of what the store stands for
abbrev pub PutsSnapshot : JournalView → JournalView → View → View → List ℕ → Type 0
PutsSnapshot j j' v w body =
    (base next : Saved) (counted : ℕ) → IsAtBase j v base
    → Takes nothing_saved true body next counted → IsAtBase j' w next

-- ---- an agent that holds nothing

module _ {D : Type 0} (m : AgentState) (now : ℕ) (b : PlainBatch) (j j' : JournalView)
    (opened checkpoint : ℕ) (power : Power) (disk disk' : D) (v w : View) (a : AgentSeen)
    (held : b.held ≡ []) (changes : b.changes ≡ 0)
    (up : IsUp (from_parts m now b j opened checkpoint power disk) v a) where
  none : length a.pending ≡ 0
  none = sym up.changes ∙ changes

  -- the store stands for what is kept of the world
  saved_now : IsSavedOf m.rules a.world up.base
  saved_now =
      subst
      (λ (made : List AgentChange). IsSavedOf m.rules a.world (after_all up.base made))
      (nothing_pending m.rules a none) up.batch.saved

  -- it goes on with a state that is the same at each site
  module _ (next : Saved) (same : durable_of next ≡ durable_of up.base) where
    settled_up : IsValid next → IsStorable next → IsUnder m.rules next
        → IsSpelledStateUnder m.rules next → j'.changes ≡ j.changes → IsAtBase j' w next
        → IsUp (from_parts m now b j' opened checkpoint power disk') w (after_commit m.rules a)
    unfolding committed
    settled_up valid storable under spelled count at = record {
      world = up.world;
      sound = up.sound;
      read = up.read;
      held = sym held;
      changes = changes;
      count = count_stays m.rules a none ∙ up.count
          ∙ ap (λ (n : ℕ). since_opening n opened) (sym count);
      fits = omega (arith, up.fits);
      base = next;
      valid = valid;
      storable = storable;
      under = under;
      spelled = spelled;
      state = state_stays m.rules a none ∙ up.state ∙ sym same;
      batch = record {
        bytes = up.batch.bytes ∙ ap body_of (nothing_pending m.rules a none);
        writable = All-nil (λ one. IsWritable one.changes);
        under = All-nil (λ one. All (IsSpelledUnder m.rules) one.changes);
        valid = tt;
        saved =
            subst (λ (d : AgentDurable). IsKeptOf (machine m.rules) keeping a.world d)
            (sym same) saved_now;
      };
      store = at;
    }

    settled_seen : IsValid next → IsStorable next → IsUnder m.rules next
        → IsSpelledStateUnder m.rules next → j'.changes ≡ j.changes → IsAtBase j' w next
        → power ≡ Up → 1 ≤ b.size
        → a.world.rest.now ≡ now
        → IsSeen (from_parts m now b j' opened checkpoint power disk') w (after_commit m.rules a)
        × AtBase (after_commit m.rules a).base
        (may_of (from_parts m now b j' opened checkpoint power disk') w)
    unfolding committed
    settled_seen valid storable under spelled count at is_up size clock =
        let here = settled_up valid storable under spelled count at in
        let x = from_parts m now b j' opened checkpoint power disk' in (
          record {
            up = (λ _. is_up, λ _. refl);
            clock = clock;
            stores = up_stores x w (after_commit m.rules a) here;
            standing = λ _. here;
            short = λ _. omega (arith, ap length held, size);
          },
          up_at_base x w (after_commit m.rules a) here,
        )

  -- no reply is given out
  no_replies : (given : Vec Reply Global) → given.items ≡ []
      → map reply_of given.items ≡ map printed a.held
  no_replies given empty = ap (map reply_of) empty ∙ sym (up.held ∙ held)

  -- ---- a snapshot of what is in memory

  module _ (means : SnapshotsMean) (spells : SnapshotsAreSpelled) (stays : SpelledStays)
      (reads : UnderIsSpelled) (body : List ℕ)
      (is : body ≡ rows_bytes (listed (kept_in m))) (distinct : HasDistinctPairs m.grants) where
    same : durable_of (kept_in m) ≡ durable_of up.base
    same = kept_durable m m.rules a.world up.base up.world saved_now

    storable : IsStorable (kept_in m)
    storable = storable_same up.base (kept_in m) same distinct up.storable

    spelled : IsSpelledStateUnder m.rules (kept_in m)
    spelled = spelled_same up.base (kept_in m) same (IsSpelledUnder m.rules) up.spelled

    under : IsUnder m.rules (kept_in m)
    under = stays m.rules (kept_in m) spelled

    takes : Takes nothing_saved true body (kept_in m) 0
    takes =
        snapshot_takes means spells (kept_in m) body is storable (reads m.rules (kept_in m) spelled)

    state : durable_of (kept_in m) ≡ (after_commit m.rules a).base.state
    state = same ∙ sym up.state ∙ sym (state_stays m.rules a none)

    count : (after_commit m.rules a).base.count ≡ since_opening j.changes opened
    count = count_stays m.rules a none ∙ up.count

    pub put_gave : (given : Vec Reply Global) → given.items ≡ [] → power ≡ Up → 1 ≤ b.size
        → a.world.rest.now ≡ now → PutsSnapshot j j' v w body → j'.changes ≡ j.changes
        → Finishes m.rules now a (may_of (from_parts m now b j opened checkpoint power disk) v)
        (from_parts m now b j' opened checkpoint power disk') w
        (may_of (from_parts m now b j' opened checkpoint power disk') w) (outcome.Replies given)
    put_gave given empty is_up size clock puts still =
        let seen =
        settled_seen (kept_in m) same (valid_same up.base (kept_in m) same up.valid) storable
        under spelled still (puts up.base (kept_in m) 0 up.store takes) is_up size clock in
        (no_replies given empty, seen.0, seen.1)

    pub put_failed : LeavesSnapshot j v w body → IsLawful v → IsLawful w → w.tells ≡ v.tells
        → j'.digest ≡ j.digest
        → Finishes m.rules now a (may_of (from_parts m now b j opened checkpoint power disk) v)
        (from_parts m now b j' opened checkpoint Down disk') w
        (may_of (from_parts m now b j' opened checkpoint Down disk') w) outcome.Down
    put_failed leaves before after tells digest =
        let x = from_parts m now b j opened checkpoint power disk in
        let moments = leaves up.base (kept_in m) 0 up.store takes in (
          refl,
          refl,
          subst (λ (d : List ℕ). LeavesUnder (record { rules = m.rules; digest = d }) w)
              (sym digest)
              (failed_stores x v a up w before after tells (kept_in m) j.changes under state
              count moments),
          λ d n left.
              failed_may x v a up w before after tells (kept_in m) j.changes under state count
              moments d n (subst (λ (e : List ℕ). may_find e opened w d n) digest left),
        )

    pub put_moments : LeavesSnapshot j v w body → v.tells ≡ true
        → LeavesOnly v w (IsBeforeOrAfter m.rules j.digest a a)
    put_moments leaves tells =
        let x = from_parts m now b j opened checkpoint power disk in
        moments_after x v a (held_of x v a up) w (kept_in m) j.changes under state
        (leaves up.base (kept_in m) 0 up.store takes tells)

-- each moment of a checkpoint that an agent makes of its own memory
pub put_stands : {D : Type 0} (m : AgentState) (now : ℕ) (b : PlainBatch) (j : JournalView)
    (opened checkpoint : ℕ) (power : Power) (disk : D) (y : AgentView D) (v w : View)
    (a : AgentSeen) → from_parts m now b j opened checkpoint power disk ≡ y → HasNone y
    → SnapshotsMean → SnapshotsAreSpelled → SpelledStays → UnderIsSpelled → (body : List ℕ)
    → body ≡ rows_bytes (listed (kept_in y.memory)) → HasDistinctPairs y.memory.grants
    → IsUp (from_parts m now b j opened checkpoint power disk) v a → LeavesSnapshot j v w body
    → v.tells ≡ true → LeavesOnly v w (IsBeforeOrAfter m.rules j.digest a a)
put_stands m now b j opened checkpoint power disk y v w a same holds means spells stays reads body is distinct up leaves tells =
    let x = from_parts m now b j opened checkpoint power disk in
    let none = none_is x y same holds in
    put_moments m now b j j opened checkpoint power disk disk v w a none.held none.changes up means
    spells stays reads body (snapshot_is x y body same is) (distinct_is x y same distinct) leaves tells

-- with no checkpoint due nothing is done
pub nothing_flushed : {D : Type 0} (m : AgentState) (now : ℕ) (b : PlainBatch) (j : JournalView)
    (opened checkpoint : ℕ) (power : Power) (disk : D) (v : View) (a : AgentSeen)
    (given : Vec Reply Global) → b.held ≡ [] → b.changes ≡ 0 → 1 ≤ b.size → power ≡ Up
    → given.items ≡ [] → IsSeen (from_parts m now b j opened checkpoint power disk) v a
    → (s : AgentSeen) × IsSeen (from_parts m now b j opened checkpoint power disk) v s
    × FlushMeans m.rules a (may_of (from_parts m now b j opened checkpoint power disk) v) s
    (may_of (from_parts m now b j opened checkpoint power disk) v) (outcome.Replies given)
nothing_flushed m now b j opened checkpoint power disk v a given held changes size is_now empty seen =
    let is_up = seen.up.1 is_now in
    let up = seen.standing is_up in
    let done =
    settled_seen m now b j j opened checkpoint power disk disk v v a held changes up up.base refl
    up.valid up.storable up.under up.spelled refl up.store is_now size seen.clock in
    let replies =
    no_replies m now b j j opened checkpoint power disk disk v v a held changes up given empty in
    (after_commit m.rules a, done.0, (is_up, (replies, refl, done.1)))
