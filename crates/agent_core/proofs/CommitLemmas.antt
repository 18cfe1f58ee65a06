-- What the commit of an open batch makes of what an agent stands for.
use Rattle.std.proofs.Common.{◌≡◌, inl, inr, ⊎_elim, ℕ, ◌+◌, ◌%◌, ◌^◌, ◌<◌, ◌≤◌, true, cond, List, [], ◌∷◌, length, refl, sym, ap, subst, ◌∙◌, arith}
use Rattle.std.specs.Prelude.{◌⊎◌}
use Rattle.std.specs.List.{All}
use Rattle.std.proofs.lemmas.List.Elements.{All-head, All-nil, All-tail}
use Rattle.unwinding.specs.Course.{AtBase, IsAt}
use Rattle.unwinding.specs.CourseSteps.{committed}
use Rattle.unwinding.specs.Durable.{apply_all}
use Rattle.disk_model.specs.Disk.{LeavesOnly, View}
use Rattle.disk_model.specs.DiskLaws.{IsLawful}
use Rattle.journal.specs.Journal.{JournalView}
use Rattle.journal.specs.Region.{StandsForState}
use Rattle.journal.proofs.Moments.{weaker}
use Rattle.suffix_list.specs.Suffix.{Rule}
use Rattle.row_changes.specs.Change.{PlainChange}
use Rattle.row_changes.specs.Laws.{IsWritable}
use Rattle.row_changes.specs.Spelled.{IsSpelledUnder}
use Rattle.agent_model.specs.Lines.{AgentWorld}
use Rattle.durable_model.specs.Keeping.{AgentDurable, durable_of, keeping}
use Rattle.durable_model.specs.Laws.{ChangesKeepValid}
use Rattle.durable_model.specs.Migrate.{IsUnder}
use Rattle.durable_model.specs.RowEdits.{AllAreValid, AreValid, after_all, after_change, after_changes, edited, is_valid}
use Rattle.durable_model.specs.Saved.{IsValid, Saved, nothing_saved}
use Rattle.durable_model.proofs.HistoryLemmas.{all_projected}
use Rattle.row_store.specs.Bodies.{Takes}
use Rattle.row_store.specs.Laws.{EditsKeepSpelledUnder, EditsKeepStorable, IsSpelledStateUnder, IsStorable, WrittenBodiesMean}
use Rattle.row_store.specs.MigrateLaws.{SpelledStays}
use Rattle.row_opening.specs.Opened.{IsAtBase, LeavesUnder}
use Rattle.one_store.specs.WholeWorld.{whole_world}
use Rattle.agent_memory.specs.AgentState.{AgentState, world_of}
use Rattle.agent_memory.specs.Written.{AgentChange}
use Rattle.agent_core.specs.AgentView.{AgentView, list_of, may_find, may_of, since_opening}
use Rattle.agent_core.specs.Batch.{PlainBatch}
use Rattle.open_store.specs.Commits.{BodyLeads, IsEither}
use Rattle.agent_core.specs.Means.{IsBeforeOrAfter, after_commit}
use Rattle.agent_core.specs.Seen.{AgentSeen, IsSeen, IsUp}
use Rattle.agent_core.specs.Standing.{IsHeld}
use Rattle.agent_core.specs.declared.agent.Power.{Power}
use Rattle.agent_core.specs.declared.agent.Power.TheVariants.{Up}
use Rattle.agent_core.proofs.BatchLemmas.{body_leads}
use Rattle.agent_core.proofs.SeenLemmas.{from_parts, up_at_base, up_may, up_stores}
use Rattle.agent_core.proofs.StoreLemmas.{stands_one}

-- ---- valid states

changes_valid : ChangesKeepValid → (d : Saved) (changes : List PlainChange) → IsValid d
    → IsValid (after_changes d changes)
changes_valid law d [] valid = valid
changes_valid law d (change ∷ changes) valid =
    changes_valid law (after_change d change) changes (law d change valid)

-- a valid row change is done
done : (d : Saved) (change : PlainChange) → is_valid change d ≡ true
    → after_change d change ≡ edited change d
done d change valid = ap (λ b. cond b (edited change d) d) valid

-- what valid row changes keep that are of rows under a list
module _ (rules : List Rule) (storable : EditsKeepStorable) (spelled : EditsKeepSpelledUnder) where
  abbrev HasSnapshot : Saved → Type 0
  HasSnapshot d = IsStorable d × IsSpelledStateUnder rules d

  changes_listed : (d : Saved) (changes : List PlainChange) → All (IsSpelledUnder rules) changes
      → AreValid d changes → HasSnapshot d → HasSnapshot (after_changes d changes)
  changes_listed d [] are valid has = has
  changes_listed d (change ∷ changes) are valid has =
      let next : HasSnapshot (edited change d) = (
        storable.1 d change valid.0 has.0,
        (spelled rules).1 d change (All-head (IsSpelledUnder rules) change changes are) has.1,
      ) in
      subst (λ (e : Saved). HasSnapshot (after_changes e changes))
      (sym (done d change valid.0))
      (changes_listed (edited change d) changes (All-tail (IsSpelledUnder rules) change changes are)
      valid.1 next)

  pub all_listed : (d : Saved) (made : List AgentChange)
      → All (λ one. All (IsSpelledUnder rules) one.changes) made → AllAreValid d made
      → IsStorable d × IsSpelledStateUnder rules d
      → IsStorable (after_all d made) × IsSpelledStateUnder rules (after_all d made)
  all_listed d [] under valid has = has
  all_listed d (one ∷ made) under valid has =
      let P : AgentChange → Type 0 = λ one. All (IsSpelledUnder rules) one.changes in
      all_listed (after_changes d one.changes) made (All-tail P one made under) valid.1
      (changes_listed d one.changes (All-head P one made under) valid.0 has)

pub all_valid : ChangesKeepValid → (d : Saved) (made : List AgentChange) → IsValid d
    → IsValid (after_all d made)
all_valid law d [] valid = valid
all_valid law d (one ∷ made) valid =
    all_valid law (after_changes d one.changes) made (changes_valid law d one.changes valid)

-- ---- numbers of changes

pub since_next : (last later more count opened : ℕ) → later % 2 ^ 64 ≡ (last + more) % 2 ^ 64
    → count ≡ since_opening last opened → count + more < 2 ^ 64
    → count + more ≡ since_opening later opened
since_next last later more count opened same is fits = omega (arith, same, is, fits)

pub twice : (n : ℕ) → n % 2 ^ 64 % 2 ^ 64 ≡ n % 2 ^ 64
twice n = omega arith

-- a store that stands for some state under a list
store_of : (rules : List Rule) (digest file : List ℕ) (d : Saved) (last : ℕ) → IsUnder rules d
    → StandsForState Takes nothing_saved digest file d last
    → (base : Saved) × (n : ℕ) × StandsForState Takes nothing_saved digest file base n
    × IsUnder rules base
store_of rules digest file d last under stands = (d, last, stands, under)

-- ---- the open batch

-- what the open batch of an agent that is up leads to
abbrev pub held_of : {D : Type 0} (x : AgentView D) (v : View) (a : AgentSeen) → IsUp x v a
    → IsHeld x v a
held_of x v a up = record {
  changes = up.changes;
  base = up.base;
  storable = up.storable;
  under = up.under;
  spelled = up.spelled;
  state = up.state;
  batch = up.batch;
  store = up.store;
}

module _ {D : Type 0} (x : AgentView D) (v : View) (a : AgentSeen) (held : IsHeld x v a) where
  pub batch_leads : WrittenBodiesMean
      → BodyLeads Takes held.base x.body x.changes (after_all held.base a.pending)
  batch_leads law =
      body_leads law held.base a.pending x.body x.changes held.batch.bytes
      held.changes held.batch.writable held.batch.valid

  -- and it is a state under the list
  pub under_after : EditsKeepStorable → EditsKeepSpelledUnder → SpelledStays
      → IsUnder x.memory.rules (after_all held.base a.pending)
  under_after storable spelled stays =
      stays x.memory.rules (after_all held.base a.pending)
      (all_listed x.memory.rules storable spelled held.base a.pending held.batch.under
      held.batch.valid (held.storable, held.spelled)).1

  pub state_after : durable_of (after_all held.base a.pending)
      ≡ (after_commit x.memory.rules a).base.state
  unfolding committed
  state_after =
      all_projected held.base a.pending
      ∙ ap (λ (d : AgentDurable). apply_all keeping a.pending d) (sym held.state)

  -- what each moment leaves, where the store goes on to a state
  pub moments_after : (w : View) (next : Saved) (later : ℕ) → IsUnder x.memory.rules next
      → durable_of next ≡ (after_commit x.memory.rules a).base.state
      → LeavesOnly v w (IsEither Takes nothing_saved x.journal.digest held.base
      x.journal.changes next later)
      → LeavesOnly v w (IsBeforeOrAfter x.memory.rules x.journal.digest a a)
  moments_after w next later under is leaves =
      weaker v w
      (IsEither Takes nothing_saved x.journal.digest held.base
      x.journal.changes next later)
      (IsBeforeOrAfter x.memory.rules x.journal.digest a a)
      (λ file either. ⊎_elim
      (λ (s : StandsForState Takes nothing_saved x.journal.digest file held.base
      x.journal.changes). (held.base, x.journal.changes, s, held.under, inl (sym held.state)))
      (λ (s : StandsForState Takes nothing_saved x.journal.digest file next later).
      (next, later, s, under, inr is))
      either.1)
      leaves

-- ---- the open batch of an agent that is up

module _ {D : Type 0} (x : AgentView D) (v : View) (a : AgentSeen) (up : IsUp x v a) where
  pub count_after : (later : ℕ) → later % 2 ^ 64 ≡ (x.journal.changes + x.changes) % 2 ^ 64
      → (after_commit x.memory.rules a).base.count ≡ since_opening later x.opened
  unfolding committed
  count_after later same =
      since_next x.journal.changes later (length a.pending) a.base.count x.opened
      (same ∙ ap (λ (n : ℕ). (x.journal.changes + n) % 2 ^ 64) up.changes) up.count up.fits

  -- ---- a commit or a checkpoint that failed, from which the store would go on to a state

  module _ (w : View) (before : IsLawful v) (after : IsLawful w) (tells : w.tells ≡ v.tells)
      (next : Saved) (later : ℕ) (under : IsUnder x.memory.rules next)
      (state : durable_of next ≡ (after_commit x.memory.rules a).base.state)
      (count : (after_commit x.memory.rules a).base.count ≡ since_opening later x.opened)
      (leaves : v.tells ≡ true
      → LeavesOnly v w (IsEither Takes nothing_saved x.journal.digest up.base
      x.journal.changes next later)) where
    is_told : (file : List ℕ) → w.may_leave file → v.tells ≡ true
    is_told file left =
        sym tells ∙ after.untold w.moment file (after.counts_now w.moment file (omega arith) left)

    either : (file : List ℕ) → w.may_leave file
        → IsEither Takes nothing_saved x.journal.digest up.base
        x.journal.changes next later file
    either file left =
        let moments = leaves (is_told file left) in
        moments.each file (after.counts_now v.moment file moments.later left)

    pub failed_stores : LeavesUnder (list_of x) w
    failed_stores tells file left = (
      (either file left).0,
      ⊎_elim
          (λ (s : StandsForState Takes nothing_saved x.journal.digest file up.base
          x.journal.changes).
          store_of x.memory.rules x.journal.digest file up.base x.journal.changes up.under s)
          (λ (s : StandsForState Takes nothing_saved x.journal.digest file next later).
          store_of x.memory.rules x.journal.digest file next later under s)
          (either file left).1,
    )

    pub failed_may : (d : AgentDurable) (n : ℕ)
        → may_find x.journal.digest x.opened w d n
        → may_of x v d n ⊎ IsAt (after_commit x.memory.rules a).base d n
    unfolding may_find
    failed_may d n left =
        ⊎_elim
        (λ (s : StandsForState Takes nothing_saved x.journal.digest left.0 up.base
        x.journal.changes).
        let same =
        stands_one x.journal.digest left.0 left.2 up.base left.3
        x.journal.changes left.4 s in
        inl (up_may x v a up before (is_told left.0 left.1) d n (
          left.5 ∙ ap durable_of same.0 ∙ sym up.state,
          left.6 ∙ ap (λ (i : ℕ). since_opening i x.opened) same.1 ∙ sym up.count,
        )))
        (λ (s : StandsForState Takes nothing_saved x.journal.digest left.0 next
        later).
        let same =
        stands_one x.journal.digest left.0 left.2 next left.3 later left.4 s in
        inr (
          left.5 ∙ ap durable_of same.0 ∙ state,
          left.6 ∙ ap (λ (i : ℕ). since_opening i x.opened) same.1 ∙ sym count,
        ))
        (either left.0 left.1).1

-- ---- a commit that succeeded

module _ {D : Type 0} (m : AgentState) (b b' : PlainBatch) (j j' : JournalView)
    (now opened checkpoint : ℕ) (power : Power) (disk disk' : D) (v w : View) (a : AgentSeen)
    (up : IsUp (from_parts m now b j opened checkpoint power disk) v a) where
  pub committed_up : ChangesKeepValid → EditsKeepStorable → EditsKeepSpelledUnder → SpelledStays → b'.body ≡ [] → b'.changes ≡ 0 → b'.held ≡ []
      → IsAtBase j' w (after_all up.base a.pending)
      → j'.changes % 2 ^ 64 ≡ (j.changes + b.changes) % 2 ^ 64
      → IsUp (from_parts m m.now b' j' opened checkpoint power disk') w (after_commit m.rules a)
  unfolding committed
  committed_up law storable spelled stays body changes held at count =
      let listed =
      all_listed m.rules storable spelled up.base a.pending up.batch.under up.batch.valid
      (up.storable, up.spelled) in
      record {
        world = up.world;
        sound = up.sound;
        read = up.read;
        held = sym held;
        changes = changes;
        count =
            count_after (from_parts m now b j opened checkpoint power disk) v a up j'.changes count;
        fits = omega (arith, up.fits);
        base = after_all up.base a.pending;
        valid = all_valid law up.base a.pending up.valid;
        storable = listed.0;
        under = stays m.rules (after_all up.base a.pending) listed.1;
        spelled = listed.1;
        state = sym (state_after (from_parts m now b j opened checkpoint power disk) v a
            (held_of (from_parts m now b j opened checkpoint power disk) v a up));
        batch = record {
          bytes = body;
          writable = All-nil (λ one. IsWritable one.changes);
          under = All-nil (λ one. All (IsSpelledUnder m.rules) one.changes);
          valid = tt;
          saved = up.batch.saved;
        };
        store = at;
      }

  now_is : a.world.rest.now ≡ m.now
  unfolding world_of whole_world
  now_is = ap (λ (x : AgentWorld). x.rest.now) up.world

  pub committed_seen : ChangesKeepValid → EditsKeepStorable → EditsKeepSpelledUnder → SpelledStays → power ≡ Up → b'.body ≡ [] → b'.changes ≡ 0
      → b'.held ≡ [] → 1 ≤ b'.size
      → IsAtBase j' w (after_all up.base a.pending)
      → j'.changes % 2 ^ 64 ≡ (j.changes + b.changes) % 2 ^ 64
      → IsSeen (from_parts m m.now b' j' opened checkpoint power disk') w (after_commit m.rules a)
      × AtBase (after_commit m.rules a).base
      (may_of (from_parts m m.now b' j' opened checkpoint power disk') w)
  unfolding committed
  committed_seen law storable spelled stays is_up body changes held size at count =
      let here = committed_up law storable spelled stays body changes held at count in
      let x = from_parts m m.now b' j' opened checkpoint power disk' in (
        record {
          up = (λ _. is_up, λ _. refl);
          clock = now_is;
          stores = up_stores x w (after_commit m.rules a) here;
          standing = λ _. here;
          short = λ _. omega (arith, ap length held, size);
        },
        up_at_base x w (after_commit m.rules a) here,
      )
