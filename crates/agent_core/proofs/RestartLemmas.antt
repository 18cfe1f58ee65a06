-- The power is cut, and the store is opened again.
use Rattle.std.proofs.Common.{◌≡◌, inl, inr, ℕ, ◌^◌, ◌<◌, ◌≤◌, Bool, true, false, List, [], length, refl, sym, ap, subst, ◌∙◌, arith}
use Rattle.std.specs.Prelude.{Ok, Err, IsErrOf, Result}
use Rattle.std.specs.List.{All}
use Rattle.std.proofs.lemmas.List.Elements.{All-nil}
use Rattle.unwinding.specs.Course.{AtBase}
use Rattle.unwinding.specs.CourseSteps.{reopened}
use Rattle.disk_model.specs.Disk.{Makes, View}
use Rattle.disk_model.specs.DiskLaws.{IsLawful}
use Rattle.journal.specs.Journal.{JournalView}
use Rattle.journal.specs.Opening.{IsExcused}
use Rattle.journal.specs.declared.open_fault.OpenFault.{OpenFault}
use Rattle.journal.specs.declared.open_fault.OpenFault.TheVariants as fault
use Rattle.open_store.specs.Reopens.{LeavesAnew}
use Rattle.open_store.proofs.ReopenLemmas.{anew_as, fewer_now, nothing_made}
use Rattle.suffix_list.specs.ListText.{RuleList}
use Rattle.suffix_list.specs.Suffix.{Rule}
use Rattle.row_changes.specs.Laws.{IsWritable}
use Rattle.row_changes.specs.Spelled.{IsSpelledUnder}
use Rattle.agent_model.specs.Lines.{Rest, no_places}
use Rattle.agent_model.specs.TheMachine.{machine}
use Rattle.agent_base.specs.Seconds.{last_moment}
use Rattle.durable_model.specs.Histories.{reopened_world}
use Rattle.durable_model.specs.Keeping.{AgentDurable, durable_of, keeping}
use Rattle.durable_model.specs.Laws.{OpensKept}
use Rattle.durable_model.specs.Migrate.{IsUnder}
use Rattle.durable_model.specs.Saved.{IsValid, Saved, nothing_saved}
use Rattle.spelled_model.specs.Laws.{OpensRead}
use Rattle.spelled_model.specs.Rows.{IsReadSavedUnder}
use Rattle.agent_memory.specs.AgentState.{AgentState, world_of}
use Rattle.agent_core.specs.AgentView.{AgentView, list_of, may_find, may_of, since_opening}
use Rattle.agent_core.specs.Batch.{PlainBatch}
use Rattle.agent_core.specs.Means.{AgentMay, IsOneFound, RestartMeans}
use Rattle.row_store.specs.Bodies.{Takes}
use Rattle.row_store.specs.Laws.{IsSpelledStateUnder, IsStorable}
use Rattle.row_store.specs.Stored.{saved_of}
use Rattle.row_store.specs.declared.parts.Parts.{Parts}
use Rattle.row_opening.specs.Opened.{IsAtBase, IsFound, IsOpened, IsReopeningUnder, LeavesUnder}
use Rattle.row_opening.specs.Under.{migrates}
use Rattle.row_opening.proofs.Calls.{still_under}
use Rattle.row_opening.proofs.Openings.{leaves_stores}
use Rattle.agent_core.specs.Openings.{resumed}
use Rattle.agent_core.specs.Seen.{AgentSeen, IsSeen, IsUp}
use Rattle.agent_core.specs.declared.agent.Power.{Power}
use Rattle.agent_core.specs.declared.agent.Power.TheVariants.{Up}
use Rattle.agent_core.proofs.SeenLemmas.{from_parts, up_at_base, up_stores}
use Rattle.agent_core.proofs.StoreLemmas.{one_store}
use Rattle.agent_core.specs.Standing.{power_of}
use Rattle.agent_core.proofs.OutcomeLemmas.{down_of}
use Rattle.agent_core.proofs.ResumeLemmas.{resumed_world}

-- ---- what an opened agent stands for

module _ {D : Type 0} (m : AgentState) (b : PlainBatch) (j : JournalView)
    (now checkpoint : ℕ) (power : Power) (disk : D) (w : View) (d : Saved) where
  reopened_up : OpensKept → OpensRead → m.now ≡ now → world_of m ≡ reopened_world now d
      → now ≤ last_moment → j.changes < 2 ^ 64 → IsValid d → IsReadSavedUnder m.rules d
      → IsStorable d → IsUnder m.rules d → IsSpelledStateUnder m.rules d
      → b.body ≡ [] → b.changes ≡ 0 → b.held ≡ [] → IsAtBase j w d
      → IsUp (from_parts m now b j j.changes checkpoint power disk) w
      (reopened (machine m.rules) keeping (record { now = now; places = no_places })
      (durable_of d))
  unfolding reopened
  reopened_up kept read clock world in_time small valid keys storable under spelled body changes held at = record {
    world = sym world;
    sound = (kept m.rules now d valid).0;
    read = read m.rules now d in_time keys;
    held = sym held;
    changes = changes;
    count = none j.changes small;
    fits = omega arith;
    base = d;
    valid = valid;
    storable = storable;
    under = under;
    spelled = spelled;
    state = refl;
    batch = record {
      bytes = body;
      writable = All-nil (λ one. IsWritable one.changes);
      under = All-nil (λ one. All (IsSpelledUnder m.rules) one.changes);
      valid = tt;
      saved = (kept m.rules now d valid).1;
    };
    store = at;
  }
    where
      none : (n : ℕ) → n < 2 ^ 64 → 0 ≡ since_opening n n
      none n small = omega (arith, small)

  pub reopened_seen : OpensKept → OpensRead → m.now ≡ now → world_of m ≡ reopened_world now d
      → now ≤ last_moment → j.changes < 2 ^ 64 → IsValid d → IsReadSavedUnder m.rules d
      → IsStorable d → IsUnder m.rules d → IsSpelledStateUnder m.rules d
      → b.body ≡ [] → b.changes ≡ 0 → b.held ≡ [] → 1 ≤ b.size → power ≡ Up
      → IsAtBase j w d
      → (let s =
      reopened (machine m.rules) keeping (record { now = now; places = no_places })
      (durable_of d) in
      IsSeen (from_parts m now b j j.changes checkpoint power disk) w s
      × AtBase s.base (may_of (from_parts m now b j j.changes checkpoint power disk) w))
  unfolding reopened keeping
  reopened_seen kept read clock world in_time small valid keys storable under spelled body changes held size is_up at =
      let up = reopened_up kept read clock world in_time small valid keys storable under spelled body
      changes held at in
      let x = from_parts m now b j j.changes checkpoint power disk in
      let s =
      reopened (machine m.rules) keeping (record { now = now; places = no_places })
      (durable_of d) in (
        record {
          up = (λ _. is_up, λ _. refl);
          clock = refl;
          stores = up_stores x w s up;
          standing = λ _. up;
          short = λ _. omega (arith, ap length held, size);
        },
        up_at_base x w s up,
      )

-- an agent that goes on with what an opening gave
pub resumed_seen : {D : Type 0} (list : RuleList) (m : AgentState) (b : PlainBatch)
    (j : JournalView) (now opened checkpoint : ℕ) (power : Power) (disk : D) (w : View) (parts : Parts)
    → OpensKept → OpensRead
    → m ≡ resumed list.rules now parts.storage parts.cookies parts.grants
    → now ≤ last_moment → j.changes < 2 ^ 64 → opened ≡ j.changes → IsOpened list j w parts
    → b.body ≡ [] → b.changes ≡ 0 → b.held ≡ [] → 1 ≤ b.size → power ≡ Up
    → (let s =
    reopened (machine list.rules) keeping (record { now = now; places = no_places })
    (durable_of (saved_of parts)) in
    IsSeen (from_parts m now b j opened checkpoint power disk) w s
    × AtBase s.base (may_of (from_parts m now b j opened checkpoint power disk) w))
resumed_seen {D} list m b j now opened checkpoint power disk w parts kept read is in_time small count at body
    changes held size up =
    let d = saved_of parts in
    let again = resumed list.rules now parts.storage parts.cookies parts.grants in
    let s =
    reopened (machine list.rules) keeping (record { now = now; places = no_places })
    (durable_of d) in
    let P : AgentState → ℕ → Type 0 =
    λ x o. IsSeen (from_parts x now b j o checkpoint power disk) w s
    × AtBase s.base (may_of (from_parts x now b j o checkpoint power disk) w) in
    let here : P again j.changes =
    reopened_seen again b j now checkpoint power disk w d kept read refl
    (resumed_world list.rules now parts.storage parts.cookies parts.grants at.sessions) in_time
    small at.valid at.keys at.storable at.under at.spelled body changes held size up at.at in
    subst (λ x. P x opened) (sym is) (subst (λ o. P again o) (sym count) here)

-- an agent of which a restart opened the store again
pub gone_on : {D : Type 0} (told : D → View) (was old : AgentView D) (rules : List Rule)
    (m : AgentState) (b : PlainBatch) (j : JournalView) (opened : ℕ) (parts : Parts)
    → was ≡ old → was.memory.rules ≡ rules → OpensKept → OpensRead
    → m ≡ resumed rules was.now parts.storage parts.cookies parts.grants
    → was.now ≤ last_moment → j.changes < 2 ^ 64 → opened ≡ j.changes
    → IsOpened (list_of old) j (told old.disk) parts
    → b.body ≡ [] → b.changes ≡ 0 → b.held ≡ [] → 1 ≤ b.size
    → (let s =
    reopened (machine old.memory.rules) keeping (record { now = old.now; places = no_places })
    (durable_of (saved_of parts)) in
    IsSeen (from_parts m was.now b j opened was.checkpoint Up was.disk) (told was.disk) s
    × AtBase s.base (may_of (from_parts m was.now b j opened was.checkpoint Up was.disk) (told was.disk)))
gone_on {D} told was old rules m b j opened parts is under kept read resumes in_time small count at body changes held size =
    let new = from_parts m was.now b j opened was.checkpoint Up was.disk in
    let w = told was.disk in
    let P : AgentView D → Type 0 =
    λ o. IsOpened (list_of o) j (told o.disk) parts
    → (let s =
    reopened (machine o.memory.rules) keeping (record { now = o.now; places = no_places })
    (durable_of (saved_of parts)) in
    IsSeen new w s × AtBase s.base (may_of new w)) in
    let here : P was =
    λ opens. resumed_seen (list_of was) m b j was.now opened was.checkpoint Up was.disk w parts kept read
    (resumes
    ∙ ap (λ (r : List Rule). resumed r was.now parts.storage parts.cookies parts.grants)
    (sym under))
    in_time small count opens body changes held size refl in
    subst P is here at

-- the places of tabs are lost at a restart
pub reopened_rest : (rules : List Rule) (rest : Rest) (now : ℕ) (d : AgentDurable)
    → rest.now ≡ now
    → reopened (machine rules) keeping (record { now = now; places = no_places }) d
    ≡ reopened (machine rules) keeping rest d
unfolding reopened keeping
reopened_rest rules rest now d same = λ i.
    reopened (machine rules) keeping (record { now = sym same i; places = no_places }) d

-- ---- what a restart means

pub found_may : (digest : List ℕ) (opened : ℕ) (v : View) (d : Saved)
    (last : ℕ) → IsFound digest v d last
    → may_find digest opened v (durable_of d) (since_opening last opened)
unfolding may_find
found_may digest opened v d last found = (found.0, found.1, d, last, found.2, refl, refl)

pub fewer_may : (digest : List ℕ) (opened : ℕ) (v w : View)
    → ((file : List ℕ) → w.may_leave file → v.may_leave file)
    → (d : AgentDurable) (n : ℕ) → may_find digest opened w d n
    → may_find digest opened v d n
unfolding may_find
fewer_may digest opened v w fewer d n there =
    (there.0, fewer there.0 there.1, there.2, there.3, there.4, there.5, there.6)

-- one that was refused leaves the agent down
pub refused_means : (rules : List Rule) (a : AgentSeen) (may may' : AgentMay) (why : OpenFault)
    → IsExcused why → ((d : AgentDurable) (n : ℕ) → may' d n → may d n)
    → RestartMeans rules a may (down_of a) may' (Err why)
refused_means rules a may may' fault.DeviceFault excused fewer =
    record { down = refl; rest = refl; images = λ d n there. inl (fewer d n there) }
refused_means rules a may may' fault.NoMemory excused fewer =
    record { down = refl; rest = refl; images = λ d n there. inl (fewer d n there) }
refused_means rules a may may' (fault.NotAStore offset) excused fewer = excused
refused_means rules a may may' (fault.TooLarge len) excused fewer = excused

-- an opening that was refused leaves no agent up
never_up : (why : OpenFault) → power_of why ≡ Up → ⊥
never_up fault.DeviceFault e = cc
never_up (fault.NotAStore offset) e = cc
never_up (fault.TooLarge len) e = cc
never_up fault.NoMemory e = cc

false_true : ◌≡◌ {A = Bool} false true → ⊥
false_true e = cc

-- an agent that is not up
off_seen : {D : Type 0} (new : AgentView D) (w : View) (a : AgentSeen)
    → a.world.rest.now ≡ new.now → (new.power ≡ Up → ⊥)
    → LeavesUnder (list_of new) w → IsSeen new w (down_of a)
off_seen new w a clock off stores = record {
  up = (λ up. absurd (false_true up), λ up. absurd (off up));
  clock = clock;
  stores = stores;
  standing = λ up. absurd (false_true up);
  short = λ up. absurd (false_true up);
}

pub refused_restart : {D : Type 0} (new : AgentView D) (w : View) (rules : List Rule)
    (a : AgentSeen) (may may' : AgentMay) (why : OpenFault)
    → a.world.rest.now ≡ new.now → new.power ≡ power_of why → IsExcused why
    → LeavesUnder (list_of new) w
    → ((d : AgentDurable) (n : ℕ) → may' d n → may d n)
    → (b : AgentSeen) × IsSeen new w b × RestartMeans rules a may b may' (Err why)
refused_restart new w rules a may may' why clock power excused stores fewer = (
  down_of a,
  off_seen new w a clock (λ up. never_up why (sym power ∙ up)) stores,
  refused_means rules a may may' why excused fewer,
)

-- one that opened a store goes on with it
pub opened_restart : {D : Type 0} (new : AgentView D) (w : View) (rules : List Rule)
    (a : AgentSeen) (may may' : AgentMay) (now kept : ℕ) (d : AgentDurable)
    → a.world.rest.now ≡ now → may d kept
    → (let s = reopened (machine rules) keeping (record { now = now; places = no_places }) d in
    IsSeen new w s × AtBase s.base may')
    → (b : AgentSeen) × IsSeen new w b × RestartMeans rules a may b may' (Ok kept)
opened_restart new w rules a may may' now kept d clock found seen = (
  reopened (machine rules) keeping (record { now = now; places = no_places }) d,
  seen.0,
  (d, found, reopened_rest rules a.world.rest now d clock, seen.1),
)

-- ---- a disk that a cut leaves with nothing but stores under a list

-- nothing is made, and nothing is written anew
pub nothing_new : (list : RuleList) (v : View) → IsLawful v → LeavesUnder list v
    → (file : List ℕ) → IsReopeningUnder list v file → v.may_leave file
nothing_new list v laws stores file (was, may, inl opening) =
    nothing_made Takes nothing_saved list.digest v laws
    (leaves_stores list v stores) file (was, may, opening)
nothing_new list v laws stores file (was, may, inr anew) =
    let tells = laws.untold v.moment was (laws.counts_now v.moment was (omega arith) may) in
    let stood = (stores tells was may).1 in
    let one = one_store anew.0 list.digest was anew.1 stood.0 anew.2 stood.1 anew.3 stood.2 in
    let never : migrates list list.digest stood.0 ≡ true =
    subst (λ d. migrates list list.digest d ≡ true) one.1
    (subst (λ kept. migrates list kept anew.1 ≡ true) one.0 anew.4) in
    absurd (false_true (sym (still_under list stood.0 stood.3) ∙ never))

-- where a restart failed, what a cut may leave it might have left before
pub fewer_after : {T : Type 0} (result : Result T OpenFault) (list : RuleList) (v w : View)
    → IsLawful v → IsLawful w → LeavesAnew result v w (IsReopeningUnder list v)
    → LeavesUnder list v → (file : List ℕ) → w.may_leave file → v.may_leave file
fewer_after result list v w before after since stores =
    fewer_now result v w after
    (anew_as result result v w (IsReopeningUnder list v) (λ file. v.may_leave file) (λ e. e)
    (nothing_new list v before stores) since)

-- ---- a restart of an agent under a list

module _ {D : Type 0} (told : D → View) (was old : AgentView D) (list : RuleList)
    (is : was ≡ old) (rules : was.memory.rules ≡ list.rules)
    (digest : was.journal.digest ≡ list.digest) where
  abbrev Stores : Type 0
  Stores = LeavesUnder list (told was.disk)

  under_list : list_of was ≡ list
  under_list = λ i. record { rules = rules i; digest = digest i }

  stores_here : (a : AgentSeen) → IsSeen was (told was.disk) a → Stores
  stores_here a here = subst (λ l. LeavesUnder l (told was.disk)) under_list here.stores

  pub restart_calls : {T : Type 0} (result : Result T OpenFault) (w : View)
      → ((told was.disk).tells ≡ true → Stores → Makes 1 result (told was.disk) w)
      → (told old.disk).tells ≡ true → (a : AgentSeen) → IsSeen old (told old.disk) a
      → Makes 1 result (told old.disk) w
  restart_calls result w made tells a here =
      let P : AgentView D → Type 0 =
      λ o. (told o.disk).tells ≡ true → IsSeen o (told o.disk) a
      → Makes 1 result (told o.disk) w in
      let at : P was = λ tells here. made tells (stores_here a here) in
      subst P is at tells here

  pub restart_opened : (new : AgentView D) (w : View) (j : JournalView) (parts : Parts) (kept : ℕ)
      → ((told was.disk).tells ≡ true → Stores
      → IsFound list.digest (told was.disk) (saved_of parts) j.changes)
      → kept ≡ since_opening j.changes was.opened
      → (let s =
      reopened (machine was.memory.rules) keeping (record { now = was.now; places = no_places })
      (durable_of (saved_of parts)) in
      IsSeen new w s × AtBase s.base (may_of new w))
      → (told old.disk).tells ≡ true → (a : AgentSeen) → IsSeen old (told old.disk) a
      → (b : AgentSeen) × IsSeen new w b
      × RestartMeans old.memory.rules a (may_of old (told old.disk)) b (may_of new w) (Ok kept)
  restart_opened new w j parts kept found count seen tells a here =
      let d = durable_of (saved_of parts) in
      let P : AgentView D → Type 0 =
      λ o. (told o.disk).tells ≡ true → IsSeen o (told o.disk) a
      → (b : AgentSeen) × IsSeen new w b
      × RestartMeans o.memory.rules a (may_of o (told o.disk)) b (may_of new w) (Ok kept) in
      let at : P was =
      λ tells here.
      let v = told was.disk in
      let one =
      subst (λ given. IsFound given v (saved_of parts) j.changes) (sym digest)
      (found tells (stores_here a here)) in
      let may : may_of was v d kept =
      subst (λ (n : ℕ). may_of was v d n) (sym count)
      (found_may was.journal.digest was.opened v (saved_of parts) j.changes one) in
      opened_restart new w was.memory.rules a (may_of was v) (may_of new w) was.now kept d
      here.clock may seen in
      subst P is at tells here

  pub restart_refused : (power : Power) (disk : D) (why : OpenFault)
      → power ≡ power_of why
      → ((told was.disk).tells ≡ true → Stores → IsExcused why)
      → ((told was.disk).tells ≡ true → Stores → (file : List ℕ) → (told disk).may_leave file
      → (told was.disk).may_leave file)
      → (told old.disk).tells ≡ true → (a : AgentSeen) → IsSeen old (told old.disk) a
      → (let new : AgentView D = record was { power = power; disk = disk } in
      (b : AgentSeen) × IsSeen new (told disk) b
      × RestartMeans old.memory.rules a (may_of old (told old.disk)) b (may_of new (told disk))
      (Err why))
  restart_refused power disk why down excused fewer tells a here =
      let new : AgentView D = record was { power = power; disk = disk } in
      let w = told disk in
      let P : AgentView D → Type 0 =
      λ o. (told o.disk).tells ≡ true → IsSeen o (told o.disk) a
      → (b : AgentSeen) × IsSeen new w b
      × RestartMeans o.memory.rules a (may_of o (told o.disk)) b (may_of new w) (Err why) in
      let at : P was =
      λ tells here.
      let v = told was.disk in
      let stores = stores_here a here in
      refused_restart new w was.memory.rules a (may_of was v) (may_of new w) why here.clock down
      (excused tells stores)
      (λ _ file left. here.stores tells file (fewer tells stores file left))
      (fewer_may was.journal.digest was.opened v w (fewer tells stores)) in
      subst P is at tells here

  pub restart_moments : {T U : Type 0} (x : Result T OpenFault) (y : Result U OpenFault)
      (w : View) → (IsErrOf x fault.DeviceFault → IsErrOf y fault.DeviceFault)
      → IsLawful (told was.disk)
      → LeavesAnew x (told was.disk) w (IsReopeningUnder list (told was.disk))
      → (a : AgentSeen) → IsSeen old (told old.disk) a
      → LeavesAnew y (told old.disk) w (IsOneFound old (told old.disk))
  restart_moments x y w same laws since a here =
      let P : AgentView D → Type 0 =
      λ o. IsSeen o (told o.disk) a → LeavesAnew y (told o.disk) w (IsOneFound o (told o.disk)) in
      let v = told was.disk in
      let at : P was =
      λ here.
      anew_as x y v w (IsReopeningUnder list v) (IsOneFound was v) same
      (λ file there.
      let may = nothing_new list v laws (stores_here a here) file there in
      let tells = laws.untold v.moment file (laws.counts_now v.moment file (omega arith) may) in
      let stood = (here.stores tells file may).1 in (
        may,
        stood.0,
        stood.1,
        stood.2,
        stood.3,
        found_may was.journal.digest was.opened v stood.0 stood.1 (file, may, stood.2),
      ))
      since in
      subst P is at here
