-- An opening has one refusal of a file, and none of a store.
use Rattle.std.proofs.Common.{◌≡◌, inl, inr, ⊎_elim, ℕ, zero, suc, ◌<◌, Bool, true, false, List, [], ◌∷◌, length, arith, refl, sym, ◌∙◌, ap, subst}
use Rattle.std.specs.Prelude.{◌⊎◌, Result, Ok, Err, IfOk, OnOk, MatchResult}
use Rattle.journal.specs.Frame.{Frame}
use Rattle.journal.specs.Store.{IsOpen, IsStore, IsUnborn}
use Rattle.journal.specs.Region.{Runs, IsFault, StandsForState}
use Rattle.journal.specs.Opening.{IsWithin, IsStoreFault, IsRefusal, IsExcused, IsOfFile, IsOpening, FileMeans, OpensUnder, limit}
use Rattle.journal.specs.Journal.{JournalView, StandsInFile}
use Rattle.journal.specs.ReaderAnswers.{OpensAs}
use Rattle.journal.specs.declared.open_fault.OpenFault.{OpenFault}
use Rattle.journal.specs.declared.open_fault.OpenFault.TheVariants.{DeviceFault, NotAStore, TooLarge, NoMemory}
use Rattle.journal.proofs.Openings.{if_then}
use Rattle.journal.proofs.Unique.{live_unique, live_of_head, store_unique}
use Rattle.journal.proofs.HeadFaults.{head_fault, head_right}
use Rattle.journal.proofs.NoFault.{fault_unique, region_right}
use Rattle.journal.proofs.Upgrades.{begins_within, upgrade_store, upgrade_unborn}

pub store_of : (j : JournalView) (file : List ℕ) (frames : List Frame) → StandsInFile j file frames → IsStore j.digest file frames
store_of j file frames s = record { kept = s.kept; live = j.live; number = j.number; begin = j.begin; head = s.head; from = s.from; fits = s.fits; frames_at = s.frames_at; sound = s.sound; under = s.under }

pub store_born : (digest file : List ℕ) (frames : List Frame) → IsStore digest file frames → IsOpen file 0 × (1 < length file)
store_born digest file frames s = (s.head.gate, omega (arith, s.from, begins_within file s.begin frames s.frames_at))

-- a file was born, or is unborn
pub born_or_not : (file : List ℕ) → (IsOpen file 0 × (1 < length file)) ⊎ IsUnborn file
born_or_not [] = inr (inl (omega arith))
born_or_not (gate ∷ []) = inr (inl (omega arith))
born_or_not (zero ∷ next ∷ rest) = inr (inr refl)
born_or_not (suc gate ∷ next ∷ rest) = inl ((omega arith, λ shut. cc), omega arith)

-- a store is no unborn file
pub store_is_born : (digest file : List ℕ) (frames : List Frame) → IsStore digest file frames → IsUnborn file → ⊥
store_is_born digest file frames s (inl short) = let born = store_born digest file frames s in absurd (omega (arith, born.1, short))
store_is_born digest file frames s (inr shut) = s.head.gate.1 shut

module _ {S : Type 0} (takes : S → Bool → List ℕ → S → ℕ → Type 0) (refuses : S → Bool → List ℕ → ℕ → Type 0) (empty : S)
    (one_state : (s : S) (k : Bool) (b : List ℕ) (t u : S) (m n : ℕ) → takes s k b t m → takes s k b u n → t ≡ u)
    (one_count : (s : S) (k : Bool) (b : List ℕ) (t u : S) (m n : ℕ) → takes s k b t m → takes s k b u n → m ≡ n)
    (one_fault : (s : S) (k : Bool) (b : List ℕ) (o p : ℕ) → refuses s k b o → refuses s k b p → o ≡ p)
    (apart : (s : S) (k : Bool) (b : List ℕ) (t : S) (n o : ℕ) → takes s k b t n → refuses s k b o → ⊥) where
  -- frames lead to one state and one number
  pub runs_unique : (frames : List Frame) (fresh : Bool) (s t u : S) (last m n : ℕ) → Runs takes fresh s last frames t m → Runs takes fresh s last frames u n → (t ≡ u) × (m ≡ n)
  runs_unique [] fresh s t u last m n one two = (sym one.0 ∙ two.0, sym one.1 ∙ two.1)
  runs_unique (f ∷ frames) fresh s t u last m n one two =
      let same = one_state s f.snapshot f.body two.0 one.0 two.1 one.1 two.3 one.3 in
      let R = λ (x : S). Runs takes false x f.last frames u n in
      runs_unique frames false one.0 t u f.last m n one.5 (subst R same two.5)

  -- a store stands for one state and one number
  stands_unique : (digest other file : List ℕ) (s t : S) (m n : ℕ) → StandsForState takes empty digest file s m → StandsForState takes empty other file t n → (s ≡ t) × (m ≡ n)
  stands_unique digest other file s t m n one two =
      let same = (store_unique digest other file one.0 two.0 one.1 two.1).0 in
      let R = λ (l : List Frame). Runs takes true empty 0 l s m in
      runs_unique two.0 true empty s t 0 m n (subst R same one.2) two.2

  pub means_unique : (digest other file : List ℕ) (s t : S) (m n : ℕ) → FileMeans takes empty digest file s m → FileMeans takes empty other file t n → (s ≡ t) × (m ≡ n)
  means_unique digest other file s t m n (inl one) (inl two) = stands_unique digest other file s t m n one two
  means_unique digest other file s t m n (inl one) (inr two) = absurd (store_is_born digest file one.0 one.1 two.0)
  means_unique digest other file s t m n (inr one) (inl two) = absurd (store_is_born other file two.0 two.1 one.0)
  means_unique digest other file s t m n (inr one) (inr two) = (one.1 ∙ sym two.1, one.2 ∙ sym two.2)

  -- under one list
  pub list_unique : (digest other file : List ℕ) (s t : S) (m n : ℕ) → FileMeans takes empty digest file s m → FileMeans takes empty other file t n → (digest ≡ other) ⊎ IsUnborn file
  list_unique digest other file s t m n (inl one) (inl two) = inl (store_unique digest other file one.0 two.0 one.1 two.1).1
  list_unique digest other file s t m n (inl one) (inr two) = inr two.0
  list_unique digest other file s t m n (inr one) two = inr one.0

  -- a cut during an opening changes nothing of what a file stands for
  pub opening_means : (digest given old new : List ℕ) (s : S) (n : ℕ) → FileMeans takes empty digest old s n → IsOpening given old new → FileMeans takes empty digest new s n ⊎ (IsUnborn old × FileMeans takes empty given new s n)
  opening_means digest given old new s n means (inl same) = inl (subst (λ (f : List ℕ). FileMeans takes empty digest f s n) (sym same) means)
  opening_means digest given old new s n (inl means) (inr (inl up)) = inl (inl (means.0, upgrade_store digest old new means.0 means.1 up, means.2))
  opening_means digest given old new s n (inr means) (inr (inl up)) = inl (inr (upgrade_unborn old new means.0 up, means.1, means.2))
  opening_means digest given old new s n (inl means) (inr (inr made)) = absurd (store_is_born digest old means.0 means.1 made.0)
  opening_means digest given old new s n (inr means) (inr (inr made)) = inr (
    means.0,
    ⊎_elim
        (λ (unborn : IsUnborn new). inr (unborn, means.1, means.2))
        (λ (store : IsStore given new []). inl ([], store, (sym means.1, sym means.2)))
        made.1,
  )

  store_fault : (file : List ℕ) (a b : ℕ) → IsStoreFault takes refuses empty file a → IsStoreFault takes refuses empty file b → a ≡ b
  store_fault file a b (inl one) (inl two) = head_fault file a b one two
  store_fault file a b (inl one) (inr q) = absurd (head_right q.0 file q.1 q.2 q.3 a q.4 q.5 q.6 q.7 one)
  store_fault file a b (inr p) (inl two) = absurd (head_right p.0 file p.1 p.2 p.3 b p.4 p.5 p.6 p.7 two)
  store_fault file a b (inr p) (inr q) =
      let same = live_unique file p.1 q.1 p.2 q.2 p.3 q.3 p.7 q.7 (live_of_head p.0 file p.1 p.2 p.3 p.4) (live_of_head q.0 file q.1 q.2 q.3 q.4) in
      let F = λ (k : ℕ). IsFault takes refuses file k empty a in
      fault_unique takes refuses one_state one_count one_fault apart file q.3 empty a b (subst F same.1 p.8) q.8

  -- a store whose frames lead somewhere has no fault
  fault_right : (digest file : List ℕ) (frames : List Frame) (t : S) (n offset : ℕ) → IsStore digest file frames → Runs takes true empty 0 frames t n → IsStoreFault takes refuses empty file offset → ⊥
  fault_right digest file frames t n offset s runs (inl fault) = head_right s.kept file s.live s.number s.begin offset s.head s.from (begins_within file s.begin frames s.frames_at) s.fits fault
  fault_right digest file frames t n offset s runs (inr p) =
      let same = live_unique file p.1 s.live p.2 s.number p.3 s.begin p.7 s.fits (live_of_head p.0 file p.1 p.2 p.3 p.4) (live_of_head s.kept file s.live s.number s.begin s.head) in
      let F = λ (k : ℕ). IsFault takes refuses file k empty offset in
      region_right takes refuses one_state one_count one_fault apart file s.begin empty frames t n offset s.sound s.frames_at runs (subst F same.1 p.8)

  too_large : (limited : Bool) (file : List ℕ) (len : ℕ) → IsWithin limited file → limited ≡ true → len ≡ length file → limit < len → ⊥
  too_large limited file len within on is over = omega (arith, within on, is, over)

  -- a file is refused for one reason
  pub refusal_unique : (limited : Bool) (file : List ℕ) (v w : OpenFault) → IsOfFile v → IsOfFile w
      → IsRefusal takes refuses empty limited file v → IsRefusal takes refuses empty limited file w → v ≡ w
  refusal_unique limited file (TooLarge m) (TooLarge n) a b one two = ap (λ (k : ℕ). TooLarge k) (one.1 ∙ sym two.1)
  refusal_unique limited file (TooLarge m) (NotAStore o) a b one two = absurd (too_large limited file m two.0 one.0 one.1 one.2)
  refusal_unique limited file (NotAStore o) (TooLarge n) a b one two = absurd (too_large limited file n one.0 two.0 two.1 two.2)
  refusal_unique limited file (NotAStore o) (NotAStore p) a b one two = ap (λ (k : ℕ). NotAStore k) (store_fault file o p one.3 two.3)
  refusal_unique limited file DeviceFault w a b one two = absurd a
  refusal_unique limited file NoMemory w a b one two = absurd a
  refusal_unique limited file (TooLarge m) DeviceFault a b one two = absurd b
  refusal_unique limited file (TooLarge m) NoMemory a b one two = absurd b
  refusal_unique limited file (NotAStore o) DeviceFault a b one two = absurd b
  refusal_unique limited file (NotAStore o) NoMemory a b one two = absurd b

  -- a store is not refused
  pub store_right : (limited : Bool) (digest file : List ℕ) (frames : List Frame) (t : S) (n : ℕ) (w : OpenFault) → IsWithin limited file → IsStore digest file frames → Runs takes true empty 0 frames t n
      → IsRefusal takes refuses empty limited file w → IsExcused w
  store_right limited digest file frames t n DeviceFault within s runs is = tt
  store_right limited digest file frames t n NoMemory within s runs is = tt
  store_right limited digest file frames t n (TooLarge len) within s runs is = too_large limited file len within is.0 is.1 is.2
  store_right limited digest file frames t n (NotAStore offset) within s runs is = fault_right digest file frames t n offset s runs is.3

  -- nor an unborn file
  pub unborn_right : (limited : Bool) (file : List ℕ) (w : OpenFault) → IsWithin limited file → IsUnborn file → IsRefusal takes refuses empty limited file w → IsExcused w
  unborn_right limited file DeviceFault within u is = tt
  unborn_right limited file NoMemory within u is = tt
  unborn_right limited file (TooLarge len) within u is = too_large limited file len within is.0 is.1 is.2
  unborn_right limited file (NotAStore offset) within (inl short) is = omega (arith, short, is.2)
  unborn_right limited file (NotAStore offset) within (inr shut) is = is.1.1 shut

  no_excuse : (why : OpenFault) → IsOfFile why → IsExcused why → ⊥
  no_excuse DeviceFault of_file excused = of_file
  no_excuse NoMemory of_file excused = of_file
  no_excuse (TooLarge len) of_file excused = excused
  no_excuse (NotAStore offset) of_file excused = excused

  -- a file that stands for something has no refusal
  pub not_refused : (limited : Bool) (digest file : List ℕ) (s : S) (n : ℕ) (why : OpenFault) → IsWithin limited file → FileMeans takes empty digest file s n → IsOfFile why → IsRefusal takes refuses empty limited file why → ⊥
  not_refused limited digest file s n why within (inl stands) of_file cause = no_excuse why of_file (store_right limited digest file stands.0 s n why within stands.1 stands.2 cause)
  not_refused limited digest file s n why within (inr unborn) of_file cause = no_excuse why of_file (unborn_right limited file why within unborn.0 cause)

  -- what an opening answers, by its plain clauses
  module _ (limited : Bool) (given c : List ℕ) (state : S) (r : Result JournalView OpenFault)
      (opened : IfOk r (λ j. (d : List ℕ) × OpensAs takes empty state given j c d))
      (refused : (why : OpenFault) → r ≡ Err why → IsRefusal takes refuses empty limited c why) where
    -- of a store
    by_store : (j : JournalView) (digest : List ℕ) (frames : List Frame) (s : S) (n : ℕ) → IsStore digest c frames → Runs takes true empty 0 frames s n → (d : List ℕ) × OpensAs takes empty state given j c d → (state ≡ s) × (j.changes ≡ n)
    by_store j digest frames s n store runs (d, (found, stands, led, grown, inl (gate, long, was, up))) =
        let same = (store_unique j.digest digest c found frames was store).0 in
        let R = λ (l : List Frame). Runs takes true empty 0 l state j.changes in
        runs_unique frames true empty state s 0 j.changes n (subst R same led) runs
    by_store j digest frames s n store runs (d, (found, stands, led, grown, inr (unborn, at_empty, none, under))) = absurd (store_is_born digest c frames store unborn)

    -- and of an unborn file
    by_unborn : (j : JournalView) → IsUnborn c → (d : List ℕ) × OpensAs takes empty state given j c d → (state ≡ empty) × (j.changes ≡ 0)
    by_unborn j unborn (d, (found, stands, led, grown, inl (gate, long, was, up))) = absurd (store_is_born j.digest c found was unborn)
    by_unborn j unborn (d, (found, stands, led, grown, inr (u, at_empty, none, under))) = (at_empty, none)

    pub opens_means : (digest : List ℕ) (s : S) (n : ℕ) → IsWithin limited c → FileMeans takes empty digest c s n → MatchResult r (λ j. (state ≡ s) × (j.changes ≡ n)) IsExcused
    opens_means digest s n within means = by r refl opened means
      where
        by : (x : Result JournalView OpenFault) → r ≡ x → IfOk x (λ j. (d : List ℕ) × OpensAs takes empty state given j c d) → FileMeans takes empty digest c s n → MatchResult x (λ j. (state ≡ s) × (j.changes ≡ n)) IsExcused
        by (Ok j) e o (inl stands) = by_store j digest stands.0 s n stands.1 stands.2 o
        by (Ok j) e o (inr unborn) = let is = by_unborn j unborn.0 o in (is.0 ∙ sym unborn.1, is.1 ∙ sym unborn.2)
        by (Err w) e o (inl stands) = store_right limited digest c stands.0 s n w within stands.1 stands.2 (refused w e)
        by (Err w) e o (inr unborn) = unborn_right limited c w within unborn.0 (refused w e)

    as_file : (j : JournalView) → (d : List ℕ) × OpensAs takes empty state given j c d → FileMeans takes empty j.digest c state j.changes
    as_file j (d, (found, stands, led, grown, inl (gate, long, was, up))) = inl (found, was, led)
    as_file j (d, (found, stands, led, grown, inr (unborn, at_empty, none, under))) = inr (unborn, at_empty, none)

    -- what was opened stands for what the file does
    pub opens_as : IfOk r (λ j. FileMeans takes empty j.digest c state j.changes)
    opens_as = if_then r (λ j. (d : List ℕ) × OpensAs takes empty state given j c d) (λ j. FileMeans takes empty j.digest c state j.changes) as_file opened

    under_file : (j : JournalView) → (d : List ℕ) × OpensAs takes empty state given j c d → OpensUnder given c j.digest
    under_file j (d, (found, stands, led, grown, inl (gate, long, was, up))) = inl (found, was)
    under_file j (d, (found, stands, led, grown, inr (unborn, at_empty, none, under))) = inr (unborn, under)

    -- and under its list, or the given one
    pub opens_under : IfOk r (λ j. OpensUnder given c j.digest)
    opens_under = if_then r (λ j. (d : List ℕ) × OpensAs takes empty state given j c d) (λ j. OpensUnder given c j.digest) under_file opened

    excused_or_of_file : (why : OpenFault) → IsExcused why ⊎ IsOfFile why
    excused_or_of_file DeviceFault = inl tt
    excused_or_of_file NoMemory = inl tt
    excused_or_of_file (TooLarge len) = inr tt
    excused_or_of_file (NotAStore offset) = inr tt

    pub opens_exactly : OnOk r (IsWithin limited c) → (why : OpenFault) → IsOfFile why → IsRefusal takes refuses empty limited c why → MatchResult r (λ _. ⊥) (λ w. (w ≡ why) ⊎ IsExcused w)
    opens_exactly within why of_file cause = by r refl opens_as within
      where
        by : (x : Result JournalView OpenFault) → r ≡ x → IfOk x (λ j. FileMeans takes empty j.digest c state j.changes) → OnOk x (IsWithin limited c) → MatchResult x (λ _. ⊥) (λ w. (w ≡ why) ⊎ IsExcused w)
        by (Ok j) e means within = not_refused limited j.digest c state j.changes why within means of_file cause
        by (Err w) e means within = elim (excused_or_of_file w) [
          | inl excused ↦ inr excused
          | inr file ↦ inl (refusal_unique limited c w why file of_file (refused w e) cause)
        ]
