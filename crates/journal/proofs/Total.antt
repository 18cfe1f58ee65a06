-- Each file means something, or has a first fault.
use Rattle.std.proofs.Common.{◌≡◌, ◌≢◌, ◌⊎◌, inl, inr, ℕ, zero, suc, ◌+◌, ◌%◌, ◌^◌, ◌≤◌, ◌<◌, Bool, true, false, List, [], ◌∷◌, length, slice_index, take, drop, arith, refl, sym, ◌∙◌, subst}
use Rattle.std.specs.Prelude.{◌↔◌, IsTrue, replicate}
use Rattle.std.specs.Int.{w64, to_le_bytes}
use Rattle.std.proofs.lemmas.Bool.{cases_eq, cases_lt}
use Rattle.disk_model.specs.Disk.{Holds}
use Rattle.journal.specs.Frame.{Frame, AreSound, frame_len, frames_len, region_digest}
use Rattle.journal.specs.Store.{IsOpen, IsClosed, Head, FramesAt, magic, slot_bytes}
use Rattle.journal.specs.Region.{TakesOf, RefusesOf, OpensAt, Runs, IsRightLast, IsSized, IsFrameAt, IsFaultAt, IsFault}
use Rattle.journal.specs.HeadFault.{IsFront, IsLive, IsSlotFault, IsHeadFault, begin_at}
use Rattle.journal.specs.Opening.{FileMeans, IsOfFile, IsRefusal, IsWithin, limit}
use Rattle.journal.specs.ReaderAnswers.{IsNext}
use Rattle.journal.specs.declared.open_fault.OpenFault.{OpenFault}
use Rattle.journal.specs.declared.open_fault.OpenFault.TheVariants.{NotAStore, TooLarge}
use Rattle.std.specs.Prelude.{bytes_eq}
use Rattle.std.proofs.lemmas.Slice.Eq.{bytes_eq-Decides}
use Rattle.journal.proofs.Whole.{holds_join, holds_from_slice, slice_from_holds, bytes_at, bytes_long, bytes_hold}
use Rattle.journal.proofs.Heads.{first_live, second_live, none_live, head_of_live}
use Rattle.journal.proofs.Opened.{store_read}
use Rattle.journal.proofs.Refusals.{born_or_not}
use Rattle.journal.proofs.Found.{plain, listed, number_of}
use Rattle.journal.proofs.NoFault.{fresh_behind, first_is}

true_or_false : (b : Bool) → (b ≡ true) ⊎ (b ≡ false)
true_or_false true = inl refl
true_or_false false = inr refl

true_false : true ≡ false → ⊥
true_false e = cc

module _ {S : Type 0} (takes : TakesOf S) (refuses : RefusesOf S) (either : (s : S) (k : Bool) (b : List ℕ) → ((t : S) × (n : ℕ) × takes s k b t n) ⊎ ((o : ℕ) × refuses s k b o))
    (file : List ℕ) (bytes : (i : ℕ) → slice_index file i < 256) where
  -- what stands at an offset: the end, a fault, or a frame that is taken
  abbrev Here : ℕ → Bool → S → ℕ → Type 0
  Here at fresh s last = IsClosed file at ⊎ (((o : ℕ) × IsFaultAt takes refuses file at fresh s last o)
      ⊎ ((f : Frame) × (t : S) × (n : ℕ) × IsFrameAt file at fresh f × takes s f.snapshot f.body t n × IsRightLast f.snapshot last n f.last))

  right_or_not : (snapshot : Bool) (last n next : ℕ) → IsRightLast snapshot last n next ⊎ (IsRightLast snapshot last n next → ⊥)
  right_or_not true last n next = inl tt
  right_or_not false last n next = cases_eq next ((last + n) % 2 ^ 64)

  frame_here : (at : ℕ) (fresh : Bool) (s : S) (last : ℕ) (f : Frame) → IsFrameAt file at fresh f → Here at fresh s last
  frame_here at fresh s last f is = elim (either s f.snapshot f.body) [
    | inl took ↦ elim (right_or_not f.snapshot last took.1 f.last) [
      | inl right ↦ inr (inr (f, took.0, took.1, is, took.2, right))
      | inr wrong ↦ inr (inl (at + 2, inr (inr (inr (inr (f, is, (took.0, took.1, took.2, wrong, refl)))))))
    ]
    | inr refused ↦ inr (inl (at + 18 + length f.list + refused.0, inr (inr (inr (inl (f, is, (refused.0, refused.1, refl)))))))
  ]

  some_size : (size : ℕ) → size ≢ 0 → 0 < size
  some_size zero some = absurd (some refl)
  some_size (suc n) some = omega arith

  wrong_kind : (at size : ℕ) (fresh : Bool) (s : S) (last : ℕ) → IsSized file at size → slice_index file (at + 1) ≢ 1 → (slice_index file (at + 1) ≡ 2 → fresh ≡ false) → (slice_index file (at + 1) ≡ 3 → (fresh ≡ false) ⊎ (slice_index file 8 ≡ 1)) → Here at fresh s last
  wrong_kind at size fresh s last sized one two three = inr (inl (at + 1, inr (inl ((size, sized, one, two, three), refl))))

  snapshot_here : (at size next : ℕ) (fresh : Bool) (s : S) (last : ℕ) → fresh ≡ true → IsSized file at size → size < 2 ^ 64 → next < 2 ^ 64 → Holds file (at + 2) (to_le_bytes w64 next) → slice_index file (at + 1) ≢ 1 → Here at fresh s last
  snapshot_here at size next fresh s last is_fresh sized small small_next last_at not_one = elim (cases_eq (slice_index file (at + 1)) 2) [
    | inl two ↦ (let r = plain file at size next fresh true sized small small_next two last_at (λ body long. is_fresh) in frame_here at fresh s last r.0 r.1)
    | inr not_two ↦ elim (cases_eq (slice_index file (at + 1)) 3) [
      | inl three ↦ elim (cases_eq (slice_index file 8) 1) [
        | inl first ↦ wrong_kind at size fresh s last sized not_one (λ e. absurd (not_two e)) (λ e. inr first)
        | inr second ↦ elim (cases_lt size 32) [
          | inl short ↦ inr (inl (at + 10, inr (inr (inl (inr (size, sized, three, is_fresh, second, short), refl)))))
          | inr enough ↦ (let r = listed file at size next fresh sized small small_next enough three last_at is_fresh second in frame_here at fresh s last r.0 r.1)
        ]
      ]
      | inr not_three ↦ wrong_kind at size fresh s last sized not_one (λ e. absurd (not_two e)) (λ e. absurd (not_three e))
    ]
  ]

  late_here : (at size : ℕ) (fresh : Bool) (s : S) (last : ℕ) → fresh ≡ false → IsSized file at size → slice_index file (at + 1) ≢ 1 → Here at fresh s last
  late_here at size fresh s last late sized not_one = wrong_kind at size fresh s last sized not_one (λ e. late) (λ e. inl late)

  sized_here : (at size next : ℕ) (fresh : Bool) (s : S) (last : ℕ) → IsSized file at size → size < 2 ^ 64 → next < 2 ^ 64 → Holds file (at + 2) (to_le_bytes w64 next) → Here at fresh s last
  sized_here at size next fresh s last sized small small_next last_at = elim (cases_eq (slice_index file (at + 1)) 1) [
    | inl one ↦ elim (cases_eq size 0) [
      | inl none ↦ inr (inl (at + 10, inr (inr (inl (inl (subst (λ (n : ℕ). IsSized file at n) none sized, one), refl)))))
      | inr some ↦ (let r = plain file at size next fresh false sized small small_next one last_at (λ body long. subst (λ (n : ℕ). 0 < n) (sym long) (some_size size some)) in frame_here at fresh s last r.0 r.1)
    ]
    | inr not_one ↦ elim (true_or_false fresh) [
      | inl is_fresh ↦ snapshot_here at size next fresh s last is_fresh sized small small_next last_at not_one
      | inr late ↦ late_here at size fresh s last late sized not_one
    ]
  ]

  here : (at : ℕ) (fresh : Bool) (s : S) (last : ℕ) → Here at fresh s last
  here at fresh s last = elim (cases_lt at (length file)) [
    | inr past ↦ inr (inl (at, inl (inl past, refl)))
    | inl there ↦ elim (cases_eq (slice_index file at) 0) [
      | inl shut ↦ inl (there, shut)
      | inr is_open ↦ elim (cases_lt (length file) (at + 18)) [
        | inl short ↦ inr (inl (at, inl (inr ((there, is_open), inl short), refl)))
        | inr front ↦ (
            let size = number_of file (at + 10) bytes (omega (arith, front)) in
            let next = number_of file (at + 2) bytes (omega (arith, front)) in
            elim (cases_lt (length file) (at + 18 + size.0)) [
              | inl cut ↦ inr (inl (at, inl (inr ((there, is_open), inr (size.0, size.1, size.2, cut)), refl)))
              | inr whole ↦ sized_here at size.0 next.0 fresh s last ((there, is_open), size.2, whole) size.1 next.1 next.2
            ])
      ]
    ]
  ]

  -- a region ends, or has a first fault
  abbrev Reads : ℕ → Bool → S → ℕ → Type 0
  Reads at fresh s last = ((frames : List Frame) × (t : S) × (n : ℕ) × FramesAt file at frames × AreSound file frames × Runs takes fresh s last frames t n)
      ⊎ ((frames : List Frame) × (t : S) × (n : ℕ) × (o : ℕ) × OpensAt file at frames × AreSound file frames × Runs takes fresh s last frames t n × IsFaultAt takes refuses file (at + frames_len frames) (fresh_behind fresh frames) t n o)

  still : (frames : List Frame) → fresh_behind false frames ≡ false
  still [] = refl
  still (f ∷ frames) = refl

  cons_reads : (at : ℕ) (fresh : Bool) (s : S) (last : ℕ) (f : Frame) (t : S) (n : ℕ) → IsFrameAt file at fresh f → takes s f.snapshot f.body t n → IsRightLast f.snapshot last n f.last → Reads (at + frame_len f) false t f.last → Reads at fresh s last
  cons_reads at fresh s last f t n is took right (inl (frames, u, m, stands, sound, runs)) = inl (f ∷ frames, u, m, (is.0, is.1, stands), (is.4, is.5, is.6, sound), (t, n, is.2, took, right, runs))
  cons_reads at fresh s last f t n is took right (inr (frames, u, m, o, opens, sound, runs, fault)) =
      let A = λ (k : ℕ). IsFaultAt takes refuses file k (fresh_behind false frames) u m o in
      let B = λ (b : Bool). IsFaultAt takes refuses file (at + frames_len (f ∷ frames)) b u m o in
      let place : at + frame_len f + frames_len frames ≡ at + frames_len (f ∷ frames) = omega arith in
      inr (f ∷ frames, u, m, o, (is.0, is.1, opens), (is.4, is.5, is.6, sound), (t, n, is.2, took, right, runs), subst B (still frames) (subst A place fault))

  reads : (fuel at : ℕ) (fresh : Bool) (s : S) (last : ℕ) → length file ≤ at + fuel → Reads at fresh s last
  reads zero at fresh s last over = inr ([], s, last, at, tt, tt, (refl, refl), inl (inl (omega (arith, over)), omega arith))
  reads (suc fuel) at fresh s last over = elim (here at fresh s last) [
    | inl shut ↦ inl ([], s, last, shut, tt, (refl, refl))
    | inr (inl fault) ↦ inr ([], s, last, fault.0, tt, tt, (refl, refl), subst (λ (k : ℕ). IsFaultAt takes refuses file k fresh s last fault.0) (omega arith) fault.1)
    | inr (inr (f, t, n, is, took, right)) ↦ cons_reads at fresh s last f t n is took right (reads fuel (at + frame_len f) false t f.last (omega (arith, over)))
  ]

  pub region_verdict : (begin : ℕ) (empty : S) → ((frames : List Frame) × (t : S) × (n : ℕ) × FramesAt file begin frames × AreSound file frames × Runs takes true empty 0 frames t n) ⊎ ((o : ℕ) × IsFault takes refuses file begin empty o)
  region_verdict begin empty = elim (reads (length file) begin true empty 0 (omega arith)) [
    | inl read ↦ inl read
    | inr (frames, t, n, o, opens, sound, runs, fault) ↦ (
        let F = λ (b : Bool). IsFaultAt takes refuses file (begin + frames_len frames) b t n o in
        inr (o, (frames, t, n, opens, sound, runs, subst F (sym (first_is frames)) fault)))
  ]

-- bytes stand there, or do not
holds_or_not : (file : List ℕ) (at : ℕ) (want : List ℕ) → at + length want ≤ length file → Holds file at want ⊎ (Holds file at want → ⊥)
holds_or_not file at want there =
    let decides = bytes_eq-Decides (take (length want) (drop at file)) want in
    elim (true_or_false (bytes_eq (take (length want) (drop at file)) want)) [
      | inl equal ↦ inl (holds_from_slice file at (length want) want there refl (decides.0 equal))
      | inr unequal ↦ inr (λ h. true_false (sym (decides.1 (slice_from_holds file at (length want) want there refl h)) ∙ unequal))
    ]

module _ (file : List ℕ) (bytes : (i : ℕ) → slice_index file i < 256) (long : 129 ≤ length file) where
  -- a slot's number and begin
  slot_of : (at : ℕ) → at ≤ 61 → (number : ℕ) × (begin : ℕ) × (number < 2 ^ 64) × (begin < 2 ^ 64) × Holds file (at + 1) (slot_bytes number begin)
  slot_of at small =
      let number = number_of file (at + 1) bytes (omega (arith, long, small)) in
      let begin = number_of file (at + 9) bytes (omega (arith, long, small)) in
      (number.0, begin.0, number.1, begin.1, holds_join file (at + 1) (at + 9) (to_le_bytes w64 number.0) (to_le_bytes w64 begin.0) (omega arith) number.2 begin.2)

  open_or_closed : (at : ℕ) → at ≤ 61 → IsClosed file at ⊎ IsOpen file at
  open_or_closed at small = elim (cases_eq (slice_index file at) 0) [
    | inl shut ↦ inl (omega (arith, long, small), shut)
    | inr is_open ↦ inr (omega (arith, long, small), is_open)
  ]

  opened : (at : ℕ) → IsOpen file at → IsTrue true ↔ IsOpen file at
  opened at is = ((λ t. is), (λ o. refl))

  closed : (at : ℕ) → IsClosed file at → IsTrue false ↔ IsOpen file at
  closed at is = ((λ t. absurd (cc)), (λ o. absurd (o.1 is.1)))

  abbrev Live : Type 0
  Live = (live : Bool) × (number : ℕ) × (begin : ℕ) × IsLive file live number begin × (begin < 2 ^ 64)

  -- of two slots one is live, or they are at fault
  live_or_not : Live ⊎ ((o : ℕ) × IsSlotFault file o)
  live_or_not =
      let s = slot_of 44 (omega arith) in
      let t = slot_of 61 (omega arith) in
      elim (open_or_closed 44 (omega arith)) [
        | inl shut ↦ elim (open_or_closed 61 (omega arith)) [
          | inl shut2 ↦ inr (44, inl (shut, shut2, refl))
          | inr open2 ↦ inl (true, t.0, t.1, second_live file false true s.0 s.1 t.0 t.1 long (closed 44 shut) s.4 (opened 61 open2) t.4 refl, t.3)
        ]
        | inr open1 ↦ elim (open_or_closed 61 (omega arith)) [
          | inl shut2 ↦ inl (false, s.0, s.1, first_live file true false s.0 s.1 t.0 t.1 long (opened 44 open1) s.4 (closed 61 shut2) t.4 refl, s.3)
          | inr open2 ↦ elim (cases_eq t.0 ((s.0 + 1) % 2 ^ 64)) [
            | inl next ↦ inl (true, t.0, t.1, second_live file true true s.0 s.1 t.0 t.1 long (opened 44 open1) s.4 (opened 61 open2) t.4 next, t.3)
            | inr not_next ↦ elim (cases_eq s.0 ((t.0 + 1) % 2 ^ 64)) [
              | inl next ↦ inl (false, s.0, s.1, first_live file true true s.0 s.1 t.0 t.1 long (opened 44 open1) s.4 (opened 61 open2) t.4 next, s.3)
              | inr neither ↦ inr (61, inr (inl (open1, open2, none_live file true true s.0 s.1 t.0 t.1 long (opened 44 open1) s.4 (opened 61 open2) t.4 s.2 t.2 (neither_next s.0 t.0 not_next neither), refl)))
            ]
          ]
        ]
      ]
    where
      neither_next : (a b : ℕ) → (b ≡ (a + 1) % 2 ^ 64 → ⊥) → (a ≡ (b + 1) % 2 ^ 64 → ⊥) → (live : Bool) → IsNext true a true b live → ⊥
      neither_next a b one two true next = one next
      neither_next a b one two false next = two next

  abbrev Headed : Type 0
  Headed = (kept : List ℕ) × (live : Bool) × (number : ℕ) × (begin : ℕ) × Head kept file live number begin × (128 ≤ begin) × (begin < length file) × (begin < 2 ^ 64)

  -- the slots behind a right front
  slots_verdict : IsOpen file 0 → IsFront file → Headed ⊎ ((o : ℕ) × IsHeadFault file o)
  slots_verdict gate front = elim live_or_not [
    | inr fault ↦ inr (fault.0, inr (inr (inr (front, fault.1))))
    | inl (live, number, begin, is, small) ↦ elim (holds_or_not file 78 (replicate 50 0) (omega (arith, long))) [
      | inr some ↦ inr (78, inr (inr (inr (front, inr (inr (inl (live, number, begin, is, some, refl)))))))
      | inl zero_bytes ↦ elim (cases_lt begin 128) [
        | inl low ↦ inr (begin_at live, inr (inr (inr (front, inr (inr (inr (live, number, begin, is, zero_bytes, small, inl low, refl)))))))
        | inr from ↦ elim (cases_lt begin (length file)) [
          | inr past ↦ inr (begin_at live, inr (inr (inr (front, inr (inr (inr (live, number, begin, is, zero_bytes, small, inr past, refl)))))))
          | inl below ↦ (
              let there : 12 + 32 ≤ length file = omega (arith, long) in
              let kept = bytes_at file 12 32 in
              inl (kept, live, number, begin, head_of_live kept file live number begin gate front (bytes_long file 12 32 there) (bytes_hold file 12 32 there) is zero_bytes, from, below, small))
        ]
      ]
    ]
  ]

  pub front_verdict : IsOpen file 0 → Headed ⊎ ((o : ℕ) × IsHeadFault file o)
  front_verdict gate = elim (holds_or_not file 1 magic (omega (arith, long))) [
    | inr other ↦ inr (1, inr (inl (long, other, refl)))
    | inl name ↦ elim (holds_or_not file 9 (replicate 3 0) (omega (arith, long))) [
      | inr some ↦ inr (8, inr (inr (inl (long, name, some, refl))))
      | inl padding ↦ slots_verdict gate (record { long = long; name = name; padding = padding })
    ]
  ]

-- a file means something, or has a first fault
module _ {S : Type 0} (takes : TakesOf S) (refuses : RefusesOf S) (empty : S) (either : (s : S) (k : Bool) (b : List ℕ) → ((t : S) × (n : ℕ) × takes s k b t n) ⊎ ((o : ℕ) × refuses s k b o))
    (limited : Bool) (file : List ℕ) (bytes : (i : ℕ) → slice_index file i < 256) where
  abbrev Verdict : Type 0
  Verdict = ((digest : List ℕ) × (s : S) × (n : ℕ) × FileMeans takes empty digest file s n) ⊎ ((why : OpenFault) × IsOfFile why × IsRefusal takes refuses empty limited file why)

  head_verdict : IsWithin limited file → IsOpen file 0 → 1 < length file → 129 ≤ length file → Verdict
  head_verdict within gate some long = elim (front_verdict file bytes long gate) [
    | inr fault ↦ inr (NotAStore fault.0, tt, (within, gate, some, inl fault.1))
    | inl (kept, live, number, begin, head, from, below, small) ↦ elim (region_verdict takes refuses either file bytes begin empty) [
      | inr bad ↦ inr (NotAStore bad.0, tt, (within, gate, some, inr (kept, live, number, begin, head, from, below, small, bad.1)))
      | inl (frames, s, n, at, sound, runs) ↦ (
          let digest = region_digest kept frames in
          inl (digest, s, n, inl (frames, store_read digest file frames kept live number begin head from small at sound refl, runs)))
    ]
  ]

  born_verdict : IsWithin limited file → IsOpen file 0 → 1 < length file → Verdict
  born_verdict within gate some = elim (cases_lt (length file) 129) [
    | inl short ↦ inr (NotAStore 0, tt, (within, gate, some, inl (inl (short, refl))))
    | inr long ↦ head_verdict within gate some long
  ]

  looked_at : IsWithin limited file → Verdict
  looked_at within = elim (born_or_not file) [
    | inl born ↦ born_verdict within born.0 born.1
    | inr unborn ↦ inl ([], empty, 0, inr (unborn, refl, refl))
  ]

  pub verdict : Verdict
  verdict = by limited refl
    where
      by : (b : Bool) → limited ≡ b → Verdict
      by true on = elim (cases_lt limit (length file)) [
        | inl over ↦ inr (TooLarge (length file), tt, (on, refl, over))
        | inr fits ↦ looked_at (λ e. fits)
      ]
      by false off = looked_at (λ on. absurd (let e = sym on ∙ off in cc))
