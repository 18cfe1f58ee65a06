-- What has been printed, after each kind of line, and the replies to a site in it.
use Rattle.std.proofs.Common.{◌≡◌, ℕ, List, [], ◌∷◌, ◌++◌, None, take, length, map, refl, sym, ap}
use Rattle.std.proofs.Common.{◌∙◌, append_assoc, append-nil}
use Rattle.std.proofs.lemmas.List.{map-append}
use Rattle.std.proofs.Math.Seq.{take-append_seam}
use Rattle.unwinding.specs.Machine.{Machine}
use Rattle.unwinding.specs.World.{SiteReply, replies, world_after, of_site, reply_of_site}
use Rattle.unwinding.specs.Durable.{Keeping, restarted}
use Rattle.unwinding.specs.Epochs.{acknowledged_replies, world_replies}
use Rattle.unwinding.specs.Transcript.{open_transcript, stretch_transcript, closed_transcript}
use Rattle.unwinding.specs.Transcript.{transcript}
use Rattle.unwinding.specs.Admissible.{Step, Stretch, History, OpeningOf, next_opening}
use Rattle.unwinding.specs.Admissible.{opening_after, epochs, history_epochs}
use Rattle.unwinding.specs.Course.{Course, executed_lines, wait, answer_all, down_one, stretch_of}
use Rattle.unwinding.specs.Course.{reopen}
use Rattle.unwinding.specs.CourseSteps.{begins, last_opening, stands, course_transcript}
use Rattle.unwinding.proofs.Fronts.{replies_append, of_site_append, length_replies}

module _
    {Site Cell Cells Partition Content Rest Line Event Reply Change KeptPartition KeptCell KeptCells
    : Type 0}
    (m : Machine Site Cell Cells Partition Content Rest Line Event Reply Change)
    (k : Keeping Site Cell Cells Partition Content Rest Change KeptPartition KeptCell KeptCells)
    (x : OpeningOf m k) (reopened_reply : ℕ → SiteReply Site Reply)
    (down : Step Line → SiteReply Site Reply) where
  -- what is printed
  pub closed_more : (y : OpeningOf m k) (ss : List (Stretch Line)) (s : Stretch Line) → closed_transcript m k reopened_reply down y (ss ++ s ∷ []) ≡ closed_transcript m k reopened_reply down y ss ++ stretch_transcript m k reopened_reply down (opening_after m k y ss) s
  closed_more y [] s = append-nil (stretch_transcript m k reopened_reply down y s)
  closed_more y (t ∷ ss) s = ap (λ r. stretch_transcript m k reopened_reply down y t ++ r) (closed_more (next_opening m k y t) ss s) ∙ sym (append_assoc (stretch_transcript m k reopened_reply down y t) (closed_transcript m k reopened_reply down (next_opening m k y t) ss) _)

  pub open_is : (o : OpeningOf m k) (r : Course Line) (n : ℕ) → open_transcript m k down o (stretch_of r n) ≡ replies m (begins m k o) r.answered ++ map down r.downs
  unfolding acknowledged_replies
  open_is o r n =
      let w = begins m k o in
      ap (λ ts. ts ++ map down r.downs) (ap (λ i. take i (replies m w (executed_lines r))) (sym (length_replies m w r.answered)) ∙ ap (take (length (replies m w r.answered))) (replies_append m w r.answered r.waiting) ∙ take-append_seam (replies m w r.answered) _)

  pub transcript_is : (r : Course Line) → course_transcript m k reopened_reply down x r ≡ closed_transcript m k reopened_reply down x r.closed ++ (replies m (begins m k (last_opening m k x r)) r.answered ++ map down r.downs)
  transcript_is r = ap (λ ts. closed_transcript m k reopened_reply down x r.closed ++ ts) (open_is (last_opening m k x r) r _)

  pub transcript_wait : (r : Course Line) (l : Line) → course_transcript m k reopened_reply down x (wait r l) ≡ course_transcript m k reopened_reply down x r
  transcript_wait r l = transcript_is (wait r l) ∙ sym (transcript_is r)

  pub held_is : (o : OpeningOf m k) (r : Course Line) → (stands m k o r).held ≡ replies m (world_after m (begins m k o) r.answered) r.waiting
  unfolding stands
  held_is o r = refl

  pub transcript_answered : (r : Course Line) → r.downs ≡ [] → course_transcript m k reopened_reply down x (answer_all r) ≡ course_transcript m k reopened_reply down x r ++ (stands m k (last_opening m k x r) r).held
  transcript_answered r none =
      let w = begins m k (last_opening m k x r) in
      let c = closed_transcript m k reopened_reply down x r.closed in
      let downs = ap (λ ds. map down ds) none in
      let one = transcript_is (answer_all r) ∙ ap (λ ds. c ++ (replies m w (executed_lines r) ++ ds)) downs ∙ ap (λ ts. c ++ ts) (append-nil (replies m w (executed_lines r)) ∙ replies_append m w r.answered r.waiting) in
      let two = transcript_is r ∙ ap (λ ds. c ++ (replies m w r.answered ++ ds)) downs ∙ ap (λ ts. c ++ ts) (append-nil (replies m w r.answered)) in
      one ∙ sym (append_assoc c (replies m w r.answered) _) ∙ sym (ap (λ ts. ts ++ replies m (world_after m w r.answered) r.waiting) two) ∙ sym (ap (λ ts. course_transcript m k reopened_reply down x r ++ ts) (held_is (last_opening m k x r) r))

  pub transcript_down : (r : Course Line) (e : Step Line) → course_transcript m k reopened_reply down x (down_one r e) ≡ course_transcript m k reopened_reply down x r ++ down e ∷ []
  transcript_down r e =
      let w = begins m k (last_opening m k x r) in
      let c = closed_transcript m k reopened_reply down x r.closed in
      transcript_is (down_one r e) ∙ ap (λ ds. c ++ (replies m w r.answered ++ ds)) (map-append down r.downs (e ∷ []))
      ∙ ap (λ ts. c ++ ts) (sym (append_assoc (replies m w r.answered) (map down r.downs) (down e ∷ []))) ∙ sym (append_assoc c _ (down e ∷ [])) ∙ sym (ap (λ ts. ts ++ down e ∷ []) (transcript_is r))

  pub transcript_reopened : (r : Course Line) (kept : ℕ) → course_transcript m k reopened_reply down x (reopen r kept) ≡ course_transcript m k reopened_reply down x r ++ reopened_reply kept ∷ []
  transcript_reopened r kept =
      let c = closed_transcript m k reopened_reply down x r.closed in
      transcript_is (reopen r kept) ∙ append-nil _ ∙ closed_more x r.closed (stretch_of r kept)
      ∙ sym (append_assoc c (open_transcript m k down (last_opening m k x r) (stretch_of r kept)) (reopened_reply kept ∷ [])) ∙ ap (λ ts. c ++ ts ++ reopened_reply kept ∷ []) (open_is (last_opening m k x r) r kept) ∙ sym (ap (λ ts. ts ++ reopened_reply kept ∷ []) (transcript_is r))

module _
    {Site Cell Cells Partition Content Rest Line Event Reply Change KeptPartition KeptCell KeptCells
    : Type 0}
    (m : Machine Site Cell Cells Partition Content Rest Line Event Reply Change)
    (k : Keeping Site Cell Cells Partition Content Rest Change KeptPartition KeptCell KeptCells)
    (x : OpeningOf m k) (reopened_reply : ℕ → SiteReply Site Reply)
    (down : Step Line → SiteReply Site Reply)
    (of_no_site : (n : ℕ) → (reopened_reply n).site ≡ None)
    (of_no_site_down : (e : Step Line) → (down e).site ≡ None) where
  pub no_reply : (s : Site) (t : SiteReply Site Reply) → t.site ≡ None → of_site m s (t ∷ []) ≡ []
  no_reply s t none = ap (λ o. reply_of_site m s o t.reply ++ []) none

  pub no_downs : (s : Site) (ds : List (Step Line)) → of_site m s (map down ds) ≡ []
  no_downs s [] = refl
  no_downs s (e ∷ ds) = ap (λ o. reply_of_site m s o (down e).reply ++ of_site m s (map down ds)) (of_no_site_down e) ∙ no_downs s ds

  pub of_open : (s : Site) (y : OpeningOf m k) (t : Stretch Line) → of_site m s (open_transcript m k down y t) ≡ of_site m s (acknowledged_replies m (restarted k y.rest y.state) t.epoch)
  of_open s y t = of_site_append m s (acknowledged_replies m (restarted k y.rest y.state) t.epoch) (map down t.downs) ∙ ap (λ r. of_site m s (acknowledged_replies m (restarted k y.rest y.state) t.epoch) ++ r) (no_downs s t.downs) ∙ append-nil _

  pub of_history : (s : Site) (y : OpeningOf m k) (ss : List (Stretch Line)) (t : Stretch Line)
      → of_site m s (closed_transcript m k reopened_reply down y ss ++ open_transcript m k down (opening_after m k y ss) t) ≡ world_replies m k s y.rest y.state (epochs ss ++ t.epoch ∷ [])
  of_history s y [] t = of_open s y t ∙ sym (append-nil _)
  of_history s y (u ∷ ss) t =
      let here = open_transcript m k down y u in
      let rest = closed_transcript m k reopened_reply down (next_opening m k y u) ss ++ open_transcript m k down (opening_after m k (next_opening m k y u) ss) t in
      let first : of_site m s (here ++ reopened_reply u.epoch.kept ∷ []) ≡ of_site m s (acknowledged_replies m (restarted k y.rest y.state) u.epoch) =
      of_site_append m s here (reopened_reply u.epoch.kept ∷ []) ∙ ap (λ r. of_site m s here ++ r) (no_reply s (reopened_reply u.epoch.kept) (of_no_site u.epoch.kept)) ∙ append-nil _ ∙ of_open s y u in
      ap (of_site m s) (append_assoc (here ++ reopened_reply u.epoch.kept ∷ []) (closed_transcript m k reopened_reply down (next_opening m k y u) ss) (open_transcript m k down (opening_after m k (next_opening m k y u) ss) t))
      ∙ of_site_append m s (here ++ reopened_reply u.epoch.kept ∷ []) rest ∙ ap (λ r. r ++ of_site m s rest) first ∙ ap (λ r. of_site m s (acknowledged_replies m (restarted k y.rest y.state) u.epoch) ++ r) (of_history s (next_opening m k y u) ss t)

  pub history_sites : (s : Site) (h : History Line) → of_site m s (transcript m k reopened_reply down x h) ≡ world_replies m k s x.rest x.state (history_epochs h)
  history_sites s h = of_history s x h.closed h.open_end
