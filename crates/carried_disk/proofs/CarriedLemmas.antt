-- The owner's file, and the disk in memory that it stands for.
use Rattle.std.proofs.Common.{◌≡◌, inl, inr, ◌⊎◌, ⊎_elim, ℕ, suc, ◌+◌, ◌*◌, ◌≤◌, Bool, true, false, List, [], ◌∷◌, ◌++◌, length, take, drop, arith, refl, sym, ◌∙◌, ap, subst, length-append}
use Rattle.std.specs.Prelude.{Some, if◌then◌else◌}
use Rattle.std.proofs.lemmas.List.{take-append-le, take_all}
use Rattle.disk_model.specs.Disk.{View, Elapses, Stays}
use Rattle.disk_model.specs.Image.{IsImage}
use Rattle.disk_model.specs.ImageLaws.{image_on, image_from}
use Rattle.disk_model.specs.History.{Held, Event, wrote, synced, overlaid, after, replay, held, ImageOf, Past, Grows}
use Rattle.disk_model.specs.MemDisk.{MemView, view_of}
use Rattle.disk_model.specs.Schedule.{Plan, next_fails}
use Rattle.disk_model.proofs.Past.{replay-push}
use Rattle.carried_disk.specs.Calls.{CarriedView, view_told, CutLeaves, FileStands, StillStands}
use Rattle.carried_disk.specs.CallBuffers.{IsSteady, HasCallRoom}
use Rattle.carried_disk.specs.CarriedLaws.{carried_lawful}

-- a call that leaves the bytes and the calls
pub stands_by_stays : (old new : CarriedView) → Stays (view_told old) (view_told new) → new.left ≡ old.left → StillStands old new
stands_by_stays old new s left file since f = record {
  past = omega (arith, f.past, s.moment);
  contents = s.contents ∙ f.contents ∙ ap (λ (l : List Event). Some (replay file l).contents) (sym left);
  images = λ c image. s.no_fewer c (f.images c (subst (λ (l : List Event). ImageOf (replay file l) c) left image));
  any_moment = λ c cut. s.no_fewer_since since c (f.any_moment c (subst (λ (l : List Event). CutLeaves file l c) left cut));
}

-- a cut while one call more is carried out comes before it or behind it
cut_push : (file : Held) (calls : List Event) (e : Event) (c : List ℕ) → CutLeaves file (calls ++ e ∷ []) c → CutLeaves file calls c ⊎ ImageOf (replay file (calls ++ e ∷ [])) c
cut_push file calls e c cut = elim (sides cut.0 cut.1) [
  | inl low ↦ inl (cut.0, low, subst (λ (l : List Event). ImageOf (replay file l) c) (take-append-le cut.0 calls (e ∷ []) low) cut.2)
  | inr high ↦ inr (subst (λ (l : List Event). ImageOf (replay file l) c) (take_all cut.0 (calls ++ e ∷ []) (omega (arith, high, length-append calls (e ∷ [])))) cut.2)
]
  where
    sides : (k : ℕ) → k ≤ length (calls ++ e ∷ []) → (k ≤ length calls) ⊎ (k ≡ length calls + 1)
    sides k le = let n : k ≤ length calls + 1 = omega (arith, le, length-append calls (e ∷ [])) in grind (arith, n)

-- a changing call, and the same call behind those that are left
module _ (old new : CarriedView) (e : Event) (time : Elapses (view_of old.disk) (view_of new.disk)) (left : new.left ≡ old.left ++ e ∷ [])
    (contents : (h : Held) → h.contents ≡ (held old.disk.past).contents → (after h e).contents ≡ (held new.disk.past).contents)
    (images : (h : Held) → h.contents ≡ (held old.disk.past).contents → ((c : List ℕ) → ImageOf h c → ImageOf (held old.disk.past) c) → (c : List ℕ) → ImageOf (after h e) c → ImageOf (held new.disk.past) c) where
  some_is : (a b : List ℕ) → Some a ≡ Some b → b ≡ a
  some_is a b is = cc

  module _ (file : Held) (since : ℕ) (f : FileStands file since old) where
    replayed : replay file new.left ≡ after (replay file old.left) e
    replayed = ap (λ (l : List Event). replay file l) left ∙ replay-push file old.left e

    same : (replay file old.left).contents ≡ (held old.disk.past).contents
    same = some_is (held old.disk.past).contents (replay file old.left).contents f.contents

    now : (c : List ℕ) → ImageOf (replay file new.left) c → ImageOf (held new.disk.past) c
    now c image = images (replay file old.left) same f.images c (subst (λ (h : Held). ImageOf h c) replayed image)

    later : since ≤ (view_told new).moment
    later = omega (arith, f.past, time.later)

    counts : (c : List ℕ) → ImageOf (replay file new.left) c → (view_told new).left_since since c
    counts c image = (carried_lawful new).counts_now since c later (now c image)

    meanwhile : (c : List ℕ) → CutLeaves file new.left c → (view_told new).left_since since c
    meanwhile c cut = ⊎_elim
        (λ (was : CutLeaves file old.left c). time.keeps since c f.past (f.any_moment c was))
        (λ (image : ImageOf (replay file (old.left ++ e ∷ [])) c). counts c (subst (λ (l : List Event). ImageOf (replay file l) c) (sym left) image))
        (cut_push file old.left e c (subst (λ (l : List Event). CutLeaves file l c) left cut))

    pub stands_after : FileStands file since new
    stands_after = record {
      past = later;
      contents = ap (λ (l : List ℕ). Some l) (sym (ap (λ (h : Held). h.contents) replayed ∙ contents (replay file old.left) same));
      images = now;
      any_moment = meanwhile;
    }

pub stands_write : (old new : CarriedView) (at : ℕ) (bytes : List ℕ) → Elapses (view_of old.disk) (view_of new.disk) → new.left ≡ old.left ++ wrote at bytes ∷ []
    → Grows old.disk.past new.disk.past (after (held old.disk.past) (wrote at bytes)) → StillStands old new
stands_write old new at bytes time left grows file since f = stands_after old new (wrote at bytes) time left
    (λ h is. ap (λ (l : List ℕ). overlaid l at bytes) is ∙ ap (λ (x : Held). x.contents) (sym grows.stands))
    (λ h is within c image.
    let from = image_from h.synced h.ranges at (length bytes) c image in
    subst (λ (x : Held). ImageOf x c) (sym grows.stands)
    (image_on (held old.disk.past).synced (held old.disk.past).ranges at (length bytes) from.0 c (within from.0 from.1) from.2))
    file since f

pub stands_sync : (old new : CarriedView) → Elapses (view_of old.disk) (view_of new.disk) → new.left ≡ old.left ++ synced ∷ []
    → Grows old.disk.past new.disk.past (after (held old.disk.past) synced) → StillStands old new
stands_sync old new time left grows file since f = stands_after old new synced time left
    (λ h is. is ∙ ap (λ (x : Held). x.contents) (sym grows.stands))
    (λ h is within c image.
    subst (λ (x : Held). ImageOf x c) (sym grows.stands)
    (subst (λ (l : List ℕ). IsImage l [] c) is image))
    file since f

-- the first of those left is carried out
done_split : (file : Held) (calls : List Event) → replay (replay file (take 1 calls)) (drop 1 calls) ≡ replay file calls
done_split file [] = refl
done_split file (e ∷ calls) = refl

done_cut : (file : Held) (calls : List Event) (c : List ℕ) → CutLeaves (replay file (take 1 calls)) (drop 1 calls) c → CutLeaves file calls c
done_cut file [] c cut = cut
done_cut file (e ∷ calls) c cut = (suc cut.0, omega (arith, cut.1), cut.2)

pub stands_done : (old new : CarriedView) → Stays (view_told old) (view_told new) → new.left ≡ drop 1 old.left → (file : Held) (since : ℕ) → FileStands file since old → FileStands (replay file (take 1 old.left)) since new
stands_done old new s left file since f = record {
  past = omega (arith, f.past, s.moment);
  contents =
      s.contents ∙ f.contents
      ∙ ap (λ (h : Held). Some h.contents) (sym (done_split file old.left))
      ∙ ap (λ (l : List Event). Some (replay (replay file (take 1 old.left)) l).contents) (sym left);
  images = λ c image.
      let at_old : ImageOf (replay (replay file (take 1 old.left)) (drop 1 old.left)) c = subst (λ (l : List Event). ImageOf (replay (replay file (take 1 old.left)) l) c) left image in
      s.no_fewer c (f.images c (subst (λ (h : Held). ImageOf h c) (done_split file old.left) at_old));
  any_moment = λ c cut.
      s.no_fewer_since since c (f.any_moment c (done_cut file old.left c (subst (λ (l : List Event). CutLeaves (replay file (take 1 old.left)) l c) left cut)));
}

-- the room for calls
pub call_room_more : (unsynced : Bool) (writes room more : ℕ) → room ≤ more → HasCallRoom unsynced writes room → HasCallRoom unsynced writes more
call_room_more true writes room more le has = omega (arith, le, has)
call_room_more false writes room more le has = omega (arith, le, has)

pub call_room_made : (unsynced : Bool) (writes room : ℕ) → writes * 2 + 1 ≤ room → HasCallRoom unsynced writes room
call_room_made true writes room has = has
call_room_made false writes room has = omega (arith, has)

-- a call that leaves all that a disk in memory tells
pub stays_same : (v : View) → Stays v v
stays_same v = record {
  contents = refl;
  moment = refl;
  no_more = λ c image. image;
  no_fewer = λ c image. image;
  no_more_since = λ t c left. left;
  no_fewer_since = λ t c left. left;
  changing = refl;
  tells = refl;
}

pub told_stays : (old new : CarriedView) → Stays (view_of old.disk) (view_of new.disk) → new.changing ≡ old.changing → Stays (view_told old) (view_told new)
told_stays old new s changing = record {
  contents = s.contents;
  moment = s.moment;
  no_more = s.no_more;
  no_fewer = s.no_fewer;
  no_more_since = s.no_more_since;
  no_fewer_since = s.no_fewer_since;
  changing = changing;
  tells = s.tells;
}

pub steady_stays : (old new : MemView) (unsynced : Bool) → IsSteady old unsynced → Stays (view_of old) (view_of new) → new.plan ≡ old.plan → IsSteady new unsynced
steady_stays old new unsynced steady s plan = record {
  settled = λ e c image. s.contents ∙ steady.settled e c (s.no_more c image);
  cuts = ap (λ (p : Plan). p.cuts) plan ∙ steady.cuts;
  fails = ap (λ (p : Plan). p.fails) plan ∙ steady.fails;
  powered = ap (λ (p : Plan). p.off) plan ∙ steady.powered;
}

-- time that goes on for the disk in memory
pub told_elapses : (old new : CarriedView) → Elapses (view_of old.disk) (view_of new.disk) → Elapses (view_told old) (view_told new)
told_elapses old new time = record { later = time.later; nothing_else = time.nothing_else; keeps = time.keeps }

-- a sync does not fail where no call is to fail and the power is never cut
pub grows_sync : (old new : Past) (plan : Plan) → plan.cuts ≡ [] → plan.fails ≡ [] → Grows old new (if next_fails plan then held old else after (held old) synced) → Grows old new (after (held old) synced)
grows_sync old new plan cuts fails grows = subst (λ (b : Bool). Grows old new (if b then held old else after (held old) synced)) never grows
  where
    never : next_fails plan ≡ false
    never = rw (cuts, fails) refl
