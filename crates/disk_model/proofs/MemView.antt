-- What a disk in memory tells after each call.
use Rattle.std.proofs.Common.{◌≡◌, inl, inr, ◌⊎◌, ⊎_elim, ℕ, zero, suc, ◌+◌, ◌≤◌, List, [], ◌∷◌, ◌++◌, length, take, arith, refl, sym, ◌∙◌, ap, subst, length-append}
use Rattle.std.specs.Prelude.{Some}
use Rattle.std.proofs.lemmas.Grind.{same_number_lists}
use Rattle.disk_model.specs.Disk.{Written, Torn, Follows, Goes, Elapses}
use Rattle.disk_model.specs.Image.{IsImage}
use Rattle.disk_model.specs.ImageLaws.{image_from}
use Rattle.disk_model.specs.History.{Held, Event, wrote, synced, overlaid, after, replay, at_first, ImageOf, Since}
use Rattle.disk_model.specs.Laws.{contents_stay, overlaid-written, overlaid-torn}
use Rattle.disk_model.specs.History.{Past, held, IsNext, Grows}
use Rattle.disk_model.specs.MemDisk.{MemView, view_of}
use Rattle.disk_model.specs.Recovery.{Recovered}
use Rattle.disk_model.proofs.Recoveries.{recovered_image}
use Rattle.disk_model.proofs.Past.{since_push, since_keeps}

-- with nothing pending there is one image
pub image_exact : (file c : List ℕ) → IsImage file [] c → c ≡ file
image_exact file c image = same_number_lists c file (omega (arith, image.no_shorter, image.no_longer)) (λ k below. image.outside k (omega (arith, image.no_shorter, image.no_longer)) tt)

module _ (old new : Past) (h : Held) (base : ℕ) (grows : Grows old new h) where
  events_more : (t : ℕ) (file : List ℕ) → IsNext old.events new.events → t ≤ base + length old.events → Since new.first new.events base t file → Since old.first old.events base t file ⊎ ImageOf (held new) file
  events_more t file (inl more) le since =
      let at_old : Since old.first (old.events ++ more.0 ∷ []) base t file = subst (λ (l : List Event). Since old.first l base t file) more.1 (subst (λ (f : List ℕ). Since f new.events base t file) grows.first since) in
      let is_new : replay (at_first old.first) (old.events ++ more.0 ∷ []) ≡ held new =
      ap (λ (l : List Event). replay (at_first old.first) l) (sym more.1) ∙ ap (λ (f : List ℕ). replay (at_first f) new.events) (sym grows.first) in
      ⊎_elim (λ past. inl past) (λ now. inr (subst (λ (x : Held). ImageOf x file) is_new now)) (since_push old.first old.events more.0 base t file at_old)
  events_more t file (inr same) le since =
      inl (subst (λ (l : List Event). Since old.first l base t file) same.0 (subst (λ (f : List ℕ). Since f new.events base t file) grows.first since))

  events_keep : (t : ℕ) (file : List ℕ) → IsNext old.events new.events → Since old.first old.events base t file → Since new.first new.events base t file
  events_keep t file (inl more) since =
      subst (λ (f : List ℕ). Since f new.events base t file) (sym grows.first) (subst (λ (l : List Event). Since old.first l base t file) (sym more.1) (since_keeps old.first old.events more.0 base t file since))
  events_keep t file (inr same) since =
      subst (λ (f : List ℕ). Since f new.events base t file) (sym grows.first) (subst (λ (l : List Event). Since old.first l base t file) (sym same.0) since)

  longer : IsNext old.events new.events → length old.events ≤ length new.events
  longer (inl more) = omega (arith, ap length more.1, length-append old.events (more.0 ∷ []))
  longer (inr same) = omega (arith, ap length same.0)

-- time goes on by one event, or by none
pub elapses : (old new : MemView) (h : Held) → Grows old.past new.past h → new.base ≡ old.base → Elapses (view_of old) (view_of new)
elapses old new h grows is_base = record {
  later = omega (arith, longer old.past new.past h old.base grows grows.events);
  nothing_else = λ t file le since. events_more old.past new.past h old.base grows t file grows.events le (subst (λ (b : ℕ). Since new.past.first new.past.events b t file) is_base since);
  keeps = λ t file le since. subst (λ (b : ℕ). Since new.past.first new.past.events b t file) (sym is_base) (events_keep old.past new.past h old.base grows t file grows.events since);
}

-- after a write
module _ (old new : Past) (at : ℕ) (bytes : List ℕ) (grows : Grows old new (after (held old) (wrote at bytes))) where
  is_contents : (held new).contents ≡ overlaid (held old).contents at bytes
  is_contents = ap (λ (x : Held). x.contents) grows.stands

  pub told : at ≤ length (held old).contents → Goes (Written at bytes) (Some (held old).contents) (Some (held new).contents)
  told le = ((held new).contents, refl, subst (λ (l : List ℕ). Written at bytes (held old).contents l) (sym is_contents) (overlaid-written (held old).contents at bytes le))

  pub told_torn : Goes (Torn at (length bytes)) (Some (held old).contents) (Some (held new).contents)
  told_torn = ((held new).contents, refl, subst (λ (l : List ℕ). Torn at (length bytes) (held old).contents l) (sym is_contents) (overlaid-torn (held old).contents at bytes))

  pub follows : Follows (Torn at (length bytes)) (ImageOf (held old)) (ImageOf (held new))
  follows c image = image_from (held old).synced (held old).ranges at (length bytes) c (subst (λ (x : Held). ImageOf x c) grows.stands image)

-- after a sync
module _ (old new : Past) (grows : Grows old new (after (held old) synced)) where
  only : (c : List ℕ) → ImageOf (held new) c → c ≡ (held old).contents
  only c image = image_exact (held old).contents c (subst (λ (x : Held). ImageOf x c) grows.stands image)

  pub sync_images : (c : List ℕ) → ImageOf (held new) c → ImageOf (held old) c
  sync_images c image = subst (λ (l : List ℕ). ImageOf (held old) l) (sym (only c image)) (contents_stay old.first old.events)

  pub sync_settled : (c : List ℕ) → ImageOf (held new) c → Some (held new).contents ≡ Some c
  sync_settled c image =
      let same : (held new).contents ≡ c = ap (λ (x : Held). x.contents) grows.stands ∙ sym (only c image) in
      ap (λ (l : List ℕ). Some l) same

-- after a restart
pub anew : (new : Past) (base t : ℕ) (c : List ℕ) → new.events ≡ [] → Since new.first new.events base t c → Some (held new).contents ≡ Some c
anew new base t c none since =
    let at_none : Since new.first [] base t c = subst (λ (l : List Event). Since new.first l base t c) none since in
    let is_first : (held new).contents ≡ new.first = ap (λ (l : List Event). (replay (at_first new.first) l).contents) none in
    let same : (held new).contents ≡ c = is_first ∙ sym (image_exact new.first c (first_only at_none.0 at_none.3)) in
    ap (λ (l : List ℕ). Some l) same
  where
    first_only : (k : ℕ) → ImageOf (replay (at_first new.first) (take k [])) c → IsImage new.first [] c
    first_only zero image = image
    first_only (suc k) image = image

-- with nothing recorded, nothing is pending
pub settled_anew : (new : Past) (c : List ℕ) → new.events ≡ [] → ImageOf (held new) c → Some (held new).contents ≡ Some c
settled_anew new c none image =
    let at_none : ImageOf (at_first new.first) c = subst (λ (l : List Event). ImageOf (replay (at_first new.first) l) c) none image in
    let is_first : (held new).contents ≡ new.first = ap (λ (l : List Event). (replay (at_first new.first) l).contents) none in
    let same : (held new).contents ≡ c = is_first ∙ sym (image_exact new.first c at_none) in
    ap (λ (l : List ℕ). Some l) same

-- what a call of the bytes did, said of the past that the disk shows
pub grows_at : (inside shown new : Past) (h : Past → Held) → inside ≡ shown → Grows inside new (h inside) → Grows shown new (h shown)
grows_at inside shown new h is grows = subst (λ (p : Past). Grows p new (h p)) is grows

-- after a restart the contents are the image that it left
pub restarted : (old new : Past) (pick : ℕ) → new.events ≡ [] → Recovered pick (held old) new.first → Goes (λ _ d. ImageOf (held old) d) (Some (held old).contents) (Some (held new).contents)
restarted old new pick none is =
    let is_first : new.first ≡ (held new).contents = sym (ap (λ (l : List Event). (replay (at_first new.first) l).contents) none) in
    ((held new).contents, refl, subst (λ (l : List ℕ). ImageOf (held old) l) is_first (recovered_image pick (held old) new.first (contents_stay old.first old.events) is))
