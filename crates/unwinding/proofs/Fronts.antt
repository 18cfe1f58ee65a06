-- Fronts of lists of replies and changes: a site's share of a front is a front of its share.
use Rattle.std.proofs.Common.{◌≡◌, ℕ, zero, suc, Bool, true, false, List, [], ◌∷◌, ◌++◌, Option}
use Rattle.std.proofs.Common.{Some, None, take, length, refl, sym, ap, ◌∙◌, append_assoc}
use Rattle.std.proofs.Common.{append-nil}
use Rattle.unwinding.specs.Machine.{Machine, WorldOf}
use Rattle.unwinding.specs.World.{SiteReply, world_step, line_reply, replies, world_after}
use Rattle.unwinding.specs.World.{reply_of_site, of_site}
use Rattle.unwinding.specs.Durable.{Keeping, DurableOf, DurableChange, apply_all, line_changes}
use Rattle.unwinding.specs.Durable.{when_of_site, changes_of_site}
use Rattle.unwinding.specs.Epochs.{with_interrupted, all_changes}
use Rattle.unwinding.specs.SiteRun.{rows_of}

pub rows_append : {Site Change : Type 0} (xs ys : List (DurableChange Site Change)) → rows_of (xs ++ ys) ≡ rows_of xs ++ rows_of ys
rows_append [] ys = refl
rows_append (x ∷ xs) ys = ap (λ r. x.changes ∷ r) (rows_append xs ys)

pub take_after : {A : Type 0} (x y z : List A) → take (length (x ++ y)) (x ++ z) ≡ x ++ take (length y) z
take_after [] y z = refl
take_after (a ∷ x) y z = ap (λ r. a ∷ r) (take_after x y z)

module _ {Site Cell Cells Partition Content Rest Line Event Reply Change : Type 0}
    (m : Machine Site Cell Cells Partition Content Rest Line Event Reply Change) where
  -- a line's changes of the site are those that its machine makes
  pub changes_append : (s : Site) (xs ys : List (DurableChange Site Change)) → changes_of_site m s (xs ++ ys) ≡ changes_of_site m s xs ++ changes_of_site m s ys
  changes_append s [] ys = refl
  changes_append s (x ∷ xs) ys = ap (λ r. when_of_site m (m.same_site s x.site) x ++ r) (changes_append s xs ys) ∙ sym (append_assoc (when_of_site m (m.same_site s x.site) x) (changes_of_site m s xs) (changes_of_site m s ys))

  -- the site's share of a front is a front of its share
  pub of_site_append : (s : Site) (ts us : List (SiteReply Site Reply)) → of_site m s (ts ++ us) ≡ of_site m s ts ++ of_site m s us
  of_site_append s [] us = refl
  of_site_append s (t ∷ ts) us = ap (λ r. reply_of_site m s t.site t.reply ++ r) (of_site_append s ts us) ∙ sym (append_assoc (reply_of_site m s t.site t.reply) (of_site m s ts) (of_site m s us))

  pub front_replies : (s : Site) (n : ℕ) (ts us : List (SiteReply Site Reply)) → take (length (of_site m s (take n ts))) (of_site m s (ts ++ us)) ≡ of_site m s (take n ts)
  front_replies s zero ts us = refl
  front_replies s (suc n) [] us = refl
  front_replies s (suc n) (t ∷ ts) us =
      take_after (reply_of_site m s t.site t.reply) (of_site m s (take n ts)) (of_site m s (ts ++ us))
      ∙ ap (λ r. reply_of_site m s t.site t.reply ++ r) (front_replies s n ts us)

  pub replies_append : (w : WorldOf m) (ls ks : List Line) → replies m w (ls ++ ks) ≡ replies m w ls ++ replies m (world_after m w ls) ks
  replies_append w [] ks = refl
  replies_append w (l ∷ ls) ks = ap (λ r. line_reply m w l ∷ r) (replies_append (world_step m w l) ls ks)

  -- the replies of an epoch
  pub tried_replies : (s : Site) (w : WorldOf m) (n : ℕ) (ls : List Line) (o : Option Line) → take (length (of_site m s (take n (replies m w ls)))) (of_site m s (replies m w (with_interrupted ls o))) ≡ of_site m s (take n (replies m w ls))
  tried_replies s w n ls None = ap (λ x. take (length (of_site m s (take n (replies m w ls)))) (of_site m s x)) (sym (append-nil (replies m w ls))) ∙ front_replies s n (replies m w ls) []
  tried_replies s w n ls (Some l) = rw (replies_append w ls (l ∷ [])) (front_replies s n (replies m w ls) (line_reply m (world_after m w ls) l ∷ []))

  pub take_of_site : (s : Site) (b : Bool) (a : DurableChange Site Change) (xs ys : List (DurableChange Site Change)) → take (length (when_of_site m b a ++ xs)) (rows_of (when_of_site m b a ++ ys)) ≡ rows_of (when_of_site m b a) ++ take (length xs) (rows_of ys)
  take_of_site s true a xs ys = refl
  take_of_site s false a xs ys = refl

  pub front_changes : (s : Site) (n : ℕ) (ms : List (DurableChange Site Change)) → take (length (changes_of_site m s (take n ms))) (rows_of (changes_of_site m s ms)) ≡ rows_of (changes_of_site m s (take n ms))
  front_changes s zero ms = refl
  front_changes s (suc n) [] = refl
  front_changes s (suc n) (a ∷ ms) =
      take_of_site s (m.same_site s a.site) a (changes_of_site m s (take n ms)) (changes_of_site m s ms)
      ∙ ap (λ r. rows_of (when_of_site m (m.same_site s a.site) a) ++ r) (front_changes s n ms)
      ∙ sym (rows_append (when_of_site m (m.same_site s a.site) a) (changes_of_site m s (take n ms)))

  pub world_append : (w : WorldOf m) (ls ks : List Line) → world_after m w (ls ++ ks) ≡ world_after m (world_after m w ls) ks
  world_append w [] ks = refl
  world_append w (l ∷ ls) ks = world_append (world_step m w l) ls ks

  pub all_changes_append : (w : WorldOf m) (ls ks : List Line) → all_changes m w (ls ++ ks) ≡ all_changes m w ls ++ all_changes m (world_after m w ls) ks
  all_changes_append w [] ks = refl
  all_changes_append w (l ∷ ls) ks = ap (λ r. line_changes m w l ++ r) (all_changes_append (world_step m w l) ls ks) ∙ sym (append_assoc (line_changes m w l) _ _)

  pub length_replies : (w : WorldOf m) (ls : List Line) → length (replies m w ls) ≡ length ls
  length_replies w [] = refl
  length_replies w (l ∷ ls) = ap suc (length_replies (world_step m w l) ls)

  pub changes_one : (w : WorldOf m) (ls : List Line) (l : Line) → all_changes m w (ls ++ l ∷ []) ≡ all_changes m w ls ++ line_changes m (world_after m w ls) l
  changes_one w ls l = all_changes_append w ls (l ∷ []) ∙ ap (λ r. all_changes m w ls ++ r) (append-nil _)

module _ {Site Cell Cells Partition Content Rest Change KeptPartition KeptCell KeptCells : Type 0}
    (k : Keeping Site Cell Cells Partition Content Rest Change KeptPartition KeptCell KeptCells)
  where
    pub apply_append : (xs ys : List (DurableChange Site Change)) (d : DurableOf k) → apply_all k (xs ++ ys) d ≡ apply_all k ys (apply_all k xs d)
    apply_append [] ys d = refl
    apply_append (x ∷ xs) ys d = apply_append xs ys _
