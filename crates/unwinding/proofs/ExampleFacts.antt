-- The example has all facts.
use Rattle.std.proofs.Common.{◌≡◌, ℕ, Bool, true, false, cond, ◌&&◌, ◌||◌, Option, Some, None, refl}
use Rattle.std.proofs.Common.{sym, ap, ◌∙◌, arith, nat_eq}
use mathlib.Core.Path.{fun_ext}
use Rattle.std.proofs.lemmas.Bool.Decides.{nat_tests}
use Rattle.unwinding.specs.declared.example.Site.{Site}
use Rattle.unwinding.specs.declared.example.Site.TheVariants.{First, Second}
use Rattle.unwinding.specs.declared.example.Partition.{Partition}
use Rattle.unwinding.specs.declared.example.Note.{Note}
use Rattle.unwinding.specs.declared.example.Event.{Event}
use Rattle.unwinding.specs.declared.example.Event.TheVariants.{Save, Write, Read, Give, Take, Ring}
use Rattle.unwinding.specs.declared.example.Event.TheVariants.{Hear}
use Rattle.unwinding.specs.Machine.{World}
use Rattle.unwinding.specs.World.{consulted, outcome, after_side, after_sides}
use Rattle.unwinding.specs.World.{world_step}
use Rattle.unwinding.specs.Durable.{partition_changes, cell_changes}
use Rattle.unwinding.specs.Facts.{UnsharedFacts, IsQuiet, Facts, KeepingFacts, DurableFacts}
use Rattle.unwinding.specs.Laws.{RestartFacts, Unwound}
use Rattle.unwinding.specs.Example.{Cell, Shared, Drawer, Cells, Line, same_site, same_cell}
use Rattle.unwinding.specs.Example.{same_bool, same_note, other, is_home, is_own, note, step_of}
use Rattle.unwinding.specs.Example.{heard_of}
use Rattle.unwinding.specs.ExampleSetting.{machine, unshared_machine, keeping, IsSound, IsValid}
use Rattle.unwinding.specs.ExampleSetting.{example}
use Rattle.unwinding.specs.ExampleLaw.{ExampleUnwound}
use Rattle.unwinding.proofs.Partitions.{sides_hold, partitions_hold}

site_same : (s t : Site) → same_site s t ≡ true → s ≡ t
site_same First First e = refl
site_same First Second e = cc
site_same Second First e = cc
site_same Second Second e = refl

site_itself : (s : Site) → same_site s s ≡ true
site_itself First = refl
site_itself Second = refl

cell_same : (c d : Cell) → same_cell c d ≡ true → c ≡ d
cell_same Shared Shared e = refl
cell_same Shared (Drawer t) e = cc
cell_same (Drawer s) Shared e = cc
cell_same (Drawer s) (Drawer t) e = ap (λ u. Drawer u) (site_same s t e)

both_true : (a b : Bool) → (a && b) ≡ true → (a ≡ true) × (b ≡ true)
both_true true b e = (refl, e)
both_true false b e = cc

bool_same : (a b : Bool) → same_bool a b ≡ true → a ≡ b
bool_same true b e = sym e
bool_same false true e = cc
bool_same false false e = refl

nat_same : (a b : ℕ) → nat_eq a b ≡ true → a ≡ b
nat_same a b e = grind (arith, nat_tests)

note_same : (a b : Note) → same_note a b ≡ true → a ≡ b
note_same a b e =
    let h = both_true (nat_eq a.text b.text) _ e in
    let texts = nat_same a.text b.text h.0 in
    let reads = bool_same a.read b.read h.1 in
    λ i. record { text = texts i; read = reads i }

own_home : (s : Site) (c : Cell) → is_own s c ≡ true → is_home s c ≡ true
own_home s Shared e = cc
own_home s (Drawer t) e = e

own_alone : (s t : Site) (c : Cell) → is_own t c ≡ true → is_home s c ≡ true → same_site s t ≡ true
own_alone s t Shared e h = cc
own_alone s t (Drawer u) e h = ap (λ v. same_site s v) (site_same t u e) ∙ h

none_some : {A : Type 0} (x : A) → ◌≡◌ {A = Option A} None (Some x) → ⊥
none_some x e = cc

heard_is : (at s : Site) (d e : Event) → heard_of at s d ≡ Some e → e ≡ Hear
heard_is at s (Save v) e is = absurd (none_some e is)
heard_is at s (Write v) e is = absurd (none_some e is)
heard_is at s Read e is = absurd (none_some e is)
heard_is at s (Give v) e is = absurd (none_some e is)
heard_is at s Take e is = absurd (none_some e is)
heard_is at s Ring e is = pick (same_site s at) is
  where
    pick : (b : Bool) → cond b None (Some Hear) ≡ Some e → e ≡ Hear
    pick true h = absurd (none_some e h)
    pick false h = cc
heard_is at s Hear e is = absurd (none_some e is)

side_quiet : (w : World Site Cells Partition ℕ) (l : Line) (s : Site) (e : Event) → IsSound w → machine.side w l s ≡ Some e → IsQuiet machine w.cells (w.partition s) e
unfolding machine
side_quiet w l s e ok is = rw (heard_is l.site s l.event e is) (record { names_none = refl; sweeps_none = refl; no_reply = refl; no_changes = refl })

step_site : (p : Partition) (cells : Cells) (e : Event) → (step_of p cells e).partition.site ≡ p.site
step_site p cells (Save v) = refl
step_site p cells (Write v) = refl
step_site p cells Read = refl
step_site p cells (Give v) = refl
step_site p cells Take = refl
step_site p cells Ring = refl
step_site p cells Hear = refl

-- no event makes a partition another site's
stays_at : (s : Site) (e : Event) (p : Partition) (cells : Cells) → p.site ≡ s → (step_of p cells e).partition.site ≡ s
stays_at s e p cells of = step_site p cells e ∙ of

side_site : (w : World Site Cells Partition ℕ) (l : Line) → IsSound w → IsSound (after_sides machine w l)
unfolding machine
side_site w l = sides_hold machine site_same (λ s p. p.site ≡ s) w l (λ s e is. stays_at s e)

sound : (w : World Site Cells Partition ℕ) (l : Line) → IsSound w → IsSound (world_step machine w l)
unfolding machine
sound w l = partitions_hold machine site_same (λ s p. p.site ≡ s) w l (λ s e is. stays_at s e) (λ a is. stays_at a.site a.event)

pub facts : Facts machine IsSound
unfolding machine
facts =
    record {
      site_same = site_same;
      site_itself = site_itself;
      cell_same = cell_same;
      content_same = note_same;
      get_set = λ c d from cells. refl;
      get_restrict = λ test cells c. refl;
      get_merge = λ test new old c. refl;
      same_cells = λ x y h. fun_ext h;
      in_listed = λ cs c. refl;
      own_home = own_home;
      own_alone = own_alone;
      side_quiet = side_quiet;
      sound = sound;
    }

other_partition : (s : Site) (p : Partition) (cells : Cells) (e : Event) → same_site s p.site ≡ false → (q : ℕ) → partition_changes keeping s (step_of p cells e).changes q ≡ q
unfolding keeping
other_partition s p cells (Save v) differ q = rw differ refl
other_partition s p cells (Write v) differ q = refl
other_partition s p cells Read differ q = refl
other_partition s p cells (Give v) differ q = refl
other_partition s p cells Take differ q = refl
other_partition s p cells Ring differ q = refl
other_partition s p cells Hear differ q = refl

not_named : (b : Bool) (v x : ℕ) → (cond b true false || false) ≡ false → cond b v x ≡ x
not_named true v x e = cc
not_named false v x e = refl

other_cell : (s : Site) (p : Partition) (cells : Cells) (e : Event) (c : Cell) → consulted machine s p e c ≡ false → (x : ℕ) → cell_changes keeping c (step_of p cells e).changes x ≡ x
unfolding machine keeping
other_cell s p cells (Save v) c apart x = refl
other_cell s p cells (Write v) c apart x = not_named (same_cell c Shared) v x apart
other_cell s p cells Read c apart x = refl
other_cell s p cells (Give v) c apart x = not_named (same_cell c (Drawer (other p.site))) v x apart
other_cell s p cells Take c apart x = refl
other_cell s p cells Ring c apart x = refl
other_cell s p cells Hear c apart x = refl

named : (b : Bool) (v x : ℕ) → (cond b true false || false) ≡ true → cond b v x ≡ v
named true v x e = refl
named false v x e = cc

new_cell : (s : Site) (p : Partition) (cells : Cells) (e : Event) (c : Cell) → consulted machine s p e c ≡ true → cell_changes keeping c (outcome machine s p cells e).changes (cells c).text ≡ ((outcome machine s p cells e).cells c).text
unfolding machine keeping
new_cell s p cells (Save v) c there = cc
new_cell s p cells (Write v) c there = named (same_cell c Shared) v (cells c).text there
new_cell s p cells Read c there = ap (λ b. (cond b (cells c) (note 0 false)).text) (sym there)
new_cell s p cells (Give v) c there = named (same_cell c (Drawer (other p.site))) v (cells c).text there
new_cell s p cells Take c there = ap (λ b. (cond b (cells c) (note 0 false)).text) (sym there)
new_cell s p cells Ring c there = cc
new_cell s p cells Hear c there = cc

keeping_facts : KeepingFacts machine keeping IsSound IsValid
unfolding machine keeping
keeping_facts =
    record {
      get_again = λ x c. refl;
      get_kept_restrict = λ test x c. refl;
      get_change = λ test h x c. refl;
      other_partition = λ w l a ok is s differ q. other_partition s ((after_sides machine w l).partition a.site) _ a.event (rw (side_site w l ok a.site) differ) q;
      other_cell = λ w l a ok is c apart x. other_cell a.site ((after_sides machine w l).partition a.site) _ a.event c apart x;
      new_cell = λ w l a ok is c there. new_cell a.site ((after_sides machine w l).partition a.site) w.cells a.event c there;
      valid = λ d cs v. tt;
      opens = λ r d v s. refl;
      opened = λ d c v. refl;
    }

side_saved : (cells : Cells) (o : Option Event) (p : Partition) (at s : Site) (e : Event) → heard_of at s e ≡ o → (after_side machine cells o p).saved ≡ p.saved
unfolding machine
side_saved cells None p at s e is = refl
side_saved cells (Some d) p at s e is = rw (heard_is at s e d is) refl

new_saved : (p : Partition) (cells : Cells) (e : Event) → partition_changes keeping p.site (step_of p cells e).changes p.saved ≡ (step_of p cells e).partition.saved
unfolding keeping
new_saved p cells (Save v) = rw (site_itself p.site) refl
new_saved p cells (Write v) = refl
new_saved p cells Read = refl
new_saved p cells (Give v) = refl
new_saved p cells Take = refl
new_saved p cells Ring = refl
new_saved p cells Hear = refl

pub durable_facts : DurableFacts machine keeping IsSound IsValid
unfolding machine keeping
durable_facts =
    record {
      side_partition = λ w l s ok. side_saved w.cells (heard_of l.site s l.event) (w.partition s) l.site s l.event refl;
      new_partition = λ w l a ok is.
          let q = (after_sides machine w l).partition a.site in
          let o = outcome machine a.site q w.cells a.event in
          ap (λ t. partition_changes keeping t o.changes q.saved) (sym (side_site w l ok a.site)) ∙ new_saved q _ a.event;
      opened_partition = λ d s v. refl;
    }

pub restart_facts : RestartFacts example
unfolding example
restart_facts = record { facts = facts; keeping = keeping_facts }

pub unshared_facts : UnsharedFacts unshared_machine
unfolding machine unshared_machine
unshared_facts =
    record {
      site_same = site_same;
      site_itself = site_itself;
      names_none = λ p e. refl;
      sweeps_none = λ p e. refl;
      side_none = λ w l s. refl;
      blank_same = λ x y. refl;
    }

-- what the law says of the example
pub unwound_of : Unwound example → RestartFacts example → ExampleUnwound
unfolding example
unwound_of law owed s o es = law owed s o tt es
