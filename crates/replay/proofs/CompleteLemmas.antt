-- A suitable command comes to its end where nothing fails, but for want of memory.
use Rattle.std.proofs.Common.{◌≡◌, ◌⊎◌, ⊎_elim, ℕ, Bool, true, false, List, [], Option, Some, None, inl, inr, refl, sym, ap, subst, ◌∙◌}
use Rattle.std.specs.Prelude.{⊤, IfSome, IsOk, MatchResult, Result, Ok, Err, option_and_then, unwrap_or}
use Rattle.std.proofs.lemmas.Bool.{false≢true}
use Rattle.std.specs.Result.{result_err, result_unwrap_or}
use Rattle.agent_base.specs.Counts.{Rose}
use Rattle.agent_base.specs.declared.sink.Sink.{Ghosts as SinkTells}
use Rattle.agent_base.specs.declared.source.Source.{Ghosts as SourceTells}
use Rattle.journal.specs.Opening.{IsExcused, IsWithin}
use Rattle.journal.specs.declared.open_fault.OpenFault.{OpenFault}
use Rattle.journal.proofs.Refusals.{store_right, unborn_right}
use Rattle.suffix_list.specs.ListText.{RuleList, list_of}
use Rattle.suffix_list.specs.declared.fault.ListFault.{ListFault}
use Rattle.origin_site.specs.Site.{site_of_text}
use Rattle.script_lines.specs.Grammar.{script_of_bytes}
use Rattle.script_lines.specs.Script.{PlainFault, PlainScript}
use Rattle.script_lines.specs.TwoScripts.{two_of_bytes}
use Rattle.script_lines.specs.Plain.{fault_of}
use Rattle.script_lines.specs.declared.script.ScriptFault.{ScriptFault}
use Rattle.durable_model.specs.Saved.{Saved, nothing_saved}
use Rattle.row_opening.specs.Under.{MeansUnder}
use Rattle.row_store.specs.Bodies.{Counted, Refuses, Takes}
use Rattle.hosts.specs.declared.host.Host.{Ghosts as HostTells}
use Rattle.command_line.specs.Words.{PlainCommand, Help, Replay, Twin, Dump, Selftest}
use Rattle.disk_model.specs.declared.schedule.Cut.{Cut}
use Rattle.store_runs.specs.Disks.{CutsOpening, WritesInMemory}
use Rattle.store_runs.specs.Endings.{ending_of}
use Rattle.store_runs.specs.declared.ending.Ending.{Ending}
use Rattle.store_runs.specs.declared.ending.Ending.TheVariants as ending
use Rattle.replay.specs.BeforeAfter.{BeforeAfter}
use Rattle.replay.specs.Causes.{DeviceCounts, GrammarOf, ListCause, ReadCounts, ScriptCauseOf, ScriptFaulty, WriteCounts}
use Rattle.replay.specs.Commands.{Obeys, told_of}
use Rattle.replay.specs.Complete.{AreStores, IsSuitable, ListIs, NothingFailed, ScriptIs}
use Rattle.replay.specs.Dumps.{DumpedStore, Dumps}
use Rattle.replay.specs.Endings.{CanEnd}
use Rattle.replay.specs.Openings.{Images, IsExcusedEnding, IsRefused, Unopened}
use Rattle.replay.specs.Runs.{ListRead, ScriptRead}
use Rattle.replay.specs.Stores.{RanOverStore, Replays}
use Rattle.replay.specs.Words.{IsNoSite, IsSite, list_named}
use Rattle.replay.specs.declared.status.Status.{Status}
use Rattle.replay.specs.declared.status.Status.TheVariants.{Done, Usage, Script, List as ListStatus, Store, Read, InUse, Write, Device, Memory}
use Rattle.replay.proofs.DumpLemmas.{excused_ending}
use Rattle.replay.proofs.ScriptLemmas.{list_is}
use Rattle.replay.proofs.TextLemmas.{of_dump, of_replay}

-- ---- a file that stands for a state is not refused

means_right : (list : RuleList) (file kept : List ℕ) (d : Saved) (n : ℕ) (why : OpenFault) → IsWithin true file
    → MeansUnder list.digest kept file d n → IsRefused file why → IsExcused why
means_right list file kept d n why within (inl (frames, store, runs)) refused =
    store_right Takes Refuses nothing_saved
    (λ s kind body t u m n one two. ap (λ (r : Result Counted ℕ). (result_unwrap_or r (t, m)).0) (sym one ∙ two))
    (λ s kind body t u m n one two. ap (λ (r : Result Counted ℕ). (result_unwrap_or r (t, m)).1) (sym one ∙ two))
    (λ s kind body o p one two. ap (λ (r : Result Counted ℕ). unwrap_or (result_err r) o) (sym one ∙ two))
    (λ s kind body t n o took wrong. subst (λ (r : Result Counted ℕ). MatchResult r (λ _. ⊤) (λ _. ⊥)) (sym took ∙ wrong) tt)
    true kept file frames d n why within store runs refused
means_right list file kept d n why within (inr (unborn, own, same, count)) refused =
    unborn_right Takes Refuses nothing_saved
    (λ s kind body t u m n one two. ap (λ (r : Result Counted ℕ). (result_unwrap_or r (t, m)).0) (sym one ∙ two))
    (λ s kind body t u m n one two. ap (λ (r : Result Counted ℕ). (result_unwrap_or r (t, m)).1) (sym one ∙ two))
    (λ s kind body o p one two. ap (λ (r : Result Counted ℕ). unwrap_or (result_err r) o) (sym one ∙ two))
    (λ s kind body t n o took wrong. subst (λ (r : Result Counted ℕ). MatchResult r (λ _. ⊤) (λ _. ⊥)) (sym took ∙ wrong) tt)
    true file why within unborn refused

not_excused : (why : OpenFault) → IsExcusedEnding (ending.Store why) → ⊥
not_excused why (inl wrong) = cc
not_excused why (inr wrong) = cc

-- so it is opened
sound_opens : (list : RuleList) (file : List ℕ) (images after : Images) (taken : BeforeAfter (Option (List ℕ))) (why : OpenFault)
    → AreStores images list → images file → Unopened list file (ending.Store why) taken after → ⊥
sound_opens list file images after taken why sound found unopened =
    let is = sound file found in
    not_excused why (subst IsExcusedEnding (sym unopened.ends)
    (excused_ending unopened.why (means_right list file is.1.0 is.1.1 is.1.2 unopened.why is.0 is.1.3 unopened.cause)))

-- ---- what was read is what was told

never_ok : {A B : Type 0} (r : Result A B) (x : A) (e : B) → r ≡ Ok x → r ≡ Err e → ⊥
never_ok r x e ok err = differ (sym ok ∙ err)
  where
    differ : Ok x ≡ Err e → ⊥
    differ wrong = cc

ok_inside : {A B : Type 0} (x y : A) → ◌≡◌ {A = Result A B} (Ok x) (Ok y) → x ≡ y
ok_inside x y e = cc

same_value : {A B : Type 0} (r s : Result A B) (x y : A) → r ≡ s → r ≡ Ok x → s ≡ Ok y → x ≡ y
same_value r s x y same one two = ok_inside x y (sym one ∙ same ∙ two)

same_bytes : (a b : List ℕ) → Some a ≡ Some b → a ≡ b
same_bytes a b e = cc

-- the list
list_under : (told : Option (List ℕ)) (Holds : RuleList → Type 0) → ListIs told Holds → (read : ListRead told) → Holds read.list
list_under None Holds is read = absurd is
list_under (Some bytes) Holds (list, grammar, holds) read =
    subst Holds (same_value (list_of bytes) (list_of read.bytes) list read.list
    (ap list_of (sym (same_bytes read.bytes bytes read.given))) grammar read.grammar) holds

never_list : (told : Option (List ℕ)) (Holds : RuleList → Type 0) (why : ListFault) → ListIs told Holds
    → IfSome told (λ bytes. list_of bytes ≡ Err why) → ⊥
never_list None Holds why is wrong = is
never_list (Some bytes) Holds why (list, grammar, holds) wrong = never_ok (list_of bytes) list why grammar wrong

-- the script
never_script : {Scripts : Type 0} (grammar : GrammarOf Scripts) (told : Option (List ℕ)) (Holds : Scripts → Type 0) (why : PlainFault)
    → ScriptIs grammar told Holds → ScriptFaulty grammar told why → ⊥
never_script grammar None Holds why is wrong = is
never_script grammar (Some bytes) Holds why (script, fine, holds) wrong = never_ok (grammar bytes) script why fine wrong

script_under : (allowed : Bool) (told after : Option (List ℕ)) (Holds : PlainScript → Type 0) → ScriptIs (script_of_bytes allowed) told Holds
    → (read : ScriptRead allowed (record { before = told; after = after })) → Holds read.script
script_under allowed None after Holds is read = absurd is
script_under allowed (Some bytes) after Holds (script, fine, holds) read =
    subst Holds (same_value (script_of_bytes allowed bytes) (script_of_bytes allowed read.bytes) script read.script
    (ap (script_of_bytes allowed) (sym (same_bytes read.bytes bytes
    (list_is (Some bytes) (Some bytes) after read.bytes refl read.given read.ended)))) fine read.grammar) holds

-- a run in memory without cuts meets no device fault
no_device : (rules : _) (start batch checkpoint : ℕ) (cuts : List Cut) (steps : List _) (before after : Option (List ℕ)) → cuts ≡ []
    → WritesInMemory ending.Device rules start batch checkpoint cuts steps before after → ⊥
no_device rules start batch checkpoint cuts steps before after none (inl refused) = subst CutsOpening none refused.0
no_device rules start batch checkpoint cuts steps before after none (inr ran) = ran.1.2 none

-- ---- a status

by_status : (status : Status) → (status ≡ Usage → ⊥) → ((why : ScriptFault) → status ≡ Script why → ⊥)
    → ((why : ListFault) → status ≡ ListStatus why → ⊥) → ((why : OpenFault) → status ≡ Store why → ⊥) → (status ≡ Read → ⊥)
    → (status ≡ InUse → ⊥) → (status ≡ Write → ⊥) → (status ≡ Device → ⊥) → (status ≡ Done) ⊎ (status ≡ Memory)
by_status Done usage script list store read used write device = inl refl
by_status Usage usage script list store read used write device = absurd (usage refl)
by_status (Script why) usage script list store read used write device = absurd (script why refl)
by_status (ListStatus why) usage script list store read used write device = absurd (list why refl)
by_status (Store why) usage script list store read used write device = absurd (store why refl)
by_status Read usage script list store read used write device = absurd (read refl)
by_status InUse usage script list store read used write device = absurd (used refl)
by_status Write usage script list store read used write device = absurd (write refl)
by_status Device usage script list store read used write device = absurd (device refl)
by_status Memory usage script list store read used write device = inr refl

-- ---- a command

module _ {Hosts Lists Stores Scripts Outs : Type 0} (H : HostTells Hosts Lists Stores) (I : SourceTells Scripts) (O : SinkTells Outs)
    (status : Status) (host : BeforeAfter Hosts) (script : BeforeAfter Scripts) (out : BeforeAfter Outs)
    (none : NothingFailed (told_of H.faults host) (told_of H.store_faults host) (told_of I.faults script) (told_of O.faults out)) where
  module _ (command : Option PlainCommand) (obeys : Obeys H I O command status host script out) where
    no_write : status ≡ Write → ⊥
    no_write is = none.by_output (subst (λ s. WriteCounts s (told_of O.faults out)) is obeys.write)

    no_read : status ≡ Read → ⊥
    no_read is = ⊎_elim none.by_host none.by_script
        (subst (λ s. ReadCounts s (told_of H.faults host) (told_of H.store_faults host) (told_of I.faults script)) is obeys.read).1

    no_use : status ≡ InUse → ⊥
    no_use is = none.by_host
        (subst (λ s. ReadCounts s (told_of H.faults host) (told_of H.store_faults host) (told_of I.faults script)) is obeys.read).1

    no_list : (Holds : RuleList → Type 0) (why : ListFault) → ListIs (option_and_then (H.lists host.before) (list_named command)) Holds
        → status ≡ ListStatus why → ⊥
    no_list Holds why list is = never_list (option_and_then (H.lists host.before) (list_named command)) Holds why list
        (subst (λ s. ListCause s (option_and_then (H.lists host.before) (list_named command))) is obeys.list)

    ended : (s : Status) → status ≡ s → CanEnd command s
    ended s is = subst (CanEnd command) is obeys.ends

  pub completes : (command : Option PlainCommand) → Obeys H I O command status host script out
      → IsSuitable command (H.lists host.before) (H.tells_stores host.before) (H.stores host.before) (I.left script.before)
      → (status ≡ Done) ⊎ (status ≡ Memory)
  completes None obeys suitable = absurd suitable
  completes (Some Help) obeys suitable = by_status status
      (λ is. ended (Some Help) obeys Usage is) (λ why is. ended (Some Help) obeys (Script why) is)
      (λ why is. ended (Some Help) obeys (ListStatus why) is) (λ why is. ended (Some Help) obeys (Store why) is)
      (no_read (Some Help) obeys) (no_use (Some Help) obeys) (no_write (Some Help) obeys) (λ is. ended (Some Help) obeys Device is)
  completes (Some (Selftest seed)) obeys suitable = by_status status
      (λ is. ended (Some (Selftest seed)) obeys Usage is) (λ why is. ended (Some (Selftest seed)) obeys (Script why) is)
      (λ why is. ended (Some (Selftest seed)) obeys (ListStatus why) is) (λ why is. ended (Some (Selftest seed)) obeys (Store why) is)
      (no_read (Some (Selftest seed)) obeys) (no_use (Some (Selftest seed)) obeys) (no_write (Some (Selftest seed)) obeys) (λ is. ended (Some (Selftest seed)) obeys Device is)
  completes (Some (Twin site list batch checkpoint start)) obeys suitable =
      let command = Some (Twin site list batch checkpoint start) in
      by_status status
      (λ is. site_or_none site suitable.0 (ended command obeys Usage is))
      (λ why is. never_script two_of_bytes (I.left script.before) _ (fault_of why) suitable.2
      (subst (λ s. ScriptCauseOf two_of_bytes s (I.left script.before)) is obeys.refused))
      (λ why is. no_list command obeys _ why suitable.1 is)
      (λ why is. ended command obeys (Store why) is)
      (no_read command obeys) (no_use command obeys) (no_write command obeys) (λ is. ended command obeys Device is)
    where
      site_or_none : (site : List ℕ) → IsSite site → IsNoSite site → ⊥
      site_or_none site ok err = false≢true (subst IsOk err ok)
  completes (Some (Replay list None batch checkpoint start)) obeys suitable =
      let command = Some (Replay list None batch checkpoint start) in
      by_status status
      (λ is. ended command obeys Usage is)
      (λ why is. never_script (script_of_bytes true) (I.left script.before) _ (fault_of why) suitable.1
      (subst (λ s. ScriptCauseOf (script_of_bytes true) s (I.left script.before)) is obeys.refused))
      (λ why is. no_list command obeys _ why suitable.0 is)
      (λ why is. ended command obeys (Store why) is)
      (no_read command obeys) (no_use command obeys) (no_write command obeys)
      (λ is.
      let ran = subst (λ s. Replays command s (H.lists host.before) (H.tells_stores host.before) (H.stores host.before)
      (H.stores host.after) (told_of H.store_faults host) (told_of I.left script) (told_of O.taken out)) is obeys.text in
      no_device ran.0.list.rules start batch checkpoint ran.1.0.script.cuts _ (O.taken out.before) (O.taken out.after)
      (script_under true (I.left script.before) (I.left script.after) (λ read. read.cuts ≡ []) suitable.1 ran.1.0) ran.1.1)
  completes (Some (Replay list (Some store) batch checkpoint start)) obeys suitable =
      let command = Some (Replay list (Some store) batch checkpoint start) in
      by_status status
      (λ is. ended command obeys Usage is)
      (λ why is. never_script (script_of_bytes false) (I.left script.before) _ (fault_of why) suitable.2
      (subst (λ s. ScriptCauseOf (script_of_bytes false) s (I.left script.before)) is obeys.refused))
      (λ why is. no_list command obeys _ why suitable.1 is)
      (λ why is.
      let ran = subst (λ s. Replays command s (H.lists host.before) (H.tells_stores host.before) (H.stores host.before)
      (H.stores host.after) (told_of H.store_faults host) (told_of I.left script) (told_of O.taken out)) is obeys.text in
      let over = ran.1.1.0 suitable.0 in
      let sound = list_under (H.lists host.before list) (AreStores (H.stores host.before store)) suitable.1 ran.0 in
      ⊎_elim
      (λ unopened. sound_opens ran.0.list over.file (H.stores host.before store) (H.stores host.after store) (told_of O.taken out) why
      sound over.found unopened)
      (λ wrote. wrote.2) over.wrote)
      (no_read command obeys) (no_use command obeys) (no_write command obeys)
      (λ is. none.by_store (subst (λ s. DeviceCounts command s (told_of H.store_faults host)) is obeys.device))
  completes (Some (Dump list store)) obeys suitable =
      let command = Some (Dump list store) in
      by_status status
      (λ is. ended command obeys Usage is) (λ why is. ended command obeys (Script why) is)
      (λ why is. no_list command obeys _ why suitable.1 is)
      (λ why is.
      let ran = subst (λ s. Dumps command s (H.lists host.before) (H.tells_stores host.before) (H.stores host.before)
      (H.stores host.after) (told_of O.taken out)) is obeys.text in
      let dumped = ran.1.0 suitable.0 in
      let sound = list_under (H.lists host.before list) (AreStores (H.stores host.before store)) suitable.1 ran.0 dumped.file dumped.found in
      ⊎_elim (λ wrong. wrong) (not_excused why) (dumped.rows sound.1.0 sound.1.1 sound.1.2 sound.0 sound.1.3))
      (no_read command obeys) (no_use command obeys) (no_write command obeys)
      (λ is. none.by_store (subst (λ s. DeviceCounts command s (told_of H.store_faults host)) is obeys.device))
