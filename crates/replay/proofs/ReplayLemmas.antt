-- What a run of a script leaves and answers, from what its parts do.
use Rattle.std.proofs.Common.{◌≡◌, ℕ, true, false, List, Option, Some, None, subst, ◌∙◌}
use Rattle.agent_base.specs.declared.sink.Sink.{Ghosts as SinkTells}
use Rattle.agent_base.specs.declared.source.Source.{Ghosts as SourceTells}
use Rattle.hosts.specs.declared.host.Host.{Ghosts as HostTells}
use Rattle.suffix_list.specs.ListText.{RuleList}
use Rattle.command_line.specs.Words.{Replay}
use Rattle.script_lines.specs.Grammar.{script_of_bytes}
use Rattle.hosts.specs.Hosts.{LeavesOthers, LeavesStores}
use Rattle.replay.specs.BeforeAfter.{BeforeAfter, from_to}
use Rattle.replay.specs.Causes.{ReadCounts, ReadsNoScript, ScriptCauseOf, WriteCounts}
use Rattle.replay.specs.Endings.{ScriptCanEnd}
use Rattle.replay.specs.Commands.{IsAfterList, LeavesStoreClosed, Obeys, StoreCounts, told_of}
use Rattle.replay.specs.Readings.{IsListOf, ScriptCounts, StoreReadCause}
use Rattle.replay.specs.Runs.{RanInMemory, ScriptRead, TakesNone, Written}
use Rattle.replay.specs.Stores.{LeftAlone, RanStored}
use Rattle.replay.specs.declared.status.Status.{Status}
use Rattle.replay.specs.declared.status.Status.TheVariants.{Done, Usage, Script, List as ListStatus, Store, Read, InUse, Write, Device, Memory}
use Rattle.replay.proofs.CauseLemmas.{alone_before, later_list, list_fine, lists_before, never_failed, others_before, read_cause, replay_device, script_read_cause, script_read_counts, stored_before, writes_under}
use Rattle.replay.proofs.CommandLemmas.{IsNotUsage, no_usage}
use Rattle.replay.proofs.StatusLemmas.{written_weaker}

-- a status after the list is not `Usage`
later_usage : (status : Status) → IsAfterList status → IsNotUsage status
later_usage Done later = tt
later_usage Usage later = later
later_usage (Script why) later = tt
later_usage (ListStatus why) later = tt
later_usage (Store why) later = tt
later_usage Read later = tt
later_usage InUse later = tt
later_usage Write later = tt
later_usage Device later = tt
later_usage Memory later = tt

-- and the script was read
later_script : (list : List ℕ) (store : Option (List ℕ)) (batch checkpoint start : ℕ) (status : Status) → IsAfterList status → ReadsNoScript (Some (Replay list store batch checkpoint start)) status → ⊥
later_script list store batch checkpoint start Done later is = is
later_script list store batch checkpoint start Usage later is = is
later_script list store batch checkpoint start (Script why) later is = is
later_script list store batch checkpoint start (ListStatus why) later is = later
later_script list store batch checkpoint start (Store why) later is = is
later_script list store batch checkpoint start Read later is = is
later_script list store batch checkpoint start InUse later is = is
later_script list store batch checkpoint start Write later is = is
later_script list store batch checkpoint start Device later is = is
later_script list store batch checkpoint start Memory later is = is

module _ {Hosts Lists Stores Scripts Outs : Type 0} (H : HostTells Hosts Lists Stores) (I : SourceTells Scripts) (O : SinkTells Outs) (path : List ℕ) (start batch checkpoint : ℕ) (status : Status) (old mid : Hosts)
    (script : BeforeAfter Scripts) (out : BeforeAfter Outs) (list : RuleList) (read : IsListOf (H.lists old path) list) (stores : LeavesStores (H.stores old) (H.stores mid)) (still : H.faults mid ≡ H.faults old) (none : H.store_faults mid ≡ H.store_faults old)
    (closed : H.lists_out mid ≡ H.lists_out old) (lists : LeavesOthers path (H.lists old) (H.lists mid)) (reads : H.reads mid ≡ H.reads old) where
  -- the script ran over a new store in memory, and the host was left as it was when the list was read
  pub obeys_new : H.store_out mid ≡ None
      → Written status (TakesNone (told_of O.taken out)) (λ e. (read : ScriptRead true (told_of I.left script)) × RanInMemory start batch checkpoint (told_of O.taken out) e list read.script)
      → ScriptCanEnd None status → IsAfterList status → ScriptCauseOf (script_of_bytes true) status (I.left script.before) → ScriptCounts status (told_of I.faults script) → WriteCounts status (told_of O.faults out)
      → Obeys H I O (Some (Replay path None batch checkpoint start)) status (from_to old mid) script out
  obeys_new store_closed text ends later cause script_counts write =
      let told = H.lists old path in
      let taken = told_of O.taken out in
      let fine = list_fine told list read in
      record {
        text = writes_under status true told (told_of I.left script) (TakesNone taken) list (RanInMemory start batch checkpoint taken) read text;
        usage = no_usage status (later_usage status later);
        no_command = λ never. absurd never;
        ends = ends;
        refused = cause;
        list = later_list status told later fine;
        read = script_read_counts status (told_of H.faults (from_to old mid)) (told_of H.store_faults (from_to old mid)) (told_of I.faults script) still none script_counts (λ is. subst (ScriptCanEnd None) is ends);
        read_told = script_read_cause (Some (Replay path None batch checkpoint start)) told (I.left script.before) (told_of H.faults (from_to old mid)) (told_of H.reads (from_to old mid)) (told_of I.faults script) status fine script_counts;
        device = tt;
        write = write;
        untouched = λ never. absurd never;
        unread = λ is. absurd (later_script path None batch checkpoint start status later is);
        list_failed = never_failed (told_of H.reads (from_to old mid)) reads;
        lists = lists;
        closed = closed;
        store_closed = store_closed;
        others = stores;
      }

  -- the script ran over the store of a path
  pub obeys_stored : (new : Hosts) (store : List ℕ) → H.tells_stores mid ≡ H.tells_stores old → LeavesStoreClosed H store (from_to mid new)
      → Written status (LeftAlone (told_of O.taken out) (H.stores mid store) (H.stores new store)) (λ e. (read : ScriptRead false (told_of I.left script))
      × RanStored start batch checkpoint (told_of O.taken out) (told_of H.store_faults (from_to mid new)) (H.tells_stores mid) (H.stores mid store) (H.stores new store) e list read.script)
      → ScriptCanEnd (Some store) status → IsAfterList status → ScriptCauseOf (script_of_bytes false) status (I.left script.before)
      → StoreReadCause status (I.left script.before) (told_of H.faults (from_to mid new)) (told_of I.faults script)
      → ReadCounts status (told_of H.faults (from_to mid new)) (told_of H.store_faults (from_to mid new)) (told_of I.faults script)
      → StoreCounts status (told_of H.store_faults (from_to mid new)) → WriteCounts status (told_of O.faults out)
      → Obeys H I O (Some (Replay path (Some store) batch checkpoint start)) status (from_to old new) script out
  obeys_stored new store is host_left text ends later cause unread read_counts device write =
      let told = H.lists old path in
      let left = told_of I.left script in
      let taken = told_of O.taken out in
      let faults = told_of I.faults script in
      let host = told_of H.faults (from_to old new) in
      let counts = told_of H.store_faults (from_to old new) in
      let fine = list_fine told list read in
      let counted : ReadCounts status host counts faults =
      subst (λ n. ReadCounts status (from_to n (H.faults new)) counts faults) still (subst (λ n. ReadCounts status (told_of H.faults (from_to mid new)) (from_to n (H.store_faults new)) faults) none read_counts) in
      record {
        text = writes_under status false told left (LeftAlone taken (H.stores old store) (H.stores new store)) list
            (RanStored start batch checkpoint taken counts (H.tells_stores old) (H.stores old store) (H.stores new store)) read
            (written_weaker status (LeftAlone taken (H.stores mid store) (H.stores new store)) (LeftAlone taken (H.stores old store) (H.stores new store)) (λ e. (read : ScriptRead false left) × RanStored start batch checkpoint taken (told_of H.store_faults (from_to mid new)) (H.tells_stores mid) (H.stores mid store) (H.stores new store) e list read.script)
            (λ e. (read : ScriptRead false left) × RanStored start batch checkpoint taken counts (H.tells_stores old) (H.stores old store) (H.stores new store) e list read.script)
            (alone_before taken (H.stores old store) (H.stores mid store) (H.stores new store) (stores store))
            (λ e ran. (
              ran.0,
              subst (λ n. RanStored start batch checkpoint taken (from_to n (H.store_faults new)) (H.tells_stores old) (H.stores old store) (H.stores new store) e list ran.0.script) none
                  (stored_before start batch checkpoint taken (told_of H.store_faults (from_to mid new)) (H.stores old store) (H.stores mid store) (H.stores new store) (stores store) (H.tells_stores old) (H.tells_stores mid) is e list ran.0.script ran.1),
            )) text);
        usage = no_usage status (later_usage status later);
        no_command = λ never. absurd never;
        ends = ends;
        refused = cause;
        list = later_list status told later fine;
        read = counted;
        read_told = read_cause (Some (Replay path (Some store) batch checkpoint start)) told (I.left script.before) host (told_of H.reads (from_to old new)) faults status fine
            (λ reads. subst (λ s. StoreReadCause s (I.left script.before) host faults) reads
            (subst (λ n. StoreReadCause status (I.left script.before) (from_to n (H.faults new)) faults) still unread));
        device = replay_device path store batch checkpoint start counts status (subst (λ n. StoreCounts status (from_to n (H.store_faults new))) none device);
        write = write;
        untouched = λ never. absurd never;
        unread = λ is. absurd (later_script path (Some store) batch checkpoint start status later is);
        list_failed = never_failed (told_of H.reads (from_to old new)) (host_left.reads ∙ reads);
        lists = lists_before path (H.lists old) (H.lists mid) (H.lists new) lists host_left.lists;
        closed = host_left.lists_out ∙ closed;
        store_closed = host_left.store_out;
        others = others_before store (H.stores old) (H.stores mid) (H.stores new) stores host_left.others;
      }
