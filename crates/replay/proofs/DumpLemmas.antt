-- What a dump makes of the store of a path, and leaves and answers.
use Rattle.std.proofs.Common.{◌≡◌, ◌⊎◌, ℕ, true, List, [], Option, Some, refl, ap, subst, inl, inr, ⊎_elim, ◌∙◌, arith}
use Rattle.std.specs.Prelude.{IfErr, IsErrOf, MatchResult, Ok, Err, Result}
use Rattle.agent_base.specs.Streams.{Takes}
use Rattle.agent_base.specs.declared.sink.Sink.{Ghosts as SinkTells}
use Rattle.agent_base.specs.declared.source.Source.{Ghosts as SourceTells}
use Rattle.hosts.specs.declared.host.Host.{Ghosts as HostTells}
use Rattle.disk_model.specs.Disk.{IsSettled, LeavesOnly, View}
use Rattle.disk_model.specs.DiskLaws.{IsLawful}
use Rattle.journal.specs.Opening.{HasNoFault, IsExcused, IsLimitRefusal, IsOfFile, IsWithin, Opens}
use Rattle.journal.specs.declared.open_fault.OpenFault.{OpenFault}
use Rattle.journal.specs.declared.open_fault.OpenFault.TheVariants as fault
use Rattle.suffix_list.specs.ListText.{RuleList}
use Rattle.command_line.specs.Words.{Dump}
use Rattle.durable_model.specs.Migrate.{IsUnder, migrate}
use Rattle.durable_model.specs.Saved.{IsValid, Saved}
use Rattle.hosts.specs.Hosts.{LeavesOthers, LeavesStores, SameImages, raised}
use Rattle.row_opening.specs.Under.{IsOpeningUnder, MeansUnder}
use Rattle.spelled_model.specs.Rows.{IsReadSavedUnder}
use Rattle.store_dumps.specs.Dump.{StandsAsTold, Writes, WritesSome, dump_text}
use Rattle.store_dumps.specs.Opening.{OpensStore, opening_of}
use Rattle.store_dumps.specs.declared.fault.DumpFault.{DumpFault}
use Rattle.store_dumps.specs.declared.fault.DumpFault.TheVariants.{Open, Write, NoMemory}
use Rattle.store_runs.specs.Endings.{IsLimitEnding, ending_of}
use Rattle.store_runs.specs.declared.ending.Ending.{Ending}
use Rattle.store_runs.specs.declared.ending.Ending.TheVariants as ending
use Rattle.store_runs.proofs.EndLemmas.{limit_ends}
use Rattle.replay.specs.BeforeAfter.{BeforeAfter, from_to}
use Rattle.replay.specs.Causes.{DumpCounts, ReadCounts, WriteCounts}
use Rattle.replay.specs.Endings.{DumpCanEnd}
use Rattle.replay.specs.Commands.{HasRun, HostCounts, IsAfterList, LeavesStoreClosed, Obeys, dump_ending, status_of, told_of}
use Rattle.replay.specs.Readings.{IsListOf}
use Rattle.replay.specs.Runs.{ListRead, Written}
use Rattle.replay.specs.Openings.{Images, IsExcusedEnding, LeavesOpening, Unopened}
use Rattle.replay.specs.Dumps.{DumpedRows, DumpedState, DumpedStore, WritesRows}
use Rattle.replay.specs.Stores.{LeftAlone}
use Rattle.replay.specs.declared.status.Status.{Status}
use Rattle.replay.specs.declared.status.Status.TheVariants.{Done, Usage, Script, List as ListStatus, Store, Read, InUse, Device, Memory}
use Rattle.replay.specs.declared.status.Status.TheVariants as status
use Rattle.replay.proofs.CauseLemmas.{alone_before, later_list, list_fine, list_read, lists_before, others_before, read_cause}
use Rattle.replay.proofs.CommandLemmas.{IsNotUsage, no_usage}
use Rattle.replay.proofs.ScriptLemmas.{one_file}
use Rattle.replay.proofs.StatusLemmas.{written_weaker}

-- ---- how an opening ended

pub excused_ending : (why : OpenFault) → IsExcused why → IsExcusedEnding (ending_of why)
excused_ending fault.DeviceFault excused = inl refl
excused_ending fault.NoMemory excused = inr refl
excused_ending (fault.NotAStore offset) excused = absurd excused
excused_ending (fault.TooLarge len) excused = absurd excused

refused_ending : (why : OpenFault) → IsOfFile why → ending_of why ≡ ending.Store why
refused_ending fault.DeviceFault of = absurd of
refused_ending fault.NoMemory of = absurd of
refused_ending (fault.NotAStore offset) of = refl
refused_ending (fault.TooLarge len) of = refl

-- ---- what the store held, and what was written

module _ {T : Type 0} (result : Result T DumpFault) (list : RuleList) (file : List ℕ) (taken : BeforeAfter (Option (List ℕ))) (old new : View) (opens : OpensStore list old new (opening_of result)) (held : old.contents ≡ Some file) (settled : IsSettled old) where
  -- the lines of what stays of the state that the file stands for
  abbrev Migrated : Ending → Images → Type 0
  Migrated ended after = (kept : List ℕ) × (d : Saved) × (n : ℕ) × MeansUnder list.digest kept file d n × IsValid (migrate list.rules d) × WritesRows ended (dump_text (migrate list.rules d)) taken × LeavesOpening list file after

  migrated : (ended : Ending) (after : Images) (d : Saved) → IsValid d
      → (kept : List ℕ) × (was : Saved) × (n : ℕ) × MeansUnder list.digest kept file was n × (d ≡ migrate list.rules was)
      → WritesRows ended (dump_text d) taken → LeavesOpening list file after → Migrated ended after
  migrated ended after d valid (kept, was, n, means, same) wrote left = (
    kept,
    was,
    n,
    means,
    subst IsValid same valid,
    subst (λ (x : Saved). WritesRows ended (dump_text x) taken) same wrote,
    left,
  )

  wrote_by : (r : Result T DumpFault) → OpensStore list old new (opening_of r)
      → MatchResult (opening_of r) (λ _. (d : Saved) × IsValid d × IsUnder list.rules d × IsReadSavedUnder list.rules d × StandsAsTold list old.contents d × Writes (dump_text d) r taken.before taken.after) (λ _. Takes taken.before taken.after [])
      → (after : Images) → LeavesOpening list file after → ((now : List ℕ) → after now → new.may_leave now)
      → Unopened list file (dump_ending r) taken after ⊎ Migrated (dump_ending r) after
  wrote_by (Ok done) opens (d, valid, under, spelled, stands, wrote) after left same = inr (migrated ending.Done after d valid (stands file held) wrote left)
  wrote_by (Err (Open why)) opens took after left same = inl (record {
    why = why;
    ends = refl;
    cause = opens.refused why refl file held;
    text = took;
    left = left;
    alone = λ of now is. one_file old.contents now file (settled now (opens.images why refl of now (same now is))) held;
  })
  wrote_by (Err Write) opens (d, valid, under, spelled, stands, wrote) after left same = inr (migrated ending.Write after d valid (stands file held) wrote left)
  wrote_by (Err NoMemory) opens (d, valid, under, spelled, stands, wrote) after left same = inr (migrated ending.Memory after d valid (stands file held) wrote left)

  rows_by : (r : Result T DumpFault) (text : List ℕ) → IfErr (opening_of r) IsExcused → Writes text r taken.before taken.after → WritesRows (dump_ending r) text taken ⊎ IsExcusedEnding (dump_ending r)
  rows_by (Ok done) text excused wrote = inl wrote
  rows_by (Err (Open why)) text excused wrote = inr (excused_ending why excused)
  rows_by (Err Write) text excused wrote = inl wrote
  rows_by (Err NoMemory) text excused wrote = inl wrote

  refused_by : (r : Result T DumpFault) (why : OpenFault) → IsOfFile why → MatchResult (opening_of r) (λ _. ⊥) (λ w. (w ≡ why) ⊎ IsExcused w) → (dump_ending r ≡ ending.Store why) ⊎ IsExcusedEnding (dump_ending r)
  refused_by (Ok done) why of exactly = absurd exactly
  refused_by (Err (Open w)) why of exactly = ⊎_elim (λ same. inl (ap ending_of same ∙ refused_ending why of)) (λ excused. inr (excused_ending w excused)) exactly
  refused_by (Err Write) why of exactly = absurd exactly
  refused_by (Err NoMemory) why of exactly = absurd exactly

  limit_by : (r : Result T DumpFault) → MatchResult (opening_of r) (λ _. ⊥) (IsLimitRefusal file) → IsLimitEnding file (dump_ending r)
  limit_by (Ok done) limit = absurd limit
  limit_by (Err (Open why)) limit = limit_ends why (ending_of why) file refl limit
  limit_by (Err Write) limit = absurd limit
  limit_by (Err NoMemory) limit = absurd limit

  pub dumped : (before after : Images) → before file → SameImages new.may_leave after → IsLawful new → LeavesOnly old new (IsOpeningUnder list file)
      → MatchResult (opening_of result) (λ _. (d : Saved) × IsValid d × IsUnder list.rules d × IsReadSavedUnder list.rules d × StandsAsTold list old.contents d × Writes (dump_text d) result taken.before taken.after) (λ _. Takes taken.before taken.after [])
      → ((c kept : List ℕ) (d : Saved) (n : ℕ) → old.contents ≡ Some c → IsWithin true c → MeansUnder list.digest kept c d n → Writes (dump_text (migrate list.rules d)) result taken.before taken.after)
      → DumpedStore taken before after (dump_ending result) list
  dumped before after found same lawful leaves rows written = record {
    file = file;
    found = found;
    wrote = wrote_by result opens rows after (λ now is. leaves.each now (lawful.counts_now old.moment now leaves.later (same.no_more now is))) same.no_more;
    rows = λ kept d n within means. rows_by result (dump_text (migrate list.rules d)) (opens.excused file kept d n held within means) (written file kept d n held within means);
    refused = λ why of is. refused_by result why of (opens.exactly why file held of is);
    limit = λ over. limit_by result (opens.limit file held over);
  }

-- and whatever is told of the store
pub dumped_some : {T : Type 0} (list : RuleList) (told : Option (List ℕ)) (taken : BeforeAfter (Option (List ℕ))) (r : Result T DumpFault) → WritesSome list told r taken.before taken.after → DumpedState taken (dump_ending r)
dumped_some list told taken (Ok done) (d, valid, under, spelled, stands, wrote) = inr (d, valid, wrote)
dumped_some list told taken (Err (Open why)) took = inl (why, refl, took)
dumped_some list told taken (Err Write) (d, valid, under, spelled, stands, wrote) = inr (d, valid, wrote)
dumped_some list told taken (Err NoMemory) (d, valid, under, spelled, stands, wrote) = inr (d, valid, wrote)

-- ---- the count of faults of the stores

module _ (old new : View) (stores : BeforeAfter ℕ) (fresh : old.faults ≡ 0) (back : stores.after ≡ raised new.faults stores.before) where
  -- no call failed at an opening that no device fault ended
  no_fault : (opened : Result (Unit {0}) OpenFault) → Opens opened old new → (opened ≡ Err fault.DeviceFault → ⊥) → stores.after ≡ stores.before
  no_fault opened opens other =
      ⊎_elim
      (λ (fails : IsErrOf opened fault.DeviceFault). absurd (other fails))
      (λ (none : HasNoFault old new).
      let faults = none.faults in
      omega (arith, fresh, back, faults)) opens.only

  -- a device fault is counted, and at every other end of a dump none was
  pub dump_counts : {T : Type 0} (list : RuleList) (r : Result T DumpFault) → OpensStore list old new (opening_of r) → DumpCounts (status_of (dump_ending r)) stores
  dump_counts list (Ok done) opens = no_fault (Ok tt) opens.device (λ is. cc)
  dump_counts list (Err (Open fault.DeviceFault)) opens =
      let rose = opens.device.counted refl in
      omega (arith, fresh, back, rose)
  dump_counts list (Err (Open fault.NoMemory)) opens = no_fault (Err fault.NoMemory) opens.device (λ is. cc)
  dump_counts list (Err (Open (fault.NotAStore offset))) opens = no_fault (Err (fault.NotAStore offset)) opens.device (λ is. cc)
  dump_counts list (Err (Open (fault.TooLarge len))) opens = no_fault (Err (fault.TooLarge len)) opens.device (λ is. cc)
  dump_counts list (Err Write) opens = no_fault (Ok tt) opens.device (λ is. cc)
  dump_counts list (Err NoMemory) opens = no_fault (Ok tt) opens.device (λ is. cc)

-- ---- the command

-- a status of a dump that opened a store, or tried to
by_run : (P : Status → Type 0) → P Done → P status.Write → P Device → P Read → P InUse → P Memory → ((why : OpenFault) → IsOfFile why → P (Store why)) → (status : Status) → HasRun status → P status
by_run P done write device read used memory store Done ran = done
by_run P done write device read used memory store status.Write ran = write
by_run P done write device read used memory store Device ran = device
by_run P done write device read used memory store Read ran = read
by_run P done write device read used memory store InUse ran = used
by_run P done write device read used memory store Memory ran = memory
by_run P done write device read used memory store (Store why) ran = store why ran
by_run P done write device read used memory store Usage ran = absurd ran
by_run P done write device read used memory store (Script why) ran = absurd ran
by_run P done write device read used memory store (ListStatus why) ran = absurd ran

ran_counts : (host stores : BeforeAfter ℕ) (script : ℕ) (status : Status) → HasRun status → HostCounts status host stores → ReadCounts status host stores (from_to script script)
ran_counts host stores script status ran counts =
    by_run (λ s. HostCounts s host stores → ReadCounts s host stores (from_to script script))
    (λ rose. (rose, refl)) (λ rose. (rose, refl)) (λ rose. (rose, refl)) (λ rose. (rose.0, inl rose.1)) (λ rose. (rose.0, rose.1, refl)) (λ rose. (rose, refl)) (λ why is rose. (rose, refl)) status ran counts

module _ {Hosts Lists Stores Scripts Outs : Type 0} (H : HostTells Hosts Lists Stores) (I : SourceTells Scripts) (O : SinkTells Outs) (path store : List ℕ) (status : Status) (old mid new : Hosts) (script : Scripts) (out : BeforeAfter Outs) where
  pub obeys_dump : (list : RuleList) → IsListOf (H.lists old path) list → LeavesStores (H.stores old) (H.stores mid) → H.faults mid ≡ H.faults old → H.store_faults mid ≡ H.store_faults old
      → H.tells_stores mid ≡ H.tells_stores old → H.lists_out mid ≡ H.lists_out old → LeavesOthers path (H.lists old) (H.lists mid) → LeavesStoreClosed H store (from_to mid new)
      → Written status (LeftAlone (told_of O.taken out) (H.stores mid store) (H.stores new store)) (λ e. DumpedRows (told_of O.taken out) (H.tells_stores mid) (H.stores mid store) (H.stores new store) e list) → HasRun status
      → HostCounts status (told_of H.faults (from_to mid new)) (told_of H.store_faults (from_to mid new)) → DumpCounts status (told_of H.store_faults (from_to mid new)) → WriteCounts status (told_of O.faults out)
      → Obeys H I O (Some (Dump path store)) status (from_to old new) (from_to script script) out
  obeys_dump list read stores still none is closed lists left text ran rose device write =
      let told = H.lists old path in
      let taken = told_of O.taken out in
      let host = told_of H.faults (from_to old new) in
      let counts = told_of H.store_faults (from_to old new) in
      let faults = told_of I.faults (from_to script script) in
      let fine = list_fine told list read in
      let counted : HostCounts status host counts =
      subst (λ n. HostCounts status (from_to n (H.faults new)) counts) still (subst (λ n. HostCounts status (told_of H.faults (from_to mid new)) (from_to n (H.store_faults new))) none rose) in
      let read_counts : ReadCounts status host counts faults = ran_counts host counts (I.faults script) status ran counted in
      record {
        text = written_weaker status (LeftAlone taken (H.stores mid store) (H.stores new store)) (LeftAlone taken (H.stores old store) (H.stores new store)) (λ e. DumpedRows taken (H.tells_stores mid) (H.stores mid store) (H.stores new store) e list) (λ e. (read : ListRead told) × DumpedRows taken (H.tells_stores old) (H.stores old store) (H.stores new store) e read.list)
            (alone_before taken (H.stores old store) (H.stores mid store) (H.stores new store) (stores store))
            (λ e dump. (list_read list told read, ((λ tell. dumped_before list (stores store) e (dump.0 (is ∙ tell))), dump.1))) text;
        usage = no_usage status (by_run IsNotUsage tt tt tt tt tt tt (λ why of. tt) status ran);
        no_command = λ never. absurd never;
        ends = by_run DumpCanEnd tt tt tt tt tt tt (λ why of. of) status ran;
        refused = tt;
        list = later_list status told (by_run IsAfterList tt tt tt tt tt tt (λ why of. tt) status ran) fine;
        read = read_counts;
        read_told = read_cause (Some (Dump path store)) told (I.left script) host (told_of H.reads (from_to old new)) faults status fine (λ is. inr (subst (λ s. HostCounts s host counts) is counted).1);
        device = subst (λ n. DumpCounts status (from_to n (H.store_faults new))) none device;
        write = write;
        untouched = λ never. absurd never;
        unread = λ is. refl;
        list_failed = λ failed. refl;
        lists = lists_before path (H.lists old) (H.lists mid) (H.lists new) lists left.lists;
        closed = left.lists_out ∙ closed;
        store_closed = left.store_out;
        others = others_before store (H.stores old) (H.stores mid) (H.stores new) stores left.others;
      }
    where
      dumped_before : (list : RuleList) → SameImages (H.stores old store) (H.stores mid store) → (e : Ending) → DumpedStore (told_of O.taken out) (H.stores mid store) (H.stores new store) e list
          → DumpedStore (told_of O.taken out) (H.stores old store) (H.stores new store) e list
      dumped_before list same e dump = record { file = dump.file; found = same.no_more dump.file dump.found; wrote = dump.wrote; rows = dump.rows; refused = dump.refused; limit = dump.limit }
