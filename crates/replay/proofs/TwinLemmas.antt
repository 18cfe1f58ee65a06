-- What a comparison of two scripts leaves and answers, from what its parts do.
use Rattle.std.proofs.Common.{◌≡◌, ◌⊎◌, ℕ, List, Option, Some, None, refl, sym, subst, ap, inl, inr, ◌∙◌}
use Rattle.std.specs.Prelude.{Err, IfSome, IsOk, Ok}
use Rattle.std.proofs.lemmas.Bool.{false≢true}
use Rattle.agent_base.specs.Counts.{Rose}
use Rattle.agent_base.specs.declared.sink.Sink.{Ghosts as SinkTells}
use Rattle.agent_base.specs.declared.source.Source.{Ghosts as SourceTells}
use Rattle.hosts.specs.declared.host.Host.{Ghosts as HostTells}
use Rattle.origin_site.specs.Site.{PlainSite, site_of_text}
use Rattle.suffix_list.specs.ListText.{RuleList}
use Rattle.script_actions.specs.declared.step.Line.{Line}
use Rattle.script_lines.specs.TwoScripts.{two_of_bytes}
use Rattle.script_lines.specs.Plain.{fault_of, script_of}
use Rattle.script_lines.specs.Script.{PlainFault}
use Rattle.script_lines.specs.declared.script.Script.{Script}
use Rattle.script_lines.specs.declared.script.ScriptFault.{ScriptFault}
use Rattle.script_lines.specs.declared.script.ScriptFault.TheVariants as fault
use Rattle.script_courses.specs.Twins.{IsTwin, Twin}
use Rattle.store_runs.specs.Steps.{steps_of}
use Rattle.command_line.specs.Words as words
use Rattle.hosts.specs.Hosts.{LeavesOthers, LeavesStores}
use Rattle.replay.specs.BeforeAfter.{BeforeAfter, from_to}
use Rattle.replay.specs.Causes.{ReadsNoScript, ScriptCauseOf, ScriptFaulty, WriteCounts}
use Rattle.replay.specs.Endings.{IsOfTwoScripts, TwinCanEnd}
use Rattle.replay.specs.Commands.{HasCompared, IsAfterList, IsAnswer, Obeys, told_of}
use Rattle.replay.specs.Readings.{HasScripts, IsListOf, ScriptCounts, ScriptRefusal, refusal_status}
use Rattle.replay.specs.Runs.{WritesLine, steps_in}
use Rattle.replay.specs.Twins.{IsAnswered, ScriptsRead, setting_of, twin_line}
use Rattle.replay.specs.Words.{IsNoSite, IsSite}
use Rattle.replay.specs.declared.status.Status.{Status}
use Rattle.replay.specs.declared.status.Status.TheVariants.{Done, Usage, List as ListStatus, Store, Read, InUse, Write, Device, Memory}
use Rattle.replay.specs.declared.status.Status.TheVariants as status
use Rattle.replay.proofs.CauseLemmas.{later_list, list_fine, list_read, never_failed, script_read_cause, script_read_counts}
use Rattle.replay.proofs.CommandLemmas.{IsNotUsage, no_usage}
use Rattle.replay.proofs.ScriptLemmas.{steps_read}

-- ---- the scripts

-- a fault of the scripts' bytes
abbrev IsOfBytes : ScriptFault → Type 0
IsOfBytes fault.ReadFault = ⊥
IsOfBytes fault.NoMemory = ⊥
IsOfBytes why = Unit {0}

abbrev IsNoRead : ScriptFault → Type 0
IsNoRead fault.ReadFault = ⊥
IsNoRead why = Unit {0}

module _ (told : Option (List ℕ)) (faults : BeforeAfter ℕ) where
  -- it is the first one, where the bytes are told
  faulty : (own : Option (List ℕ)) (why : ScriptFault) → IsOfBytes why → IfSome own (λ bytes. (why ≡ fault.ReadFault) ⊎ ((why ≡ fault.NoMemory) ⊎ (two_of_bytes bytes ≡ Err (fault_of why)))) → ScriptFaulty two_of_bytes own (fault_of why)
  faulty None why of answer = tt
  faulty (Some bytes) why of (inl read) = absurd (subst IsOfBytes read of)
  faulty (Some bytes) why of (inr (inl memory)) = absurd (subst IsOfBytes memory of)
  faulty (Some bytes) why of (inr (inr first)) = first

  -- and no count rose
  still_there : (why : ScriptFault) → IsOfBytes why → (why ≡ fault.ReadFault) ⊎ (faults.after ≡ faults.before) → faults.after ≡ faults.before
  still_there why of (inl read) = absurd (subst IsOfBytes read of)
  still_there why of (inr same) = same

  -- why two scripts could not be read, or were refused
  pub two_refused : (why : ScriptFault) → (why ≡ fault.ReadFault → Rose faults.before faults.after) → (why ≡ fault.ReadFault) ⊎ (faults.after ≡ faults.before)
      → IfSome told (λ bytes. (why ≡ fault.ReadFault) ⊎ ((why ≡ fault.NoMemory) ⊎ (two_of_bytes bytes ≡ Err (fault_of why)))) → ScriptRefusal two_of_bytes IsOfTwoScripts (refusal_status why) told faults
  two_refused fault.ReadFault cause still answer = cause refl
  two_refused fault.NoMemory cause (inl read) answer = absurd (subst IsNoRead read tt)
  two_refused fault.NoMemory cause (inr same) answer = same
  two_refused (fault.NotJson line) cause still answer = (faulty told (fault.NotJson line) tt answer, tt, still_there (fault.NotJson line) tt still)
  two_refused (fault.UnknownAction line) cause still answer = (faulty told (fault.UnknownAction line) tt answer, tt, still_there (fault.UnknownAction line) tt still)
  two_refused (fault.BadField line name) cause still answer = (faulty told (fault.BadField line name) tt answer, tt, still_there (fault.BadField line name) tt still)
  two_refused (fault.LineTooLong line) cause still answer = (faulty told (fault.LineTooLong line) tt answer, tt, still_there (fault.LineTooLong line) tt still)
  two_refused fault.TooLong cause still answer = (faulty told fault.TooLong tt answer, tt, still_there fault.TooLong tt still)
  two_refused (fault.NotUtf8 line) cause still answer = (faulty told (fault.NotUtf8 line) tt answer, tt, still_there (fault.NotUtf8 line) tt still)
  two_refused (fault.BadHeader line) cause still answer = (faulty told (fault.BadHeader line) tt answer, tt, still_there (fault.BadHeader line) tt still)
  two_refused fault.NoDivider cause still answer = (faulty told fault.NoDivider tt answer, tt, still_there fault.NoDivider tt still)

-- scripts that were read, and the answer to their lines
pub answered : (list : RuleList) (site : PlainSite) (start batch : ℕ) (left : BeforeAfter (Option (List ℕ))) (scripts : ScriptsRead left) (first second : Script) (answer : Twin) → scripts.first ≡ script_of first → scripts.second ≡ script_of second → (ones others : List Line)
    → ones ≡ first.lines.items → others ≡ second.lines.items → IsTwin (setting_of list site start batch) (steps_of ones) (steps_of others) answer → IsAnswer list site start batch left (twin_line answer)
answered list site start batch left scripts first second answer one other ones others ones_are others_are is =
    let same = steps_read scripts.first first.cuts.items first.lines.items one ∙ ap steps_of (sym ones_are) in
    let alike = steps_read scripts.second second.cuts.items second.lines.items other ∙ ap steps_of (sym others_are) in
    let at = setting_of list site start batch in (
      scripts,
      answer,
      subst (λ steps. IsTwin at steps (steps_in scripts.second) answer) (sym same) (subst (λ steps. IsTwin at (steps_of ones) steps answer) (sym alike) is),
      refl,
    )

-- ---- the line

-- what follows of the line that is written
pub line_weaker : (status : Status) (taken : BeforeAfter (Option (List ℕ))) (P Q : List ℕ → Type 0) → ((line : List ℕ) → P line → Q line) → WritesLine status taken P → WritesLine status taken Q
line_weaker Done taken P Q how (line, is, takes) = (line, how line is, takes)
line_weaker Write taken P Q how (line, is, takes) = (line, how line is, takes)
line_weaker Usage taken P Q how takes = takes
line_weaker (status.Script why) taken P Q how takes = takes
line_weaker (ListStatus why) taken P Q how takes = takes
line_weaker (Store why) taken P Q how takes = takes
line_weaker Read taken P Q how takes = takes
line_weaker InUse taken P Q how takes = takes
line_weaker Device taken P Q how takes = takes
line_weaker Memory taken P Q how takes = takes

-- ---- the status

-- a status of scripts that were read, or were to be
pub by_scripts : (IsOf : PlainFault → Type 0) (P : Status → Type 0) → P Done → P Read → P Write → P Memory → ((why : ScriptFault) → IsOf (fault_of why) → P (status.Script why)) → (status : Status) → HasScripts IsOf status → P status
by_scripts IsOf P done read write memory script Done has = done
by_scripts IsOf P done read write memory script Read has = read
by_scripts IsOf P done read write memory script Write has = write
by_scripts IsOf P done read write memory script Memory has = memory
by_scripts IsOf P done read write memory script (status.Script why) has = script why has
by_scripts IsOf P done read write memory script Usage has = absurd has
by_scripts IsOf P done read write memory script (ListStatus why) has = absurd has
by_scripts IsOf P done read write memory script (Store why) has = absurd has
by_scripts IsOf P done read write memory script InUse has = absurd has
by_scripts IsOf P done read write memory script Device has = absurd has

-- ---- the site

-- a word that was read as a site is the text of one
pub is_site : (word : List ℕ) (site : PlainSite) → site_of_text word ≡ Ok site → IsSite word
is_site word site named = subst IsOk (sym named) refl

-- and of none it is not
pub never : {T : Type 0} (word : List ℕ) (site : PlainSite) → site_of_text word ≡ Ok site → IsNoSite word → T
never word site named not = absurd (false≢true (subst IsOk not (is_site word site named)))

-- ---- the command

module _ {Hosts Lists Stores Scripts Outs : Type 0} (H : HostTells Hosts Lists Stores) (I : SourceTells Scripts) (O : SinkTells Outs) (word path : List ℕ) (start batch checkpoint : ℕ) (status : Status) (old mid : Hosts)
    (script : BeforeAfter Scripts) (out : BeforeAfter Outs) (site : PlainSite) (named : site_of_text word ≡ Ok site) where
  -- the scripts were compared under a list that was read, or were to be
  pub obeys_twin : (list : RuleList) → IsListOf (H.lists old path) list → LeavesStores (H.stores old) (H.stores mid) → H.faults mid ≡ H.faults old → H.store_faults mid ≡ H.store_faults old
      → H.lists_out mid ≡ H.lists_out old → LeavesOthers path (H.lists old) (H.lists mid) → H.reads mid ≡ H.reads old → H.store_out mid ≡ None → WritesLine status (told_of O.taken out) (IsAnswer list site start batch (told_of I.left script)) → HasCompared status
      → ScriptCauseOf two_of_bytes status (I.left script.before) → ScriptCounts status (told_of I.faults script) → WriteCounts status (told_of O.faults out)
      → Obeys H I O (Some (words.Twin word path batch checkpoint start)) status (from_to old mid) script out
  obeys_twin list read stores still none closed lists reads store_closed text compared cause script_counts write =
      let told = H.lists old path in
      let left = told_of I.left script in
      let fine = list_fine told list read in
      record {
        text = line_weaker status (told_of O.taken out) (IsAnswer list site start batch left) (IsAnswered word start batch told left)
            (λ line (scripts, answer, twin, is). record { site = site; named = named; list = list_read list told read; scripts = scripts; answer = answer; twin = twin; is = is }) text;
        usage = no_usage status (by_scripts IsOfTwoScripts IsNotUsage tt tt tt tt (λ why of. tt) status compared);
        no_command = never word site named;
        ends = by_scripts IsOfTwoScripts (TwinCanEnd word) (is_site word site named) (is_site word site named) (is_site word site named) tt (λ why of. (is_site word site named, of)) status compared;
        refused = cause;
        list = later_list status told (by_scripts IsOfTwoScripts IsAfterList tt tt tt tt (λ why of. tt) status compared) fine;
        read = script_read_counts status (told_of H.faults (from_to old mid)) (told_of H.store_faults (from_to old mid)) (told_of I.faults script) still none script_counts (λ is. subst HasCompared is compared);
        read_told = script_read_cause (Some (words.Twin word path batch checkpoint start)) told (I.left script.before) (told_of H.faults (from_to old mid)) (told_of H.reads (from_to old mid)) (told_of I.faults script) status fine script_counts;
        device = tt;
        write = write;
        untouched = never word site named;
        unread = by_scripts IsOfTwoScripts (λ s. ReadsNoScript (Some (words.Twin word path batch checkpoint start)) s → script.after ≡ script.before) (never word site named) (never word site named) (never word site named) (never word site named) (λ why of. never word site named) status compared;
        list_failed = never_failed (told_of H.reads (from_to old mid)) reads;
        lists = lists;
        closed = closed;
        store_closed = store_closed;
        others = stores;
      }
