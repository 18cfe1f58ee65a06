-- What a command leaves and answers, from what its parts do.
use Rattle.std.proofs.Common.{◌≡◌, ◌⊎◌, inl, ℕ, zero, suc, List, [], ◌++◌, Option, Some, None, map, refl, sym, subst, ap, ◌∙◌, inr, append-nil, arith, take}
use Rattle.std.specs.Prelude.{Err, IfSome, IsOk, Ok, OnErr, OnOk, Result, false}
use Rattle.agent_base.specs.Counts.{HasCause, Rose}
use Rattle.agent_base.specs.Streams.{Gives, Takes, TakesPrefix}
use Rattle.agent_base.specs.declared.sink.Sink.{Ghosts as SinkTells}
use Rattle.agent_base.specs.declared.source.Source.{Ghosts as SourceTells}
use Rattle.agent_base.proofs.Pieces.{takes_append}
use Rattle.agent_core.specs.declared.agent.Options.{Options}
use Rattle.command_line.specs.Shows.{Shows}
use Rattle.command_line.specs.declared.shows.Shown.{Shown}
use Rattle.command_line.specs.declared.shows.Shown.TheVariants.{Difference, Script as OneScript}
use Rattle.hosts.specs.Hosts.{LeavesOthers}
use Rattle.hosts.specs.declared.host.Host.{Ghosts as HostTells}
use Rattle.origin_site.specs.Site.{PlainSite, site_of_text}
use Rattle.suffix_list.specs.ListText.{RuleList}
use Rattle.script_actions.specs.Action.{PlainLine}
use Rattle.script_actions.specs.Plain.{line_of}
use Rattle.script_courses.specs.Twins.{Equal, LocalDiffer, Twin, TwinSetting}
use Rattle.script_lines.specs.Grammar.{script_of_bytes}
use Rattle.script_lines.specs.Plain.{fault_of, script_of}
use Rattle.script_lines.specs.TwoScripts.{two_of_bytes}
use Rattle.script_lines.specs.declared.script.Script.{Script}
use Rattle.script_lines.specs.declared.script.ScriptFault.{ScriptFault}
use Rattle.store_runs.specs.Steps.{steps_of}
use Rattle.twins.specs.Plain.{plain_twin}
use Rattle.twins.specs.Settings.{setting}
use Rattle.twins.specs.declared.answer.Twin.{Twin as Answer}
use Rattle.replay.specs.BeforeAfter.{BeforeAfter, from_to}
use Rattle.replay.specs.Causes as cause
use Rattle.replay.specs.Causes.{GrammarOf, ReadsNoScript, ScriptFine}
use Rattle.replay.specs.Commands.{IsAfterList, told_of}
use Rattle.replay.specs.Readings.{HasScripts, IsListOf, ScriptCounts}
use Rattle.replay.specs.Runs.{ScriptRead, WritesLine}
use Rattle.replay.specs.Twins.{ScriptsRead, twin_line}
use Rattle.replay.specs.declared.status.Status.{Status}
use Rattle.replay.specs.declared.status.Status.TheVariants as status
use Rattle.replay.proofs.CauseLemmas.{later_list, list_fine, list_read, never_failed, script_read_cause}
use Rattle.replay.proofs.ScriptLemmas.{steps_read}
use Rattle.replay.proofs.TwinLemmas.{by_scripts, is_site, line_weaker, never}
use Rattle.shown_scripts.specs.Differ.{IsDifference, TakesDifference}
use Rattle.shown_scripts.specs.Shown.{IsShown, ShowCounts, TakesShown}
use Rattle.shown_scripts.specs.declared.fault.ShowFault.{ShowFault}
use Rattle.shown_scripts.specs.declared.fault.ShowFault.TheVariants.{NoMemory, Write}
use Rattle.show_commands.specs.Causes.{CauseOf, IsOf, LeavesAllStores, ReadCounts, ShownCanEnd, alike}
use Rattle.show_commands.specs.Serving.{RestCounts, Serves, WritesAnswer, WritesEqual, WritesRest, status_of}
use Rattle.show_commands.specs.Shows.{IsAnswerText, IsShownOf, IsTextOfScripts, text_of_answer}

-- ---- what was shown of one script

module _ {T : Type 0} (result : Result T ShowFault) (told : Status) (is : told ≡ status_of result) where
  module _ (before after : Option (List ℕ)) (Is Other : List ℕ → Type 0) (how : (text : List ℕ) → Is text → Other text) where
    shown_line : (r : Result T ShowFault) → TakesShown r before after Is → WritesLine (status_of r) (from_to before after) Other
    shown_line (Ok done) (text, holds, takes) = (text, how text holds, takes)
    shown_line (Err Write) (text, holds, takes) = (text, how text holds, takes)
    shown_line (Err NoMemory) takes = takes

    -- the text
    pub shown_text : TakesShown result before after Is → WritesLine told (from_to before after) Other
    shown_text wrote = subst (λ s. WritesLine s (from_to before after) Other) (sym is) (shown_line result wrote)

  shown_counts : (r : Result T ShowFault) (before after : ℕ) → ShowCounts r before after → cause.WriteCounts (status_of r) (from_to before after)
  shown_counts (Ok done) before after counts = counts
  shown_counts (Err Write) before after counts = counts
  shown_counts (Err NoMemory) before after counts = counts

  -- the count of the output
  pub shown_count : (before after : ℕ) → ShowCounts result before after → cause.WriteCounts told (from_to before after)
  shown_count before after counts =
      subst (λ s. cause.WriteCounts s (from_to before after)) (sym is) (shown_counts result before after counts)

  shown_by : (P : Status → Type 0) → P status.Done → P status.Write → P status.Memory → (r : Result T ShowFault) → P (status_of r)
  shown_by P done write memory (Ok value) = done
  shown_by P done write memory (Err Write) = write
  shown_by P done write memory (Err NoMemory) = memory

  -- the status
  pub shown_ends : (P : Status → Type 0) → P status.Done → P status.Write → P status.Memory → P told
  shown_ends P done write memory = subst P (sym is) (shown_by P done write memory result)

-- ---- what was shown of two, and then written

-- a part of nothing is a part of each text
part_of_none : (before after : Option (List ℕ)) (text : List ℕ) → TakesPrefix before after [] → TakesPrefix before after text
part_of_none before after text (zero, within, takes) = (0, omega arith, takes)
part_of_none before after text (suc n, within, takes) =
    let never : ⊥ = omega (arith, within) in
    absurd never

module _ (before mid after : Option (List ℕ)) where
  -- nothing was taken behind a part
  none_behind : (text : List ℕ) → TakesPrefix before mid text → Takes mid after [] → TakesPrefix before after text
  none_behind text (count, within, takes) none = (
    count,
    within,
    subst (Takes before after) (append-nil (take count text)) (takes_append before mid after (take count text) [] takes none),
  )

  -- nothing was taken before a part
  none_before : (text : List ℕ) → Takes before mid [] → TakesPrefix mid after text → TakesPrefix before after text
  none_before text none (count, within, takes) = (count, within, takes_append before mid after [] (take count text) none takes)

module _ (at : TwinSetting) (first second : List PlainLine) where
  -- what is shown is the text of the answer, where it is one that two scripts part
  part_of_answer : (answer : Twin) (text : List ℕ) (before after : Option (List ℕ)) → IsDifference at first second answer text
      → TakesPrefix before after text → TakesPrefix before after (text_of_answer answer text)
  part_of_answer (Equal lines) text before after is takes =
      part_of_none before after (twin_line (Equal lines)) (subst (TakesPrefix before after) is.text_is takes)
  part_of_answer (LocalDiffer place) text before after is takes = takes

  module _ (before mid after : Option (List ℕ)) where
    -- the line of an answer to two that are equal
    equal_line : (lines : ℕ) (text : List ℕ) → IsDifference at first second (Equal lines) text → Takes before mid [] → (told : Status)
        → WritesAnswer told (Equal lines) (from_to mid after) → WritesLine told (from_to before after) (IsAnswerText at first second)
    equal_line lines text is none status.Done takes =
        (twin_line (Equal lines), (Equal lines, text, is, refl), takes_append before mid after [] (twin_line (Equal lines)) none takes)
    equal_line lines text is none status.Write takes =
        (twin_line (Equal lines), (Equal lines, text, is, refl), none_before before mid after (twin_line (Equal lines)) none takes)
    equal_line lines text is none status.Usage takes = absurd takes
    equal_line lines text is none (status.Script why) takes = absurd takes
    equal_line lines text is none (status.List why) takes = absurd takes
    equal_line lines text is none (status.Store why) takes = absurd takes
    equal_line lines text is none status.Read takes = absurd takes
    equal_line lines text is none status.InUse takes = absurd takes
    equal_line lines text is none status.Device takes = absurd takes
    equal_line lines text is none status.Memory takes = absurd takes

    all_differs : (answer : Twin) (told : Status) (text : List ℕ) → IsDifference at first second answer text
        → Takes before mid text → WritesEqual answer told (from_to mid after)
        → WritesLine told (from_to before after) (IsAnswerText at first second)
    all_differs (Equal lines) told text is takes line =
        equal_line lines text is (subst (Takes before mid) is.text_is takes) told line
    all_differs (LocalDiffer place) told text is takes (done, none) =
        subst (λ s. WritesLine s (from_to before after) (IsAnswerText at first second)) (sym done) (
          text,
          (LocalDiffer place, text, is, refl),
          subst (Takes before after) (append-nil text) (takes_append before mid after text [] takes none),
        )

    -- the text
    pub differ_text : (result : Result Answer ShowFault) (told : Status) → TakesDifference at first second result before mid
        → WritesRest result told (from_to mid after) → WritesLine told (from_to before after) (IsAnswerText at first second)
    differ_text (Ok answer) told (text, is, takes) rest = all_differs (plain_twin answer) told text is takes rest
    differ_text (Err Write) told (answer, text, is, part) (same, none) =
        subst (λ s. WritesLine s (from_to before after) (IsAnswerText at first second)) (sym same) (
          text_of_answer answer text,
          (answer, text, is, refl),
          none_behind before mid after (text_of_answer answer text) (part_of_answer answer text before mid is part) none,
        )
    differ_text (Err NoMemory) told takes (same, none) =
        subst (λ s. WritesLine s (from_to before after) (IsAnswerText at first second)) (sym same)
        (takes_append before mid after [] [] takes none)

-- the count of the output
pub differ_count : (result : Result Answer ShowFault) (told : Status) (before mid after : ℕ) → ShowCounts result before mid
    → RestCounts result told (from_to mid after) → cause.WriteCounts told (from_to before after)
differ_count (Ok answer) told before mid after counts rest =
    subst (λ n. cause.WriteCounts told (from_to n after)) counts rest
differ_count (Err Write) told before mid after counts (same, still) =
    subst (λ s. cause.WriteCounts s (from_to before after)) (sym same) (subst (λ n. Rose before n) (sym still) counts)
differ_count (Err NoMemory) told before mid after counts (same, still) =
    subst (λ s. cause.WriteCounts s (from_to before after)) (sym same) (still ∙ counts)

module _ (P : Status → Type 0) (done : P status.Done) (write : P status.Write) (memory : P status.Memory) where
  answer_ends : (answer : Twin) (told : Status) (taken : BeforeAfter (Option (List ℕ))) → WritesAnswer told answer taken → P told
  answer_ends answer status.Done taken takes = done
  answer_ends answer status.Write taken takes = write
  answer_ends answer status.Usage taken takes = absurd takes
  answer_ends answer (status.Script why) taken takes = absurd takes
  answer_ends answer (status.List why) taken takes = absurd takes
  answer_ends answer (status.Store why) taken takes = absurd takes
  answer_ends answer status.Read taken takes = absurd takes
  answer_ends answer status.InUse taken takes = absurd takes
  answer_ends answer status.Device taken takes = absurd takes
  answer_ends answer status.Memory taken takes = absurd takes

  equal_ends : (answer : Twin) (told : Status) (taken : BeforeAfter (Option (List ℕ))) → WritesEqual answer told taken → P told
  equal_ends (Equal lines) told taken takes = answer_ends (Equal lines) told taken takes
  equal_ends (LocalDiffer place) told taken (is, none) = subst P (sym is) done

  -- the status
  pub differ_ends : (result : Result Answer ShowFault) (told : Status) (taken : BeforeAfter (Option (List ℕ))) → WritesRest result told taken → P told
  differ_ends (Ok answer) told taken rest = equal_ends (plain_twin answer) told taken rest
  differ_ends (Err Write) told taken (is, none) = subst P (sym is) write
  differ_ends (Err NoMemory) told taken (is, none) = subst P (sym is) memory

-- ---- the scripts

-- what was read to its end has no fault
fine_read : {Scripts : Type 0} (grammar : GrammarOf Scripts) (before after : Option (List ℕ)) (bytes : List ℕ) (scripts : Scripts)
    → Gives before after bytes → IfSome after (λ rest. rest ≡ []) → grammar bytes ≡ Ok scripts → ScriptFine grammar before
fine_read grammar None after bytes scripts given ended is = tt
fine_read grammar (Some old) (Some new) bytes scripts given ended is =
    subst (λ told. IsOk (grammar told)) (sym (given ∙ ap (λ rest. bytes ++ rest) ended ∙ append-nil bytes))
    (subst IsOk (sym is) refl)
fine_read grammar (Some old) None bytes scripts given ended is = absurd given

module _ (list : RuleList) (site : PlainSite) (options : Options) (left : BeforeAfter (Option (List ℕ))) where
  -- the lines that ran are those of the script that was read
  pub one_read : (read : ScriptRead false left) (script : Script) → read.script ≡ script_of script → (text : List ℕ)
      → IsShown (setting list site options) (steps_of script.lines.items) text
      → IsTextOfScripts OneScript list site options.start options.batch left text
  one_read read script is text shown = (
    read,
    subst (λ ss. IsShown (setting list site options) ss text)
        (sym (steps_read read.script script.cuts.items script.lines.items is)) shown,
  )

  pub one_fine : ScriptRead false left → ScriptFine (script_of_bytes false) left.before
  one_fine read = fine_read (script_of_bytes false) left.before left.after read.bytes read.script read.given read.ended read.grammar

  -- and of the two
  pub two_read : (read : ScriptsRead left) (first second : Script) → read.first ≡ script_of first
      → read.second ≡ script_of second → (text : List ℕ)
      → IsAnswerText (setting list site options) (map line_of first.lines.items) (map line_of second.lines.items) text
      → IsTextOfScripts Difference list site options.start options.batch left text
  two_read read first second one other text shown = (
    read,
    subst (λ ls. IsAnswerText (setting list site options) ls read.second.lines text)
        (ap (λ s. s.lines) (sym one))
        (subst (λ ls. IsAnswerText (setting list site options) (map line_of first.lines.items) ls text)
        (ap (λ s. s.lines) (sym other)) shown),
  )

  pub two_fine : ScriptsRead left → ScriptFine two_of_bytes left.before
  two_fine read = fine_read two_of_bytes left.before left.after read.bytes (read.first, read.second) read.given read.ended read.grammar

-- ---- the command

-- the counts of host and script, of a command that came behind its list
read_counts : (status : Status) (host script : BeforeAfter ℕ) → host.after ≡ host.before → ScriptCounts status script → ReadCounts status host script
read_counts status.Done host script still counts = (still, counts)
read_counts status.Usage host script still counts = (still, counts)
read_counts (status.Script why) host script still counts = (still, counts)
read_counts (status.List why) host script still counts = (still, counts)
read_counts (status.Store why) host script still counts = (still, counts)
read_counts status.Read host script still counts = inr counts
read_counts status.InUse host script still counts = (still, counts)
read_counts status.Write host script still counts = (still, counts)
read_counts status.Device host script still counts = (still, counts)
read_counts status.Memory host script still counts = (still, counts)

module _ {Hosts Lists Stores Scripts Outs : Type 0} (H : HostTells Hosts Lists Stores) (I : SourceTells Scripts) (O : SinkTells Outs)
    (what : Shown) (word path : List ℕ) (start batch checkpoint : ℕ) (status : Status) (old mid : Hosts)
    (script : BeforeAfter Scripts) (out : BeforeAfter Outs) (site : PlainSite) (named : site_of_text word ≡ Ok site) where
  -- scripts were read under a list that was read, or were to be
  pub serves_shown : (list : RuleList) → IsListOf (H.lists old path) list → LeavesAllStores H old mid
      → H.faults mid ≡ H.faults old → H.lists_out mid ≡ H.lists_out old
      → LeavesOthers path (H.lists old) (H.lists mid) → H.reads mid ≡ H.reads old
      → WritesLine status (told_of O.taken out) (IsTextOfScripts what list site start batch (told_of I.left script))
      → HasScripts (IsOf what) status → CauseOf what status (I.left script.before) → ScriptCounts status (told_of I.faults script)
      → cause.WriteCounts status (told_of O.faults out)
      → Serves H I O (Some (Shows what word path batch checkpoint start)) status (from_to old mid) script out
  serves_shown list read stores still closed lists reads text scripts cause script_counts write =
      let told = H.lists old path in
      let left = told_of I.left script in
      let fine = list_fine told list read in
      let host = from_to old mid in
      let mine = is_site word site named in
      let same = alike (Some (Shows what word path batch checkpoint start)) in
      record {
        text = line_weaker status (told_of O.taken out) (IsTextOfScripts what list site start batch left)
            (IsShownOf what word start batch told left)
            (λ line is. record { site = site; named = named; list = list_read list told read; shown = is }) text;
        ends = by_scripts (IsOf what) (ShownCanEnd what word) mine mine mine tt (λ why of. (mine, of)) status scripts;
        refused = cause;
        list = later_list status told (by_scripts (IsOf what) IsAfterList tt tt tt tt (λ why of. tt) status scripts) fine;
        read = read_counts status (told_of H.faults host) (told_of I.faults script) still script_counts;
        read_told = script_read_cause same told (I.left script.before) (told_of H.faults host) (told_of H.reads host)
            (told_of I.faults script) status fine script_counts;
        write = write;
        untouched = never word site named;
        unread = by_scripts (IsOf what) (λ s. ReadsNoScript same s → script.after ≡ script.before) (never word site named)
            (never word site named) (never word site named) (never word site named) (λ why of. never word site named) status scripts;
        list_failed = never_failed (told_of H.reads host) reads;
        lists = lists;
        closed = closed;
        stores = stores;
      }

-- what was taken of a line, by how its writing ended
pub line_told : {T E : Type 0} (result : Result T E) (before after : Option (List ℕ)) (faults now : ℕ) (text line : List ℕ) → text ≡ line
    → OnOk result (Takes before after text) → OnErr result (TakesPrefix before after text) → HasCause faults now result
    → (Takes before after line × (now ≡ faults)) ⊎ (TakesPrefix before after line × Rose faults now)
line_told (Ok done) before after faults now text line is all prefix cause = inl (subst (Takes before after) is all, cause.still)
line_told (Err why) before after faults now text line is all prefix cause = inr (subst (TakesPrefix before after) is prefix, cause.failed)
