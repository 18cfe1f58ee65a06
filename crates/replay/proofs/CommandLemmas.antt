-- What a command leaves and answers that memory does not suffice for, and what a self-test does.
use Rattle.std.proofs.Common.{◌≡◌, ℕ, List, Option, Some, None, IfSome, IsSome, refl, inl, inr, subst}
use Rattle.std.specs.Prelude.{option_and_then}
use Rattle.std.proofs.lemmas.Bool.{false≢true}
use Rattle.agent_base.proofs.Pieces.{takes_none}
use Rattle.agent_base.specs.declared.sink.Sink.{Ghosts as SinkTells}
use Rattle.agent_base.specs.declared.source.Source.{Ghosts as SourceTells}
use Rattle.hosts.specs.declared.host.Host.{Ghosts as HostTells}
use Rattle.hosts.specs.Hosts.{SameImages}
use Rattle.command_line.specs.Words.{PlainCommand, Help, Replay, Twin, Dump, Selftest, TakesMemory}
use Rattle.replay.specs.BeforeAfter.{BeforeAfter, from_to}
use Rattle.replay.specs.Causes.{DeviceCounts, LeavesListsBut, ListCause, ReadCause, ReadCounts, ScriptCause, WriteCounts}
use Rattle.replay.specs.Endings.{CanEnd}
use Rattle.replay.specs.Commands.{Obeys, told_of}
use Rattle.replay.specs.Kinds.{Writes}
use Rattle.replay.specs.Openings.{Images}
use Rattle.replay.specs.Runs.{WritesSelftest}
use Rattle.replay.specs.Stores.{LeavesAllBut}
use Rattle.replay.specs.Words.{IsNoCommand, NamesSite, list_named, store_named}
use Rattle.replay.specs.declared.status.Status.{Status}
use Rattle.replay.specs.declared.status.Status.TheVariants.{Done, Usage, Script, List as ListStatus, Store, Read, InUse, Write, Device, Memory}
use Rattle.replay.proofs.CauseLemmas.{rose_by_none}

-- a status other than `Usage`
abbrev pub IsNotUsage : Status → Type 0
IsNotUsage Usage = ⊥
IsNotUsage status = Unit {0}

-- the status is not `Usage`, whatever would follow of it
pub no_usage : {T : Type 0} (status : Status) → IsNotUsage status → status ≡ Usage → T
no_usage status not is = absurd (subst IsNotUsage is not)

-- a store that is left alone is as it was
pub same_images : (images : Images) → SameImages images images
same_images images = record { no_more = λ file is. is; no_fewer = λ file is. is }

-- no store is another one where none changed
same_stores : (store : Option (List ℕ)) (stores : List ℕ → Images) → LeavesAllBut store stores stores
same_stores None stores = λ path. same_images (stores path)
same_stores (Some own) stores = λ path apart. same_images (stores path)

-- and no list
same_lists : (named : Option (List ℕ)) (lists : List ℕ → Option (List ℕ)) → LeavesListsBut named lists lists
same_lists None lists = refl
same_lists (Some path) lists = λ other apart. refl

-- a host and the source of a script that a command leaves as they were
module _ {Hosts Lists Stores Scripts Outs : Type 0} (H : HostTells Hosts Lists Stores) (I : SourceTells Scripts) (O : SinkTells Outs) (host : Hosts) (script : Scripts) (closed : H.store_out host ≡ None) where
  left_alone : (command : Option PlainCommand) (status : Status) (out : BeforeAfter Outs) → IsNotUsage status
      → Writes command status (H.lists host) (H.tells_stores host) (H.stores host) (H.stores host) (told_of H.store_faults (from_to host host)) (told_of I.left (from_to script script)) (told_of O.taken out)
      → (IsNoCommand command → NamesSite command × (status ≡ Memory)) → CanEnd command status → ScriptCause command status (I.left script) → ListCause status (option_and_then (H.lists host) (list_named command))
      → ReadCounts status (told_of H.faults (from_to host host)) (told_of H.store_faults (from_to host host)) (told_of I.faults (from_to script script))
      → ReadCause command status (option_and_then (H.lists host) (list_named command)) (I.left script) (told_of H.faults (from_to host host)) (told_of H.reads (from_to host host)) (told_of I.faults (from_to script script))
      → DeviceCounts command status (told_of H.store_faults (from_to host host)) → WriteCounts status (told_of O.faults out) → Obeys H I O command status (from_to host host) (from_to script script) out
  left_alone command status out not text no_command ends refused list read read_told device write = record {
    text = text;
    usage = no_usage status not;
    no_command = λ none. inr (no_command none);
    ends = ends;
    refused = refused;
    list = list;
    read = read;
    read_told = read_told;
    device = device;
    write = write;
    untouched = λ none. refl;
    unread = λ none. refl;
    list_failed = λ failed. refl;
    lists = same_lists (list_named command) (H.lists host);
    closed = refl;
    store_closed = closed;
    others = same_stores (store_named command) (H.stores host);
  }

  -- no fault was counted
  none_rose : ReadCounts Done (told_of H.faults (from_to host host)) (told_of H.store_faults (from_to host host)) (told_of I.faults (from_to script script))
  none_rose = (rose_by_none (told_of H.faults (from_to host host)) (told_of H.store_faults (from_to host host)) refl refl, refl)

  -- a command that memory does not suffice for, which takes none of the output
  wanting : (command : Option PlainCommand) (out : Outs) → Writes command Memory (H.lists host) (H.tells_stores host) (H.stores host) (H.stores host) (told_of H.store_faults (from_to host host)) (told_of I.left (from_to script script)) (told_of O.taken (from_to out out))
      → (IsNoCommand command → NamesSite command) → CanEnd command Memory → ScriptCause command Memory (I.left script) → DeviceCounts command Memory (told_of H.store_faults (from_to host host))
      → Obeys H I O command Memory (from_to host host) (from_to script script) (from_to out out)
  wanting command out text names ends refused device = left_alone command Memory (from_to out out) tt text (λ none. (names none, refl)) ends refused tt none_rose tt device refl

  -- each command but `Help` may want memory
  pub obeys_memory : (command : Option PlainCommand) (out : Outs) → IsSome command → IfSome command TakesMemory → Obeys H I O command Memory (from_to host host) (from_to script script) (from_to out out)
  obeys_memory None out some is = absurd (false≢true some)
  obeys_memory (Some Help) out some is = absurd is
  obeys_memory (Some (Replay list None batch checkpoint start)) out some is = wanting (Some (Replay list None batch checkpoint start)) out (inl (takes_none (O.taken out))) (λ none. absurd none) tt tt tt
  obeys_memory (Some (Replay list (Some path) batch checkpoint start)) out some is = wanting (Some (Replay list (Some path) batch checkpoint start)) out (inl (takes_none (O.taken out), same_images (H.stores host path))) (λ none. absurd none) tt tt tt
  obeys_memory (Some (Twin site list batch checkpoint start)) out some is = wanting (Some (Twin site list batch checkpoint start)) out (takes_none (O.taken out)) (λ none. tt) tt tt tt
  obeys_memory (Some (Dump list path)) out some is = wanting (Some (Dump list path)) out (inl (takes_none (O.taken out), same_images (H.stores host path))) (λ none. absurd none) tt tt refl
  obeys_memory (Some (Selftest seed)) out some is = wanting (Some (Selftest seed)) out (takes_none (O.taken out)) (λ none. absurd none) tt tt tt

  -- a self-test
  pub obeys_selftest : (seed : ℕ) (status : Status) (out : BeforeAfter Outs) → WritesSelftest seed status (told_of O.taken out) → CanEnd (Some (Selftest seed)) status → WriteCounts status (told_of O.faults out)
      → Obeys H I O (Some (Selftest seed)) status (from_to host host) (from_to script script) out
  obeys_selftest seed Done out text ends write = left_alone (Some (Selftest seed)) Done out tt text (λ none. absurd none) ends tt tt none_rose tt tt write
  obeys_selftest seed Write out text ends write = left_alone (Some (Selftest seed)) Write out tt text (λ none. absurd none) ends tt tt none_rose tt tt write
  obeys_selftest seed Memory out text ends write = left_alone (Some (Selftest seed)) Memory out tt text (λ none. absurd none) ends tt tt none_rose tt tt write
  obeys_selftest seed Usage out text ends write = absurd ends
  obeys_selftest seed (Script why) out text ends write = absurd ends
  obeys_selftest seed (ListStatus why) out text ends write = absurd ends
  obeys_selftest seed (Store why) out text ends write = absurd ends
  obeys_selftest seed Read out text ends write = absurd ends
  obeys_selftest seed InUse out text ends write = absurd ends
  obeys_selftest seed Device out text ends write = absurd ends
