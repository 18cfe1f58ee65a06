-- What is known of a line that was given to a session.
use Rattle.std.proofs.Common.{◌≡◌, ℕ, true, false, List, [], Option, Some, None, Result, Ok, Err, refl, subst}
use Rattle.std.specs.Prelude.{Bool, if◌then◌else◌}
use Rattle.journal.specs.Opening.{IsOfFile}
use Rattle.journal.specs.declared.open_fault.OpenFault.{OpenFault}
use Rattle.script_actions.specs.Action.{PlainLine}
use Rattle.script_lines.specs.Grammar.{is_blank}
use Rattle.script_lines.specs.Script.{PlainFault}
use Rattle.script_lines.specs.Script as plain
use Rattle.line_session.specs.Asked.{asked_by, steps_in}
use Rattle.line_session.specs.Refusals.{HasFault, IsFaultOf, RefusedSo}
use Rattle.line_session.specs.SessionView.{SessionView}
use Rattle.line_session.specs.declared.refused.LineRefused.{LineRefused}
use Rattle.line_session.specs.declared.refused.LineRefused.TheVariants.{LineFeed, TooLong, NotUtf8, NotJson, UnknownAction, BadField, BadHeader, Store, Owed, Unprinted, NoMemory}
use Rattle.served_lines.specs.Refusal.{fault_words}
use Rattle.served_lines.specs.Steps.{IsKnownOf}

no_words : {A : Type 0} (words : List ℕ) → ◌≡◌ {A = Option (List ℕ)} None (Some words) → A
no_words words e = absurd (never e)
  where
    never : ◌≡◌ {A = Option (List ℕ)} None (Some words) → ⊥
    never e = cc

-- a fault is no store
module _ (line : List ℕ) where
  pub of_fault : (why : LineRefused) → ((fault : OpenFault) → why ≡ Store fault → ⊥)
      → ((words : List ℕ) → fault_words why ≡ Some words → IsFaultOf line why) → IsKnownOf line why
  of_fault why none fault = (fault, λ f is. absurd (none f is))

  -- what a session leaves of a line that it refused
  module _ {D : Type 0} (old new : SessionView D) where
    pub refused_known : (why : LineRefused) → RefusedSo old new line why → IsKnownOf line why
    refused_known LineFeed r = of_fault LineFeed (λ f e. cc) (λ words is. r.0)
    refused_known TooLong r = of_fault TooLong (λ f e. cc) (λ words is. r.0)
    refused_known NotUtf8 r = of_fault NotUtf8 (λ f e. cc) (λ words is. r.0)
    refused_known NotJson r = of_fault NotJson (λ f e. cc) (λ words is. r.0)
    refused_known UnknownAction r = of_fault UnknownAction (λ f e. cc) (λ words is. r.0)
    refused_known (BadField name) r = of_fault (BadField name) (λ f e. cc) (λ words is. r.0)
    refused_known BadHeader r = of_fault BadHeader (λ f e. cc) (λ words is. r.0)
    refused_known (Store why) r = (λ words is. no_words words is, λ f is. subst IsOfFile (same why f is) r.0)
      where
        same : (one other : OpenFault) → Store one ≡ Store other → one ≡ other
        same one other e = cc
    refused_known Owed r = of_fault Owed (λ f e. cc) (λ words is. no_words words is)
    refused_known Unprinted r = of_fault Unprinted (λ f e. cc) (λ words is. no_words words is)
    refused_known NoMemory r = of_fault NoMemory (λ f e. cc) (λ words is. no_words words is)

    pub refused_still : (why : LineRefused) → RefusedSo old new line why → (words : List ℕ)
        → fault_words why ≡ Some words → new ≡ old
    refused_still LineFeed r words is = r.1
    refused_still TooLong r words is = r.1
    refused_still NotUtf8 r words is = r.1
    refused_still NotJson r words is = r.1
    refused_still UnknownAction r words is = r.1
    refused_still (BadField name) r words is = r.1
    refused_still BadHeader r words is = r.1
    refused_still (Store why) r words is = no_words words is
    refused_still Owed r words is = r.1
    refused_still Unprinted r words is = no_words words is
    refused_still NoMemory r words is = no_words words is

-- ---- lines that are too long

no_fault : (fault : PlainFault) → HasFault [] fault → ⊥
no_fault fault has = never fault has.has
  where
    never : (fault : PlainFault) → ◌≡◌ {A = Result (Option PlainLine) PlainFault} (Ok None) (Err fault) → ⊥
    never fault e = cc

-- nothing is no line that a session refuses for a fault
module _ {D : Type 0} (old new : SessionView D) (line : List ℕ) where
  pub blank_known : (why : LineRefused) → RefusedSo old new [] why → IsKnownOf line why
  blank_known LineFeed r = of_fault line LineFeed (λ f e. cc) (λ words is. no_words words is)
  blank_known TooLong r = absurd (no_fault (plain.LineTooLong r.0.0) r.0.1)
  blank_known NotUtf8 r = absurd (no_fault (plain.NotUtf8 r.0.0) r.0.1)
  blank_known NotJson r = absurd (no_fault (plain.NotJson r.0.0) r.0.1)
  blank_known UnknownAction r = absurd (no_fault (plain.UnknownAction r.0.0) r.0.1)
  blank_known (BadField name) r = absurd (no_fault (plain.BadField r.0.0 _) r.0.1)
  blank_known BadHeader r = absurd (no_fault (plain.BadHeader r.0.0) r.0.1)
  blank_known (Store why) r = refused_known [] old new (Store why) r
  blank_known Owed r = of_fault line Owed (λ f e. cc) (λ words is. no_words words is)
  blank_known Unprinted r = of_fault line Unprinted (λ f e. cc) (λ words is. no_words words is)
  blank_known NoMemory r = of_fault line NoMemory (λ f e. cc) (λ words is. no_words words is)

if_blank : (blank : Bool) (rest : Result (Option PlainLine) PlainFault) → blank ≡ true
    → steps_in (if blank then Ok None else rest) ≡ []
if_blank true rest e = refl
if_blank false rest e = cc

-- a line of spaces asks for nothing
pub asks_nothing : (line : List ℕ) → is_blank line ≡ true → asked_by line ≡ []
asks_nothing line blank = if_blank (is_blank line) _ blank
