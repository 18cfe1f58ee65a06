-- The equality of events that the program has by a derive is that of their plain values.
use Rattle.std.proofs.Common.{rules, ◌≡◌, Decides, ℕ, Bool, true, false, Box, Vec, Global, refl, ap, sym, ◌∙◌}
use Rattle.std.specs.Cmp.{booleans_Decides}
use Rattle.std.proofs.lemmas.Bool.Decides.{Decides-and, Decides-like, Decides-eqb}
use Rattle.origin_site.specs.declared.address.Address.{Address}
use Rattle.script_actions.specs.Action.{PlainAction, Tick, Open, Close, Go, Evict, Act}
use Rattle.script_actions.specs.Plain.{action_of}
use Rattle.script_actions.specs.declared.action.HeadField.{HeadField}
use Rattle.script_actions.specs.declared.words.Method.{Method}
use Rattle.agent_model.specs.SiteEvent as model
use Rattle.local_scripts.specs.Items.{acted, event_of, load_of}
use Rattle.local_scripts.specs.Lines.{is_of_document}
use Rattle.local_scripts.specs.declared.site_event.DocumentLine.{DocumentLine}
use Rattle.local_scripts.specs.declared.site_event.SiteEvent.{SiteEvent}
use Rattle.local_scripts.specs.declared.site_event.SiteEvent.TheVariants as event
use Rattle.local_scripts.specs.declared.site_event.TopLoad.{TopLoad}
use Rattle.local_scripts.specs.contracts.site_event.DocumentLinePartialEq as line_eq
use Rattle.local_scripts.specs.contracts.site_event.SiteEventPartialEq as event_eq
use Rattle.local_scripts.specs.contracts.site_event.TopLoadPartialEq as load_eq
use Rattle.local_scripts.proofs.ActionLemmas.{address_decides, fields_decide, method_decides, same_action-Decides}

abbrev equal_line : DocumentLine → DocumentLine → Bool
equal_line a b = (line_eq.TheImpl.eq-value).it a b

abbrev equal_load : TopLoad → TopLoad → Bool
equal_load a b = (load_eq.TheImpl.eq-value).it a b

abbrev equal_event : SiteEvent → SiteEvent → Bool
equal_event a b = (event_eq.TheImpl.eq-value).it a b

load_decides : (a b : TopLoad) → Decides (equal_load a b) (load_of a ≡ load_of b)
load_decides a b = search rules

-- a line of a document is found again from its event
acted_once : (a b : PlainAction) → is_of_document a ≡ true → is_of_document b ≡ true → acted a ≡ acted b → a ≡ b
acted_once (Tick s) b own other e = search rules
acted_once (Open tab url opener noopener method head) b own other e = search rules
acted_once (Close tab) b own other e = search rules
acted_once (Go tab url by_page method head) b own other e = search rules
acted_once (Evict site) b own other e = search rules
acted_once (Act at action) b own other e = search rules

line_decides : (a b : DocumentLine) → Decides (equal_line a b) (acted (action_of a.action) ≡ acted (action_of b.action))
line_decides a b =
    Decides-like _ (λ e. ap acted e) (λ e. acted_once (action_of a.action) (action_of b.action) a.named b.named e)
    (same_action-Decides a.action b.action)

acts_decides : (a b : DocumentLine) → Decides (equal_event (event.Acts a) (event.Acts b)) (event_of (event.Acts a) ≡ event_of (event.Acts b))
acts_decides a b = line_decides a b

arrives_decides : (load : TopLoad) (tab : ℕ) (url : Box Address Global) (method : Method) (same_site : Bool) (head : Vec HeadField Global)
    (load2 : TopLoad) (tab2 : ℕ) (url2 : Box Address Global) (method2 : Method) (same_site2 : Bool) (head2 : Vec HeadField Global)
    → Decides (equal_event (event.Arrives load tab url method same_site head) (event.Arrives load2 tab2 url2 method2 same_site2 head2))
    (event_of (event.Arrives load tab url method same_site head) ≡ event_of (event.Arrives load2 tab2 url2 method2 same_site2 head2))
arrives_decides load tab url method same_site head load2 tab2 url2 method2 same_site2 head2 =
    Decides-like _ (λ e i. model.Arrives (e.0 i) (e.1.0 i) (e.1.1.0 i) (e.1.1.1.0 i) (e.1.1.1.1.0 i) (e.1.1.1.1.1 i))
    (λ e. search rules)
    (Decides-and _ _ (load_decides load load2)
    (Decides-and _ _ (Decides-eqb tab tab2)
    (Decides-and _ _ (address_decides url.value url2.value)
    (Decides-and _ _ (method_decides method method2)
    (Decides-and _ _ (booleans_Decides same_site same_site2)
    (fields_decide head.items head2.items))))))

-- an event is that of a document's line
abbrev is_acts : model.SiteEvent → Bool
is_acts (model.Acts at action) = true
is_acts (model.Arrives load tab url method same_site head) = false
is_acts (model.Leaves tab) = false
is_acts (model.Copies from to) = false
is_acts (model.Closes tab) = false
is_acts model.Evicts = false

acts : (line : PlainAction) → is_of_document line ≡ true → is_acts (acted line) ≡ true
acts (Tick s) own = own
acts (Open tab url opener noopener method head) own = own
acts (Close tab) own = own
acts (Go tab url by_page method head) own = own
acts (Evict site) own = own
acts (Act at action) own = own

-- no other event is equal to it
apart : (a : DocumentLine) (other : model.SiteEvent) → is_acts other ≡ false → Decides false (acted (action_of a.action) ≡ other)
apart a other is =
    (λ no. absurd (cc no), λ e. sym is ∙ sym (ap is_acts e) ∙ acts (action_of a.action) a.named)

-- the program's equality of events is that of the plain events
pub same_event-Decides : (a b : SiteEvent) → Decides (equal_event a b) (event_of a ≡ event_of b)
same_event-Decides (event.Acts a) (event.Acts b) = acts_decides a b
same_event-Decides (event.Acts a) b = apart a (event_of b) refl
same_event-Decides (event.Arrives load tab url method same_site head) (event.Arrives load2 tab2 url2 method2 same_site2 head2) =
    arrives_decides load tab url method same_site head load2 tab2 url2 method2 same_site2 head2
same_event-Decides (event.Arrives load tab url method same_site head) b = search rules
same_event-Decides (event.Leaves tab) b = search rules
same_event-Decides (event.Copies from to) b = search rules
same_event-Decides (event.Closes tab) b = search rules
same_event-Decides event.Evicts b = search rules
