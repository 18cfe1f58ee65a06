-- How little a local script holds.
use Rattle.std.proofs.Common.{◌≡◌, ℕ, Bool, true, false, not, ◌&&◌, ◌||◌, List, [], ◌∷◌, ◌++◌, Option, Some, None, refl, sym, ap, ◌∙◌}
use Rattle.std.proofs.lemmas.Slice.Eq.{bytes_eq-Decides}
use Rattle.std.specs.Prelude.{is_some, map, option_map}
use Rattle.unwinding.specs.World.{world_step}
use Rattle.unwinding.specs.LocalEntries.{line_touched, local_entries}
use Rattle.unwinding.proofs.HoldsOnly.{none_holds}
use Rattle.unwinding.proofs.OthersOut.{left_out}
use Rattle.suffix_list.specs.Suffix.{Rule}
use Rattle.origin_site.specs.Address.{PlainAddress}
use Rattle.origin_site.specs.Site.{PlainSite, same_plain_site, site_of_address}
use Rattle.storage_key.specs.Context.{is_of}
use Rattle.script_actions.specs.declared.words.Method.{Method}
use Rattle.script_actions.specs.Action.{HeadField, PlainAction, Tick, Open, Close, Go, Evict, Act}
use Rattle.agent_model.specs.CookieCells.{Domain}
use Rattle.agent_model.specs.Partition.{tab_named}
use Rattle.agent_model.specs.SiteEvent.{SiteEvent, Acts, Arrives, Leaves, Copies, Closes, Evicts, Opens, Goes}
use Rattle.agent_model.specs.Sessions.{has_session}
use Rattle.agent_model.specs.Lines.{AgentWorld, User, Page, occurs, opening, going, site_at, main_event}
use Rattle.agent_model.specs.TheMachine.{IsSound, machine, beginning}
use Rattle.agent_model.specs.Isolation.{local_script, site_run, lines_alone}
use Rattle.agent_model.specs.Given.{given, given_opening, where_free, given_going, given_closing, events_given, entry_given}
use Rattle.agent_model.specs.Groups.{group_of, without_others}
use Rattle.agent_model.specs.LocalScripts.{RefusedGivesNone, IsOfOthers, AreOfOthers, OthersGiveNone, OthersLeftOut, LinesWithoutOthers, HoldsOnlyChanged}
use Rattle.agent_model.proofs.Isolated.{begins_sound, facts, has_isolated_lines}
use Rattle.agent_model.proofs.GivenLemmas.{never, gives_exactly}
use Rattle.agent_model.proofs.OwnLemmas.{own_facts, apart_at, apart_facts}

module _ (rules : List Rule) (s : PlainSite) (w : AgentWorld) where
  abbrev now : ℕ
  now = w.rest.now

  -- ---- refused lines

  refused_user : (tab : ℕ) (url : PlainAddress) (noopener : Bool) (method : Method) (head : List HeadField) (here : Option PlainSite)
      → opening rules w tab url method head (Some User) here ≡ None → where_free here (given_opening rules s now tab url None noopener method head None) ≡ []
  refused_user tab url noopener method head None is = cc
  refused_user tab url noopener method head (Some here) is = refl

  refused_page : (tab : ℕ) (url : PlainAddress) (opener : ℕ) (noopener : Bool) (method : Method) (head : List HeadField) (here from : Option PlainSite)
      → opening rules w tab url method head (option_map Page from) here ≡ None → where_free here (given_opening rules s now tab url (Some opener) noopener method head from) ≡ []
  refused_page tab url opener noopener method head None None is = refl
  refused_page tab url opener noopener method head None (Some from) is = cc
  refused_page tab url opener noopener method head (Some here) from is = refl

  refused_go : (tab : ℕ) (url : PlainAddress) (by_page : Bool) (method : Method) (head : List HeadField) (here : Option PlainSite)
      → going rules w tab url by_page method head here ≡ None → given_going rules s now tab url by_page method head here ≡ []
  refused_go tab url by_page method head None is = refl
  refused_go tab url by_page method head (Some here) is = cc

  refused_close : (tab : ℕ) (here : Option PlainSite) → option_map (occurs w (Closes tab)) here ≡ None → given_closing s (w.partition s) now tab here ≡ []
  refused_close tab None is = refl
  refused_close tab (Some here) is = cc

  refused_act : (e : SiteEvent) (here : Option PlainSite) → option_map (occurs w e) here ≡ None → given (is_of s here) now e ≡ []
  refused_act e None is = refl
  refused_act e (Some here) is = cc

  pub refused_given : (l : PlainAction) → main_event rules w l ≡ None → events_given rules s (w.partition s) w.rest l ≡ []
  unfolding main_event events_given
  refused_given (Tick seconds) is = refl
  refused_given (Open tab url None noopener method head) is = refused_user tab url noopener method head (site_at tab w.rest.places) is
  refused_given (Open tab url (Some opener) noopener method head) is = refused_page tab url opener noopener method head (site_at tab w.rest.places) (site_at opener w.rest.places) is
  refused_given (Go tab url by_page method head) is = refused_go tab url by_page method head (site_at tab w.rest.places) is
  refused_given (Close tab) is = refused_close tab (site_at tab w.rest.places) is
  refused_given (Evict named) is = cc
  refused_given (Act at action) is = refused_act (Acts at action) (site_at at.tab w.rest.places) is

  -- ---- lines of other sites

  others_user : (tab : ℕ) (url : PlainAddress) (noopener : Bool) (method : Method) (head : List HeadField) (here : Option PlainSite)
      → same_plain_site s (site_of_address rules url) ≡ false → where_free here (given_opening rules s now tab url None noopener method head None) ≡ []
  others_user tab url noopener method head None away = ap (λ b. given b now (Arrives Opens tab url method true head)) away
  others_user tab url noopener method head (Some here) away = refl

  others_page : (tab : ℕ) (url : PlainAddress) (opener : ℕ) (noopener : Bool) (method : Method) (head : List HeadField) (here from : Option PlainSite)
      → is_of s from ≡ false → same_plain_site s (site_of_address rules url) ≡ false
      → where_free here (given_opening rules s now tab url (Some opener) noopener method head from) ≡ []
  others_page tab url opener noopener method head None None apart away = refl
  others_page tab url opener noopener method head None (Some from) apart away =
      let target = site_of_address rules url in
      (λ i. given (not noopener && apart i) now (Copies opener tab) ++ given (away i) now (Arrives Opens tab url method (same_plain_site from target) head))
      ∙ ap (λ es. es ++ []) (never (not noopener) now (Copies opener tab))
  others_page tab url opener noopener method head (Some here) from apart away = refl

  others_go : (tab : ℕ) (url : PlainAddress) (by_page : Bool) (method : Method) (head : List HeadField) (here : Option PlainSite)
      → is_of s here ≡ false → same_plain_site s (site_of_address rules url) ≡ false → given_going rules s now tab url by_page method head here ≡ []
  others_go tab url by_page method head None apart away = refl
  others_go tab url by_page method head (Some here) apart away =
      let target = site_of_address rules url in
      λ i. given (apart i && not (same_plain_site s target)) now (Leaves tab) ++ given (away i) now (Arrives Goes tab url method (not by_page || same_plain_site here target) head)

  others_close : (tab : ℕ) (here : Option PlainSite) → is_of s here ≡ false → has_session tab (w.partition s).held ≡ false → given_closing s (w.partition s) now tab here ≡ []
  others_close tab None apart none = refl
  others_close tab (Some here) apart none =
      let there = is_some (tab_named tab (w.partition s).held) in
      (λ i. given (not there && none i) now (Closes tab) ++ given (apart i) now (Closes tab))
      ∙ ap (λ es. es ++ []) (never (not there) now (Closes tab))

  pub others_given : (l : PlainAction) → IsOfOthers rules s (w.partition s) w.rest l → events_given rules s (w.partition s) w.rest l ≡ []
  unfolding events_given
  others_given (Tick seconds) away = refl
  others_given (Open tab url None noopener method head) away = others_user tab url noopener method head (site_at tab w.rest.places) away.1
  others_given (Open tab url (Some opener) noopener method head) away = others_page tab url opener noopener method head (site_at tab w.rest.places) (site_at opener w.rest.places) away.0 away.1
  others_given (Go tab url by_page method head) away = others_go tab url by_page method head (site_at tab w.rest.places) away.0 away.1
  others_given (Close tab) away = others_close tab (site_at tab w.rest.places) away.0 away.1
  others_given (Evict named) away = ap (λ b. given b now Evicts) away
  others_given (Act at action) away = ap (λ b. given b now (Acts at action)) away

pub refused_gives_none : RefusedGivesNone
refused_gives_none rules s touched w line is =
    gives_exactly rules s touched w line ∙ ap (map (entry_given rules s (w.partition s) touched w.cells)) (refused_given rules s w line is)

others_entries : (rules : List Rule) (s : PlainSite) (touched : List Domain) (w : AgentWorld) (lines : List PlainAction) → AreOfOthers rules s w lines → local_entries (machine rules) s touched w lines ≡ []
others_entries rules s touched w [] away = refl
others_entries rules s touched w (line ∷ lines) away =
    let later = line_touched (machine rules) s touched w line in
    ap (λ es. es ++ local_entries (machine rules) s later (world_step (machine rules) w line) lines) (gives_exactly rules s touched w line ∙ ap (map (entry_given rules s (w.partition s) touched w.cells)) (others_given rules s w line away.0))
    ∙ others_entries rules s later (world_step (machine rules) w line) lines away.1

pub others_give_none : OthersGiveNone
unfolding local_script
others_give_none rules s start lines away = others_entries rules s [] (beginning start) lines away

pub others_left_out : OthersLeftOut
unfolding local_script
others_left_out rules domains s start lines member group =
    ap (λ script. record { rules = rules; script = script })
    (left_out (machine rules) IsSound (facts rules) (group_of domains) (own_facts rules domains) s member (apart_at rules domains) (apart_facts rules domains) (beginning start) lines (begins_sound start) group)

pub lines_without_others : LinesWithoutOthers
lines_without_others rules domains s start lines member group =
    has_isolated_lines rules s start lines
    ∙ ap (λ given. lines_alone s (site_run s given)) (others_left_out rules domains s start lines member group)
    ∙ sym (has_isolated_lines rules s start (without_others rules domains start lines))

-- ---- which cookies an entry holds

own_home : (rules : List Rule) (s : PlainSite) → (machine rules).is_home s s.host ≡ true
unfolding machine
own_home rules s = (bytes_eq-Decides s.host s.host).1 refl

pub holds_only_changed : HoldsOnlyChanged
unfolding local_script
holds_only_changed rules s start lines leave = none_holds (machine rules) IsSound (facts rules) s s.host (own_home rules s) [] refl (beginning start) lines leave
