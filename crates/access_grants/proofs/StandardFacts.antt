-- Values worked out by hand from the standard's steps and from this repository's own choices.
use Rattle.std.proofs.lemmas.Bool.{true≢false}
use Rattle.std.proofs.Common.{◌≡◌, ◌-◌, ◌^◌, pos, refl, sym, true, false, List, [], ◌∷◌, Option, Some}
use Rattle.std.specs.Prelude.{codes}
use Rattle.suffix_list.specs.Suffix.{Rule}
use Rattle.origin_site.specs.Site.{PlainSite}
use Rattle.access_grants.specs.declared.facts.Answer.{Answer}
use Rattle.access_grants.specs.declared.facts.Answer.TheVariants.{Grant, Deny, Dismiss}
use Rattle.access_grants.specs.declared.facts.Facts.{Facts}
use Rattle.access_grants.specs.declared.outcome.Outcome.{Outcome}
use Rattle.access_grants.specs.declared.outcome.Refusal.TheVariants as why
use Rattle.access_grants.specs.declared.permission.GrantState.{GrantState}
use Rattle.access_grants.specs.declared.permission.GrantState.TheVariants.{Granted, Denied, Unset}
use Rattle.access_grants.specs.Grant.{PlainGrant, grant_state, with_row, permission_at, spare_after}
use Rattle.access_grants.specs.UnderSite.{grants_under, with_row_under}
use Rattle.access_grants.specs.Stays.{grant_stays}
use Rattle.access_grants.specs.Request.{GivesAccess, denied_now, dismissed, first_row, granted, granted_now, has_access, refused, request_rows}

-- no rule: each last label is a public suffix
abbrev tests : List Rule
tests = []

-- three sites over https, and the first over http
abbrev site_a : PlainSite
site_a = record { https = true; host = codes "a.test" }

abbrev site_b : PlainSite
site_b = record { https = true; host = codes "b.test" }

abbrev site_x : PlainSite
site_x = record { https = true; host = codes "x.test" }

abbrev insecure_x : PlainSite
insecure_x = record { https = false; host = codes "x.test" }

-- a grant that is given at 100, and a denial
abbrev grant_x : PlainGrant
grant_x = record { top = site_a; site = site_x; granted = true; until = pos 2592100 }

abbrev deny_x : PlainGrant
deny_x = record { top = site_b; site = site_x; granted = false; until = pos 2592100 }

abbrev rows : List PlainGrant
rows = grant_x ∷ deny_x ∷ []

thirty_days : permission_at true (pos 100) ≡ record { granted = true; until = pos 2592100 }
thirty_days = refl

at_the_end_of_time : permission_at false (pos (2 ^ 63 - 1)) ≡ record { granted = false; until = pos (2 ^ 63 - 1) }
at_the_end_of_time = refl

last_second_of_a_grant : grant_state site_a site_x (pos 2592099) rows ≡ Granted
last_second_of_a_grant = refl

second_after_a_grant : grant_state site_a site_x (pos 2592100) rows ≡ Unset
second_after_a_grant = refl

last_second_of_a_denial : grant_state site_b site_x (pos 2592099) rows ≡ Denied
last_second_of_a_denial = refl

second_after_a_denial : grant_state site_b site_x (pos 2592100) rows ≡ Unset
second_after_a_denial = refl

under_no_other_top : grant_state site_x site_a (pos 100) rows ≡ Unset
under_no_other_top = refl

of_no_other_scheme : grant_state site_a insecure_x (pos 100) rows ≡ Unset
of_no_other_scheme = refl

abbrev renewed : PlainGrant
renewed = record { top = site_a; site = site_x; granted = false; until = pos 7 }

kept_in_place : with_row renewed rows ≡ renewed ∷ deny_x ∷ []
kept_in_place = refl

kept_last : with_row renewed (deny_x ∷ []) ≡ deny_x ∷ renewed ∷ []
kept_last = refl

spare_in_place : spare_after renewed (record { rows = rows; spare = 3 }) ≡ 3
spare_in_place = refl

spare_of_a_new_pair : spare_after renewed (record { rows = []; spare = 3 }) ≡ 2
spare_of_a_new_pair = refl

-- a third-party document that was just activated, and may ask
abbrev asks : Facts
asks = record {
  opaque = false;
  secure = true;
  deny = false;
  sandbox_allows = true;
  first = false;
  flag = false;
  active = true;
}

abbrev outcome : Facts → GrantState → Answer → Option Outcome
outcome facts state answer = first_row (request_rows facts state answer (pos 100))

opaque_origin : outcome (record asks { opaque = true; secure = false }) Granted Grant ≡ Some (refused why.Opaque)
opaque_origin = refl

http_above : outcome (record asks { secure = false; deny = true }) Granted Grant ≡ Some (refused why.Insecure)
http_above = refl

policy_denies : outcome (record asks { deny = true; sandbox_allows = false }) Granted Grant ≡ Some (refused why.Policy)
policy_denies = refl

sandbox_denies : outcome (record asks { sandbox_allows = false; first = true }) Granted Grant ≡ Some (refused why.Sandbox)
sandbox_denies = refl

first_party_needs_none : outcome (record asks { first = true; active = false }) Denied Deny ≡ Some (granted false)
first_party_needs_none = refl

flag_is_enough : outcome (record asks { flag = true; active = false }) Denied Deny ≡ Some (granted false)
flag_is_enough = refl

grant_of_before : outcome (record asks { active = false }) Granted Deny ≡ Some (granted true)
grant_of_before = refl

denial_of_before : outcome asks Denied Grant ≡ Some (refused why.Denied)
denial_of_before = refl

not_active : outcome (record asks { active = false }) Unset Grant ≡ Some (refused why.NoActivation)
not_active = refl

user_grants : outcome asks Unset Grant ≡ Some (granted_now (pos 100))
user_grants = refl

user_denies : outcome asks Unset Deny ≡ Some (denied_now (pos 100))
user_denies = refl

user_closes : outcome asks Unset Dismiss ≡ Some dismissed
user_closes = refl

grant_keeps_activation : (granted_now (pos 100)).consumes ≡ false
grant_keeps_activation = refl

denial_consumes : (denied_now (pos 100)).consumes ≡ true
denial_consumes = refl

access_by_flag : has_access (record asks { flag = true }) ≡ true
access_by_flag = refl

no_access_over_http : has_access (record asks { flag = true; secure = false }) ≡ false
no_access_over_http = refl

no_access_of_opaque : has_access (record asks { first = true; opaque = true }) ≡ false
no_access_of_opaque = refl

no_access_without_flag : has_access asks ≡ false
no_access_without_flag = refl

rows_under_a_site : grants_under site_b rows ≡ deny_x ∷ []
rows_under_a_site = refl

kept_under_its_top : with_row_under site_a renewed (grant_x ∷ []) ≡ renewed ∷ []
kept_under_its_top = refl

kept_under_no_other_top : with_row_under site_b renewed (deny_x ∷ []) ≡ deny_x ∷ []
kept_under_no_other_top = refl

-- a grant without the flag gives no access to a document that is not first party
no_access_without_the_flag : GivesAccess asks (granted false) → ⊥
no_access_without_the_flag gives = true≢false (sym (gives refl))

-- a permission is of both sites
both_sites_stay : grant_stays tests (record grant_x { site = record { https = true; host = codes "x.b.test" } }) ≡ false
both_sites_stay = refl
