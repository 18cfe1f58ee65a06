-- Domains that stand apart in a run: the sites of some domains, which share unpartitioned cookies
-- with one another and with no other site; and the lines of all others.
-- Source: none; these are the words of the promise.
-- Our own choice: a domain stands apart with its two sites, of https and of http, unless storage
-- access is granted: by that a document uses its own domain's cookies below another top-level site.
use Rattle.std.specs.Prelude.{◌≡◌, ℕ, Bool, true, false, not, List, [], ◌∷◌, bytes_eq, Option, Some}
use Rattle.std.specs.Prelude.{None}
use Rattle.std.specs.List.{list_any}
use Rattle.unwinding.specs.LeftOut.{Group, IsGroup, lines_without}
use Rattle.suffix_list.specs.Suffix.{Rule}
use Rattle.origin_site.specs.Site.{PlainSite}
use Rattle.script_actions.specs.Action.{PlainAction, Tick, Open, Close, Go, Evict, Act}
use Rattle.script_actions.specs.ActionFacts.{facts_of}
use Rattle.agent_model.specs.CookieCells.{Domain}
use Rattle.agent_model.specs.Lines.{Rest, site_at}
use Rattle.agent_model.specs.TheMachine.{machine, beginning}

-- the sites of some domains, and the cookies of these domains
abbrev pub group_of : List Domain → Group PlainSite Domain
group_of domains =
    record {
      has_site = λ site. list_any (bytes_eq site.host) domains;
      has_cell = λ domain. list_any (bytes_eq domain) domains;
    }

-- a site is of one of these domains
abbrev pub is_among : List Domain → PlainSite → Bool
is_among domains site = (group_of domains).has_site site

-- in a run, the sites of some domains use the unpartitioned cookies of these domains alone, and no
-- other site uses those
abbrev pub StandApart : List Rule → List Domain → ℕ → List PlainAction → Type 0
StandApart rules domains start lines =
    IsGroup (machine rules) (group_of domains) (beginning start) lines

-- ---- where no document asks for storage access

-- a line requests it
abbrev pub asks_access : PlainAction → Bool
asks_access (Act at action) = (facts_of action).requests
asks_access (Tick s) = false
asks_access (Open tab url opener noopener method head) = false
asks_access (Close tab) = false
asks_access (Go tab url by_page method head) = false
asks_access (Evict site) = false

-- no line requests it
abbrev pub AskNone : List PlainAction → Type 0
AskNone [] = Unit {0}
AskNone (line ∷ lines) = (asks_access line ≡ false) × AskNone lines

-- Where none does, each domain stands apart: the site of https and that of http use the cookies of
-- their domain, and nobody else does.
abbrev pub EachStandsApart : Type 0
EachStandsApart = (rules : List Rule) (domain : Domain) (start : ℕ) (lines : List PlainAction)
    → AskNone lines → StandApart rules (domain ∷ []) start lines

-- ---- the lines of others

-- a tab is at a site of these domains
abbrev pub is_at : List Domain → Option PlainSite → Bool
is_at domains None = false
is_at domains (Some here) = is_among domains here

-- a line that acts in a tab which is at no site of these domains, or evicts none of these
abbrev pub is_apart : List Domain → Rest → PlainAction → Bool
is_apart domains rest (Act at action) = not (is_at domains (site_at at.tab rest.places))
is_apart domains rest (Evict named) = not (is_among domains named)
is_apart domains rest (Tick s) = false
is_apart domains rest (Open tab url opener noopener method head) = false
is_apart domains rest (Go tab url by_page method head) = false
is_apart domains rest (Close tab) = false

-- the lines of a run without those that act in tabs at other domains or evict sites of these. They
-- are those that open, move or close a tab or move the clock, and the lines of the domains' sites.
abbrev pub without_others : List Rule → List Domain → ℕ → List PlainAction → List PlainAction
without_others rules domains start lines =
    lines_without (machine rules) (λ w line. is_apart domains w.rest line) (beginning start) lines
