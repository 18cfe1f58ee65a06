-- The slot stands at the given place, or nowhere.
use Rattle.std.proofs.Common.{◌≡◌, ◌<◌, ◌≤◌, ℕ, List, length, get_or, Result, Ok, Err, ap, sym, subst, ◌∙◌, rules, MatchResult}
use Rattle.std.specs.Prelude.{vec_len}
use Rattle.std.proofs.lemmas.List.{get_or_default}
use Rattle.live_state.proofs.TabListLemmas.{renamed-none, renamed-one}
use Rattle.live_state.proofs.tab_list.rename_slot.Goals as goal

pub returns-then-index-from-clause-renamed : goal.returns-then-index-from-clause-renamed
returns-then-index-from-clause-renamed c =
    let order : List ℕ = c.args.order.now.items in
    let long : vec_len c.args.order.now ≡ length order = c.args.order.now.ok.0 in
    let fits : c.in-Ok.place < vec_len c.args.order.now =
    subst (λ (r : Result ℕ ℕ). MatchResult r (λ p. p < vec_len c.args.order.now) (λ p. p ≤ vec_len c.args.order.now)) c.in-Ok.is c.requires.fits in
    let within : c.in-Ok.place < length order = subst (λ n. c.in-Ok.place < n) long fits in
    let read : c.index.result.now ≡ get_or order c.in-Ok.place c.index.result.now = search rules in
    let own : c.index.result.now ≡ c.args.from = search rules in
    renamed-one c.args.from c.args.to order c.in-Ok.place within (sym (read ∙ get_or_default order c.in-Ok.place c.index.result.now 0 within) ∙ own)
    (λ k low is.
    let same : ◌≡◌ {A = Result ℕ ℕ} (Ok k) (Ok c.in-Ok.place) = sym (c.requires.only k (subst (λ n. k < n) (sym long) low) is) ∙ c.in-Ok.is in cc)

pub returns-else-index-from-clause-renamed : goal.returns-else-index-from-clause-renamed
returns-else-index-from-clause-renamed c =
    let order : List ℕ = c.args.order.now.items in
    let long : vec_len c.args.order.now ≡ length order = c.args.order.now.ok.0 in
    renamed-none c.args.from c.args.to order (λ k low is.
    let same : ◌≡◌ {A = Result ℕ ℕ} (Ok k) (Ok c.in-Ok.place) = sym (c.requires.only k (subst (λ n. k < n) (sym long) low) is) ∙ c.in-Ok.is in
    let here : k ≡ c.in-Ok.place = cc in
    let read : c.index.result.now ≡ get_or order c.in-Ok.place c.index.result.now = search rules in
    let own : c.index.result.now ≡ c.args.from =
    read ∙ get_or_default order c.in-Ok.place c.index.result.now 0 (subst (λ n. n < length order) here low)
    ∙ ap (λ n. get_or order n 0) (sym here) ∙ is in
    c.if-index-from.false own)
