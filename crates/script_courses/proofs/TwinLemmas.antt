-- The answer to two scripts.
use Rattle.std.proofs.Common.{◌≡◌, ◌⊎◌, inl, inr, ℕ, zero, suc, ◌+◌, ◌-◌, ◌<◌, Bool, true, false, cond, List, [], ◌∷◌, ◌++◌, Option, Some, None, drop, length, slice_get, take, refl, sym, ap, subst, ◌∙◌, arith}
use Rattle.std.specs.Prelude.{filter, map}
use Rattle.std.proofs.lemmas.Bool.{cases_order}
use Rattle.std.proofs.lemmas.List.{length-append}
use Rattle.std.proofs.Math.Seq.{drop-append_seam, take-append_seam}
use Rattle.unwinding.specs.Admissible.{history_epochs}
use Rattle.unwinding.specs.Durable.{restarted}
use Rattle.unwinding.specs.Epochs.{Epoch, acknowledged_replies, next_durable, tried, world_replies}
use Rattle.unwinding.specs.LocalEntries.{local_entries, touched_after}
use Rattle.unwinding.specs.LocalScript.{happenings, local_items}
use Rattle.unwinding.specs.World.{of_site, world_after}
use Rattle.unwinding.proofs.Transcripts.{history_sites}
use Rattle.suffix_list.specs.Suffix.{Rule}
use Rattle.origin_site.specs.Site.{PlainSite, same_plain_site}
use Rattle.storage_key.specs.Context.{is_of}
use Rattle.script_actions.specs.Action.{PlainAction, PlainStep}
use Rattle.agent_model.specs.CookieCells.{Domain}
use Rattle.agent_model.specs.Isolation.{printed}
use Rattle.agent_model.specs.Lines.{AgentWorld, Rest}
use Rattle.agent_model.specs.SiteEvent.{Answer}
use Rattle.agent_model.specs.TheMachine.{machine}
use Rattle.durable_model.specs.Histories.{AgentReply, history_replies, history_script}
use Rattle.durable_model.specs.Keeping.{AgentDurable, keeping}
use Rattle.durable_model.specs.Saved.{nothing_saved}
use Rattle.durable_model.proofs.NothingLemmas.{nothing_valid}
use Rattle.printed_model.specs.Histories.{HasSameLines, begins_at, down_reply, printed_replies, restart_reply}
use Rattle.local_scripts.specs.Difference.{DifferAt}
use Rattle.local_scripts.specs.Items.{AgentEntry, AgentItem}
use Rattle.script_courses.specs.GoodHistories.{good_history}
use Rattle.script_courses.specs.Twins.{EntriesDiffer, Equal, HasOneAnswer, AnswersByItems, LocalDiffer, PrintsTheSame, TellsOfLines, TwinSetting}
use Rattle.script_courses.specs.Twins.{acknowledged_in, count_of_site, end_of, entries_of, replies_in, script_in}

-- ---- lines of a site

count_is : (rules : List Rule) (site : PlainSite) (told : List AgentReply)
    → count_of_site site told ≡ length (of_site (machine rules) site told)
unfolding machine
count_is rules site [] = refl
count_is rules site (one ∷ told) = at one.site one.reply (count_is rules site told)
  where
    Counts : List AgentReply → Type 0
    Counts some = count_of_site site some ≡ length (of_site (machine rules) site some)

    mine : (other : PlainSite) (answer : Answer) (b : Bool) → Counts told
        → length (cond b (record { site = Some other; reply = answer } ∷ filter (λ x. is_of site x.site) told)
        (filter (λ x. is_of site x.site) told))
        ≡ length (cond b (answer ∷ []) [] ++ of_site (machine rules) site told)
    mine other answer true later = ap suc later
    mine other answer false later = later

    at : (where_to : Option PlainSite) (answer : Answer) → Counts told
        → Counts (record { site = where_to; reply = answer } ∷ told)
    at None answer later = later
    at (Some other) answer later = mine other answer (same_plain_site site other) later

-- of what is given out the site's are as many as are told
pub count_given : (rules : List Rule) (site : PlainSite) (told : List AgentReply)
    → length (filter (λ one. is_of site one.site) (map printed told)) ≡ length (of_site (machine rules) site told)
count_given rules site told = given told ∙ count_is rules site told
  where
    given : (some : List AgentReply) → length (filter (λ one. is_of site one.site) (map printed some)) ≡ count_of_site site some
    given [] = refl
    given (one ∷ some) = at (is_of site one.site) (given some)
      where
        at : (b : Bool) → length (filter (λ one. is_of site one.site) (map printed some)) ≡ count_of_site site some
            → length (cond b (printed one ∷ filter (λ x. is_of site x.site) (map printed some))
            (filter (λ x. is_of site x.site) (map printed some)))
            ≡ length (cond b (one ∷ filter (λ x. is_of site x.site) some) (filter (λ x. is_of site x.site) some))
        at true rest = ap suc rest
        at false rest = rest

-- ---- acknowledged replies

only_restarts : (es : List AgentEntry) (items : List AgentItem) → acknowledged_in (happenings es ++ items) ≡ acknowledged_in items
only_restarts [] items = refl
only_restarts (e ∷ es) items = only_restarts es items

pub acknowledged_is : (rules : List Rule) (site : PlainSite) (touched : List Domain) (r : Rest)
    (d : AgentDurable) (es : List (Epoch PlainAction))
    → acknowledged_in (local_items (machine rules) keeping site touched r d es)
    ≡ length (world_replies (machine rules) keeping site r d es)
acknowledged_is rules site touched r d [] = refl
acknowledged_is rules site touched r d (e ∷ es) =
    let m = machine rules in
    let w : AgentWorld = restarted keeping r d in
    let told = of_site m site (acknowledged_replies m w e) in
    let rest = (world_after m w e.executed).rest in
    let next = next_durable m keeping w d e in
    only_restarts (local_entries m site touched w (tried e)) _
    ∙ ap (λ n. length told + n) (acknowledged_is rules site (touched_after m site touched w (tried e)) rest next es)
    ∙ sym (length-append told (world_replies m keeping site rest next es))

pub tells_of_lines : TellsOfLines
unfolding history_script history_replies
tells_of_lines rules site x history =
    let m = machine rules in
    acknowledged_is rules site [] x.rest x.state (history_epochs history)
    ∙ ap length (sym (history_sites m keeping x restart_reply down_reply (λ kept. refl) (λ step. refl) site history))
    ∙ sym (count_is rules site (printed_replies rules x history))

-- ---- one answer

pub before_front : {A : Type 0} (xs : List A) (n i : ℕ) → i < n → slice_get (take n xs) i ≡ slice_get xs i
before_front [] zero i less = refl
before_front [] (suc n) i less = refl
before_front (x ∷ xs) zero i less = let none : ⊥ = omega (arith, less) in absurd none
before_front (x ∷ xs) (suc n) zero less = refl
before_front (x ∷ xs) (suc n) (suc i) less = before_front xs n i (omega (arith, less))

not_before : {A : Type 0} (xs ys : List A) (p q : ℕ) → DifferAt xs ys p → DifferAt xs ys q → p < q → ⊥
not_before xs ys p q here there less = here.items (sym (before_front xs q p less)
    ∙ ap (λ zs. slice_get zs p) there.fronts ∙ before_front ys q p less)

one_place : {A : Type 0} (xs ys : List A) (p q : ℕ) → DifferAt xs ys p → DifferAt xs ys q → p ≡ q
one_place xs ys p q here there = by (cases_order p q)
  where
    by : (p ≡ q) ⊎ ((p < q) ⊎ (q < p)) → p ≡ q
    by (inl same) = same
    by (inr (inl less)) = absurd (not_before xs ys p q here there less)
    by (inr (inr more)) = absurd (not_before xs ys q p there here more)

no_difference : {A : Type 0} (xs ys : List A) (p : ℕ) → xs ≡ ys → DifferAt xs ys p → ⊥
no_difference xs ys p same here = here.items (ap (λ zs. slice_get zs p) same)

not_equal : (xs ys : List AgentItem) (entry : ℕ) → xs ≡ ys → EntriesDiffer xs ys entry → ⊥
not_equal xs ys entry same (inl here) = no_difference (entries_of xs) (entries_of ys) entry (ap entries_of same) here
not_equal xs ys entry same (inr ends) = ends.1 (ap end_of same)

one_entry : (xs ys : List AgentItem) (p q : ℕ) → EntriesDiffer xs ys p → EntriesDiffer xs ys q → p ≡ q
one_entry xs ys p q (inl here) (inl there) = one_place (entries_of xs) (entries_of ys) p q here there
one_entry xs ys p q (inl here) (inr there) = absurd (no_difference (entries_of xs) (entries_of ys) p there.0 here)
one_entry xs ys p q (inr here) (inl there) = absurd (no_difference (entries_of xs) (entries_of ys) q here.0 there)
one_entry xs ys p q (inr here) (inr there) = here.2 ∙ sym there.2

pub has_one_answer : HasOneAnswer
has_one_answer at first second (Equal n) (Equal k) is also = ap Equal (is.1 ∙ sym also.1)
has_one_answer at first second (Equal n) (LocalDiffer q) is also =
    absurd (not_equal _ _ q (ap (λ given. given.script.items) is.0) also)
has_one_answer at first second (LocalDiffer p) (Equal k) is also =
    absurd (not_equal _ _ p (ap (λ given. given.script.items) also.0) is)
has_one_answer at first second (LocalDiffer p) (LocalDiffer q) is also = ap LocalDiffer (one_entry _ _ p q is also)

-- ---- the promise

pub prints_the_same : HasSameLines → PrintsTheSame
prints_the_same law at first second lines is =
    law at.rules at.rules at.start at.start nothing_saved nothing_saved nothing_valid nothing_valid
    (good_history at.rules at.batch at.start first) (good_history at.rules at.batch at.start second) at.site is.0

-- ---- by entries and end

before_last : (xs : List AgentItem) (x : AgentItem) → length (xs ++ x ∷ []) - 1 ≡ length xs
before_last xs x = omega (arith, length-append xs (x ∷ []))

pub entries_are : (items xs : List AgentItem) (x : AgentItem) → items ≡ xs ++ x ∷ [] → entries_of items ≡ xs
entries_are items xs x is = ap entries_of is ∙ ap (λ n. take n (xs ++ x ∷ [])) (before_last xs x) ∙ take-append_seam xs (x ∷ [])

pub end_is : (items xs : List AgentItem) (x : AgentItem) → items ≡ xs ++ x ∷ [] → end_of items ≡ x ∷ []
end_is items xs x is = ap end_of is ∙ ap (λ n. drop n (xs ++ x ∷ [])) (before_last xs x) ∙ drop-append_seam xs (x ∷ [])

pub same_one : (x y : AgentItem) → ◌≡◌ {A = List AgentItem} (x ∷ []) (y ∷ []) → x ≡ y
same_one x y same = cc

-- two local scripts with the same items are equal: each begins with nothing stored
pub same_script : (at : TwinSetting) (first second : List PlainStep)
    → (script_in at first).script.items ≡ (script_in at second).script.items → script_in at first ≡ script_in at second
unfolding history_script
same_script at first second same = λ i. record {
  rules = at.rules;
  script =
      record { beginning = (script_in at first).script.beginning; items = same i };
}

pub answers_by_items : AnswersByItems
answers_by_items at first second xs ys x y one two = (
  λ entry differ. inl (subst (λ zs. DifferAt zs (entries_of (items second)) entry)
      (sym (entries_are (items first) xs x one)) (subst (λ zs. DifferAt xs zs entry)
      (sym (entries_are (items second) ys y two)) differ)),
  λ same other. inr (
    entries_are (items first) xs x one ∙ same ∙ sym (entries_are (items second) ys y two),
    λ ends. other (same_one x y (sym (end_is (items first) xs x one) ∙ ends ∙ end_is (items second) ys y two)),
    ap length (sym (entries_are (items first) xs x one)),
  ),
  λ same ends. let both : items first ≡ items second = one ∙ (λ i. same i ++ ends i ∷ []) ∙ sym two in (
    same_script at first second both,
    ap acknowledged_in (sym one) ∙ tells first,
    ap acknowledged_in (sym one ∙ both) ∙ tells second,
  ),
)
  where
    items : List PlainStep → List AgentItem
    items steps = (script_in at steps).script.items

    tells : (steps : List PlainStep) → acknowledged_in (items steps) ≡ count_of_site at.site (replies_in at steps)
    tells steps = tells_of_lines at.rules at.site (begins_at at.start) (good_history at.rules at.batch at.start steps)
