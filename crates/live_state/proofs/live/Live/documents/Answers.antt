-- All documents of the tabs are listed, each once.
use Rattle.std.proofs.Common.{◌≡◌, ◌<◌, ◌≤◌, ◌+◌, ◌++◌, true, List, length, map, take, ap, sym, subst, ◌∙◌, arith}
use Rattle.std.proofs.lemmas.List.{length-map, take_all}
use Rattle.live_state.specs.Documents.{documents, documents_in, plain_keyed}
use Rattle.live_state.specs.ExistingQueues.{PlainOpenTab}
use Rattle.live_state.specs.Tabs.{is_rising}
use Rattle.live_state.proofs.OnceLemmas.{listed-once, listed-there}
use Rattle.live_state.proofs.SearchLemmas.{plain_of}
use Rattle.live_state.proofs.TabListLemmas.{documents-next}
use Rattle.live_state.proofs.live.Live.documents.Goals as goal

pub loop-place-preserved : goal.loop-place-preserved
loop-place-preserved c =
    let items : List PlainOpenTab = c.self.inside.tabs.items in
    let within : c.loop-place.place < length items = omega (arith, c.loop-place-test.true, c.len-place-end.ensures.length) in
    c.in_ok-list_documents.ensures.listed
    ∙ ap (λ l. l ++ documents_in c.at.result.now.plain) c.loop-place.invariant
    ∙ ap (λ live. documents (take c.loop-place.place live.tabs) ++ documents_in c.at.result.now.plain) (sym c.self.view_is)
    ∙ sym (documents-next items c.loop-place.place c.at.result.now within c.at.ensures.value)
    ∙ ap (λ live. documents (take (c.loop-place.place + 1) live.tabs)) c.self.view_is

pub returns : goal.returns
returns c =
    let items : List PlainOpenTab = c.self.inside.tabs.items in
    let rising : is_rising c.args.self.now.tabs ≡ true = ap (λ live. is_rising live.tabs) (sym c.self.view_is) ∙ c.self.invariant.rising in
    let long : length (plain_of items) ≡ length items = length-map items (λ t. t.plain) in
    let end : length (plain_of items) ≤ c.loop-place.place = omega (arith, long, c.loop-place-test.false, c.len-place-end.ensures.length) in
    let all : map plain_keyed c.loop-place.documents.items ≡ documents c.args.self.now.tabs =
    c.loop-place.invariant
    ∙ ap documents (take_all c.loop-place.place c.args.self.now.tabs (subst (λ ts. length ts ≤ c.loop-place.place) (ap (λ live. live.tabs) c.self.view_is) end)) in record {
      documents = all;
      once = listed-once c.args.self.now.tabs c.loop-place.documents.items rising all;
      there = listed-there c.args.self.now.tabs c.loop-place.documents.items rising all;
      rising = rising;
    }
