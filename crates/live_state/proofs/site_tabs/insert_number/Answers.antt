-- The number goes where the search puts it.
use Rattle.std.proofs.Common.{◌≡◌, false, true, List, ℕ, ap, sym, ◌∙◌}
use Rattle.std.specs.Prelude.{if◌then◌else◌}
use Rattle.std.specs.List.{insert, list_any}
use Rattle.std.specs.Prelude.{◌==◌}
use Rattle.live_state.specs.SiteTabs.{are_rising, with_number}
use Rattle.live_state.proofs.NumberLemmas.{found-among, inserted-between, rising-searchable}
use Rattle.live_state.proofs.site_tabs.insert_number.Goals as goal

pub returns-in-Err : goal.returns-in-Err
returns-in-Err c =
    let n = c.args.number in
    let items : List ℕ = c.args.numbers.now.items in
    let place = c.in-Err.place in
    let rising : are_rising c.deref.result.now ≡ true = ap are_rising c.deref.ensures.value ∙ c.requires.rising in
    let parts = c.in-Err.ensures.position (rising-searchable c.deref.result.now n rising) in record {
      inserted =
          c.insert.ensures.items
          ∙ ap (λ b. if b then insert items place n else items) (c.insert.ensures.succeeds c.requires.room)
          ∙ ap (λ l. insert l place n) (sym c.deref.ensures.value)
          ∙ inserted-between n c.deref.result.now place c.in-Err.ensures.bound parts.0 parts.1
          ∙ ap (with_number n) c.deref.ensures.value;
    }

pub returns-in_default : goal.returns-in_default
returns-in_default c =
    let found : list_any (λ m. m == c.args.number) c.deref.result.now ≡ true =
    found-among c.args.number c.deref.result.now c.in_default.field-0 0 c.in_default.ensures.bound (c.in_default.ensures.position 0) in
    let no : false ≡ true = sym c.requires.absent ∙ ap (list_any (λ m. m == c.args.number)) (sym c.deref.ensures.value) ∙ found in
    absurd (cc no)
