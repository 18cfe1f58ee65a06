-- The texts of the fields so far are stored, and their words and their row changes are there.
use Rattle.std.proofs.Common.{◌≡◌, ◌++◌, map, take}
use Rattle.script_actions.specs.Plain.{head_field_of}
use Rattle.row_changes.specs.Plain.{plain_change}
use Rattle.agent_model.specs.CookieStore.{cookie_texts, store_texts}
use Rattle.web_cookies.specs.Uses.{plain_use}
use Rattle.web_cookies.proofs.both.BothJars.store_all.Given as goal

abbrev pub invariant-loop-field : goal.invariant-loop-field
invariant-loop-field l =
    let done = store_texts l.input.list.now.rules l.input.clock (plain_use l.how) l.fn.self (cookie_texts (map head_field_of (take l.field-index l.head))) in
    (done.both ≡ l.self) × (map (λ word. word.now) l.words.items ≡ done.words)
    × (map plain_change l.rows.items ≡ map plain_change l.fn.rows.items ++ done.changes)
