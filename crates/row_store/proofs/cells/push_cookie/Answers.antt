-- The cookie at an index, if it is there and is one of these.
use Rattle.std.proofs.Common.{◌≡◌, ℕ, ◌+◌, true, false, cond, List, [], ◌∷◌, length, take, drop, sym, ap, subst, ◌∙◌, rules, arith}
use Rattle.std.specs.Prelude.{Bool, filter}
use Rattle.cookie_jar.specs.Key.{plain_key}
use Rattle.cookie_jar.specs.Cookie.{PlainCookie}
use Rattle.cookie_jar.specs.Plain.{plain_cookie}
use Rattle.row_store.specs.Listing.{cookie_rows}
use Rattle.row_store.specs.Pushed.{is_chosen}
use Rattle.row_store.proofs.PushedLemmas.{found_there, none_found}
use Rattle.row_store.proofs.cells.push_cookie.Goals as goal

-- where none is found, none is added
none_next : (here : List PlainCookie) (place : ℕ) → here ≡ [] → place ≡ place + length here
none_next here place is = let none : length here ≡ 0 = ap (λ l. length l) is in omega (arith, none)

-- one that is found and passes, or does not
one_chosen : (test : PlainCookie → Bool) (c : PlainCookie) (here : List PlainCookie) → here ≡ c ∷ []
    → test c ≡ true → filter test here ≡ c ∷ []
one_chosen test c here is passes = ap (filter test) is ∙ ap (λ b. cond b (c ∷ []) []) passes

none_chosen : (test : PlainCookie → Bool) (c : PlainCookie) (here : List PlainCookie) → here ≡ c ∷ []
    → test c ≡ false → filter test here ≡ []
none_chosen test c here is fails = ap (filter test) is ∙ ap (λ b. cond b (c ∷ []) []) fails

pub returns-in_default-clause-next : goal.returns-in_default-clause-next
returns-in_default-clause-next g c =
    none_next _ c.args.place (ap (filter (is_chosen c.args.which))
    (none_found c.args.jar.now.cookies c.args.index c.in_default.ensures.value))

pub returns-in_default-clause-pushed : goal.returns-in_default-clause-pushed
returns-in_default-clause-pushed g c =
    subst (λ here. g.S.RowSink.adds c.args.sink.now (cookie_rows (plain_key c.args.cell.now) c.args.place here) c.args.sink.now)
    (sym (ap (filter (is_chosen c.args.which)) (none_found c.args.jar.now.cookies c.args.index c.in_default.ensures.value)))
    (g.met.S.RowSink.none _)

pub returns-then-not-has-clause-next : goal.returns-then-not-has-clause-next
returns-then-not-has-clause-next g c =
    let here = found_there c.args.jar.now.cookies c.args.index (plain_cookie c.in-Some.cookie.now) c.in-Some.ensures.value in
    none_next _ c.args.place (none_chosen (is_chosen c.args.which) (plain_cookie c.in-Some.cookie.now) _ here (search rules))

pub returns-then-not-has-clause-pushed : goal.returns-then-not-has-clause-pushed
returns-then-not-has-clause-pushed g c =
    let here = found_there c.args.jar.now.cookies c.args.index (plain_cookie c.in-Some.cookie.now) c.in-Some.ensures.value in
    subst (λ rows. g.S.RowSink.adds c.args.sink.now (cookie_rows (plain_key c.args.cell.now) c.args.place rows) c.args.sink.now)
    (sym (none_chosen (is_chosen c.args.which) (plain_cookie c.in-Some.cookie.now) _ here (search rules)))
    (g.met.S.RowSink.none _)

pub returns-clause-next : goal.returns-clause-next
returns-clause-next g c =
    let here = found_there c.args.jar.now.cookies c.args.index (plain_cookie c.in-Some.cookie.now) c.in-Some.ensures.value in
    let one : length (filter (is_chosen c.args.which) (take 1 (drop c.args.index c.args.jar.now.cookies))) ≡ 1 =
    ap (λ l. length l) (one_chosen (is_chosen c.args.which) (plain_cookie c.in-Some.cookie.now) _ here (search rules)) in
    let next : c.in-Some-checked_add.next ≡ c.args.place + 1 = search rules in
    omega (arith, one, next)

pub returns-clause-pushed : goal.returns-clause-pushed
returns-clause-pushed g c =
    let here = found_there c.args.jar.now.cookies c.args.index (plain_cookie c.in-Some.cookie.now) c.in-Some.ensures.value in
    subst (λ rows. g.S.RowSink.adds c.args.sink.now (cookie_rows (plain_key c.args.cell.now) c.args.place rows) c.add.new.self)
    (sym (one_chosen (is_chosen c.args.which) (plain_cookie c.in-Some.cookie.now) _ here (search rules)))
    c.in_ok-add.ensures.added
