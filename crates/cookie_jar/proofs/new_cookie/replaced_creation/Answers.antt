use Rattle.std.proofs.Common.{rules, ◌≡◌, ◌∙◌, map, not}
use Rattle.std.specs.Prelude.{option_map, slice_get}
use Rattle.std.proofs.lemmas.Map.Entries.{option_filter}
use Rattle.cookie_jar.specs.Borrowed.{plain_borrowed}
use Rattle.cookie_jar.specs.Lifetime.{is_expired}
use Rattle.cookie_jar.specs.Plain.{plain_cookie}
use Rattle.cookie_jar.proofs.NewCookieLemmas.{replaced_at}
use Rattle.cookie_jar.proofs.new_cookie.replaced_creation.Goals as goal

pub returns : goal.returns
returns c =
    let raw : c.live_creation.result ≡ option_map (λ x. x.creation) (option_filter (λ x. not (is_expired c.args.now x)) (slice_get (map plain_cookie c.args.cookies.now) c.args.place))
    = search (rules, c.live_creation.ensures, c.cookie_at.ensures) in
    raw ∙ replaced_at c.args.now (plain_borrowed c.args.new.now) (map plain_cookie c.args.cookies.now) c.args.place c.requires
