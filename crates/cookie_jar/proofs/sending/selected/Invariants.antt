use Rattle.std.proofs.Common.{◌≡◌, ◌++◌, drop, map}
use Rattle.std.specs.Prelude.{filter}
use Rattle.std.specs.List.{enumerate_from}
use Rattle.cookie_jar.specs.Sending.{goes_out}
use Rattle.cookie_jar.specs.Plain.{plain_access, plain_cookie}
use Rattle.cookie_jar.proofs.sending.selected.Given as goal

-- the places so far, and those of the cookies that are left, are all
abbrev pub invariant-loop-place : goal.invariant-loop-place
invariant-loop-place l =
    l.places.items
    ++ map (λ c. c.0) (filter (λ c. goes_out l.kind (plain_access l.access) l.now (plain_cookie c.1)) (enumerate_from l.place (drop l.place l.cookies)))
    ≡ map (λ c. c.0) (filter (λ c. goes_out l.kind (plain_access l.access) l.now (plain_cookie c.1)) (enumerate_from 0 l.cookies))
