-- Values of the definitions, from the examples of RFC 6265bis and worked out by hand, so that a wrong
-- rule in the specs does not check.
use Rattle.std.proofs.Common.{◌≡◌, refl, true, false}
use Rattle.std.specs.Prelude.{codes}
use Rattle.cookie_match.specs.Matching.{domain_matches, path_matches, default_path}

path_below : path_matches (codes "/docs/web") (codes "/docs") ≡ true
path_below = refl

path_beside : path_matches (codes "/docsweb") (codes "/docs") ≡ false
path_beside = refl

path_with_slash : path_matches (codes "/docs/web") (codes "/docs/") ≡ true
path_with_slash = refl

default_of_three : default_path (codes "/a/b/c") ≡ codes "/a/b"
default_of_three = refl

default_of_one : default_path (codes "/c") ≡ codes "/"
default_of_one = refl

domain_below : domain_matches false (codes "w.a.test") (codes "a.test") ≡ true
domain_below = refl

domain_beside : domain_matches false (codes "wa.test") (codes "a.test") ≡ false
domain_beside = refl

domain_of_address : domain_matches true (codes "1.2.3.4") (codes "3.4") ≡ false
domain_of_address = refl

default_of_an_empty_path : default_path (codes "") ≡ codes "/"
default_of_an_empty_path = refl

default_of_two_slashes : default_path (codes "/a//b") ≡ codes "/a/"
default_of_two_slashes = refl

path_itself : path_matches (codes "/docs") (codes "/docs") ≡ true
path_itself = refl

domain_above : domain_matches false (codes "a.test") (codes "w.a.test") ≡ false
domain_above = refl

address_itself : domain_matches true (codes "1.2.3.4") (codes "1.2.3.4") ≡ true
address_itself = refl

default_of_no_first_slash : default_path (codes "a/b/c") ≡ codes "/"
default_of_no_first_slash = refl
