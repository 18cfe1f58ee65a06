-- Values of the definitions, computed from them, so that a wrong rule does not check.
use Rattle.std.proofs.Common.{◌≡◌, refl, ℕ, zero, suc, true, false, [], ◌∷◌, ◌++◌, replicate, codes, Some, None}
use Rattle.std.specs.Prelude.{pos, ℤ}
use Rattle.std.specs.List.{list_any, concat}
use Rattle.jiff_core.specs.Calendar.{days_from_civil, day_count, days_of_years, days_of_months}
use Rattle.setcookie_parse.specs.declared.cookie.SameSite.TheVariants.{Default, Lax}
use Rattle.setcookie_parse.specs.declared.cookie.DropCause.TheVariants.{Control, TooLong, Empty}
use Rattle.setcookie_parse.specs.CookieDate.{cookie_date, tokens_of}
use Rattle.setcookie_parse.specs.SetCookie.{CookieText, Kept, Dropped, is_control, set_cookie_text}

some_tokens : tokens_of (codes "Sun, 06 Nov") ≡ codes "Sun" ∷ codes "06" ∷ codes "Nov" ∷ []
some_tokens = refl

usual_form : cookie_date (codes "Sun, 06 Nov 1994 08:49:37 GMT") ≡ Some (pos 784111777)
unfolding days_from_civil day_count days_of_years days_of_months
usual_form = refl

two_digits_of_this_century : cookie_date (codes "1 Jan 69 0:0:0") ≡ Some (pos 3124224000)
unfolding days_from_civil day_count days_of_years days_of_months
two_digits_of_this_century = refl

two_digits_of_the_last : cookie_date (codes "1 Jan 70 0:0:0") ≡ Some (pos 0)
unfolding days_from_civil day_count days_of_years days_of_months
two_digits_of_the_last = refl

any_order : cookie_date (codes "0:0:0 2024 Jan 1") ≡ Some (pos 1704067200)
unfolding days_from_civil day_count days_of_years days_of_months
any_order = refl

too_early : cookie_date (codes "1 Jan 1600 0:0:0") ≡ None
too_early = refl

no_such_day : cookie_date (codes "30 Feb 2024 0:0:0") ≡ None
no_such_day = refl

no_such_hour : cookie_date (codes "1 Jan 2024 24:0:0") ≡ None
no_such_hour = refl

nothing : cookie_date [] ≡ None
nothing = refl

-- a second token of time form is the day
time_as_day : cookie_date (codes "0:0:0 1:0:0 Jan 2024") ≡ Some (pos 1704067200)
unfolding days_from_civil day_count days_of_years days_of_months
time_as_day = refl

-- a cookie of one name and value without attributes
abbrev plain_cookie : CookieText
plain_cookie =
    record {
      name = codes "a";
      value = codes "1";
      domain = None;
      path = None;
      has_path = false;
      secure = false;
      http_only = false;
      partitioned = false;
      same_site = Default;
      expiry = None;
    }

last_of_each_kind :
    set_cookie_text
    (codes "a=b; Path=/x; Path=y; Max-Age=-; Max-Age=10; Secure=no; Domain=.Ab.test") (pos 100)
    ≡ Kept (record plain_cookie {
      value = codes "b";
      domain = Some (codes "Ab.test");
      has_path = true;
      secure = true;
      expiry = Some (pos 110);
    })
last_of_each_kind = refl

no_equals_sign : set_cookie_text (codes " v ; b") (pos 0) ≡ Kept (record plain_cookie { name = []; value = codes "v" })
no_equals_sign = refl

most_octets : set_cookie_text (codes "n=" ++ replicate 4095 97) (pos 0) ≡ Kept (record plain_cookie { name = codes "n"; value = replicate 4095 97 })
most_octets = refl

too_many_octets : set_cookie_text (codes "n=" ++ replicate 4096 97) (pos 0) ≡ Dropped TooLong
too_many_octets = refl

neither_name_nor_value : set_cookie_text (codes "=") (pos 0) ≡ Dropped Empty
neither_name_nor_value = refl

control_in_an_attribute : set_cookie_text (codes "a=1; b" ++ 1 ∷ []) (pos 0) ≡ Dropped Control
control_in_an_attribute = refl

longest_path : set_cookie_text (codes "a=1; path=/" ++ replicate 1023 97) (pos 0) ≡ Kept (record plain_cookie { path = Some (codes "/" ++ replicate 1023 97); has_path = true })
longest_path = refl

longer_path : set_cookie_text (codes "a=1; path=/" ++ replicate 1024 97) (pos 0) ≡ Kept plain_cookie
longer_path = refl

no_domain_is_left : set_cookie_text (codes "a=1; domain=a.test; domain=.") (pos 0) ≡ Kept plain_cookie
no_domain_is_left = refl

age_before_date : set_cookie_text (codes "a=1; max-age=5; expires=1 Jan 70 0:0:9") (pos 100) ≡ Kept (record plain_cookie { expiry = Some (pos 105) })
age_before_date = refl

longest_age : set_cookie_text (codes "a=1; max-age=99999999999999999999") (pos 100) ≡ Kept (record plain_cookie { expiry = Some (pos 34560100) })
longest_age = refl

negative_age : set_cookie_text (codes "a=1; max-age=-1") (pos 100) ≡ Kept (record plain_cookie { expiry = Some (pos 100) })
negative_age = refl

latest_date : set_cookie_text (codes "a=1; expires=31 Dec 9999 23:59:59") (pos 100) ≡ Kept (record plain_cookie { expiry = Some (pos 34560100) })
unfolding days_from_civil day_count days_of_years days_of_months
latest_date = refl

other_attributes : set_cookie_text (codes "a=1; HTTPONLY; samesite=NONE; partitioned; SameSite=lax") (pos 0)
    ≡ Kept (record plain_cookie { http_only = true; partitioned = true; same_site = Lax })
other_attributes = refl

no_control : (n : ℕ) → list_any is_control (replicate n 59) ≡ false
no_control zero = refl
no_control (suc n) = no_control n

-- a text of semicolons alone, however many, has no name and no value
only_semicolons : (n : ℕ) (now : ℤ) → set_cookie_text (replicate n 59) now ≡ Dropped Empty
only_semicolons zero now = refl
only_semicolons (suc n) now = rw (no_control n) refl

many_paths : set_cookie_text (codes "a=1" ++ concat (replicate 1000 (codes ";Path=/x"))) (pos 0)
    ≡ Kept (record plain_cookie { path = Some (codes "/x"); has_path = true })
many_paths = refl
