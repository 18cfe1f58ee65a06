-- Values of the reply format, so that a wrong rule in the specs does not check.
use Rattle.std.proofs.Common.{◌≡◌, refl, pos, List, ℕ, [], ◌∷◌, Some, None, true}
use Rattle.std.specs.Prelude.{codes}
use Rattle.std.specs.Fmt.{digits}
use Rattle.serde_json.proofs.OnLiterals.{serde_json_on_literals}
use Rattle.storage_events.specs.declared.event.AreaKind.TheVariants.{Session}
use Rattle.reply_lines.specs.Reply.{PlainBody, Plain, Now, Kept, Load, Text, Number, Truth, Events}
use Rattle.reply_lines.specs.Reply.{Cookie, SetOne, Estimate, Cleared, reply_text}

-- the line of a reply to `do` of the site `https://a.test`
abbrev said : List ℕ → PlainBody → List ℕ
said name body = reply_text (record { name = name; site = Some (record { https = true; host = codes "a.test" }); body = body })

load : reply_text (record { name = codes "open"; site = Some (record { https = true; host = codes "a.test" }); body = Load None [] })
    ≡ codes "{\"cookie\":null,\"do\":\"open\",\"is\":\"ok\",\"set\":[],\"site\":\"https://a.test\"}\n"
unfolding serde_json_on_literals
load = refl

load_with_cookies : said (codes "fetch") (Load (Some (codes "a=b")) (codes "added" ∷ codes "empty" ∷ []))
    ≡ codes "{\"cookie\":\"a=b\",\"do\":\"fetch\",\"is\":\"ok\",\"set\":[\"added\",\"empty\"],\"site\":\"https://a.test\"}\n"
unfolding serde_json_on_literals
load_with_cookies = refl

found : reply_text (record { name = codes "get"; site = Some (record { https = true; host = codes "a.test" }); body = Text (Some (codes "v")) })
    ≡ codes "{\"do\":\"get\",\"is\":\"ok\",\"site\":\"https://a.test\",\"value\":\"v\"}\n"
unfolding serde_json_on_literals
found = refl

refused : reply_text (record { name = codes "open"; site = None; body = Plain (codes "tab-exists") })
    ≡ codes "{\"do\":\"open\",\"is\":\"tab-exists\",\"site\":null}\n"
unfolding serde_json_on_literals
refused = refl

clock : said (codes "tick") (Now (pos 12))
    ≡ codes "{\"do\":\"tick\",\"is\":\"ok\",\"now\":12,\"site\":\"https://a.test\"}\n"
unfolding digits serde_json_on_literals
clock = refl

kept : said (codes "restart") (Kept 3)
    ≡ codes "{\"do\":\"restart\",\"is\":\"ok\",\"kept\":3,\"site\":\"https://a.test\"}\n"
unfolding digits serde_json_on_literals
kept = refl

count : said (codes "len") (Number 18446744073709551615)
    ≡ codes "{\"do\":\"len\",\"is\":\"ok\",\"site\":\"https://a.test\",\"value\":18446744073709551615}\n"
unfolding digits serde_json_on_literals
count = refl

truth : said (codes "has") (Truth true)
    ≡ codes "{\"do\":\"has\",\"is\":\"ok\",\"site\":\"https://a.test\",\"value\":true}\n"
unfolding serde_json_on_literals
truth = refl

cookies : said (codes "cookie") (Cookie [])
    ≡ codes "{\"cookie\":\"\",\"do\":\"cookie\",\"is\":\"ok\",\"site\":\"https://a.test\"}\n"
unfolding serde_json_on_literals
cookies = refl

one_answer : said (codes "setcookie") (SetOne (codes "added"))
    ≡ codes "{\"do\":\"setcookie\",\"is\":\"ok\",\"set\":[\"added\"],\"site\":\"https://a.test\"}\n"
unfolding serde_json_on_literals
one_answer = refl

weight : said (codes "estimate") (Estimate 2)
    ≡ codes "{\"do\":\"estimate\",\"is\":\"ok\",\"quota\":5242880,\"site\":\"https://a.test\",\"usage\":2}\n"
unfolding digits serde_json_on_literals
weight = refl

emptied : said (codes "evict") (Cleared 1)
    ≡ codes "{\"cleared\":1,\"do\":\"evict\",\"is\":\"ok\",\"site\":\"https://a.test\"}\n"
unfolding digits serde_json_on_literals
emptied = refl

no_events : said (codes "events") (Events [] 4294967295)
    ≡ codes "{\"do\":\"events\",\"events\":[],\"is\":\"ok\",\"lost\":4294967295,\"site\":\"https://a.test\"}\n"
unfolding digits serde_json_on_literals
no_events = refl

events : said (codes "events") (Events (record { area = Session; key = Some (codes "k"); before = None; after = Some (codes "v"); url = codes "https://a.test/" } ∷ []) 0)
    ≡ codes "{\"do\":\"events\",\"events\":[{\"area\":\"session\",\"key\":\"k\",\"new\":\"v\",\"old\":null,\"url\":\"https://a.test/\"}],\"is\":\"ok\",\"lost\":0,\"site\":\"https://a.test\"}\n"
unfolding digits serde_json_on_literals
events = refl
