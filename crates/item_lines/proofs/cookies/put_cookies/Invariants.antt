use Rattle.std.proofs.Common.{◌≡◌, ◌∷◌, ◌++◌, drop, map, take}
use Rattle.std.specs.Prelude.{codes}
use Rattle.json.specs.Token.{key}
use Rattle.serde_json.specs.View.{items_of}
use Rattle.row_lines.specs.Tokens.{tokens_of}
use Rattle.item_lines.specs.Numbers.{ItemsHaveShortNumbers}
use Rattle.item_lines.specs.Parts.{cookie_data, cookies_data}
use Rattle.item_lines.proofs.ListLemmas.{left}
use Rattle.item_lines.proofs.cookies.put_cookies.Given as goal

abbrev pub invariant-loop-place : goal.invariant-loop-place
invariant-loop-place l =
    (l.writer.before ≡ l.fn.writer.before)
    × (l.fn.writer.tokens ++ key (codes "cookies") ∷ tokens_of (cookies_data l.fn.jar.cookies) ≡ l.writer.tokens ++ left cookie_data (drop l.place l.fn.jar.cookies))
    × ItemsHaveShortNumbers (items_of (map cookie_data (take l.place l.fn.jar.cookies)))
