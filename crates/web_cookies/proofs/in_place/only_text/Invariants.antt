-- The texts of the fields so far are the one that was found, if there is one.
use Rattle.std.proofs.Common.{◌≡◌, map, take}
use Rattle.std.specs.Prelude.{option_map, option_to_list}
use Rattle.script_actions.specs.Plain.{head_field_of}
use Rattle.agent_model.specs.CookieStore.{cookie_texts}
use Rattle.web_cookies.proofs.in_place.only_text.Given as goal

abbrev pub invariant-loop-field : goal.invariant-loop-field
invariant-loop-field l =
    cookie_texts (map head_field_of (take l.field-index l.head)) ≡ option_to_list (option_map (λ text. text.now) l.only)
