use Rattle.std.proofs.Common.{◌≡◌, ◌∙◌, ap, sym, map, option_map, string_bytes, rules}
use Rattle.origin_site.specs.Plain.{plain_address}
use Rattle.script_actions.specs.Action.{Act, Frame}
use Rattle.script_actions.specs.Plain.{action_of, head_field_of}
use Rattle.script_actions.proofs.action.Action.copy.Goals as goal

pub returns-in_ok-copy_of_head-in-Frame : goal.returns-in_ok-copy_of_head-in-Frame
returns-in_ok-copy_of_head-in-Frame c =
    let f = c.in-Frame in
    let url : plain_address c.in_ok-boxed-in-Frame.field-0.value ≡ plain_address f.url.value = search rules in
    let text : option_map (λ t. string_bytes t.value) c.in_ok-copy_of_text-in-Frame.field-0 ≡ option_map (λ t. string_bytes t.value) f.sandbox = search rules in
    let head : map head_field_of c.in_ok-copy_of_head-in-Frame.field-0.items ≡ map head_field_of f.head.items = search rules in
    record {
      same = ap (λ u. Act f.at (Frame f.parent u (option_map (λ t. string_bytes t.value) c.in_ok-copy_of_text-in-Frame.field-0) f.deny (map head_field_of c.in_ok-copy_of_head-in-Frame.field-0.items))) url
          ∙ ap (λ t. Act f.at (Frame f.parent (plain_address f.url.value) t f.deny (map head_field_of c.in_ok-copy_of_head-in-Frame.field-0.items))) text
          ∙ ap (λ h. Act f.at (Frame f.parent (plain_address f.url.value) (option_map (λ t. string_bytes t.value) f.sandbox) f.deny h)) head
          ∙ sym (ap action_of f.is);
    }
