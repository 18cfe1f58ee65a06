use Rattle.std.proofs.Common.{◌≡◌, ◌++◌, codes, string_bytes, ap, ◌∙◌, rules}
use Rattle.served_lines.specs.Refusal.{fault_words, refusal_text}
use Rattle.served_lines.proofs.refusal.put_refusal.Goals as goal

pub returns-in_ok-put_line-in-TooLong : goal.returns-in_ok-put_line-in-TooLong
returns-in_ok-put_line-in-TooLong c =
    record { puts = (codes "too long", ap fault_words c.in-TooLong.is, c.in_ok-put_line-in-TooLong.ensures) }

pub returns-in_ok-put_line-in-NotUtf8 : goal.returns-in_ok-put_line-in-NotUtf8
returns-in_ok-put_line-in-NotUtf8 c =
    record { puts = (codes "not utf-8", ap fault_words c.in-NotUtf8.is, c.in_ok-put_line-in-NotUtf8.ensures) }

pub returns-in_ok-put_line-in-NotJson : goal.returns-in_ok-put_line-in-NotJson
returns-in_ok-put_line-in-NotJson c =
    record { puts = (codes "not json", ap fault_words c.in-NotJson.is, c.in_ok-put_line-in-NotJson.ensures) }

pub returns-in_ok-put_line-in-UnknownAction : goal.returns-in_ok-put_line-in-UnknownAction
returns-in_ok-put_line-in-UnknownAction c =
    record { puts = (codes "unknown action", ap fault_words c.in-UnknownAction.is, c.in_ok-put_line-in-UnknownAction.ensures) }

pub returns-in_ok-put_bad_field-in-BadField : goal.returns-in_ok-put_bad_field-in-BadField
returns-in_ok-put_bad_field-in-BadField c =
    let name = string_bytes c.in-BadField.name in
    let same : c.as_str.result.now ≡ name = search rules in
    record {
      puts = (
        codes "bad field " ++ name,
        ap fault_words c.in-BadField.is,
        c.in_ok-put_bad_field-in-BadField.ensures
            ∙ ap (λ t. c.args.text.now.items ++ refusal_text c.args.number (codes "bad field " ++ t)) same,
      );
    }

pub returns-in_ok-put_line-in-BadHeader : goal.returns-in_ok-put_line-in-BadHeader
returns-in_ok-put_line-in-BadHeader c =
    record { puts = (codes "bad header", ap fault_words c.in-BadHeader.is, c.in_ok-put_line-in-BadHeader.ensures) }
