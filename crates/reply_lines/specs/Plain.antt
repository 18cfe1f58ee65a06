-- What contracts see of a reply: the bytes of texts, the items of lists.
-- Source: none; it says how contracts see types of this crate.
use Rattle.std.specs.Prelude.{map, option_map, string_bytes}
use Rattle.origin_site.specs.Plain.{plain_site}
use Rattle.storage_events.specs.Event.{plain_event}
use Rattle.reply_lines.specs.Reply.{PlainBody, PlainReply}
use Rattle.reply_lines.specs.Reply as plain
use Rattle.reply_lines.specs.declared.reply.Reply.{Reply}
use Rattle.reply_lines.specs.declared.reply.ReplyBody.{ReplyBody}
use Rattle.reply_lines.specs.declared.reply.ReplyBody.TheVariants.{Plain, Now, Kept, Load, Text}
use Rattle.reply_lines.specs.declared.reply.ReplyBody.TheVariants.{Number, Truth, Events, Cookie}
use Rattle.reply_lines.specs.declared.reply.ReplyBody.TheVariants.{SetOne, Estimate, Cleared}

-- what a reply answers
abbrev pub body_of : ReplyBody → PlainBody
body_of (Plain answer) = plain.Plain answer.now
body_of (Load cookie answers) =
    plain.Load (option_map string_bytes cookie) (map (λ t. t.now) answers.items)
body_of (Text value) = plain.Text (option_map string_bytes value)
body_of (Now now) = plain.Now now
body_of (Kept kept) = plain.Kept kept
body_of (Number value) = plain.Number value
body_of (Truth value) = plain.Truth value
body_of (Events events lost) = plain.Events (map plain_event events.items) lost
body_of (Cookie cookie) = plain.Cookie (string_bytes cookie)
body_of (SetOne answer) = plain.SetOne answer.now
body_of (Estimate usage) = plain.Estimate usage
body_of (Cleared cleared) = plain.Cleared cleared

-- a reply
abbrev pub reply_of : Reply → PlainReply
reply_of reply = record {
  name = reply.name.now;
  site = option_map plain_site reply.site;
  body = body_of reply.body;
}
