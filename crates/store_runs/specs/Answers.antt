-- What a line is answered, as text.
-- Source: none; it says how contracts see a type of this crate.
use Rattle.std.specs.Prelude.{ℕ, List, [], map}
use Rattle.reply_lines.specs.Plain.{reply_of}
use Rattle.reply_lines.specs.Reply.{reply_text}
use Rattle.store_runs.specs.Waiting.{replies_text}
use Rattle.store_runs.specs.declared.answer.Answer.{Answer}
use Rattle.store_runs.specs.declared.answer.Answer.TheVariants.{Batch, Waits, One}

-- the text of an answer: that of its replies
abbrev pub answer_text : Answer → List ℕ
answer_text (Batch given) = replies_text (map reply_of given.items)
answer_text Waits = []
answer_text (One reply) = reply_text (reply_of reply)
