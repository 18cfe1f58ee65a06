use Rattle.std.proofs.Common.{◌≡◌, ◌++◌, map, take}
use Rattle.reply_lines.specs.Plain.{reply_of}
use Rattle.store_runs.specs.Waiting.{replies_text}
use Rattle.store_runs.proofs.waiting.hold_all.Given as goal

-- the texts of the replies so far wait behind what waited before
abbrev pub invariant-loop-reply : goal.invariant-loop-reply
invariant-loop-reply l = record {
  text : l.waiting.items ≡ l.fn.waiting.items ++ replies_text (map reply_of (take l.reply-index l.replies));
}
