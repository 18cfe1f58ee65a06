-- Replies that wait in memory, and are written together.
-- Source: none.
use Rattle.std.specs.Prelude.{◌≡◌, ◌⊎◌, ℕ, List, ◌++◌, flat_map, Option}
use Rattle.agent_base.specs.Counts.{Rose}
use Rattle.agent_base.specs.Streams.{Takes, TakesPrefix}
use Rattle.reply_lines.specs.Reply.{PlainReply, reply_text}
use Rattle.store_runs.specs.declared.ending.Ending.{Ending}
use Rattle.store_runs.specs.declared.ending.Ending.TheVariants.{Write}

-- the text of some replies
unfoldable pub replies_text : List PlainReply → List ℕ
replies_text replies = flat_map reply_text replies

-- more waits behind what waited, or nothing more
abbrev pub Lengthens : (before now : List ℕ) → Type 0
Lengthens before now = (more : List ℕ) × (now ≡ before ++ more)

-- what waited was written and the ending is the one that was asked for, or writing it failed
abbrev pub Ended : (asked answered : Ending) → (before after : Option (List ℕ))
    → (count later : ℕ) → List ℕ → Type 0
Ended asked answered before after count later waiting =
    ((answered ≡ asked) × (Takes before after waiting × (later ≡ count)))
    ⊎ ((answered ≡ Write) × (TakesPrefix before after waiting × Rose count later))
