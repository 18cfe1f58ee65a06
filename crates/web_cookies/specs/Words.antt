-- What a jar is after a store, the row changes, and the word for it.
use Rattle.std.specs.Prelude.{◌≡◌, ℕ, List, [], map, Result, Ok, Err}
use Rattle.cookie_jar.specs.declared.cause.CookieDrop.{CookieDrop}
use Rattle.cookie_jar.specs.declared.cause.CookieDrop.TheVariants as why
use Rattle.cookie_jar.specs.Key.{PlainKey as PlainCell}
use Rattle.cookie_jar.specs.Persistent.{rows_of_steps}
use Rattle.cookie_jar.specs.Planned.{PlainPlan}
use Rattle.cookie_jar.specs.Steps.{after_steps}
use Rattle.agent_model.specs.CookieCells.{Cookies}
use Rattle.agent_model.specs.CookieStore.{BothCells, StoredText, StoredTexts}
use Rattle.agent_model.specs.CookieStore.{in_cell}
use Rattle.row_changes.specs.Change.{PlainChange}
use Rattle.agent_model.specs.CookieWords.{drop_word, stored_word}

-- a text leaves both cells so, and this word answers it
abbrev pub IsStored : StoredText → BothCells → List ℕ → Type 0
IsStored stored both word = (stored.both ≡ both) × (stored.word ≡ word)

-- texts leave both cells so, and these words answer them
abbrev pub AreStored : StoredTexts → BothCells → List (List ℕ) → Type 0
AreStored stored both words = (stored.both ≡ both) × (stored.words ≡ words)

-- the cookies of a jar, once a plan was done
abbrev pub jar_left : Cookies → Result PlainPlan CookieDrop → Cookies
jar_left cookies (Ok plan) = after_steps plan.fresh cookies plan.steps
jar_left cookies (Err cause) = cookies

-- the row changes of a plan for a cell
abbrev pub rows_by : PlainCell → Result PlainPlan CookieDrop → List PlainChange
rows_by cell (Ok plan) = map (in_cell cell) (rows_of_steps plan.fresh plan.steps)
rows_by cell (Err cause) = []

-- the word for a plan
abbrev pub word_by : Result PlainPlan CookieDrop → List ℕ
word_by (Ok plan) = stored_word plan.kind
word_by (Err cause) = drop_word cause

-- the word is that of a drop, and memory was not wanting
abbrev pub IsWordOfDrop : CookieDrop → List ℕ → Type 0
IsWordOfDrop cause word = (cause ≡ why.NoMemory → ⊥) × (word ≡ drop_word cause)

-- the word is that of what was planned, and memory was not wanting
abbrev pub IsWordOf : Result PlainPlan CookieDrop → List ℕ → Type 0
IsWordOf (Ok plan) word = word ≡ stored_word plan.kind
IsWordOf (Err cause) word = IsWordOfDrop cause word
