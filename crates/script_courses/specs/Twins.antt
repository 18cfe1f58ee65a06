-- Whether two scripts give a site the same local script.
-- Source: none; these are the words of the promise.
-- Our own choice: a local script is entries and an end. A restart is an entry, and the end is what
-- closes the last epoch. Where one script's entries are the front of the other's, they differ at
-- its length, also where the other goes on with a restart that reads as the end does.
use Rattle.std.specs.Prelude.{◌≡◌, ◌≢◌, ◌⊎◌, ℕ, ◌+◌, ◌-◌, List, [], ◌∷◌, ◌++◌, drop, filter}
use Rattle.std.specs.Prelude.{length, take}
use Rattle.unwinding.specs.Admissible.{History}
use Rattle.unwinding.specs.LocalScript.{Happens, Restarts}
use Rattle.suffix_list.specs.Suffix.{Rule}
use Rattle.origin_site.specs.Site.{PlainSite}
use Rattle.storage_key.specs.Context.{is_of}
use Rattle.script_actions.specs.Action.{PlainAction, PlainStep}
use Rattle.agent_model.specs.Isolation.{lines_of_site}
use Rattle.durable_model.specs.Histories.{AgentOpening, AgentReply, SiteHistory, history_script}
use Rattle.printed_model.specs.Histories.{begins_at, printed_replies}
use Rattle.local_scripts.specs.Difference.{DifferAt}
use Rattle.local_scripts.specs.Items.{AgentItem}
use Rattle.script_courses.specs.GoodHistories.{good_history}

-- the answer: the local scripts are equal, and so many lines of the site are printed of each; or
-- they first differ at this entry, from 0
pub data Twin : Type 0 where
  Equal : (lines : ℕ) → Twin
  LocalDiffer : (entry : ℕ) → Twin

-- ---- one script

-- how a script is run: the list, the site, the start of the clock, and the length of a batch
pub record TwinSetting : Type 0 where
  pub rules : List Rule
  pub site : PlainSite
  pub start : ℕ
  pub batch : ℕ

-- what is printed of a script
abbrev pub replies_in : TwinSetting → List PlainStep → List AgentReply
replies_in at steps =
    printed_replies at.rules (begins_at at.start) (good_history at.rules at.batch at.start steps)

-- the local script that it gives the site
abbrev pub script_in : TwinSetting → List PlainStep → SiteHistory
script_in at steps =
    history_script at.rules at.site (begins_at at.start)
    (good_history at.rules at.batch at.start steps)

-- how many of these lines are the site's
abbrev pub count_of_site : PlainSite → List AgentReply → ℕ
count_of_site site told = length (filter (λ one. is_of site one.site) told)

-- ---- entries and end

-- the entries: all items but the last
abbrev pub entries_of : List AgentItem → List AgentItem
entries_of items = take (length items - 1) items

-- the end: the last item, alone
abbrev pub end_of : List AgentItem → List AgentItem
end_of items = drop (length items - 1) items

-- how many replies of the site were acknowledged, in all epochs
abbrev pub acknowledged_in : List AgentItem → ℕ
acknowledged_in [] = 0
acknowledged_in (Happens entry ∷ items) = acknowledged_in items
acknowledged_in (Restarts moment acknowledged kept ∷ items) = acknowledged + acknowledged_in items

-- ---- two scripts

-- two lists of items first differ at this entry: their entries do, or only their ends do, and this
-- is the number of entries
abbrev pub EntriesDiffer : (xs ys : List AgentItem) → ℕ → Type 0
EntriesDiffer xs ys entry =
    DifferAt (entries_of xs) (entries_of ys) entry
    ⊎ ((entries_of xs ≡ entries_of ys) × (end_of xs ≢ end_of ys)
    × (entry ≡ length (entries_of xs)))

-- the answer to two scripts
abbrev pub IsTwin : TwinSetting → (first second : List PlainStep) → Twin → Type 0
IsTwin at first second (Equal lines) =
    (script_in at first ≡ script_in at second)
    × (lines ≡ count_of_site at.site (replies_in at first))
    × (lines ≡ count_of_site at.site (replies_in at second))
IsTwin at first second (LocalDiffer entry) =
    EntriesDiffer (script_in at first).script.items (script_in at second).script.items entry

-- ---- laws

-- two scripts have one answer at most
abbrev pub HasOneAnswer : Type 0
HasOneAnswer = (at : TwinSetting) (first second : List PlainStep) (answer other : Twin)
    → IsTwin at first second answer → IsTwin at first second other → answer ≡ other

-- where the answer is `Equal`, the printed lines of the site are equal
abbrev pub PrintsTheSame : Type 0
PrintsTheSame = (at : TwinSetting) (first second : List PlainStep) (lines : ℕ)
    → IsTwin at first second (Equal lines)
    → lines_of_site at.site (replies_in at first) ≡ lines_of_site at.site (replies_in at second)

-- the acknowledged replies that the local script of a history tells of are as many as the printed
-- lines of the site
abbrev pub TellsOfLines : Type 0
TellsOfLines = (rules : List Rule) (site : PlainSite) (opening : AgentOpening)
    (history : History PlainAction)
    → acknowledged_in (history_script rules site opening history).script.items
    ≡ count_of_site site (printed_replies rules opening history)

-- the local script of a script has these entries and this end
abbrev pub HasItems : TwinSetting → List PlainStep → (entries : List AgentItem) → (end : AgentItem)
    → Type 0
HasItems at steps entries end = (script_in at steps).script.items ≡ entries ++ end ∷ []

-- the answer, by the entries and the end of each
abbrev pub AnswersByItems : Type 0
AnswersByItems = (at : TwinSetting) (first second : List PlainStep) (xs ys : List AgentItem)
    (x y : AgentItem) → HasItems at first xs x → HasItems at second ys y
    → ((entry : ℕ) → DifferAt xs ys entry → IsTwin at first second (LocalDiffer entry))
    × (xs ≡ ys → x ≢ y → IsTwin at first second (LocalDiffer (length xs)))
    × (xs ≡ ys → x ≡ y → IsTwin at first second (Equal (acknowledged_in (xs ++ x ∷ []))))
