-- What stands in bytes behind which the row changes of a line are written.
-- Source: none.
-- Our own choice: where memory is wanted, bytes of the row changes may stand behind what was there,
-- and nothing that was there is touched. Whoever writes tells the front from the rest.
use Rattle.std.specs.Prelude.{◌≡◌, ◌<◌, ◌^◌, ℕ, List, ◌++◌, length, Result, MatchResult}
use Rattle.std.specs.List.{All}
use Rattle.agent_base.specs.declared.refusals.NoMemory.{NoMemory}
use Rattle.origin_site.specs.Origin.{origin_text}
use Rattle.origin_site.specs.Site.{site_text}
use Rattle.storage_key.specs.Key.{PlainKey}
use Rattle.stored_cookie.specs.StoredCookie.{PlainCookie}
use Rattle.cookie_jar.specs.Key.{PlainKey as PlainCell, OwnCell, PartitionCell}
use Rattle.access_grants.specs.Grant.{PlainGrant}
use Rattle.row_changes.specs.Change.{PlainChange, AreaPut, AreaRemove, AreaClear, SetMode}
use Rattle.row_changes.specs.Change.{CookieInsert, CookieReplace, CookieRemove, Grant}
use Rattle.row_changes.specs.Spelled.{IsText}
use Rattle.row_changes.specs.Body.{durable_bytes}

-- the texts of a key: its origin's, and that of its top-level site
abbrev pub HasKeyTexts : PlainKey → Type 0
HasKeyTexts key = IsText (origin_text key.origin) × IsText (site_text key.top)

-- the texts of a cell: its domain, and of a partition that of its top-level site
abbrev pub HasCellTexts : PlainCell → Type 0
HasCellTexts (OwnCell domain) = IsText domain
HasCellTexts (PartitionCell top bit domain) = IsText (site_text top) × IsText domain

-- the texts of a cookie
abbrev pub HasCookieTexts : PlainCookie → Type 0
HasCookieTexts c = IsText c.name × IsText c.value × IsText c.domain × IsText c.path

-- the texts of a permission: those of its sites
abbrev pub HasGrantTexts : PlainGrant → Type 0
HasGrantTexts row = IsText (site_text row.top) × IsText (site_text row.site)

-- each text that the bytes of a row change hold is one
abbrev pub HasTexts : PlainChange → Type 0
HasTexts (AreaPut key name value) = HasKeyTexts key × IsText name × IsText value
HasTexts (AreaRemove key name) = HasKeyTexts key × IsText name
HasTexts (AreaClear key) = HasKeyTexts key
HasTexts (SetMode key) = HasKeyTexts key
HasTexts (CookieInsert cell place c) = HasCellTexts cell × HasCookieTexts c
HasTexts (CookieReplace cell place c) = HasCellTexts cell × HasCookieTexts c
HasTexts (CookieRemove cell place) = HasCellTexts cell
HasTexts (Grant row) = HasGrantTexts row

-- bytes stand at the front of others
abbrev pub IsFront : List ℕ → List ℕ → Type 0
IsFront front whole = (rest : List ℕ) × (whole ≡ front ++ rest)

-- the bytes of row changes stand behind what was there, and each field has room in them
abbrev pub IsAppended : List PlainChange → List ℕ → List ℕ → Type 0
IsAppended changes before after =
    (after ≡ before ++ durable_bytes changes) × All HasTexts changes × (length changes < 2 ^ 32)

-- what an answer to the writing of row changes says: they are appended, or memory is wanted and
-- what was there is the front of what stands there
abbrev pub Appends : {T : Type 0} → List PlainChange → (before after : List ℕ)
    → Result T NoMemory → Type 0
Appends changes before after result =
    MatchResult result (λ _. IsAppended changes before after) (λ _. IsFront before after)
