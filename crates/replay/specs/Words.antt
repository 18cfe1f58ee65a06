-- What the command names that the words of the command line are.
-- Source: none; the words of the program are our own.
use Rattle.std.specs.Prelude.{◌≡◌, ℕ, List, Option, Some, None, option_and_then, Err, IsOk}
use Rattle.origin_site.specs.Site.{site_of_text}
use Rattle.origin_site.specs.declared.site.SiteFault.TheVariants.{NotSite}
use Rattle.command_line.specs.Words.{PlainCommand, Help, Replay, Twin, Dump, Selftest}
use Rattle.command_line.specs.Words.{command_of}

-- ---- the site

-- a word is the text of a site
abbrev pub IsSite : List ℕ → Type 0
IsSite word = IsOk (site_of_text word)

-- a word is the text of no site
abbrev pub IsNoSite : List ℕ → Type 0
IsNoSite word = site_of_text word ≡ Err NotSite

-- the command names a site, by a word that has to be read
abbrev pub NamesSite : Option PlainCommand → Type 0
NamesSite (Some (Twin site list batch checkpoint start)) = Unit {0}
NamesSite command = ⊥

-- the words are no command: they have no command's form, or their word for a site is none
abbrev pub IsNoCommand : Option PlainCommand → Type 0
IsNoCommand None = Unit {0}
IsNoCommand (Some (Twin site list batch checkpoint start)) = IsNoSite site
IsNoCommand (Some command) = ⊥

-- ---- paths

-- the path of the list that a command names
abbrev pub list_named : Option PlainCommand → Option (List ℕ)
list_named None = None
list_named (Some Help) = None
list_named (Some (Replay list store batch checkpoint start)) = Some list
list_named (Some (Twin site list batch checkpoint start)) = Some list
list_named (Some (Dump list store)) = Some list
list_named (Some (Selftest seed)) = None

-- the path of the store that a command names
abbrev pub store_named : Option PlainCommand → Option (List ℕ)
store_named None = None
store_named (Some Help) = None
store_named (Some (Replay list store batch checkpoint start)) = store
store_named (Some (Twin site list batch checkpoint start)) = None
store_named (Some (Dump list store)) = Some store
store_named (Some (Selftest seed)) = None

-- what a host tells of the list that the words name, from what it tells of each path
abbrev pub list_told : (List ℕ → Option (List ℕ)) → List (List ℕ) → Option (List ℕ)
list_told lists words = option_and_then lists (list_named (command_of words))
