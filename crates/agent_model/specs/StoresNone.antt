-- Scripts that store no cookie: no head of a response has a Set-Cookie field, and no document's
-- script sets one.
-- Source: RFC 6265bis, "Storage Model", where cookies come from; HTML, `document.cookie`.
use Rattle.std.specs.Prelude.{◌≡◌, List, [], ◌∷◌}
use Rattle.script_actions.specs.Action.{PlainAction, Tick, Open, Close, Go, Evict, Act}
use Rattle.script_actions.specs.ActionFacts.{CookieSource, NoCookie, FromHead, FromScript, facts_of}
use Rattle.agent_model.specs.CookieStore.{cookie_texts}

-- none comes from there: from no head of a response with such a field, and from no script
abbrev pub GivesNone : CookieSource → Type 0
GivesNone NoCookie = Unit {0}
GivesNone (FromHead head) = cookie_texts head ≡ []
GivesNone FromScript = ⊥

-- a line stores none
abbrev pub StoresNone : PlainAction → Type 0
StoresNone (Open tab url opener noopener method head) = cookie_texts head ≡ []
StoresNone (Go tab url by_page method head) = cookie_texts head ≡ []
StoresNone (Act at action) = GivesNone (facts_of action).stores
StoresNone (Tick s) = Unit {0}
StoresNone (Close tab) = Unit {0}
StoresNone (Evict site) = Unit {0}

-- no line of a script stores one
abbrev pub StoreNone : List PlainAction → Type 0
StoreNone [] = Unit {0}
StoreNone (line ∷ lines) = StoresNone line × StoreNone lines
