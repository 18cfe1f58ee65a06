-- What a sandbox allows, and which text of a `sandbox` attribute allows it.
-- Source: HTML, "Sandboxing", the rules for parsing a sandboxing directive: the text is split at
-- ASCII white space, and a token counts without regard to ASCII case.
-- Our own choice: the tokens `allow-same-origin` and `allow-storage-access-by-user-activation` have
-- effect, and others have none, since nothing else of a page is kept here.
use Rattle.std.specs.Prelude.{ℕ, Bool, true, ◌&&◌, List, codes, Option, Some, None}
use Rattle.std.specs.List.{list_any, slice_split}
use Rattle.std.specs.Char.{is_ascii_whitespace}
use Rattle.case_tables.specs.Rows.{same_in_any_case}

-- what a document may do
pub record PlainSandbox : Type 0 where
  pub same_origin : Bool
  pub storage_access : Bool

-- a document that is not sandboxed may do both
abbrev pub unrestricted : PlainSandbox
unrestricted = record { same_origin = true; storage_access = true }

-- what both allow: each restriction of either
abbrev pub both : PlainSandbox → PlainSandbox → PlainSandbox
both a b = record {
  same_origin = a.same_origin && b.same_origin;
  storage_access = a.storage_access && b.storage_access;
}

-- the parts of a text between its white space; an empty part is no token
abbrev pub parts_of : List ℕ → List (List ℕ)
parts_of text = slice_split is_ascii_whitespace text

-- one of the tokens of a text is this word, which is not empty
abbrev pub has_token : List ℕ → List ℕ → Bool
has_token word text = list_any (same_in_any_case word) (parts_of text)

-- what the text of a `sandbox` attribute allows; without the attribute all is allowed
abbrev pub sandbox_of : Option (List ℕ) → PlainSandbox
sandbox_of None = unrestricted
sandbox_of (Some text) = record {
  same_origin = has_token (codes "allow-same-origin") text;
  storage_access = has_token (codes "allow-storage-access-by-user-activation") text;
}
