-- What a row of a table of lines is, and what several rows have.
-- Source: the script format of docs/FORMATS.md. Our own choice: all of it.
use Rattle.std.specs.Prelude.{ℕ, List, [], ◌∷◌, codes}
use Rattle.agent_base.specs.declared.refusals.Label.{Label}
use Rattle.storage_events.specs.declared.event.AreaKind.{AreaKind}
use Rattle.storage_events.specs.declared.event.AreaKind.TheVariants.{Local}
use Rattle.script_actions.specs.declared.words.Method.TheVariants as method
use Rattle.script_actions.specs.Action.{PlainStep, DocumentAction, Act}
use Rattle.unwinding.specs.Admissible.{Acts}
use Rattle.script_lines.specs.Fields.{Field, Kind, required, defaulted, Meanings}
use Rattle.script_lines.specs.Fields.{whole, any_text, address_text, method_name, head_list}
use Rattle.script_lines.specs.Fields.{area_name}

-- a kind of line: its fields in order, and what they give
pub record Row (A : Type 0) : Type 0 where
  pub fields : List Field
  pub gives : Meanings fields → A

-- ---- fields that several rows have

-- the number of a tab, from 1 to 65,535
abbrev pub tab_number : Kind
tab_number = whole 1 65535

-- the number of a frame, from 0, which is the top document, to 255
abbrev pub frame_number : Kind
frame_number = whole 0 255

-- the tab
abbrev pub tab : Field
tab = required (codes "tab") tab_number

-- the frame, which is the top document where it is not given
abbrev pub frame : Field
frame = defaulted (codes "frame") frame_number 0

-- a frame that is not the top document
abbrev pub inner_frame : Field
inner_frame = required (codes "frame") (whole 1 255)

-- the address
abbrev pub url : Field
url = required (codes "url") address_text

-- the method of a request
abbrev pub method_field : Field
method_field = defaulted (codes "method") method_name method.Get

-- the header fields of a response
abbrev pub head : Field
head = defaulted (codes "head") head_list []

-- the area, which is the local one where it is not given
abbrev pub area : Field
area = defaulted (codes "area") area_name Local

-- the name of a pair
abbrev pub key : Field
key = required (codes "key") any_text

-- ---- rows of one form

-- the document of a tab in a frame
abbrev pub label : ℕ → ℕ → Label
label tab frame = record { tab = tab; frame = frame }

-- an action of this document
abbrev pub acts : ℕ → ℕ → DocumentAction → PlainStep
acts tab frame action = Acts (Act (label tab frame) action)

-- a document and nothing besides
abbrev pub document_row : DocumentAction → Row PlainStep
document_row action = record {
  fields = tab ∷ frame ∷ [];
  gives = λ (tab, (frame, _)). acts tab frame action;
}

-- an area of a document
abbrev pub area_row : (AreaKind → DocumentAction) → Row PlainStep
area_row action = record {
  fields = tab ∷ frame ∷ area ∷ [];
  gives = λ (tab, (frame, (area, _))). acts tab frame (action area);
}

-- a name of an area
abbrev pub name_row : (AreaKind → List ℕ → DocumentAction) → Row PlainStep
name_row action = record {
  fields = tab ∷ frame ∷ area ∷ key ∷ [];
  gives = λ (tab, (frame, (area, (key, _)))). acts tab frame (action area key);
}
