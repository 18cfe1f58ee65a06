-- What contracts see of a sandbox, a document and a frame.
use Rattle.std.specs.Prelude.{Option, option_map}
use Rattle.origin_site.specs.Site.{PlainSite}
use Rattle.origin_site.specs.Plain.{plain_address, plain_origin, plain_site}
use Rattle.origin_site.specs.declared.site.Site.{Site}
use Rattle.frame_tree.specs.Sandbox.{PlainSandbox}
use Rattle.frame_tree.specs.Document.{PlainDocument}
use Rattle.frame_tree.specs.Tree.{PlainFrame}
use Rattle.frame_tree.specs.declared.sandbox.Sandbox.{Sandbox}
use Rattle.frame_tree.specs.declared.document.Document.{Document}
use Rattle.frame_tree.specs.declared.frames.Frame.{Frame}

-- a sandbox
abbrev pub plain_sandbox : Sandbox → PlainSandbox
plain_sandbox s = record { same_origin = s.same_origin; storage_access = s.storage_access }

-- the site of a document
abbrev pub plain_chain_site : Option Site → Option PlainSite
plain_chain_site site = option_map plain_site site

-- a document
abbrev pub plain_document : Document → PlainDocument
plain_document d = record {
  address = plain_address d.address;
  origin = option_map plain_origin d.origin;
  site = plain_chain_site d.site;
  sandbox = plain_sandbox d.sandbox;
  deny = d.deny;
  flag = d.flag;
  mark = d.mark;
}

-- a frame of the list
abbrev pub plain_frame : Frame → PlainFrame
plain_frame f =
    record { frame = f.frame; parent = f.parent; document = plain_document f.loaded.document }
