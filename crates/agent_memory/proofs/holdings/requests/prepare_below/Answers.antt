-- The context is by the chain of the document.
use Rattle.std.proofs.Common.{◌≡◌, false, map, not, ◌∙◌}
use Rattle.origin_site.specs.Plain.{plain_address}
use Rattle.script_actions.specs.Plain.{head_field_of}
use Rattle.storage_key.specs.Context.{is_first_party}
use Rattle.frame_tree.specs.Keys.{sites}
use Rattle.frame_tree.specs.Tree.{chain_of}
use Rattle.origin_site.specs.Site.{site_of_address}
use Rattle.agent_model.specs.CookieUses.{is_safe, request_use}
use Rattle.frame_tree.proofs.AboveLemmas.{first_is}
use Rattle.agent_memory.proofs.RequestLemmas.{prepared_as}
use Rattle.agent_memory.proofs.holdings.requests.prepare_below.Goals as goal

pub returns : goal.returns
returns c =
    let rules = c.args.input.now.list.now.rules in
    let url = plain_address c.args.load.now.url.now in
    let frames = c.args.tab.now in
    let first : c.in_ok-first.first ≡ is_first_party (sites (chain_of c.args.frame frames)) (site_of_address rules url) =
    c.in_ok-first.ensures
    ∙ first_is c.args.frame frames (site_of_address rules url) c.requires.there in
    record {
      prepared = λ site top.
          prepared_as rules c.args.input.now.clock _ (request_use rules site (chain_of c.args.frame frames)
          (chain_of c.args.frame frames) url c.args.load.now.method c.args.load.now.granted)
          (map head_field_of c.args.load.now.head.now) c.args.cookies.now c.prepare.new.self c.prepare.result
          (c.request_use-how.ensures site top
          ∙ λ i. record {
            url = url;
            top = site;
            context =
                record { first = first i; bit = not (first i) };
            same_site = first i;
            top_load = false;
            safe =
                is_safe c.args.load.now.method;
            script = false;
            granted = c.args.load.now.granted;
          })
          (record { shared = c.prepare.ensures.shared; partitioned = c.prepare.ensures.partitioned }) c.prepare.ensures.prepared;
    }
