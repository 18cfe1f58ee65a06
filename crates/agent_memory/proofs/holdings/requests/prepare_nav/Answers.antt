-- The context is by the chain above the frame.
use Rattle.std.proofs.Common.{◌≡◌, false, map, ap, sym, ◌∙◌}
use Rattle.origin_site.specs.Plain.{plain_address}
use Rattle.script_actions.specs.Plain.{head_field_of}
use Rattle.storage_key.specs.Context.{PlainContext, context_of, is_first_party}
use Rattle.storage_key.specs.Plain.{plain_context}
use Rattle.frame_tree.specs.Keys.{is_first_at, sites}
use Rattle.origin_site.specs.Site.{site_of_address}
use Rattle.agent_model.specs.CookieUses.{chain_above, is_safe, request_use, starter_of}
use Rattle.frame_tree.proofs.AboveLemmas.{first_is}
use Rattle.agent_memory.proofs.RequestLemmas.{prepared_as}
use Rattle.agent_memory.proofs.holdings.requests.prepare_nav.Goals as goal
use Rattle.agent_memory.proofs.holdings.requests.prepare_nav.Goals.{then-by_self, else-by_self}

pub returns : goal.returns
returns c =
    let rules = c.args.input.now.list.now.rules in
    let url = plain_address c.args.load.now.url.now in
    let frames = c.args.tab.now in
    let target = site_of_address rules url in
    let context : plain_context c.in_ok-context.context ≡ context_of (sites (chain_above c.args.frame frames)) target =
    c.in_ok-context.ensures.context ∙ ap (context_of (sites (chain_above c.args.frame frames))) c.in_ok-target.ensures.site in
    let same_site : c.if-by_self.same_site ≡ is_first_party (sites (starter_of c.args.by_self c.args.frame frames)) target =
    elim c.if-by_self.branch [
      | then-by_self w ↦ w.same_site-is ∙ w.first_party-same_site.ensures.first
          ∙ ap (is_first_at c.args.frame frames) c.in_ok-target.ensures.site
          ∙ first_is c.args.frame frames target c.requires.there
          ∙ sym (ap (λ b. is_first_party (sites (starter_of b c.args.frame frames)) target) w.if-by_self.true)
      | else-by_self w ↦ w.same_site-is ∙ ap (λ (k : PlainContext). k.first) context
          ∙ sym (ap (λ b. is_first_party (sites (starter_of b c.args.frame frames)) target) w.if-by_self.false)
    ] in
    record {
      prepared = λ site top.
          prepared_as rules c.args.input.now.clock _ (request_use rules site (chain_above c.args.frame frames)
          (starter_of c.args.by_self c.args.frame frames) url c.args.load.now.method c.args.load.now.granted)
          (map head_field_of c.args.load.now.head.now) c.args.cookies.now c.prepare.new.self c.prepare.result
          (c.request_use-how.ensures site top
          ∙ λ i. record {
            url = url;
            top = site;
            context = context i;
            same_site = same_site i;
            top_load =
                false;
            safe = is_safe c.args.load.now.method;
            script = false;
            granted = c.args.load.now.granted;
          })
          (record { shared = c.prepare.ensures.shared; partitioned = c.prepare.ensures.partitioned }) c.prepare.ensures.prepared;
    }
