use Rattle.origin_site.specs.Plain.{plain_site}
use Rattle.store_runs.specs.Steps.{steps_of}
use Rattle.twins.specs.Plain.{plain_twin}
use Rattle.twins.specs.Settings.{setting}
use Rattle.twins.proofs.LeadLemmas.{leads_answer}
use Rattle.twins.proofs.two_scripts.twin.Goals as goal

pub returns : goal.returns
returns c = record {
  answer = leads_answer (setting c.args.list.now (plain_site c.args.site.now) c.args.options)
      (steps_of c.args.first.now) (steps_of c.args.second.now) c.in_ok-one.one c.in_ok-other.other (plain_twin c.compare.result)
      c.in_ok-one.ensures.given c.in_ok-other.ensures.given c.compare.ensures.compares;
}
