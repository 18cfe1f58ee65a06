-- How a script is run, as contracts see it.
-- Source: none; it says how contracts see types of other crates.
-- Our own choice: when a checkpoint is due is left out. A checkpoint changes nothing that a site is
-- given.
use Rattle.suffix_list.specs.ListText.{RuleList}
use Rattle.origin_site.specs.Site.{PlainSite}
use Rattle.agent_core.specs.declared.agent.Options.{Options}
use Rattle.script_courses.specs.Twins.{TwinSetting}

-- the rules of the list, the site, the start of the clock, and the length of a batch
abbrev pub setting : RuleList → PlainSite → Options → TwinSetting
setting list site options =
    record {
      rules = list.rules;
      site = site;
      start = options.start;
      batch = options.batch;
    }
