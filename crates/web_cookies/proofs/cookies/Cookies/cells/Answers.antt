-- The walk from the first key on goes over all cells.
use Rattle.std.proofs.Common.{◌++◌, ◌∙◌, ap, map}
use Rattle.std.specs.Prelude.{filter}
use Rattle.std.specs.Map.{keys_of}
use Rattle.cookie_jar.specs.Key.{plain_key}
use Rattle.web_cookies.specs.Listed.{cells_in, is_listed}
use Rattle.web_cookies.proofs.ListedLemmas.{none_listed, walked_all}
use Rattle.web_cookies.proofs.cookies.Cookies.cells.Goals as goal

pub returns-in_default : goal.returns-in_default
returns-in_default c = record {
  cells =
      ap (map plain_key) c.new-cells.ensures.items
      ∙ none_listed c.args.kind c.self.inside.cells c.in_default.ensures.ordered c.in_default.ensures.key
      ∙ ap (cells_in c.args.kind) c.self.view_is;
}

pub returns : goal.returns
returns c = record {
  cells =
      c.in_ok-push_cells.ensures.pushed
      ∙ ap (λ l. map plain_key l ++ map plain_key (keys_of (filter (is_listed c.args.kind) c.range_from.result))) c.new-cells.ensures.items
      ∙ walked_all c.args.kind c.self.inside.cells c.range_from.result c.in-Some.first.now c.in-Some.ensures.ordered c.in-Some.ensures.key c.range_from.ensures.entries
      ∙ ap (cells_in c.args.kind) c.self.view_is;
}
