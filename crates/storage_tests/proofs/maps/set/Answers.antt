-- A key that is there has the value, and one that is not is not set.
use Rattle.std.proofs.Common.{◌≡◌, ◌∙◌, sym}
use Rattle.key_map.specs.Entries.{map_set}
use Rattle.key_map.proofs.EntriesLemmas.{map_set-missing}
use Rattle.storage_tests.proofs.maps.set.Goals as goal

pub returns-in-Some : goal.returns-in-Some
returns-in-Some g c =
    let written : c.get_mut.follows.lender c.args.value ≡ map_set g.K.Ord.cmp c.args.key.now c.args.value c.args.map.now =
    rw c.in-Some.is at (c.get_mut.follows.holds c.args.value) in
    record { set = written }

pub returns-in-None : goal.returns-in-None
returns-in-None g c = record {
  set =
      c.get_mut.follows.holds-at-none
      ∙ sym (map_set-missing g.K.Ord.cmp g.met.K.Ord.total c.args.key.now c.args.value c.args.map.now (sym c.in-None.ensures.value));
}
