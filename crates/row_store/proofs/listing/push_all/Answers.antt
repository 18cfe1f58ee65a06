-- What is stored at keys, cookies, and permissions, one behind the other.
use Rattle.std.proofs.Common.{◌∙◌, ap, map, subst, sym}
use Rattle.std.proofs.lemmas.Result.{on_ok_weaker}
use Rattle.std.proofs.lemmas.Simd.{map-map}
use Rattle.access_grants.specs.Plain.{plain_grant}
use Rattle.row_changes.specs.Change.{Grant}
use Rattle.row_store.proofs.listing.push_all.Goals as goal

pub returns : goal.returns
returns g c = record {
  pushed =
      on_ok_weaker c.push_grants.result
      (λ last.
      g.met.S.RowSink.then _ _ _ _ _ (g.met.S.RowSink.then _ _ _ _ _ c.in_ok-push_keys.ensures.pushed
      c.in_ok-push_cookies.ensures.pushed)
      (subst (λ more. g.S.RowSink.adds c.push_cookies.new.sink more c.push_grants.new.sink)
      (sym (map-map (λ row. Grant row) plain_grant c.rows.result.now) ∙ ap (map (λ row. Grant row)) c.rows.ensures.rows) last))
      c.push_grants.ensures.pushed;
}
