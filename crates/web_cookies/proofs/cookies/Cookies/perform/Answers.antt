-- Both changes are done.
use Rattle.std.proofs.Common.{◌≡◌, rules, subst, sym}
use Rattle.std.specs.Rc.{rc_value}
use Rattle.cookie_jar.specs.Key.{PlainKey}
use Rattle.reply_lines.specs.Plain.{body_of}
use Rattle.web_cookies.specs.Cells.{cookies_at}
use Rattle.web_cookies.specs.Keys.{own_of, partition_of}
use Rattle.web_cookies.specs.Prepared.{HasPlace, HasPlaceIf, changed, changed_if}
use Rattle.web_cookies.specs.Stored.{IsDoneBy}
use Rattle.web_cookies.proofs.PreparedLemmas.{both_done}
use Rattle.web_cookies.proofs.cookies.Cookies.perform.Goals as goal

pub returns : goal.returns
returns c =
    let cells = c.args.prepared.cells in
    let old = c.args.self.now in
    let mid = c.change_if.new.self in
    let new = c.change.new.self in
    let own : c.deref.result.now ≡ rc_value cells.keys = search rules in
    let partition : c.deref-2.result.now ≡ rc_value cells.keys = search rules in
    record {
      done = λ does prepares. subst (λ entries. IsDoneBy does old entries (body_of c.args.prepared.body)) (sym c.self.view_is)
          (both_done c.args.prepared old mid new
          (subst (λ keys. HasPlaceIf (own_of keys) old cells.own → (key : PlainKey)
          → cookies_at key mid ≡ changed_if (own_of keys) cells.own key (cookies_at key old)) own c.change_if.ensures.changed)
          c.change_if.ensures.kept
          (subst (λ keys. HasPlace (partition_of keys) mid cells.partition → (key : PlainKey)
          → cookies_at key new ≡ changed (partition_of keys) cells.partition key (cookies_at key mid)) partition c.change.ensures.changed)
          does prepares);
    }
