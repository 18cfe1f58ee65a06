-- A channel goes to its owner and to its line, or to neither.
use Rattle.std.proofs.Common.{ap, sym, ◌∙◌, subst, cond, Some, []}
use Rattle.std.specs.Prelude.{is_some, string_bytes}
use Rattle.std.specs.Rc.{rc_value}
use Rattle.key_map.specs.Entries.{map_remove}
use Rattle.broadcast_channel.specs.Channel.{channel_at, fresh, with_channel}
use Rattle.broadcast_channel.specs.Hearers.{by_id, by_line, channels_of, AreOwned}
use Rattle.broadcast_channel.proofs.MapLemmas.{map_remove-put}
use Rattle.broadcast_channel.proofs.LineLemmas.{owned-fewer}
use Rattle.broadcast_channel.proofs.OwnedLemmas.{owned-opened}
use Rattle.broadcast_channel.proofs.ViewLemmas.{by_id_total, by_line_total, not_there, changes-alike, view-opened, view-same}
use Rattle.broadcast_channel.proofs.channels.Channels.admit.Goals as goal

pub invariant_of-self-in-Ok : goal.invariant_of-self-in-Ok
invariant_of-self-in-Ok g c =
    let rows = by_line g.K.Ord.cmp in
    let ids = by_id g.O.Ord.cmp in
    let missing = not_there _ g.O.Ord.cmp g.met.O.Ord.total g.K.Ord.cmp g.met.K.Ord.total c.args.channel c.self.inside.own c.self.inside.lines
    (ap (channel_at g.O.Ord.cmp c.args.channel.owner c.args.channel.id) c.self.view_is ∙ c.requires.unused) in
    subst (λ own. AreOwned rows ids own c.join.new.lines) (sym c.in_ok-insert.ensures.inserted)
    (owned-opened rows (by_line_total _ g.K.Ord.cmp g.met.K.Ord.total) ids (by_id_total g.O.Ord.cmp g.met.O.Ord.total) c.in_ok-clone.field-0 c.args.channel
    c.self.inside.own c.self.inside.lines c.join.new.lines missing
    (changes-alike _ g.O.Ord.cmp g.met.O.Ord.total g.K.Ord.cmp g.met.K.Ord.total c.args.line c.in_ok-clone.field-0 c.args.channel (Some ([], 0))
    c.self.inside.lines c.join.new.lines (sym c.in_ok-clone.ensures.cases) c.in-Ok.ensures.joined)
    c.self.invariant)

pub returns-in-Ok-clause-opened : goal.returns-in-Ok-clause-opened
returns-in-Ok-clause-opened g c =
    let missing = not_there _ g.O.Ord.cmp g.met.O.Ord.total g.K.Ord.cmp g.met.K.Ord.total c.args.channel c.self.inside.own c.self.inside.lines
    (ap (channel_at g.O.Ord.cmp c.args.channel.owner c.args.channel.id) c.self.view_is ∙ c.requires.unused) in
    ap (λ own. channels_of g.O.Ord.cmp g.K.Ord.cmp own c.join.new.lines) c.in_ok-insert.ensures.inserted
    ∙ view-opened _ g.O.Ord.cmp g.met.O.Ord.total g.K.Ord.cmp g.met.K.Ord.total c.in_ok-clone.field-0 c.args.channel c.self.inside.own c.self.inside.lines c.join.new.lines
    c.in_ok-insert.ensures.ordered missing
    (changes-alike _ g.O.Ord.cmp g.met.O.Ord.total g.K.Ord.cmp g.met.K.Ord.total c.args.line c.in_ok-clone.field-0 c.args.channel (Some ([], 0))
    c.self.inside.lines c.join.new.lines (sym c.in_ok-clone.ensures.cases) c.in-Ok.ensures.joined)
    ∙ ap (λ v. with_channel g.O.Ord.cmp (fresh c.args.channel.owner c.args.channel.id v.key (string_bytes v.name))
    (channels_of g.O.Ord.cmp g.K.Ord.cmp c.self.inside.own c.self.inside.lines)) c.in_ok-clone.ensures.cases
    ∙ ap (with_channel g.O.Ord.cmp (fresh c.args.channel.owner c.args.channel.id (rc_value c.args.line).key (string_bytes (rc_value c.args.line).name))) c.self.view_is
    ∙ sym (ap (λ found. cond (is_some found) c.args.self.now
    (with_channel g.O.Ord.cmp (fresh c.args.channel.owner c.args.channel.id (rc_value c.args.line).key (string_bytes (rc_value c.args.line).name)) c.args.self.now))
    c.requires.unused)

pub invariant_of-self-in-Err : goal.invariant_of-self-in-Err
invariant_of-self-in-Err g c =
    let rows = by_line g.K.Ord.cmp in
    let ids = by_id g.O.Ord.cmp in
    let rows_total = by_line_total _ g.K.Ord.cmp g.met.K.Ord.total in
    let ids_total = by_id_total g.O.Ord.cmp g.met.O.Ord.total in
    let missing = not_there _ g.O.Ord.cmp g.met.O.Ord.total g.K.Ord.cmp g.met.K.Ord.total c.args.channel c.self.inside.own c.self.inside.lines
    (ap (channel_at g.O.Ord.cmp c.args.channel.owner c.args.channel.id) c.self.view_is ∙ c.requires.unused) in
    subst (λ own. AreOwned rows ids own c.join.new.lines)
    (sym (c.remove.ensures.removed ∙ ap (map_remove ids c.args.channel) c.in_ok-insert.ensures.inserted
    ∙ map_remove-put ids ids_total c.args.channel c.in_ok-clone.field-0 c.self.inside.own missing))
    (owned-fewer rows rows_total ids ids_total c.self.inside.own c.self.inside.lines c.join.new.lines
    (λ l i there. ap is_some (sym (c.in-Err.ensures.unchanged l i)) ∙ there) c.self.invariant)

pub returns-in-Err-clause-unchanged : goal.returns-in-Err-clause-unchanged
returns-in-Err-clause-unchanged g c =
    let ids = by_id g.O.Ord.cmp in
    let missing = not_there _ g.O.Ord.cmp g.met.O.Ord.total g.K.Ord.cmp g.met.K.Ord.total c.args.channel c.self.inside.own c.self.inside.lines
    (ap (channel_at g.O.Ord.cmp c.args.channel.owner c.args.channel.id) c.self.view_is ∙ c.requires.unused) in
    ap (λ own. channels_of g.O.Ord.cmp g.K.Ord.cmp own c.join.new.lines)
    (c.remove.ensures.removed ∙ ap (map_remove ids c.args.channel) c.in_ok-insert.ensures.inserted
    ∙ map_remove-put ids (by_id_total g.O.Ord.cmp g.met.O.Ord.total) c.args.channel c.in_ok-clone.field-0 c.self.inside.own missing)
    ∙ view-same _ g.O.Ord.cmp g.met.O.Ord.total g.K.Ord.cmp g.met.K.Ord.total c.self.inside.own c.self.inside.lines c.join.new.lines c.in-Err.ensures.unchanged
    ∙ c.self.view_is
