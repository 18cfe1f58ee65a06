-- Both laws are proved from one call at a time.
use Rattle.broadcast_channel.proofs.CallLemmas.{hears-all, hears-no-more}
use Rattle.broadcast_channel.proofs.laws.channel_laws.Goals as goal

pub returns : goal.returns
returns g c = record {
  heard = hears-all g.O.Ord.cmp g.met.O.Ord.total g.K.Ord.cmp;
  closed = hears-no-more g.O.Ord.cmp g.met.O.Ord.total g.K.Ord.cmp;
}
