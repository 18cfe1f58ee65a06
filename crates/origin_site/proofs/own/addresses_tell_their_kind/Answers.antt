use Rattle.origin_site.proofs.KindLemmas.{addresses_tell}
use Rattle.origin_site.proofs.own.addresses_tell_their_kind.Goals as goal

pub returns : goal.returns
returns c = record { kind = addresses_tell }
