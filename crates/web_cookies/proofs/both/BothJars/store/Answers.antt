-- What is kept of a text is short enough to be stored.
use Rattle.std.proofs.Common.{sym, subst}
use Rattle.web_cookies.proofs.PairLemmas.{HasShortPair, short_pair}
use Rattle.web_cookies.proofs.both.BothJars.store.Goals as goal

pub store_kept-requires-clause-pair : goal.store_kept-requires-clause-pair
store_kept-requires-clause-pair c = subst HasShortPair (sym c.in-Kept.ensures.meaning) (short_pair c.args.text.now _)
