-- How many calls two make, one after the other.
use Rattle.std.proofs.Common.{ℕ, ◌+◌, arith}
use Rattle.std.specs.Prelude.{Result, Ok, Err}
use Rattle.disk_model.specs.Disk.{Makes, View}

pub makes_then : {T U E : Type 0} (x : T) (result : Result U E) (n k : ℕ) (v m w : View) → Makes {E = E} n (Ok x) v m → Makes k result m w → Makes (n + k) result v w
makes_then x (Ok y) n k v m w first second = record { later = omega (arith, first.later, second.later); most = omega (arith, first.most, second.most); all = omega (arith, first.all, second.all) }
makes_then x (Err e) n k v m w first second = record { later = omega (arith, first.later, second.later); most = omega (arith, first.most, second.most); all = tt }

-- a refusal of one is one of what it is a part of
pub makes_refused : {T U E : Type 0} (why : E) (n : ℕ) (v w : View) → Makes {T = T} n (Err why) v w → Makes {T = U} n (Err why) v w
makes_refused why n v w made = record { later = made.later; most = made.most; all = tt }
