use Rattle.std.proofs.Common.{◌≢◌, ℕ, ◌<◌, length, slice_index_or, List}
use Rattle.case_tables.specs.Rows.{rows_of}
use Rattle.case_tables.proofs.cases.Cases.distinct.Given as goal

abbrev pub invariant-loop-place : goal.invariant-loop-place
invariant-loop-place g l =
    (i j : ℕ) (d : List ℕ × g.row.V.Denot) → i < l.place → i < j → j < length (rows_of l.self)
    → (slice_index_or (rows_of l.self) i d).0 ≢ (slice_index_or (rows_of l.self) j d).0
