-- A machine with its types, what is kept of it, and when a world is sound and a state valid.
-- It is what the functions that carry the laws take: a type of a caller stands for one setting.
-- Source: none.
use Rattle.unwinding.specs.Machine.{World, Machine}
use Rattle.unwinding.specs.Durable.{Keeping, Durable}

-- all that the laws speak of
pub record Setting : Type 1 where
  pub Site : Type 0
  pub Cell : Type 0
  pub Cells : Type 0
  pub Partition : Type 0
  pub Content : Type 0
  pub Rest : Type 0
  pub Line : Type 0
  pub Event : Type 0
  pub Reply : Type 0
  pub Change : Type 0
  pub KeptPartition : Type 0
  pub KeptCell : Type 0
  pub KeptCells : Type 0
  pub machine : Machine Site Cell Cells Partition Content Rest Line Event Reply Change
  pub keeping :
      Keeping Site Cell Cells Partition Content Rest Change KeptPartition KeptCell KeptCells
  -- which worlds a run can reach
  pub IsSound : World Site Cells Partition Rest → Type 0
  -- which durable states a store can hold
  pub IsValid : Durable Site KeptPartition KeptCells → Type 0
