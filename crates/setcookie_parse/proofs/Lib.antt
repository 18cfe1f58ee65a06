mod StandardFacts
pub mod CutsLemmas
pub mod CutOnceLemmas
pub mod DaysLemmas
pub mod DigitsLemmas
pub mod FoundLemmas
pub mod KindLemmas
pub mod MonthsLemmas
pub mod SeenLemmas
pub mod SliceLemmas
pub mod SplitsLemmas
