mod StandardFacts
pub mod NumberLemmas
pub mod PairLemmas
pub mod CommandLemmas
pub mod FoundLemmas
pub mod ClapLemmas
pub mod OptionLemmas
pub mod RunLemmas
pub mod TwinLemmas
pub mod DumpLemmas
pub mod SelftestLemmas
pub mod ConfirmLemmas
pub mod ShowLemmas
