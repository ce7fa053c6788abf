pub mod CarryingLemmas
mod DifferenceLemmas
pub mod DistinctLemmas
mod NeedsLemmas
mod PassingLemmas
