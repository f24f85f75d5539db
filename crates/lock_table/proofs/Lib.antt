pub mod RowLemmas
pub mod BlockerLemmas
pub mod ListingLemmas
pub mod PageLemmas
pub mod BlockRows
