pub mod BitLemmas
pub mod EntryLemmas
pub mod HasLemmas
pub mod HeldLemmas
pub mod HolderKeys
pub mod IndexLemmas
pub mod KeptLemmas
pub mod KeyLemmas
pub mod KeyPlaces
pub mod MoreParts
mod MoreRuns
pub mod NearLemmas
mod NextBit
pub mod NodeLemmas
pub mod PartLemmas
pub mod ShownLemmas
pub mod TakenLemmas
pub mod VisitLemmas
pub mod WalkLemmas
pub mod PlacesWithin
