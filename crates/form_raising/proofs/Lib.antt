mod Arguments
mod PlacedForms
pub mod ReachTests
