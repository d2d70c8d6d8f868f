pub mod Instances
pub mod Laws
pub mod Runs
pub mod TreeRuns
