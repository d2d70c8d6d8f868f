pub mod Kept
pub mod Locals
