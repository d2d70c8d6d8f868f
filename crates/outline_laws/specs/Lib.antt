pub mod Syntax
pub mod Nesting
pub mod Order
