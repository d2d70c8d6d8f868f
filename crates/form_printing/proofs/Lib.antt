pub mod Bracketed
pub mod Contexts
pub mod Names
pub mod Pages
pub mod Scopes
pub mod Sizes
pub mod Terms
