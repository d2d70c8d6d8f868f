pub mod View
pub mod Contexts
pub mod Outside
