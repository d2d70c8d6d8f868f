pub mod Page
pub mod Shown
pub mod View
