pub mod Asking
pub mod Contexts
pub mod Entries
pub mod Fitting
pub mod Lists
pub mod OnlyMatch
pub mod PairLemmas
pub mod Scopes
