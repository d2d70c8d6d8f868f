pub mod TreeOrder
pub mod ContextCases
pub mod EntryLemmas
pub mod Tests
pub mod KnownWords
