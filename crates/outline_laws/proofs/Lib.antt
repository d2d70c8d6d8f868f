pub mod SyntaxLemmas
pub mod KindWords
pub mod ActLemmas
pub mod WalkLemmas
pub mod NestLemmas
pub mod OrderLemmas
