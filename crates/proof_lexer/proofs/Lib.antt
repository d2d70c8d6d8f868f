pub mod FrontLemmas
pub mod TextLemmas
pub mod CursorLemmas
pub mod LexLemmas
pub mod LineLemmas
pub mod UniqueLemmas
pub mod TotalLemmas
