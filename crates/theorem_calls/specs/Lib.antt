pub mod Answers
pub mod Call
pub mod Raised
pub mod Roots
pub mod Worked
