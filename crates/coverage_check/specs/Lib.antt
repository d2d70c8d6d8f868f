pub mod Answers
pub mod Case
pub mod Coverage
pub mod Missing
pub mod MostGeneralCase
pub mod Refinement
pub mod Worked
