pub mod Answers
pub mod Choice
pub mod Choices
pub mod Laws
pub mod LeafPlace
pub mod SyntaxChoices
pub mod Worked
