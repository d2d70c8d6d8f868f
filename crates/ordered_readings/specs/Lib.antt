pub mod FirstTwo
pub mod AnswerView
pub mod Cells
pub mod Laws
pub mod Names
pub mod NodeView
