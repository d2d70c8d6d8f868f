pub mod ContextOrder
pub mod FormOrder
pub mod TreeLemmas
