pub mod Binders
pub mod Order
pub mod Renaming
pub mod Sizes
pub mod Standing
pub mod Worked
