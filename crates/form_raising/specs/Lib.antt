pub mod Before
pub mod ReachTest
