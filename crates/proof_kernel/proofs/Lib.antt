mod BeginningValues
mod Comparing
mod EndedCases
mod Equations
mod FormEquations
pub mod GoingOn
mod GrowingHeld
