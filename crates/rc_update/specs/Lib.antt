pub mod Conversions
pub mod Carrying
pub mod Differing
pub mod Knowing
pub mod Distinct
