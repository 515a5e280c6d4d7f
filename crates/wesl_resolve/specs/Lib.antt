pub mod Sources
pub mod Faults
pub mod Cells
pub mod Virtual
pub mod Lines
pub mod Bundles
pub mod Asked
