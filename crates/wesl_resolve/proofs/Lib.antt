pub mod SourceFacts
pub mod VirtualFacts
pub mod LineFacts
pub mod BundleFacts
pub mod CellFacts
pub mod BreakFacts
