pub mod Keys
pub mod Places
pub mod Faults
pub mod Tables
pub mod KeyFacts
