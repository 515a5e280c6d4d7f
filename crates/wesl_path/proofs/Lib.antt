pub mod WordFacts
pub mod PathFacts
pub mod OriginFacts
pub mod PassedFacts
pub mod ComponentFacts
pub mod AsciiFacts
pub mod JoinFacts
