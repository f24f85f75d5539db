pub mod TokenLaws
pub mod ReleaseLaws
pub mod ViewLaws
