pub mod common
pub mod steps
pub mod tokens
pub mod history
pub mod runs
pub mod listings
pub mod rounds
