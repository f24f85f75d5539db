pub mod Steps
pub mod NodeSeats
pub mod ServerSeats
pub mod Parts
