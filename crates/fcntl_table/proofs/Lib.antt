pub mod HostLaws
pub mod TableLaws
pub mod ExitLaws
