pub mod FileLaws
pub mod NodeLaws
pub mod RuleLaws
pub mod PlanLaws
pub mod ShutLaws
pub mod AnchorLaws
