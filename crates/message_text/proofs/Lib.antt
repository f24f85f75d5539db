pub mod NameTexts
pub mod ReportWords
pub mod MessageKinds
