pub mod SameRuns
pub mod RunEquality
pub mod SameMessages
pub mod Reports
pub mod Rules
