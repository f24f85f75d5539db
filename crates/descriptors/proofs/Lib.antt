pub mod RowLaws
pub mod CountLaws
