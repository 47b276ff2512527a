pub mod RowLaws
pub mod KeyLaws
pub mod ListRows
