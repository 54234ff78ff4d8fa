-- The laws of rows.
pub mod RowsLaws
pub mod AuditExamples
