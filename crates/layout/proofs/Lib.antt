pub mod ColumnsExact
pub mod LinesExact
pub mod TextsExact
pub mod TextsWritten
