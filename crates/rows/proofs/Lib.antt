pub mod HandedRow
