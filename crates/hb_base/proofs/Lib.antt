pub mod MappedTables
pub mod Places
pub mod TableLaws
