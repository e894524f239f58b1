pub mod BuiltAudits
pub mod Findings
pub mod Plans
pub mod RowRefusals
pub mod RowReplies
