pub mod Version
pub mod VerdictInC
pub mod RowInC
pub mod PanelInC
pub mod SessionInC
pub mod OneReply
