pub mod Row
pub mod Grid
