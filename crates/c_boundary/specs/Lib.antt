-- What C sees after a call that writes a row.
pub mod Row
