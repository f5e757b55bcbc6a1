-- What a C call answers that is no refusal.
pub mod Version
