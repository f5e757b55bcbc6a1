pub mod Numbers
pub mod Model
