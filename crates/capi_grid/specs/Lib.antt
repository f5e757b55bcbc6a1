-- What a C call lends the engine.
pub mod Grid
