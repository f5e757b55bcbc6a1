-- The columns of data numbers, and the turns of a subchannel.
pub mod Columns
pub mod Turn
