-- The numbers are the map's, and a row's table has them.
pub mod Numbers
pub mod Filled
