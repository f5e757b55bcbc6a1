pub mod Word
pub mod Figures
