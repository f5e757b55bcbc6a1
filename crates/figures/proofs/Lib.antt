-- The planners' figures.
pub mod Count
pub mod Answer
pub mod Field
pub mod FieldTest
pub mod Cells
pub mod DifferenceTest
pub mod ThreeKinds
pub mod Placing
pub mod OfuscHits
pub mod AmcHits
pub mod Figures
