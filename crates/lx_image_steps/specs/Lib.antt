pub mod Standing
pub mod Effects
pub mod Parts
pub mod Phis
pub mod Marks
pub mod Next
pub mod Given
