pub mod Cells
pub mod Codes
pub mod Parts
pub mod Rates
pub mod Structure
pub mod Usage
