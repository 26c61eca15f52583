pub mod PlainKeeps
pub mod PlainWorlds
pub mod Unused
pub mod Cells
pub mod Grid
pub mod PlainWorldSteps
