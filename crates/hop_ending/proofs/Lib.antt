mod CutEnds
mod CutHistories
mod CutMeets
mod CutPlaces
mod CutPuts
mod CutSteps
mod FineHistories
mod Fitting
mod FittingPlaces
mod FittingPulls
mod FittingTurns
pub mod Giving
mod MapperNumbers
pub mod Numbers
mod Reaching
pub mod Spent
mod SpentCuts
pub mod SpentSplit
pub mod SpentSteps
mod WorkedCuts
pub mod Workers
