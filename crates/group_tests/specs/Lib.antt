pub mod CutVectors
pub mod StateVectors
pub mod HistoryVectors
pub mod ReadyStates
pub mod Trials
pub mod Turns
pub mod LogVectors
pub mod Changes
