pub mod StepTurns
pub mod RunRests
pub mod RunAdvances
pub mod FollowingLines
pub mod ChosenRuns
pub mod LowerBodies
pub mod TurnsSoon
pub mod RestReached
