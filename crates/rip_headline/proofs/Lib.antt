mod Accepted
mod Applications
mod Asking
mod Begins
pub mod BrokenLaw
pub mod CallLemmas
mod Costs
mod DrivenLemmas
mod DrivenTold
mod DueLemmas
pub mod DueTold
mod Ended
mod Given
mod Going
mod HeadlineLemmas
mod Histories
pub mod HistoryLaw
pub mod HistoryLemmas
pub mod InTime
mod Items
mod Keeping
mod Knocks
pub mod LackLemmas
pub mod Living
pub mod MatchedLemmas
pub mod OneLemmas
pub mod Opened
mod Openings
mod Plans
mod ReplaysLemmas
mod Replies
mod Rises
mod Rising
mod Runs
mod ServedListLemmas
mod Serves
