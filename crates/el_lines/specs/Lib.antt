pub mod Lines
pub mod NodeLines
pub mod NodeAnswers
pub mod LineStates
pub mod ReadLines
pub mod within
