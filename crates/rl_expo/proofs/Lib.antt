pub mod ForkLaws
pub mod SearchLaws
pub mod BlockLaws
pub mod SplitLaws
pub mod DenseLaws
pub mod MeetingLaws
