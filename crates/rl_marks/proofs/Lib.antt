pub mod GoLaws
pub mod EndLaws
pub mod SearchLaws
pub mod SeekLaws
pub mod Following
pub mod CapsLaws
pub mod FindLaws
pub mod WalkLaws
pub mod ThreadLaws
pub mod NameLaws
pub mod PairLaws
pub mod LikeLaws
pub mod AlikeLaws
pub mod DifferLaws
pub mod LoweringLaws
pub mod JoinLaws
pub mod MarkedLaws
mod Worked
