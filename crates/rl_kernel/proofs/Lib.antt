pub mod MemberLaws
pub mod SeatLaws
pub mod InnerLaws
pub mod InnerPaths
