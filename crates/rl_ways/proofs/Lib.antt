pub mod ForgetLaws
pub mod ApartLaws
pub mod WayLaws
pub mod TextLaws
pub mod OriginLaws
pub mod LinkLaws
pub mod CycleLaws
pub mod JoinLaws
mod Worked
