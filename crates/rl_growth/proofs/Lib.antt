pub mod RouteLaws
pub mod FamilyLaws
pub mod VerdictLaws
pub mod LongestLaws
pub mod DegreeLaws
pub mod BoundLaws
