pub mod Places
pub mod Names
pub mod Findings
pub mod Verdicts
pub mod Layouts
pub mod Document
pub mod Reports
