mod Numbers
mod Bodies
pub mod Bounds
mod Ends
mod Quotes
mod HexLaws
mod PieceLaws
mod BodyLaws
mod ReadBack
