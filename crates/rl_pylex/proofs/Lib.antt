pub mod Runs
mod Searches
mod ClassTables
mod Lanes
mod Closing
pub mod Fronts
mod Fits
mod Sizes
mod FirstNamed
mod Cuts
mod Uniqueness
pub mod TokenFacts
pub mod Alone
pub mod LiteralFacts
mod Firsts
mod FirstBytes
mod Examples
mod Words
mod RunPieces
mod Without
mod CodingLines
mod Depths
