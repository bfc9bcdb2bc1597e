-- What the texts of a comparison say about two patterns: the same that they say about two trees.
pub use Rattle.rl_equiv.specs.Comparison.{IsOfRegion, IsTrueComparison}
