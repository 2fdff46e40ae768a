pub mod ReadRuns
pub mod MakerRuns
pub mod RunEnds
pub mod SizeWords
pub mod VerdictRuns
