pub mod EachModulator
pub mod KnownRuns
