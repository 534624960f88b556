pub mod StepLemmas
pub mod EndLemmas
pub mod KeywordLemmas
pub mod KeptLemmas
pub mod CountLemmas
