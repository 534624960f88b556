pub mod ItemLemmas
pub mod BlockLemmas
pub mod WritingLemmas
pub mod SpanLemmas
pub mod OneText
