pub mod ChannelLemmas
pub mod RunLemmas
pub mod SumLemmas
