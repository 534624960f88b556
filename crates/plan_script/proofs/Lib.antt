pub mod PacketLemmas
pub mod Putting
pub mod FeedLemmas
pub mod StepLemmas
pub mod EndLemmas
pub mod SaidLemmas
pub mod KeptLemmas
pub mod TextLemmas
