pub mod Front
pub mod Capture
pub mod Looking
pub mod Walking
pub mod Lending
pub mod Reading
pub mod Fetching
pub mod Laws
