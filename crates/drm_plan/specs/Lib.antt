pub mod Projection
pub mod Settings
pub mod ConfigParts
pub mod Files
pub mod Lookup
pub mod Draft
pub mod ConfigTable
pub mod Text
