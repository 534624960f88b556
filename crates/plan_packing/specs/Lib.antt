pub mod Packing
pub mod Relation
pub mod Laws
