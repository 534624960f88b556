pub mod CapturePrefixes
