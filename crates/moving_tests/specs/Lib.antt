pub mod LineBytes
