pub mod ChunkTables
pub mod Exact
pub mod Made
pub mod Turned
