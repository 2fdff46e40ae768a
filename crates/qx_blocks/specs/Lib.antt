pub mod BlockState
pub mod Beside
pub mod Calls
pub mod Growth
pub mod MemState
pub mod MemView
pub mod SlotWrites
