pub mod LowBits
pub mod Members
pub mod Words
