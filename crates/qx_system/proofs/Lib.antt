pub mod TakenBits
pub mod BitmapLeaves
pub mod OneBit
pub mod PartsInOrder
pub mod WholeBlocks
