pub mod SystemBytes
