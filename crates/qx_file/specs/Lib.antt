pub mod FilePlans
pub mod Puts
pub mod Contents
