pub mod Events
pub mod Cuts
pub mod Throughout
pub mod ReadCounts
pub mod PuttingMoments
pub mod ToldLengths
pub mod OtherDeeds
