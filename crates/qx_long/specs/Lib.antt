pub mod AbsentNumbers
pub mod NamePlans
