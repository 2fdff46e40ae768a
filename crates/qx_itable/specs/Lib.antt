pub mod FirstPlace
pub mod LiveView
pub mod TableState
pub mod TableView
