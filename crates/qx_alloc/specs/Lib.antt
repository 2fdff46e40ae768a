pub mod SpaceState
pub mod SpaceView
