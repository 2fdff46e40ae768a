pub mod PatchState
pub mod PatchView
