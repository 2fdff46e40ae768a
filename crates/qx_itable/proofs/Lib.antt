pub mod FirstPlaces
pub mod KeptInodes
pub mod WrittenLeaves
pub mod NumberedInodes
