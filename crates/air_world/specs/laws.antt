-- Laws of what a run counts and keeps of the lines that it tells, and of what its rounds make of the tags of a hall.
pub mod CountingLaws
pub mod HallLaws
pub mod ListingLaws
