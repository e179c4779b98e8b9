pub mod CountsAll
pub mod Made
