-- Laws of the definitions of reading and writing, which crates above use as well.
pub mod Flow
