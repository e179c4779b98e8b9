-- Laws of the definitions of check numbers, which crates above use as well.
pub mod CheckNumbers
pub mod Division
