-- Laws of the definitions of bits, words and families of lists, which crates above use as well.
pub mod Ebv
pub mod Family
pub mod Lists
pub mod NumbersInBits
pub mod Words
