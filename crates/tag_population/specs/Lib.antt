pub mod Answers
pub mod Floor
pub mod Hearing
pub mod Lent
pub mod Wheel
pub mod TagSets
pub mod Participation
