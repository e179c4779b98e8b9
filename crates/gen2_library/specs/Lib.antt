pub mod LentRoom
