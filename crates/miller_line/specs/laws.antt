-- The laws of a line code for Miller.
pub mod Miller
