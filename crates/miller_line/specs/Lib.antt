pub mod FourSymbols
pub mod Miller
pub mod SymbolContext
pub mod laws
