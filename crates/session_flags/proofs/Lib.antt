pub mod BankBits
pub mod MaskLaws
