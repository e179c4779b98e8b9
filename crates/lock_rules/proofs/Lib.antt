pub mod PairNumbers
