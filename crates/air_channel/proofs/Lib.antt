pub mod GivenAnswers
pub mod ExchangeFacts
pub mod Names
