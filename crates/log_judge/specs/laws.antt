-- What the laws of verdicts speak of besides: logs that are legal and logs that a tag made, and what is known of a tag behind a log.
pub mod Logs
pub mod Kinds
pub mod Known
pub mod StandingLaws
