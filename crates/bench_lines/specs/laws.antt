pub mod SeenLaws
pub mod LogLineLaws
pub mod ProbeLineLaws
