-- Laws of the definitions of the text of a report.
pub mod TextReportLaws
