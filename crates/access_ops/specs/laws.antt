pub mod OperationLaws
