pub mod TxSteps
