pub mod CaptureFront
pub mod BuiltCapture
pub mod BuiltLine
pub mod Building
pub mod TextEnd
