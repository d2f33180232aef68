pub mod CaptureTexts
pub mod PassedRecords
pub mod ReadCaptures
pub mod RewrittenCaptures
