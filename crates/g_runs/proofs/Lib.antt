pub mod ScanLemmas
pub mod StepLemmas
