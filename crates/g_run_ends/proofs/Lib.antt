pub mod EndLemmas
pub mod PrintLemmas
pub mod ScanLemmas
pub mod TableLemmas
