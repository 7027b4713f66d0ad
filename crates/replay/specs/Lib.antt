pub mod Runs
pub mod Layers
pub mod Asked
pub mod Laws
pub mod RoundTrip
pub mod EveryRun
pub mod Journals
