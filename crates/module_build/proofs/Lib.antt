pub mod ExampleBytes
pub mod PatchGrows
pub mod Source
pub mod Target
pub mod ThroughBuild
pub mod ThroughKeeps
pub mod ThroughValid
