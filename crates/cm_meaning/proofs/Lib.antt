mod BodyRows
mod ChoiceRows
mod CycleRows
mod GraphRows
mod PatchRows
mod Patches
mod Rows
mod RunRows
mod Trees
mod TypeFaultRows
mod ValueRows
pub mod CalmHooks
pub mod Cases
pub mod Sound
pub mod Steady
pub mod Total
