pub mod SlotLemmas
pub mod NameLemmas
pub mod DescribedLemmas
pub mod ExportLemmas
pub mod PartLemmas
pub mod AcceptLemmas
pub mod PartOffsets
pub mod RefusalLemmas
pub mod ScalarLemmas
mod OperandTypes
mod Actions
mod Held
mod Fit
pub mod FrameLemmas
pub mod ChangeLemmas
pub mod EndLemmas
pub mod IndexLemmas
pub mod ActLemmas
pub mod AlignLemmas
pub mod LocalLemmas
pub mod BodyLemmas
pub mod BodyTypes
pub mod PassLemmas
pub mod EachLemmas
pub mod GovernedBodies
pub mod CallLemmas
pub mod RoomLemmas
pub mod NeedLemmas
pub mod SpaceLemmas
pub mod SoundModules
