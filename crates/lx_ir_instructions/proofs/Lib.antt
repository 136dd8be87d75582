pub mod FormParts
pub mod FormReads
pub mod FormFinds
pub mod InstructionLaws
