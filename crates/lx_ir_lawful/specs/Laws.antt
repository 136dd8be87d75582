-- What is read is lawful.
use Rattle.std.specs.Prelude.{ℕ, ◌+◌, ◌<◌, ◌^◌, List, length}
use Rattle.lx_ir.specs.declared.module.Module.{Module}
use Rattle.lx_ir.specs.Lawful.{IsLawful, IsPlain}
use Rattle.lx_ir_calls.specs.declared.intrinsics.TextForm.{TextForm}
use Rattle.lx_ir_calls.specs.declared.intrinsics.TextForm.TheVariants.{Program}
use Rattle.lx_ir_read.specs.Reading.{SaysModule}

-- Each module that a text says is lawful, where a `u32` numbers the bytes of the text and its end.
abbrev pub ReadIsLawful : Type 0
ReadIsLawful = (form : TextForm) (text : List ℕ) (m : Module) → length text + 1 < 2 ^ 32 → SaysModule form text m → IsLawful m

-- A program has no lines and no names that images alone have.
abbrev pub ProgramsArePlain : Type 0
ProgramsArePlain = (text : List ℕ) (m : Module) → SaysModule Program text m → IsPlain m
