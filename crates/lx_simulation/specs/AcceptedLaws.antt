-- What accepted images are.
use Rattle.std.specs.Prelude.{◌≡◌, None, List}
use Rattle.lx_ir.specs.declared.module.Module.{Module}
use Rattle.lx_ir.specs.Lawful.{IsPlain}
use Rattle.lx_ir.specs.Verified.{IsVerified}
use Rattle.lx_annot.specs.declared.interface.Interface.{Interface}
use Rattle.lx_propagate.specs.Slots.{conflict_of}
use Rattle.lx_image_texts.specs.Instrumented.{leaves_none, leaves_spared, GuardsBut}
use Rattle.lx_model.specs.declared.program.Program.{Program}
use Rattle.lx_link_texts.specs.WellFormed.{IsWellFormed}
use Rattle.lx_simulation.specs.Images.{AreImages}
use Rattle.lx_simulation.specs.Accepted.{IsAcceptedBy, AreAccepted, IsImageOfText, AreOfTexts}

pub record AcceptedLaws : Type 0 where
  -- accepted images of a well-formed program's texts, whoever made them, are the images of its modules
  pub images : (p : Program) (images : List Module) → IsWellFormed p → AreAccepted p images → AreOfTexts p images → AreImages p images
  -- an image that the instrumenter makes is accepted, and its program is the module: without the guards of spared stores, and with all
  pub made : (i : Interface) (m x : Module) → IsVerified m → IsPlain m → conflict_of i m ≡ None → IsVerified x → GuardsBut (leaves_spared m) i m x → IsAcceptedBy i x × IsImageOfText m x
  pub made_full : (i : Interface) (m x : Module) → IsVerified m → IsPlain m → conflict_of i m ≡ None → IsVerified x → GuardsBut leaves_none i m x → IsAcceptedBy i x × IsImageOfText m x
  -- an image of a text has its types
  pub types : (m x : Module) → IsImageOfText m x → x.types ≡ m.types
