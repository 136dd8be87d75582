-- What runs of an image in place of a program's text.
use Rattle.std.specs.Prelude.{◌≡◌, ℕ, suc, length, Bool, true, false, not, ◌&&◌, ◌||◌, Option, Some, None, List, [], ◌∷◌, map, slice_get, ⊤}
use Rattle.std.specs.List.{list_all}
use Rattle.lx_ir.specs.declared.module.Function.{Function}
use Rattle.lx_ir.specs.declared.module.Module.{Module}
use Rattle.lx_ir.specs.declared.instr.Op.{Op}
use Rattle.lx_ir.specs.Verified.{IsVerified}
use Rattle.lx_image_texts.specs.Spared.{is_spared}
use Rattle.lx_image_texts.specs.Marks.{is_wrapped, wrapper_number}
use Rattle.lx_model.specs.declared.program.ProgramFunction.TheVariants.{Of}
use Rattle.lx_ir.specs.Lookup.{is_defined}
use Rattle.lx_annot.specs.declared.interface.Slot.{Slot}
use Rattle.lx_model.specs.declared.program.Program.{Program}
use Rattle.lx_model.specs.Program.{Home, home_or_kernel, kernel_function, module_of, native_named, slot_named}
use Rattle.lx_model.specs.Thread.{CodeBlock, Routine, Activation, routine, routine_of}
use Rattle.lx_model.specs.Effect.{Effect, Moves, Wants, Enters, Calls, Traps, code_block_named}
use Rattle.lx_images.specs.Code.{Code, image_routine, out_import}
use Rattle.lx_images.specs.ImageCode.{is_store, stores_in, Bare, bare_in, text_op, image_ops}
use Rattle.lx_images.specs.WrapperLines.{WrapsWell}

-- the code of a block, or none where there is no block
abbrev pub code_or_none : Option CodeBlock → List Op
code_or_none None = []
code_or_none (Some b) = b.code

-- which stores of a block lack their guard, where these are the image's blocks
abbrev pub bare_among : List CodeBlock → List ℕ → Bare
bare_among blocks label k = bare_in false (code_or_none (code_block_named blocks label)) k

-- which stores of a block of a function lack their guard in the image
abbrev pub bare_of : Code → ℕ → List ℕ → Bare
bare_of c n label k = bare_among (image_routine c n).blocks label k

-- a block of a text in its image
abbrev pub image_block : Option Module → (List ℕ → Bare) → CodeBlock → CodeBlock
image_block text bare b = record b { code = image_ops text (bare b.label) b.code }

-- what runs of a function of a text, in its image
abbrev pub routine_in_image : Option Module → (List ℕ → Bare) → Routine → Routine
routine_in_image text bare r = record r { blocks = map (image_block text bare) r.blocks }

-- the same in the images of a program

-- the module whose text is meant, or none for the kernel's
abbrev pub text_module : Code → Home → Option Module
text_module c None = None
text_module c (Some m) = Some (module_of c.program (Some m))

-- an instruction of a text in the image
abbrev pub guarded_op : Code → Home → Op → Op
guarded_op c home o = text_op (text_module c home) o

-- the code of a block of a text in the image, where these stores lack their guard
abbrev pub guarded_ops : Code → Home → Bare → List Op → List Op
guarded_ops c home bare os = image_ops (text_module c home) bare os

-- a block of the function with this number in the image
abbrev pub guarded_block : Code → Home → ℕ → CodeBlock → CodeBlock
guarded_block c home n b = image_block (text_module c home) (bare_of c n) b

-- what runs of the function with this number, in the image
abbrev pub guarded_routine : Code → Home → ℕ → Routine → Routine
guarded_routine c home n r = routine_in_image (text_module c home) (bare_of c n) r

-- behind the mark
abbrev pub waiting_ops : Code → Home → Bare → List Op → List Op
waiting_ops c home bare [] = []
waiting_ops c home bare (o ∷ os) = guarded_op c home o ∷ guarded_ops c home bare os

-- an activation of the program, in the image: before the mark of its instruction
abbrev pub guarded_run : Code → Home → Activation → Activation
guarded_run c home a =
    record a { blocks = map (guarded_block c home a.function) a.blocks; code = guarded_ops c home (bare_of c a.function a.label) a.code }

-- and behind the mark
abbrev pub waiting_run : Code → Home → Activation → Activation
waiting_run c home a =
    record a { blocks = map (guarded_block c home a.function) a.blocks; code = waiting_ops c home (bare_of c a.function a.label) a.code }

-- what an instruction does, in the image
abbrev pub guarded_effect : Code → Home → Effect → Effect
guarded_effect c home (Moves a) = Moves (guarded_run c home a)
guarded_effect c home (Wants w) = Wants w
guarded_effect c home (Enters w) = Enters w
guarded_effect c home (Calls n args) = Calls n args
guarded_effect c home (Traps t) = Traps t

-- an import's wrapper wraps that import of the kernel, and no other function is a wrapper
abbrev pub CallsOutIf : Bool → Code → ℕ → ℕ → Function → Type 0
CallsOutIf true c m f g = out_import c (Some m) (wrapper_number (module_of c.program (Some m)) f) ≡ kernel_function c.program g.name
CallsOutIf false c m f g = out_import c (Some m) f ≡ None

-- the same of the function with this number, where there is one
abbrev pub CallsOut : Code → ℕ → ℕ → Option Function → Type 0
CallsOut c m f None = ⊤
CallsOut c m f (Some g) = CallsOutIf (is_wrapped g) c m f g

-- each store that lacks its guard is spared
abbrev pub spares_well : Module → Function → Bare → List Op → Bool
spares_well m f bare [] = true
spares_well m f bare (o ∷ os) = (not (is_store o && bare (stores_in os)) || is_spared m f o) && spares_well m f bare os

-- so it is in a block
abbrev pub block_spares_well : Module → Function → (List ℕ → Bare) → CodeBlock → Bool
block_spares_well m f bare b = spares_well m f (bare b.label) b.code

-- and in each block of a function
abbrev pub function_spares_well : Module → Function → (List ℕ → Bare) → Bool
function_spares_well m f bare = list_all (block_spares_well m f bare) (routine_of f).blocks

-- a function that the kernel's text declares as a slot has a parameter for the slot, and those of the slot type
abbrev pub SlotCalls : Program → Type 0
SlotCalls p =
    (k : ℕ) (g : Function) (s : ℕ) (slot : Slot) → slice_get p.kernel.functions k ≡ Some g → is_defined g ≡ false → native_named g.name ≡ None → slot_named p g.name ≡ Some s
    → slice_get p.interface.slots s ≡ Some slot → length g.params ≡ suc (length slot.params)

-- what the machines need of images that are accepted
pub record Accepted (c : Code) : Type 0 where
  -- what runs of a function is its program's text with the marks
  pub routines : (n : ℕ) → image_routine c n ≡ guarded_routine c (home_or_kernel c.program n) n (routine c.program n)
  -- calls of imports go to their wrappers, and no others
  pub wrappers : (m f : ℕ) → CallsOut c m f (slice_get (module_of c.program (Some m)).functions f)
  -- and each wrapper has the lines of its function's annotation
  pub wraps : WrapsWell c
  -- the kernel and each module are verified
  pub verified : (h : Home) → IsVerified (module_of c.program h)
  -- what the kernel calls as a slot takes the slot, and then the slot type's arguments
  pub slots : SlotCalls c.program
  -- in the images only spared stores lack their guard
  pub spared : (n m k : ℕ) (f : Function) → slice_get c.program.functions n ≡ Some (Of (Some m) k) → slice_get (module_of c.program (Some m)).functions k ≡ Some f → function_spares_well (module_of c.program (Some m)) f (bare_of c n) ≡ true
