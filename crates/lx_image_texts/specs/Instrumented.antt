-- The images that an instrumenter makes: with the guards of all stores, and without those that may be left out.
use Rattle.std.specs.Prelude.{◌≡◌, Bool, true, false, List, [], ◌∷◌, ◌++◌, map, take, drop, length, option_map}
use Rattle.lx_ir.specs.declared.module.Block.{Block}
use Rattle.lx_ir.specs.declared.module.Function.{Function}
use Rattle.lx_ir.specs.declared.module.Module.{Module}
use Rattle.lx_ir.specs.declared.instr.Op.{Op}
use Rattle.lx_annot.specs.declared.interface.Interface.{Interface}
use Rattle.lx_image_texts.specs.Marks.{mark_of, image_op}
use Rattle.lx_image_texts.specs.Spared.{is_spared}
use Rattle.lx_image_texts.specs.WrapperText.{wrappers_of}
use Rattle.lx_image_texts.specs.Guards.{unlined_global, ops_of, BlockText, FunctionText, function_text}

-- which instructions of a function are left without their mark
abbrev pub Leaves : Type 0
Leaves = Function → Op → Bool

-- none is
abbrev pub leaves_none : Leaves
leaves_none f o = false

-- the spared stores are
abbrev pub leaves_spared : Module → Leaves
leaves_spared m f o = is_spared m f o

abbrev pub unless_left : Bool → List Op → List Op
unless_left true marks = []
unless_left false marks = marks

-- the code of a block in the image, the block, and the function, where marks are left out so

abbrev pub image_code : (Op → Bool) → Module → List Op → List Op
image_code leaves m [] = []
image_code leaves m (o ∷ os) = unless_left (leaves o) (mark_of o) ++ (image_op m o ∷ image_code leaves m os)

abbrev pub image_block_text : (Op → Bool) → Module → Block → BlockText
image_block_text leaves m b = record { name = b.name; code = image_code leaves m (ops_of b) }

abbrev pub image_function_text : Leaves → Module → Function → FunctionText
image_function_text leaves m f =
    record { name = f.name; params = f.params; locals = f.locals; ret = f.ret; blocks = option_map (map (image_block_text (leaves f) m)) f.blocks }

-- the text is the module's image, in which just these instructions lack their mark
pub record GuardsBut (leaves : Leaves) (i : Interface) (m x : Module) : Type 0 where
  pub types : x.types ≡ m.types
  pub globals : map unlined_global x.globals ≡ map unlined_global m.globals
  pub functions : map function_text (take (length m.functions) x.functions) ≡ map (image_function_text leaves m) m.functions
  pub wrappers : map function_text (drop (length m.functions) x.functions) ≡ map function_text (wrappers_of i m)
