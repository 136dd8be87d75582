-- What it means that a text is the image of a module. Lines do not count.
use Rattle.std.specs.Prelude.{◌≡◌, ℕ, true, Option, Some, None, List, [], ◌∷◌, ◌++◌, map, take, drop, length, option_map, ◌⊎◌, ⊤}
use Rattle.lx_ir.specs.declared.types.Scalar.{Scalar}
use Rattle.lx_ir.specs.declared.module.Parameter.{Parameter}
use Rattle.lx_ir.specs.declared.module.Block.{Block}
use Rattle.lx_ir.specs.declared.module.GlobalVar.{GlobalVar}
use Rattle.lx_ir.specs.declared.module.Function.{Function}
use Rattle.lx_ir.specs.declared.module.Module.{Module}
use Rattle.lx_ir.specs.declared.instr.Op.{Op}
use Rattle.lx_ir.specs.Lawful.{IsPlain}
use Rattle.lx_annot.specs.declared.interface.Interface.{Interface}
use Rattle.lx_propagate.specs.Slots.{conflict_of}
use Rattle.lx_image_texts.specs.Marks.{mark_of, image_op}
use Rattle.lx_image_texts.specs.Spared.{is_spared}
use Rattle.lx_image_texts.specs.WrapperText.{wrappers_of}

-- Globals, blocks and functions without lines.

abbrev pub unlined_global : GlobalVar → GlobalVar
unlined_global g = record g { line = 0 }

-- the code of a block
abbrev pub ops_of : Block → List Op
ops_of b = map (λ i. i.op) b.instrs

pub record BlockText : Type 0 where
  pub name : List ℕ
  pub code : List Op

abbrev pub block_text : Block → BlockText
block_text b = record { name = b.name; code = ops_of b }

pub record FunctionText : Type 0 where
  pub name : List ℕ
  pub params : List Parameter
  pub locals : List (List ℕ)
  pub ret : Option Scalar
  pub blocks : Option (List BlockText)

abbrev pub function_text : Function → FunctionText
function_text f = record { name = f.name; params = f.params; locals = f.locals; ret = f.ret; blocks = option_map (map block_text) f.blocks }

-- Each instruction with its mark, or a spared store without.

-- what stands in the image for an instruction, before the rest
abbrev pub StandsAt : Module → Function → Op → List Op → List Op → Type 0
StandsAt m f o is rest = (is ≡ mark_of o ++ (image_op m o ∷ rest)) ⊎ ((is_spared m f o ≡ true) × (is ≡ image_op m o ∷ rest))

-- the code of a block, the blocks of a function, and a function's body, with those of the image

abbrev pub IsMarked : Module → Function → List Op → List Op → Type 0
IsMarked m f [] is = is ≡ []
IsMarked m f (o ∷ os) is = (rest : List Op) × StandsAt m f o is rest × IsMarked m f os rest

abbrev pub AreMarked : Module → Function → List Block → List Block → Type 0
AreMarked m f [] [] = ⊤
AreMarked m f (b ∷ bs) (c ∷ cs) = (c.name ≡ b.name) × IsMarked m f (ops_of b) (ops_of c) × AreMarked m f bs cs
AreMarked m f _ _ = ⊥

abbrev pub HasMarks : Module → Function → Option (List Block) → Option (List Block) → Type 0
HasMarks m f None None = ⊤
HasMarks m f (Some bs) (Some cs) = AreMarked m f bs cs
HasMarks m f _ _ = ⊥

-- a function of the module, and the same function in the image
pub record IsGuarded (m : Module) (f g : Function) : Type 0 where
  pub name : g.name ≡ f.name
  pub params : g.params ≡ f.params
  pub locals : g.locals ≡ f.locals
  pub ret : g.ret ≡ f.ret
  pub body : HasMarks m f f.blocks g.blocks

abbrev pub AreGuarded : Module → List Function → List Function → Type 0
AreGuarded m [] gs = gs ≡ []
AreGuarded m (f ∷ fs) [] = ⊥
AreGuarded m (f ∷ fs) (g ∷ gs) = IsGuarded m f g × AreGuarded m fs gs

-- The text is the module's image: its types, its globals, its functions with their marks, and then its wrappers. The module is plain.
pub record Guards (i : Interface) (m x : Module) : Type 0 where
  pub plain : IsPlain m
  -- no function has two annotations that differ, so that each wrapper is one
  pub agrees : conflict_of i m ≡ None
  pub types : x.types ≡ m.types
  pub globals : map unlined_global x.globals ≡ map unlined_global m.globals
  pub functions : AreGuarded m m.functions (take (length m.functions) x.functions)
  pub wrappers : map function_text (drop (length m.functions) x.functions) ≡ map function_text (wrappers_of i m)
