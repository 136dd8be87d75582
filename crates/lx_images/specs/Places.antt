-- The registers of a function's allocas hold the places of its bytes on the stack.
use Rattle.std.specs.Prelude.{◌≡◌, ℕ, Option, Some, None, List, [], ◌∷◌, ◌⊎◌, ⊤}
use Rattle.lx_words.specs.declared.word.Width.TheVariants.{W64}
use Rattle.lx_words.specs.Word.{word}
use Rattle.lx_ir.specs.declared.types.NamedType.{NamedType}
use Rattle.lx_ir.specs.declared.module.Function.{Function}
use Rattle.lx_ir.specs.declared.instr.Instr.{Instr}
use Rattle.lx_ir.specs.declared.instr.Op.TheVariants as op
use Rattle.lx_ir.specs.IrType.{IrType}
use Rattle.lx_ir.specs.Layout.{size_of}
use Rattle.lx_ir.specs.Lookup.{instrs_of}
use Rattle.lx_model.specs.declared.program.Program.{Program}
use Rattle.lx_model.specs.Program.{function_of}
use Rattle.lx_model.specs.Thread.{Range, Activation, Stage, Post, Crossing, Frame, register, zero_word}
use Rattle.lx_model.specs.Effect.{text_of, types_of}
use Rattle.lx_model.specs.World.{World}
use Rattle.lx_images.specs.Stands.{Each}

-- the list has the element
abbrev pub IsIn : {A : Type 0} → A → List A → Type 0
IsIn x [] = ⊥
IsIn x (y ∷ ys) = (y ≡ x) ⊎ IsIn x ys

-- the register holds where bytes begin that the function allocated, as many as the type has
abbrev pub HoldsPlace : List NamedType → Activation → ℕ → IrType → Type 0
HoldsPlace types a r ty = (x : Range) × IsIn x a.allocas × (register a r ≡ word W64 x.at) × (x.size ≡ size_of types ty)

-- a register holds its place once it is assigned
abbrev pub PlaceKept : List NamedType → Activation → ℕ → IrType → Type 0
PlaceKept types a r ty = (register a r ≡ zero_word) ⊎ HoldsPlace types a r ty

-- the function has its bytes: it has not returned
abbrev pub IsLiveAt : Stage → Type 0
IsLiveAt (Post k v) = ⊥
IsLiveAt _ = ⊤

-- so it is of a frame, which may be no crossing
abbrev pub IsLive : Option Crossing → Type 0
IsLive None = ⊤
IsLive (Some c) = IsLiveAt c.stage

-- each register that an alloca of a module's function gives
abbrev pub PlacesKept : Program → Frame → Type 0
PlacesKept p f =
    (m : ℕ) (g : Function) (i : Instr) (r : ℕ) (ty : IrType) → IsLive f.crossing → text_of p f.run ≡ Some m → function_of p f.run.function ≡ Some g
    → IsIn i (instrs_of g) → i.op ≡ op.Alloca r ty → PlaceKept (types_of p f.run) f.run r ty

-- so it is of each frame
abbrev pub AllPlaces : Program → List Frame → Type 0
AllPlaces p [] = ⊤
AllPlaces p (f ∷ fs) = PlacesKept p f × AllPlaces p fs

-- and in each thread of a world
abbrev pub WorldPlaces : Program → World → Type 0
WorldPlaces p w = Each (λ t thread. AllPlaces p thread.frames) w.threads
