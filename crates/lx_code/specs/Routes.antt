-- How far the indices of a `getelementptr` go, reckoned before it runs.
use Rattle.std.specs.Prelude.{◌≡◌, ℕ, Option, Some, None, List, [], ◌∷◌, ℤ, pos, ◌+ℤ◌, ◌*ℤ◌, ⊤}
use Rattle.lx_words.specs.Word.{Word, word, signed}
use Rattle.lx_ir.specs.declared.instr.Argument.{Argument}
use Rattle.lx_ir.specs.declared.module.Constant.{Constant}
use Rattle.lx_ir.specs.declared.module.Constant.TheVariants as constant
use Rattle.lx_ir.specs.declared.module.Value.{Value}
use Rattle.lx_ir.specs.declared.module.Value.TheVariants as value
use Rattle.lx_ir.specs.declared.types.NamedType.{NamedType}
use Rattle.lx_ir.specs.IrType.{IrType}
use Rattle.lx_ir.specs.Layout.{element_offset, part_at, part_of, unnamed}
use Rattle.lx_code.specs.declared.routes.Leg.{Leg}
use Rattle.lx_code.specs.declared.routes.Leg.TheVariants.{Stride, Start}
use Rattle.lx_code.specs.declared.routes.Route.{Route}

-- the word that an index is in every program, if it is one
abbrev pub word_in : Constant → Option Word
word_in (constant.Number w) = Some w
word_in (constant.Blank b w) = Some (word w 0)
word_in _ = None

abbrev pub word_of : Value → Option Word
word_of (value.Constant c) = word_in c
word_of (value.Register r) = None

-- a number that an index may have: where its word is known, the number of that word
abbrev pub IsIndex : Option Word → ℤ → Type 0
IsIndex None z = ⊤
IsIndex (Some w) z = z ≡ signed w

-- numbers that indices may have
abbrev pub AreIndices : List Argument → List ℤ → Type 0
AreIndices [] [] = ⊤
AreIndices [] (z ∷ zs) = ⊥
AreIndices (x ∷ xs) [] = ⊥
AreIndices (x ∷ xs) (z ∷ zs) = IsIndex (word_of x.value) z × AreIndices xs zs

-- how far an index goes: so many values of a size, or to a field that begins there
abbrev pub leg_offset : Leg → ℤ → ℤ
leg_offset (Stride n) z = z *ℤ pos n
leg_offset (Start n) z = pos n

abbrev pub legs_offset : List Leg → List ℤ → ℤ
legs_offset [] zs = pos 0
legs_offset (l ∷ ls) [] = pos 0
legs_offset (l ∷ ls) (z ∷ zs) = leg_offset l z +ℤ legs_offset ls zs

-- and all of them, of which the first counts whole values
abbrev pub route_offset : Route → List ℤ → ℤ
route_offset r [] = pos 0
route_offset r (z ∷ zs) = (z *ℤ pos r.size) +ℤ legs_offset r.legs zs

-- the leg is that of an index with such a word, which leads from one type into another
pub record IsLeg (types : List NamedType) (t : IrType) (leg : Leg) (u : IrType) (z : ℤ) : Type 0 where
  pub offset : (part_of types (unnamed types t) z).offset ≡ leg_offset leg z
  pub ty : unnamed types u ≡ unnamed types (part_of types (unnamed types t) z).ty

abbrev pub IsStep : List NamedType → IrType → Option Word → Leg → IrType → Type 0
IsStep types t w leg u = (z : ℤ) → IsIndex w z → IsLeg types t leg u z

-- the legs are those of indices within a type, whatever numbers these may have
abbrev pub AreLegs : List NamedType → IrType → List Argument → List Leg → Type 0
AreLegs types t indices legs = (zs : List ℤ) → AreIndices indices zs → (part_at types t zs).offset ≡ legs_offset legs zs

-- the route is that of the indices
abbrev pub IsRoute : List NamedType → IrType → List Argument → Route → Type 0
IsRoute types t indices route = (zs : List ℤ) → AreIndices indices zs → element_offset types t zs ≡ route_offset route zs
