-- Where a fault of the whole text stands, in words of its own: by places in lists and by equal texts.
use Rattle.std.specs.Prelude.{◌≡◌, ◌⊎◌, ◌<◌, ℕ, true, false, not, ◌&&◌, Some, None, List, ◌++◌, length, map, filter, slice_get}
use Rattle.lx_ir.specs.declared.module.Symbol.{Symbol}
use Rattle.lx_ir.specs.declared.module.Pointer.TheVariants as pointer
use Rattle.lx_ir.specs.declared.module.Constant.{Constant}
use Rattle.lx_ir.specs.declared.module.Constant.TheVariants as constant
use Rattle.lx_ir.specs.declared.module.GlobalVar.{GlobalVar}
use Rattle.lx_ir.specs.declared.module.Function.{Function}
use Rattle.lx_ir.specs.declared.module.Module.{Module}
use Rattle.lx_ir.specs.declared.instr.Instr.{Instr}
use Rattle.lx_ir.specs.Init.{Init, Plain, Empty, Bytes, Group, Inits, no_more, more}
use Rattle.lx_ir.specs.Lawful.{is_own_name}
use Rattle.lx_ir.specs.Lookup.{blocks_of, instrs_of, is_defined}
use Rattle.lx_ir.specs.Text.{symbol_name}
use Rattle.lx_annot.specs.declared.interface.Interface.{Interface}
use Rattle.lx_slot_types.specs.Gets.{gets}
use Rattle.lx_slot_types.specs.Texts.{slot_text}
use Rattle.lx_image_texts.specs.Guards.{function_text}
use Rattle.lx_image_texts.specs.ImageFaults.{WrapperDiffers, ImageFault, is_wrapper, without_wrappers, right_wrappers}
use Rattle.lx_image_texts.specs.Named.{AllAre, IsFirstBad, IsRightCode}
use Rattle.lx_image_texts.specs.Watched.{op_at}

-- what a fault of this kind tells
pub record Tells (e : ImageFault) (l : ℕ) (name : List ℕ) (n : ℕ) : Type 0 where
  pub kind : e.kind ≡ WrapperDiffers
  pub line : e.line ≡ l
  pub function : e.function ≡ name
  pub place : e.place ≡ n

-- First, a global that has a name which images alone have, or whose initialiser mentions one.

-- the constant is an address of the symbol, or a cast of one
abbrev pub Holds : Symbol → Constant → Type 0
Holds s (constant.Pointer (pointer.Symbol t n)) = t ≡ s
Holds s (constant.Cast (pointer.Symbol t n) w) = t ≡ s
Holds s c = ⊥

abbrev mutual
  -- such a constant stands in the initialiser
  pub Mentions : Symbol → Init → Type 0
  Mentions s (Plain c) = Holds s c
  Mentions s (Empty b) = ⊥
  Mentions s (Bytes bs) = ⊥
  Mentions s (Group k ts is) = SomeMentions s is

  pub SomeMentions : Symbol → Inits → Type 0
  SomeMentions s no_more = ⊥
  SomeMentions s (more i is) = Mentions s i ⊎ SomeMentions s is

abbrev pub IsOwnGlobal : Module → GlobalVar → Type 0
IsOwnGlobal x g = (is_own_name g.name ≡ true) ⊎ ((s : Symbol) × Mentions s g.init × (is_own_name (symbol_name x s) ≡ true))

abbrev pub NoOwnGlobal : Module → Type 0
NoOwnGlobal x = AllAre (λ n g. IsOwnGlobal x g → ⊥) x.globals

pub record IsGlobalFault (x : Module) (e : ImageFault) : Type 0 where
  pub global : GlobalVar
  pub first : IsFirstBad (λ n g. IsOwnGlobal x g → ⊥) (λ n g. IsOwnGlobal x g) x.globals global
  pub tells : Tells e global.line global.name 0

-- Second, an import with such a name.

abbrev pub IsOwnImport : Function → Type 0
IsOwnImport f = (f.blocks ≡ None) × (is_own_name f.name ≡ true)

abbrev pub NoOwnImport : Module → Type 0
NoOwnImport x = AllAre (λ n f. IsOwnImport f → ⊥) x.functions

pub record IsImportFault (x : Module) (e : ImageFault) : Type 0 where
  pub globals : NoOwnGlobal x
  pub import : Function
  pub first : IsFirstBad (λ n f. IsOwnImport f → ⊥) (λ n f. IsOwnImport f) x.functions import
  pub tells : Tells e import.line import.name 0

-- Third, a wrapper that the text ought to have and that is missing or another.

-- the function has the wrapper's name, and a body
abbrev pub IsNamedAs : Function → Function → Type 0
IsNamedAs w f = (is_defined f ≡ true) × (f.name ≡ w.name)

-- the first such function stands for the wrapper
abbrev pub StandsFor : Module → Function → Function → Type 0
StandsFor x w f = IsFirstBad (λ n g. IsNamedAs w g → ⊥) (λ n g. IsNamedAs w g) x.functions f

-- and it is the wrapper, but for its lines
pub record IsThere (x : Module) (w : Function) : Type 0 where
  pub function : Function
  pub stands : StandsFor x w function
  pub same : function_text function ≡ function_text w

-- none stands for it
pub record IsMissing (x : Module) (w : Function) (e : ImageFault) : Type 0 where
  pub none : AllAre (λ n f. IsNamedAs w f → ⊥) x.functions
  pub tells : Tells e 1 w.name 0

-- this instruction is the first that is not the wrapper's in its place
pub record HasOther (w f : Function) (e : ImageFault) : Type 0 where
  pub instr : Instr
  pub first : IsFirstBad (λ n i. op_at (instrs_of w) n ≡ Some i.op) (λ n i. (op_at (instrs_of w) n ≡ Some i.op → ⊥) × Tells e i.line f.name n) (instrs_of f) instr

-- the same parameters, registers and result, the same blocks by name, and as many instructions
pub record IsSameHead (w f : Function) : Type 0 where
  pub params : w.params ≡ f.params
  pub locals : w.locals ≡ f.locals
  pub ret : w.ret ≡ f.ret
  pub blocks : map (λ b. b.name) (blocks_of w) ≡ map (λ b. b.name) (blocks_of f)
  pub instrs : length (instrs_of w) ≡ length (instrs_of f)

-- all its instructions are the wrapper's, but its head is another or some are left out
pub record HasOtherHead (w f : Function) (e : ImageFault) : Type 0 where
  pub code : AllAre (λ n i. op_at (instrs_of w) n ≡ Some i.op) (instrs_of f)
  pub head : IsSameHead w f → ⊥
  pub tells : Tells e f.line f.name 0

abbrev pub IsOther : Module → Function → ImageFault → Type 0
IsOther x w e = (f : Function) × StandsFor x w f × (HasOther w f e ⊎ HasOtherHead w f e)

abbrev pub AllThere : Interface → Module → Type 0
AllThere i x = AllAre (λ n w. IsThere x w) (right_wrappers i x)

pub record IsLackedWrapper (i : Interface) (x : Module) (e : ImageFault) : Type 0 where
  pub globals : NoOwnGlobal x
  pub imports : NoOwnImport x
  pub wrapper : Function
  pub first : IsFirstBad (λ n w. IsThere x w) (λ n w. IsMissing x w e ⊎ IsOther x w e) (right_wrappers i x) wrapper

-- Fourth, a defined function that is not the one of its place: a further wrapper, or one that stands elsewhere.

-- the names in the order that they ought to have: the other functions as they stand, then the wrappers
abbrev pub order_of : Interface → Module → List (List ℕ)
order_of i x = map (λ f. f.name) (filter (λ f. is_defined f && not (is_wrapper f)) x.functions ++ right_wrappers i x)

-- the name of its place
abbrev pub IsInPlace : Interface → Module → ℕ → Function → Type 0
IsInPlace i x n f = slice_get (order_of i x) n ≡ Some f.name

pub record IsPlaceFault (i : Interface) (x : Module) (e : ImageFault) : Type 0 where
  pub globals : NoOwnGlobal x
  pub imports : NoOwnImport x
  pub wrappers : AllThere i x
  pub function : Function
  pub first : IsFirstBad (IsInPlace i x) (λ n f. IsInPlace i x n f → ⊥) (filter is_defined x.functions) function
  pub tells : Tells e function.line function.name 0

-- Fifth, a function that gets two slot types whose annotations differ.

-- by the text without the bodies of its wrappers, since what stands in these gives no slot type
pub record GetsTwo (i : Interface) (x : Module) (n : ℕ) (f : Function) : Type 0 where
  pub defined : is_defined f ≡ true
  pub program : is_wrapper f ≡ false
  pub one : ℕ
  pub other : ℕ
  pub one_within : one < length i.slots
  pub other_within : other < length i.slots
  pub one_got : gets i (without_wrappers x) n one ≡ true
  pub other_got : gets i (without_wrappers x) n other ≡ true
  pub differ : slot_text i one ≡ slot_text i other → ⊥

pub record IsConflictFault (i : Interface) (x : Module) (e : ImageFault) : Type 0 where
  pub globals : NoOwnGlobal x
  pub imports : NoOwnImport x
  pub wrappers : AllThere i x
  pub places : AllAre (IsInPlace i x) (filter is_defined x.functions)
  pub function : Function
  pub first : IsFirstBad (λ n f. GetsTwo i x n f → ⊥) (GetsTwo i x) x.functions function
  pub tells : Tells e function.line function.name 0

-- The fault of a text as a whole: nothing is wrong with the code of its other functions, and it is the first of these.
pub record IsWrapperFault (i : Interface) (x : Module) (e : ImageFault) : Type 0 where
  pub code : AllAre (λ n f. IsRightCode x f) x.functions
  pub first : IsGlobalFault x e ⊎ IsImportFault x e ⊎ IsLackedWrapper i x e ⊎ IsPlaceFault i x e ⊎ IsConflictFault i x e
