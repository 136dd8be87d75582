-- The form of a wrapper. Images in which a function has the name of a wrapper and not its form are not run.
use Rattle.std.specs.Prelude.{ℕ, suc, Bool, true, false, not, ◌&&◌, Option, Some, None, List, [], ◌∷◌, nat_eq, bytes_eq, drop, length, option_and_then, option_map, position, slice_get, if◌then◌else◌}
use Rattle.std.specs.List.{list_all, starts_with}
use Rattle.lx_ir.specs.declared.module.Block.{Block}
use Rattle.lx_ir.specs.declared.module.Symbol.{Symbol}
use Rattle.lx_ir.specs.declared.module.Symbol.TheVariants as symbol
use Rattle.lx_ir.specs.declared.module.Value.{Value}
use Rattle.lx_ir.specs.declared.module.Value.TheVariants as value
use Rattle.lx_ir.specs.declared.module.Function.{Function}
use Rattle.lx_ir.specs.declared.module.Module.{Module}
use Rattle.lx_ir.specs.declared.instr.Argument.{Argument}
use Rattle.lx_ir.specs.declared.instr.Callee.{Callee}
use Rattle.lx_ir.specs.declared.instr.Callee.TheVariants as callee
use Rattle.lx_ir.specs.declared.instr.Op.{Op}
use Rattle.lx_ir.specs.declared.instr.Op.TheVariants as op
use Rattle.lx_image_texts.specs.WrapperText.{In, Out, wrapper_prefix}
use Rattle.lx_images.specs.Wrappers.{lines_of}

-- the symbol is the function with this number
abbrev pub is_function : ℕ → Symbol → Bool
is_function j (symbol.Function k) = nat_eq k j
is_function j (symbol.Global k) = false

-- the value is the register
abbrev pub is_register : ℕ → Value → Bool
is_register r (value.Register k) = nat_eq k r
is_register r (value.Constant c) = false

-- the arguments are the parameters, in order, from this one on
abbrev pub hands_on : ℕ → List Argument → Bool
hands_on k [] = true
hands_on k (a ∷ as') = is_register k a.value && hands_on (suc k) as'

-- it returns what the call gave, or nothing where it gave nothing
abbrev pub gives_back : Option ℕ → Option Argument → Bool
gives_back None None = true
gives_back (Some r) (Some a) = is_register r a.value
gives_back _ _ = false

-- behind the call: any actions, the leaving, the `ret`
abbrev pub is_behind : ℕ → Option ℕ → List Op → Bool
is_behind j to (op.Post s k ∷ lines) = is_function j s && is_behind j to lines
is_behind j to (op.Leave s ∷ op.Ret v ∷ []) = is_function j s && gives_back to v
is_behind j to _ = false

-- it calls the function with all its parameters
abbrev pub calls_on : ℕ → ℕ → Callee → List Argument → Bool
calls_on j many (callee.Symbol s) args = is_function j s && (nat_eq (length args) many && hands_on 0 args)
calls_on j many (callee.Register r) args = false

-- behind the enter: any actions, and the call of the function
abbrev pub is_before : ℕ → ℕ → List Op → Bool
is_before j many (op.Pre s k ∷ lines) = is_function j s && is_before j many lines
is_before j many (op.Call to ret callee args ∷ lines) = calls_on j many callee args && is_behind j to lines
is_before j many _ = false

-- the lines of a wrapper with so many parameters, of the function with this number: the enter, any of its actions, the call, any of its actions, the leaving and
-- the `ret`, all of that function. Which actions stand there, how often and in which order, is left free
abbrev pub is_wrapper : ℕ → ℕ → List Op → Bool
is_wrapper j many (op.Enter s ∷ lines) = is_function j s && is_before j many lines
is_wrapper j many _ = false

-- the name of the function that a wrapper's name says: what stands behind the prefix of wrappers
abbrev pub wraps_named : List ℕ → Option (List ℕ)
wraps_named name =
    if starts_with nat_eq name (wrapper_prefix Out) then Some (drop 9 name) else if starts_with nat_eq name (wrapper_prefix In) then Some (drop 8 name) else None

-- the function with this number has the name
abbrev pub has_name : Option Function → List ℕ → Bool
has_name None name = false
has_name (Some f) name = bytes_eq f.name name

-- the number of the function that the first line names
abbrev pub first_named : List Op → Option ℕ
first_named (op.Enter (symbol.Function j) ∷ lines) = Some j
first_named lines = None

-- it has one block
abbrev pub is_one_block : Option (List Block) → Bool
is_one_block (Some (b ∷ [])) = true
is_one_block _ = false

-- the lines are those of a wrapper of the function with this number, which has this name
abbrev pub is_formed_by : Module → Function → List ℕ → Option ℕ → Bool
is_formed_by x f name None = false
is_formed_by x f name (Some j) = has_name (slice_get x.functions j) name && is_wrapper j (length f.params) (lines_of (Some f))

-- a function that is named as the wrapper of the function with this name has the form of one
abbrev pub is_formed_as : Module → Function → Option (List ℕ) → Bool
is_formed_as x f None = true
is_formed_as x f (Some name) = is_one_block f.blocks && is_formed_by x f name (first_named (lines_of (Some f)))

-- so it is of a function, whatever its name is
abbrev pub is_formed : Module → Function → Bool
is_formed x f = is_formed_as x f (wraps_named f.name)

-- and of each function of an image
abbrev pub has_formed_wrappers : Module → Bool
has_formed_wrappers x = list_all (is_formed x) x.functions

-- and of each image
abbrev pub have_formed_wrappers : List Module → Bool
have_formed_wrappers images = list_all has_formed_wrappers images

-- the first function of an image that is named as a wrapper and has not the form of one
abbrev pub unformed_in : Module → Option ℕ
unformed_in x = position (λ f. not (is_formed x f)) x.functions

-- the first of these images with such a function, and its first one
abbrev pub first_unformed : List Module → Option (ℕ × ℕ)
first_unformed images =
    option_and_then
    (λ m. option_map (λ f. (m, f)) (option_and_then unformed_in (slice_get images m)))
    (position (λ x. not (has_formed_wrappers x)) images)
