-- Which tokens the heads of functions are: the grammar, apart from how it is read.
use Rattle.std.specs.Prelude.{◌≡◌, ℕ, false, ◌⊎◌, Option, Some, List, [], ◌∷◌}
use Rattle.lx_ir_tokens.specs.declared.token.Mark.TheVariants.{Comma, OpenParenthesis, CloseParenthesis}
use Rattle.lx_ir.specs.declared.types.Scalar.{Scalar}
use Rattle.lx_ir.specs.declared.module.Parameter.{Parameter}
use Rattle.lx_ir_terms.specs.Context.{Context, bytes_of}
use Rattle.lx_ir_terms.specs.Types.{result_in}
use Rattle.lx_ir_terms.specs.Grammar.{Part, Picks, Is, IsMark, IsNothing, ◌then◌}
use Rattle.lx_ir_constants.specs.Constants.{is_register}
use Rattle.lx_ir_constants.specs.InitGrammar.{AreListed}
use Rattle.lx_ir_operands.specs.Grammar.{Repeated, IsPassed, IsScalar}
use Rattle.lx_ir_statements.specs.declared.head.Head.{Head}
use Rattle.lx_ir_statements.specs.Numbers.{has_some}
use Rattle.lx_ir_statements.specs.Words.{is_linkage_word}
use Rattle.lx_ir_statements.specs.Parameters.{local_name, no_parameters, with_parameter, next_name, next_number}

-- Results.

-- a word before the result of a function
abbrev pub IsResultWord : Part
IsResultWord ts = Is is_linkage_word ts ⊎ IsPassed ts

-- `words R`
abbrev pub IsResult : Option Scalar → Part
IsResult ret = Repeated IsResultWord then Picks (λ t. result_in t.kind) ret

-- Parameters.

-- the name of a parameter, and its number in the table of names: the name that is written, or else the next number
abbrev pub IsName : Context → Head → Option ℕ → List ℕ → Part
IsName context head number name ts =
    ((n : ℕ) × Picks (λ t. local_name t.kind t.name) n ts × (number ≡ Some n) × (name ≡ bytes_of context n))
    ⊎ (IsNothing ts × (number ≡ next_number context head) × (name ≡ next_name head))

-- `T words %a`, or `T words`, behind these parameters
abbrev pub IsParameter : Context → Head → Option ℕ → Parameter → Part
IsParameter context head number p = IsScalar p.ty then Repeated IsPassed then IsName context head number p.name

-- further parameters, each behind a comma, and each with a name that none before it has
abbrev pub AreFurtherParameters : Context → Head → List Parameter → Head → Part
AreFurtherParameters context head [] last ts = (head ≡ last) × IsNothing ts
AreFurtherParameters context head (p ∷ ps) last ts =
    (number : Option ℕ) × (has_some head.registers number ≡ false)
    × (IsMark Comma then IsParameter context head number p then AreFurtherParameters context (with_parameter head number p.name p.ty) ps last) ts

-- parameters, or none
abbrev pub AreParameters : Context → List Parameter → Head → Part
AreParameters context [] last ts = (no_parameters ≡ last) × IsNothing ts
AreParameters context (p ∷ ps) last ts =
    (number : Option ℕ)
    × (IsParameter context no_parameters number p then AreFurtherParameters context (with_parameter no_parameters number p.name p.ty) ps last) ts

-- `(T %a, ..)`
abbrev pub IsHead : Context → Head → Part
IsHead context head = IsMark OpenParenthesis then AreParameters context head.params head then IsMark CloseParenthesis

-- Parameters of imports.

-- `T words`, or `T words %a`
abbrev pub IsImportParameter : Scalar → Part
IsImportParameter ty = IsScalar ty then Repeated IsPassed then (λ ts. IsNothing ts ⊎ Is is_register ts)

-- `(T, ..)`
abbrev pub AreImportParameters : List Scalar → Part
AreImportParameters params = IsMark OpenParenthesis then AreListed IsImportParameter params then IsMark CloseParenthesis
