-- What the lines of a module's text say, the lines of its instructions aside.
use Rattle.std.specs.Prelude.{◌≡◌, ℕ, Option, Some, None, List, [], ◌∷◌, Bool, ◌&&◌, map, slice_get}
use Rattle.std.specs.List.{AllZip, list_all}
use Rattle.lx_words.specs.declared.token.Token.{Token}
use Rattle.lx_ir.specs.declared.types.NamedType.{NamedType}
use Rattle.lx_ir.specs.declared.module.GlobalVar.{GlobalVar}
use Rattle.lx_ir.specs.declared.module.Block.{Block}
use Rattle.lx_ir.specs.declared.module.Function.{Function}
use Rattle.lx_ir.specs.declared.module.Module.{Module}
use Rattle.lx_ir.specs.declared.instr.Instr.{Instr}
use Rattle.lx_ir.specs.Lookup.{instrs_of}
use Rattle.lx_ir_tokens.specs.declared.token.Tok.{Tok}
use Rattle.lx_ir_terms.specs.Context.{Context}
use Rattle.lx_ir_terms.specs.Grammar.{Part, IsNothing, ◌then◌}
use Rattle.lx_ir_calls.specs.declared.intrinsics.TextForm.{TextForm}
use Rattle.lx_ir_complete.specs.Kept.{is_kept_type, is_kept_init, is_kept_op}
use Rattle.lx_ir_complete.specs.Knows.{may_stand}
use Rattle.lx_ir_statements.specs.Grammar.{IsNewType, IsGlobal, IsImport, IsFunction}

-- a part that has a number, which stands for a name
abbrev pub WithName : Context → List ℕ → (ℕ → Part) → Part
WithName context name p ts = (n : ℕ) × (slice_get context.names n ≡ Some name) × p n ts

-- the same instructions, their lines aside
abbrev pub SameOps : List Instr → List Instr → Type 0
SameOps is js = map (λ i. i.op) is ≡ map (λ i. i.op) js

-- the same blocks, the lines of their instructions aside
abbrev pub SameBlocks : List Block → List Block → Type 0
SameBlocks bs cs = AllZip (λ b c. (b.name ≡ c.name) × SameOps b.instrs c.instrs) bs cs

-- `%name = type {..}`
abbrev pub SaysType : Context → NamedType → Part
SaysType context t = WithName context t.name (λ n. IsNewType context n t.ty)

-- `@name = global T C`
abbrev pub SaysGlobal : Context → GlobalVar → Part
SaysGlobal context g = WithName context g.name (λ n. IsGlobal context n g.constant g.ty g.init)

-- a function with its blocks, whatever tokens follow
abbrev pub SaysBody : Context → TextForm → Function → List Block → Part
SaysBody context form f bs ts =
    (us : List Tok) (places : List Token)
    → (n : ℕ) × (slice_get context.names n ≡ Some f.name) × (ds : List Block) × SameBlocks ds bs × IsFunction context form places n f.ret f.params ds ts us

-- an import, or a function
abbrev pub SaysFunction : Context → TextForm → Function → Option (List Block) → Part
SaysFunction context form f None = WithName context f.name (λ n. IsImport n f.ret (map (λ p. p.ty) f.params))
SaysFunction context form f (Some bs) = SaysBody context form f bs

-- parts in a row
abbrev pub InRow : {A : Type 0} → (A → Part) → List A → Part
InRow item [] = IsNothing
InRow item (x ∷ xs) = item x then InRow item xs

-- types, globals, and functions, each by the context in which its registers are known
abbrev pub SaysModule : Context → (Function → Context) → TextForm → Module → Part
SaysModule context own form m = InRow (SaysType context) m.types then InRow (SaysGlobal context) m.globals then InRow (λ f. SaysFunction (own f) form f f.blocks) m.functions

-- A module of the code, which keeps each number within its type, and whose instructions may stand in a text of this form.
abbrev pub is_kept_global : GlobalVar → Bool
is_kept_global g = is_kept_type g.ty && is_kept_init g.init

abbrev pub are_kept_instrs : TextForm → List Instr → Bool
are_kept_instrs form is = list_all (λ i. is_kept_op i.op && may_stand form i.op) is

abbrev pub is_kept_module : TextForm → Module → Bool
is_kept_module form m =
    list_all (λ t. is_kept_type t.ty) m.types && list_all is_kept_global m.globals && list_all (λ f. are_kept_instrs form (instrs_of f)) m.functions
