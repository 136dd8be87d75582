-- Which tokens initialisers are: the grammar, apart from how it is read.
use Rattle.std.specs.Prelude.{◌≡◌, ℕ, zero, suc, ◌⊎◌, List, [], ◌∷◌, ◌++◌}
use Rattle.lx_ir_tokens.specs.declared.token.Tok.{Tok}
use Rattle.lx_ir_tokens.specs.declared.token.Mark.TheVariants.{OpenBrace, CloseBrace, OpenBracket, CloseBracket, Less, Greater}
use Rattle.lx_ir.specs.declared.module.Constant.{Constant}
use Rattle.lx_ir.specs.declared.module.Brackets.TheVariants as brackets
use Rattle.lx_ir.specs.IrType.{IrType}
use Rattle.lx_ir.specs.Init.{Init, Plain}
use Rattle.lx_ir_terms.specs.Context.{Context}
use Rattle.lx_ir_terms.specs.Grammar.{Part, Picks, IsMark, IsNothing, ◌then◌, IsWritten}
use Rattle.lx_ir_constants.specs.declared.inits.Member.{Member}
use Rattle.lx_ir_constants.specs.Inits.{flat_init_of, members_of, group}
use Rattle.lx_ir_constants.specs.Grammar.{AreItems, IsExpression}

-- an initialiser without others in it
abbrev pub IsLeaf : Context → ℕ → IrType → Init → Part
IsLeaf context depth ty i ts =
    Picks (λ t. flat_init_of context ty t.kind t.name) i ts ⊎ ((c : Constant) × IsExpression context depth c ts × (Plain c ≡ i))

-- items with commas between them, or none
abbrev pub AreListed : {A : Type 0} → (A → Part) → List A → Part
AreListed item [] = IsNothing
AreListed item (x ∷ xs) = AreItems item (x ∷ xs)

-- `T c`
abbrev pub IsMember : Context → (IrType → Init → Part) → Member → Part
IsMember context init m = IsWritten context m.ty then init m.ty m.init

-- the items of a group, inside its marks
abbrev pub IsArrayGroup : (Member → Part) → List Member → Part
IsArrayGroup member ms = IsMark OpenBracket then AreListed member ms then IsMark CloseBracket

abbrev pub IsStructGroup : (Member → Part) → List Member → Part
IsStructGroup member ms = IsMark OpenBrace then AreListed member ms then IsMark CloseBrace

abbrev pub IsPackedGroup : (Member → Part) → List Member → Part
IsPackedGroup member ms = IsMark Less then IsMark OpenBrace then (AreListed member ms then IsMark CloseBrace) then IsMark Greater

abbrev pub IsGroup : (Member → Part) → Init → Part
IsGroup member i ts =
    ((ms : List Member) × IsArrayGroup member ms ts × (group brackets.Array (members_of ms) ≡ i))
    ⊎ (((ms : List Member) × IsStructGroup member ms ts × (group brackets.Struct (members_of ms) ≡ i))
    ⊎ ((ms : List Member) × IsPackedGroup member ms ts × (group brackets.Packed (members_of ms) ≡ i)))

-- an initialiser with its type before it, which nests at most so deep
abbrev pub IsInit : Context → ℕ → IrType → Init → Part
IsInit context zero ty i ts = IsLeaf context zero ty i ts
IsInit context (suc depth) ty i ts = IsLeaf context (suc depth) ty i ts ⊎ IsGroup (IsMember context (IsInit context depth)) i ts
