-- A module with the lines of another, and that modules which differ in lines alone are such.
use Rattle.std.proofs.Common.{◌≡◌, ℕ, List, [], ◌∷◌, Option, Some, None, refl, ap}
use Rattle.std.specs.List.{AllZip}
use Rattle.lx_ir.specs.declared.module.GlobalVar.{GlobalVar}
use Rattle.lx_ir.specs.declared.module.Block.{Block}
use Rattle.lx_ir.specs.declared.module.Function.{Function}
use Rattle.lx_ir.specs.declared.module.Module.{Module}
use Rattle.lx_ir.specs.declared.instr.Instr.{Instr}
use Rattle.lx_ir.specs.Lookup.{blocks_of_option}
use Rattle.lx_words.proofs.Lists.{heads, no_list, tails}
use Rattle.lx_ir_complete.specs.Said.{SameBlocks, SameOps}
use Rattle.lx_ir_complete.specs.Same.{SameBodies, SameFunctions, SameGlobals, SameModules}

-- what stands behind the first of a list
abbrev pub behind : {A : Type 0} → List A → List A
behind [] = []
behind (x ∷ xs) = xs

abbrev pub instr_line : List Instr → ℕ
instr_line [] = 0
instr_line (i ∷ is) = i.line

abbrev pub lined_instrs : List Instr → List Instr → List Instr
lined_instrs from [] = []
lined_instrs from (i ∷ is) = record { op = i.op; line = instr_line from } ∷ lined_instrs (behind from) is

abbrev pub first_instrs : List Block → List Instr
first_instrs [] = []
first_instrs (b ∷ bs) = b.instrs

abbrev pub lined_blocks : List Block → List Block → List Block
lined_blocks from [] = []
lined_blocks from (b ∷ bs) = record { name = b.name; instrs = lined_instrs (first_instrs from) b.instrs } ∷ lined_blocks (behind from) bs

abbrev pub lined_body : List Block → Option (List Block) → Option (List Block)
lined_body from None = None
lined_body from (Some bs) = Some (lined_blocks from bs)

abbrev pub first_blocks : List Function → List Block
first_blocks [] = []
first_blocks (f ∷ fs) = blocks_of_option f.blocks

abbrev pub function_line : List Function → ℕ
function_line [] = 0
function_line (f ∷ fs) = f.line

abbrev pub lined_function : List Function → Function → Function
lined_function from f = record { name = f.name; params = f.params; locals = f.locals; ret = f.ret; blocks = lined_body (first_blocks from) f.blocks; line = function_line from }

abbrev pub lined_functions : List Function → List Function → List Function
lined_functions from [] = []
lined_functions from (f ∷ fs) = lined_function from f ∷ lined_functions (behind from) fs

abbrev pub global_line : List GlobalVar → ℕ
global_line [] = 0
global_line (g ∷ gs) = g.line

abbrev pub lined_globals : List GlobalVar → List GlobalVar → List GlobalVar
lined_globals from [] = []
lined_globals from (g ∷ gs) = record { name = g.name; constant = g.constant; ty = g.ty; init = g.init; line = global_line from } ∷ lined_globals (behind from) gs

-- the second module, with the lines of the first
abbrev pub lined : Module → Module → Module
lined from m = record { types = m.types; globals = lined_globals from.globals m.globals; functions = lined_functions from.functions m.functions }

-- What differs in lines alone.

same_instrs : (is js : List Instr) → SameOps is js → is ≡ lined_instrs is js
same_instrs [] [] e = refl
same_instrs [] (j ∷ js) e = no_list e
same_instrs (i ∷ is) [] e = cc e
same_instrs (i ∷ is) (j ∷ js) e =
    let first = heads e in
    let others = same_instrs is js (tails e) in
    λ k. record { op = first k; line = i.line } ∷ others k

same_blocks : (bs cs : List Block) → SameBlocks bs cs → bs ≡ lined_blocks bs cs
same_blocks [] [] h = refl
same_blocks [] (c ∷ cs) h = absurd h
same_blocks (b ∷ bs) [] h = absurd h
same_blocks (b ∷ bs) (c ∷ cs) h =
    let name = h.0.0 in
    let instrs = same_instrs b.instrs c.instrs h.0.1 in
    let others = same_blocks bs cs h.1 in
    λ k. record { name = name k; instrs = instrs k } ∷ others k

same_bodies : (b c : Option (List Block)) → SameBodies b c → b ≡ lined_body (blocks_of_option b) c
same_bodies None None h = refl
same_bodies None (Some cs) h = absurd h
same_bodies (Some bs) None h = absurd h
same_bodies (Some bs) (Some cs) h = ap Some (same_blocks bs cs h)

same_functions : (fs gs : List Function) → AllZip SameFunctions fs gs → fs ≡ lined_functions fs gs
same_functions [] [] h = refl
same_functions [] (g ∷ gs) h = absurd h
same_functions (f ∷ fs) [] h = absurd h
same_functions (f ∷ fs) (g ∷ gs) h =
    let s = h.0 in
    let body = same_bodies f.blocks g.blocks s.blocks in
    let others = same_functions fs gs h.1 in
    λ k. record { name = s.name k; params = s.params k; locals = s.locals k; ret = s.ret k; blocks = body k; line = f.line } ∷ others k

same_globals : (gs hs : List GlobalVar) → AllZip SameGlobals gs hs → gs ≡ lined_globals gs hs
same_globals [] [] h = refl
same_globals [] (x ∷ xs) h = absurd h
same_globals (g ∷ gs) [] h = absurd h
same_globals (g ∷ gs) (x ∷ xs) h =
    let s = h.0 in
    let others = same_globals gs xs h.1 in
    λ k. record { name = s.name k; constant = s.constant k; ty = s.ty k; init = s.init k; line = g.line } ∷ others k

-- a module that differs from another in lines alone is that one with its lines
pub same_lined : (n m : Module) → SameModules n m → n ≡ lined n m
same_lined n m s =
    let globals = same_globals n.globals m.globals s.globals in
    let functions = same_functions n.functions m.functions s.functions in
    λ k. record { types = s.types k; globals = globals k; functions = functions k }
