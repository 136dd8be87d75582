-- What an instruction does is the same in an image and in its program.
use Rattle.std.proofs.Common.{◌≡◌, ℕ, suc, Bool, true, false, List, [], ◌∷◌, ◌++◌, Option, Some, None, map, refl, sym, ◌∙◌, ap, arith}
use Rattle.std.specs.Prelude.{bytes_eq, option_map}
use Rattle.lx_words.specs.Word.{Word}
use Rattle.lx_ir.specs.declared.types.Scalar.{Scalar}
use Rattle.lx_ir.specs.declared.module.Value.{Value as Operand}
use Rattle.lx_ir.specs.declared.module.Module.{Module}
use Rattle.lx_ir.specs.declared.instr.Callee.{Callee}
use Rattle.lx_ir.specs.declared.instr.Callee.TheVariants as callee
use Rattle.lx_ir.specs.declared.module.Symbol.TheVariants as symbol
use Rattle.lx_ir.specs.declared.instr.Op.{Op}
use Rattle.lx_ir.specs.declared.instr.Op.TheVariants as op
use Rattle.lx_ir.specs.Operands.{given_by}
use Rattle.lx_image_texts.specs.Marks.{without_marks, mark_of, size_value}
use Rattle.lx_image_texts.specs.Instrumented.{unless_left}
use Rattle.lx_images.specs.ImageCode.{stores_in, Bare, text_op, image_ops}
use Rattle.lx_model.specs.declared.program.Program.{Program}
use Rattle.lx_model.specs.Program.{Home, Target, ToNative, ToSlot, ToImport, ToOwn, Nowhere, target}
use Rattle.lx_model.specs.Thread.{CodeBlock, Activation, start_of, Routine, head_destination, behind_head, with_register, activation_behind, first_label, first_code}
use Rattle.lx_model.specs.Effect.{Moves, effect, division, arrival, jump_effect, code_block_named, target_effect, slot_effect, call_effect, text_of, with_phi, with_phis, without_phis, site_result, call_result, returned_by, returned_at, returned_value}
use Rattle.lx_simulation.proofs.Counted.{Code}
use Rattle.lx_images.specs.Guarded.{bare_of, guarded_op, guarded_ops, waiting_ops, guarded_block, guarded_routine, guarded_run, waiting_run, guarded_effect}

-- an activation that stands before this code
abbrev pub at_code : Activation → List Op → Activation
at_code a code = record a { code = code }

-- going past an instruction

pub given-guarded : (c : Code) (h : Home) (o : Op) → given_by (guarded_op c h o) ≡ given_by o
given-guarded c h (op.Guard at size narrow) = refl
given-guarded c h _ = refl

pub head-waiting : (c : Code) (h : Home) (bare : Bare) (os : List Op) → head_destination (waiting_ops c h bare os) ≡ head_destination os
head-waiting c h bare [] = refl
head-waiting c h bare (o ∷ os) = given-guarded c h o

pub behind-waiting : (c : Code) (h : Home) (bare : Bare) (os : List Op) → behind_head (waiting_ops c h bare os) ≡ guarded_ops c h bare (behind_head os)
behind-waiting c h bare [] = refl
behind-waiting c h bare (o ∷ os) = refl

pub activation_behind-waiting : (c : Code) (h : Home) (w : Option Word) (a : Activation) → activation_behind w (waiting_run c h a) ≡ guarded_run c h (activation_behind w a)
activation_behind-waiting c h w a =
    λ j. record a {
      blocks = map (guarded_block c h a.function) a.blocks;
      code = behind-waiting c h (bare_of c a.function a.label) a.code j;
      registers = with_register (head-waiting c h (bare_of c a.function a.label) a.code j) w a.registers;
    }

-- blocks and phis

find_cases : (c : Code) (h : Home) (n : ℕ) (label : List ℕ) (b : CodeBlock) (bs : List CodeBlock) (found : Bool) → bytes_eq b.label label ≡ found →
    code_block_named (map (guarded_block c h n) bs) label ≡ option_map (guarded_block c h n) (code_block_named bs label) →
    code_block_named (map (guarded_block c h n) (b ∷ bs)) label ≡ option_map (guarded_block c h n) (code_block_named (b ∷ bs) label)
find_cases c h n label b bs true e ih = grind (arith, ih, e)
find_cases c h n label b bs false e ih = grind (arith, ih, e)

block_named-guarded : (c : Code) (h : Home) (n : ℕ) (bs : List CodeBlock) (label : List ℕ) →
    code_block_named (map (guarded_block c h n) bs) label ≡ option_map (guarded_block c h n) (code_block_named bs label)
block_named-guarded c h n [] label = refl
block_named-guarded c h n (b ∷ bs) label = find_cases c h n label b bs (bytes_eq b.label label) refl (block_named-guarded c h n bs label)

-- phis are no stores
stores_in-without_phis : (os : List Op) → stores_in (without_phis os) ≡ stores_in os
stores_in-without_phis [] = refl
stores_in-without_phis (op.Phi to ty edges ∷ os) = stores_in-without_phis os
stores_in-without_phis (op.Store ty v at ∷ os) = ap suc (stores_in-without_phis os)
stores_in-without_phis (o ∷ os) = stores_in-without_phis os

-- marks are no phis
mark_unphied : (bare : Bool) (os : List Op) (ty : Scalar) (x y : Operand) → without_phis (unless_left bare (op.Guard y (size_value ty) false ∷ []) ++ (op.Store ty x y ∷ os)) ≡ unless_left bare (op.Guard y (size_value ty) false ∷ []) ++ (op.Store ty x y ∷ without_phis os)
mark_unphied true os ty x y = refl
mark_unphied false os ty x y = refl

-- without its phis an image's block is the image of the block without its phis
unphied : (c : Code) (h : Home) (bare : Bare) (o : Op) (os : List Op) → without_phis (guarded_ops c h bare os) ≡ guarded_ops c h bare (without_phis os) →
    without_phis (guarded_ops c h bare (o ∷ os)) ≡ guarded_ops c h bare (without_phis (o ∷ os))
unphied c None bare (op.Phi to ty edges) os ih = ih
unphied c (Some m) bare (op.Phi to ty edges) os ih = ih
unphied c None bare (op.Guard at size narrow) os ih = ap (λ (x : List Op). op.Unreachable ∷ x) ih
unphied c (Some m) bare (op.Guard at size narrow) os ih = ap (λ (x : List Op). op.Unreachable ∷ x) ih
unphied c None bare (op.Check target) os ih = ap (λ (x : List Op). op.Unreachable ∷ x) ih
unphied c (Some m) bare (op.Check target) os ih = ap (λ (x : List Op). op.Unreachable ∷ x) ih
unphied c (Some m) bare (op.Store ty v at) os ih =
    mark_unphied (bare (stores_in os)) (guarded_ops c (Some m) bare os) ty v at
    ∙ (λ j. unless_left (bare (sym (stores_in-without_phis os) j)) (op.Guard at (size_value ty) false ∷ []) ++ (op.Store ty v at ∷ ih j))
unphied c (Some m) bare (op.Call to ret (callee.Register r) args) os ih = ap (λ (x : List Op). mark_of (op.Call to ret (callee.Register r) args) ++ (op.Call to ret (callee.Register r) args ∷ x)) ih
unphied c (Some m) bare (op.Call to ret (callee.Symbol s) args) os ih = ap (λ (x : List Op). guarded_op c (Some m) (op.Call to ret (callee.Symbol s) args) ∷ x) ih
unphied c None bare o os ih = ap (λ (x : List Op). guarded_op c None o ∷ x) ih
unphied c (Some m) bare o os ih = ap (λ (x : List Op). mark_of o ++ (guarded_op c (Some m) o ∷ x)) ih

without_phis-guarded : (c : Code) (h : Home) (bare : Bare) (os : List Op) → without_phis (guarded_ops c h bare os) ≡ guarded_ops c h bare (without_phis os)
without_phis-guarded c h bare [] = refl
without_phis-guarded c h bare (o ∷ os) = unphied c h bare o os (without_phis-guarded c h bare os)

-- marks give no phi its value

stored_phis : (p : Program) (a : Activation) (bare : Bool) (ty : Scalar) (x y : Operand) (os : List Op) (registers : List Word) →
    with_phis p a (unless_left bare (op.Guard y (size_value ty) false ∷ []) ++ (op.Store ty x y ∷ os)) registers ≡ with_phis p a os registers
stored_phis p a true ty x y os registers = refl
stored_phis p a false ty x y os registers = refl

phis_at : (c : Code) (h : Home) (bare : Bare) (p : Program) (a : Activation) (o : Op) (os : List Op) (registers : List Word) →
    ((rs : List Word) → with_phis p (waiting_run c h a) (guarded_ops c h bare os) rs ≡ with_phis p a os rs) →
    with_phis p (waiting_run c h a) (guarded_ops c h bare (o ∷ os)) registers ≡ with_phis p a (o ∷ os) registers
phis_at c None bare p a (op.Phi to ty edges) os registers ih = ih (with_phi p a (op.Phi to ty edges) registers)
phis_at c (Some m) bare p a (op.Phi to ty edges) os registers ih = ih (with_phi p a (op.Phi to ty edges) registers)
phis_at c (Some m) bare p a (op.Store ty v at) os registers ih =
    stored_phis p (waiting_run c (Some m) a) (bare (stores_in os)) ty v at (guarded_ops c (Some m) bare os) registers ∙ ih registers
phis_at c (Some m) bare p a (op.Call to ret (callee.Register r) args) os registers ih = ih registers
phis_at c (Some m) bare p a (op.Call to ret (callee.Symbol s) args) os registers ih = ih registers
phis_at c None bare p a _ os registers ih = ih registers
phis_at c (Some m) bare p a _ os registers ih = ih registers

with_phis-guarded : (c : Code) (h : Home) (bare : Bare) (p : Program) (a : Activation) (os : List Op) (registers : List Word) →
    with_phis p (waiting_run c h a) (guarded_ops c h bare os) registers ≡ with_phis p a os registers
with_phis-guarded c h bare p a [] registers = refl
with_phis-guarded c h bare p a (o ∷ os) registers = phis_at c h bare p a o os registers (with_phis-guarded c h bare p a os)

arrived-guarded : (c : Code) (h : Home) (p : Program) (a : Activation) (b : Option CodeBlock) →
    arrival p (waiting_run c h a) (option_map (guarded_block c h a.function) b) ≡ guarded_effect c h (arrival p a b)
arrived-guarded c h p a None = refl
arrived-guarded c h p a (Some b) =
    λ j. Moves (record (waiting_run c h a) {
      label = b.label;
      code = without_phis-guarded c h (bare_of c a.function b.label) b.code j;
      registers = with_phis-guarded c h (bare_of c a.function b.label) p a b.code a.registers j;
    })

jumps-guarded : (c : Code) (h : Home) (p : Program) (a : Activation) (label : List ℕ) →
    jump_effect p (waiting_run c h a) label ≡ guarded_effect c h (jump_effect p a label)
jumps-guarded c h p a label =
    ap (arrival p (waiting_run c h a)) (block_named-guarded c h a.function a.blocks label) ∙ arrived-guarded c h p a (code_block_named a.blocks label)

slot_call-guarded : (c : Code) (h : Home) (s : ℕ) (args : List Word) → slot_effect s args ≡ guarded_effect c h (slot_effect s args)
slot_call-guarded c h s [] = refl
slot_call-guarded c h s (w ∷ ws) = refl

named_call-guarded : (c : Code) (h : Home) (t : Target) (args : List Word) → target_effect t args ≡ guarded_effect c h (target_effect t args)
named_call-guarded c h (ToNative k) args = refl
named_call-guarded c h (ToSlot s) args = slot_call-guarded c h s args
named_call-guarded c h (ToImport n) args = refl
named_call-guarded c h (ToOwn n) args = refl
named_call-guarded c h Nowhere args = refl

-- a call of a name, with that name
pub called-guarded : (c : Code) (h : Home) (p : Program) (a : Activation) (x : Callee) (args : List Word) →
    call_effect p (waiting_run c h a) x args ≡ guarded_effect c h (call_effect p a x args)
called-guarded c h p a (callee.Symbol (symbol.Function f)) args = named_call-guarded c h (target p (text_of p a) f) args
called-guarded c h p a (callee.Symbol (symbol.Global g)) args = refl
called-guarded c h p a (callee.Register r) args = refl

divided-guarded : (c : Code) (h : Home) (a : Activation) (w : Option Word) → division (waiting_run c h a) w ≡ guarded_effect c h (division a w)
divided-guarded c h a None = refl
divided-guarded c h a (Some w) = ap Moves (activation_behind-waiting c h (Some w) a)

abbrev pub IsCall : Op → Type 0
IsCall (op.Call to ret x args) = Unit {0}
IsCall _ = ⊥

-- an instruction that is no call does the same
pub effect-guarded : (c : Code) (h : Home) (p : Program) (a : Activation) (o : Op) → (IsCall o → ⊥) →
    effect p (waiting_run c h a) (guarded_op c h o) ≡ guarded_effect c h (effect p a o)
effect-guarded c h p a (op.Binary to b ty x y) n = divided-guarded c h a _
effect-guarded c h p a (op.Compare to pred ty x y) n = ap Moves (activation_behind-waiting c h _ a)
effect-guarded c h p a (op.Convert to how from x into) n = ap Moves (activation_behind-waiting c h _ a)
effect-guarded c h p a (op.Unary to o ty x) n = ap Moves (activation_behind-waiting c h _ a)
effect-guarded c h p a (op.Select to test ty x y) n = ap Moves (activation_behind-waiting c h _ a)
effect-guarded c h p a (op.GetElementPtr to ty base indices) n = ap Moves (activation_behind-waiting c h _ a)
effect-guarded c h p a (op.Call to ret x args) n = absurd (n tt)
effect-guarded c h p a (op.Jump label) n = jumps-guarded c h p a label
effect-guarded c h p a (op.Branch test x y) n = jumps-guarded c h p a _
effect-guarded c h p a (op.Switch ty v otherwise cases) n = jumps-guarded c h p a _
effect-guarded c h p a _ n = refl

-- what a site expects, and what is returned

site-guarded : (c : Code) (h : Home) (o : Op) → site_result (guarded_op c h o) ≡ site_result o
site-guarded c h (op.Guard at size narrow) = refl
site-guarded c h _ = refl

pub call_result-waiting : (c : Code) (h : Home) (bare : Bare) (os : List Op) → call_result (waiting_ops c h bare os) ≡ call_result os
call_result-waiting c h bare [] = refl
call_result-waiting c h bare (o ∷ os) = site-guarded c h o

returned-guarded : (c : Code) (h : Home) (p : Program) (a : Activation) (o : Op) → returned_by p (waiting_run c h a) (guarded_op c h o) ≡ returned_by p a o
returned-guarded c h p a (op.Ret None) = refl
returned-guarded c h p a (op.Ret (Some x)) = refl
returned-guarded c h p a (op.Guard at size narrow) = refl
returned-guarded c h p a (op.Check target) = refl
returned-guarded c h p a o = refl

returned_at-waiting : (c : Code) (h : Home) (bare : Bare) (p : Program) (a : Activation) (os : List Op) → returned_at p (waiting_run c h a) (waiting_ops c h bare os) ≡ returned_at p a os
returned_at-waiting c h bare p a [] = refl
returned_at-waiting c h bare p a (o ∷ os) = returned-guarded c h p a o

pub returned_value-waiting : (c : Code) (h : Home) (p : Program) (a : Activation) → returned_value p (waiting_run c h a) ≡ returned_value p a
returned_value-waiting c h p a = returned_at-waiting c h (bare_of c a.function a.label) p a a.code

-- a function's start

first_label-guarded : (c : Code) (h : Home) (n : ℕ) (bs : List CodeBlock) → first_label (map (guarded_block c h n) bs) ≡ first_label bs
first_label-guarded c h n [] = refl
first_label-guarded c h n (b ∷ bs) = refl

first_code-guarded : (c : Code) (h : Home) (n : ℕ) (bs : List CodeBlock) → first_code (map (guarded_block c h n) bs) ≡ guarded_ops c h (bare_of c n (first_label bs)) (first_code bs)
first_code-guarded c h n [] = refl
first_code-guarded c h n (b ∷ bs) = refl

pub start-guarded : (c : Code) (h : Home) (n : ℕ) (r : Routine) (args : List Word) (low : ℕ) →
    start_of n (guarded_routine c h n r) args low ≡ guarded_run c h (start_of n r args low)
start-guarded c h n r args low =
    λ j. record (start_of n (guarded_routine c h n r) args low) {
      label = first_label-guarded c h n r.blocks j;
      code = first_code-guarded c h n r.blocks j;
    }

-- without its marks an image's text is the program's, with the calls of imports to their wrappers

unmarked_store : (bare : Bool) (ty : Scalar) (x y : Operand) (os : List Op) → without_marks (unless_left bare (op.Guard y (size_value ty) false ∷ []) ++ (op.Store ty x y ∷ os)) ≡ op.Store ty x y ∷ without_marks os
unmarked_store true ty x y os = refl
unmarked_store false ty x y os = refl

unmarked_cases : (text : Option Module) (bare : Bare) (o : Op) (os : List Op) → without_marks (image_ops text bare os) ≡ map (text_op text) os → without_marks (image_ops text bare (o ∷ os)) ≡ map (text_op text) (o ∷ os)
unmarked_cases None bare (op.Guard at size narrow) os ih = ap (λ (x : List Op). op.Unreachable ∷ x) ih
unmarked_cases (Some m) bare (op.Guard at size narrow) os ih = ap (λ (x : List Op). op.Unreachable ∷ x) ih
unmarked_cases (Some m) bare (op.Store ty v at) os ih = unmarked_store (bare (stores_in os)) ty v at (image_ops (Some m) bare os) ∙ ap (λ (x : List Op). op.Store ty v at ∷ x) ih
unmarked_cases (Some m) bare (op.Call to ret (callee.Register r) args) os ih = ap (λ (x : List Op). op.Call to ret (callee.Register r) args ∷ x) ih
unmarked_cases (Some m) bare (op.Call to ret (callee.Symbol s) args) os ih = ap (λ (x : List Op). text_op (Some m) (op.Call to ret (callee.Symbol s) args) ∷ x) ih
unmarked_cases None bare o os ih = ap (λ (x : List Op). text_op None o ∷ x) ih
unmarked_cases (Some m) bare o os ih = ap (λ (x : List Op). text_op (Some m) o ∷ x) ih

pub erased-image : (text : Option Module) (bare : Bare) (os : List Op) → without_marks (image_ops text bare os) ≡ map (text_op text) os
erased-image text bare [] = refl
erased-image text bare (o ∷ os) = unmarked_cases text bare o os (erased-image text bare os)
