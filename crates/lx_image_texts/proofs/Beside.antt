-- Code beside the code of its image: before an instruction stands its mark, or none, and calls of imports are calls of wrappers.
use Rattle.std.proofs.Common.{◌≡◌, ℕ, Bool, true, false, not, List, [], ◌∷◌, ◌++◌, Option, Some, None, refl, sym, subst, ◌∙◌, ap}
use Rattle.std.specs.Prelude.{flat_map, slice_get}
use Rattle.lx_words.proofs.Lists.{heads, no_list}
use Rattle.lx_words.proofs.Tests.{false_true}
use Rattle.lx_ir.specs.declared.types.Scalar.{Scalar}
use Rattle.lx_ir.specs.declared.module.Value.{Value}
use Rattle.lx_ir.specs.declared.module.Symbol.TheVariants as symbol
use Rattle.lx_ir.specs.declared.module.Block.{Block}
use Rattle.lx_ir.specs.declared.module.Function.{Function}
use Rattle.lx_ir.specs.declared.module.Module.{Module}
use Rattle.lx_ir.specs.declared.instr.Argument.{Argument}
use Rattle.lx_ir.specs.declared.instr.Callee.{Callee}
use Rattle.lx_ir.specs.declared.instr.Callee.TheVariants as callee
use Rattle.lx_ir.specs.declared.instr.Instr.{Instr}
use Rattle.lx_ir.specs.declared.instr.Op.{Op}
use Rattle.lx_ir.specs.declared.instr.Op.TheVariants as op
use Rattle.lx_ir.specs.Lookup.{blocks_of, blocks_of_option, instrs_of}
use Rattle.lx_ir.specs.Operands.{operands_of, callee_operands, is_image_line, is_terminator, is_phi, given_by, result_of, labels_of, targets_of}
use Rattle.lx_image_texts.specs.Marks.{image_callee, image_op, mark_of, is_mark, size_value, is_narrow}
use Rattle.lx_image_texts.proofs.SparedAlike.{callee_reads as for_none}

-- an instruction of a module, and what it is in the image
pub record Alike (m : Module) (o p : Op) : Type 0 where
  pub plain : not (is_image_line o) ≡ true
  pub is : image_op m o ≡ p

-- the mark is the one of the instruction
abbrev pub IsMarkOf : Op → Op → Type 0
IsMarkOf k o = mark_of o ≡ k ∷ []

pub data Beside (m : Module) : List Instr → List Instr → Type 0 where
  ends : Beside m [] []
  bare : (i j : Instr) (is js : List Instr) → Alike m i.op j.op → Beside m is js → Beside m (i ∷ is) (j ∷ js)
  marked : (i k j : Instr) (is js : List Instr) → IsMarkOf k.op i.op → Alike m i.op j.op → Beside m is js → Beside m (i ∷ is) (k ∷ j ∷ js)

pub record BesideBlock (m : Module) (b c : Block) : Type 0 where
  pub name : b.name ≡ c.name
  pub code : Beside m b.instrs c.instrs

pub data BesideBlocks (m : Module) : List Block → List Block → Type 0 where
  no_blocks : BesideBlocks m [] []
  blocks : (b c : Block) (bs cs : List Block) → BesideBlock m b c → BesideBlocks m bs cs → BesideBlocks m (b ∷ bs) (c ∷ cs)

pub data BesideBody (m : Module) : Option (List Block) → Option (List Block) → Type 0 where
  no_body : BesideBody m None None
  body : (bs cs : List Block) → BesideBlocks m bs cs → BesideBody m (Some bs) (Some cs)

-- a function of the module, and the same function in the image
pub record BesideFunction (m : Module) (f g : Function) : Type 0 where
  pub name : f.name ≡ g.name
  pub params : f.params ≡ g.params
  pub locals : f.locals ≡ g.locals
  pub ret : f.ret ≡ g.ret
  pub body : BesideBody m f.blocks g.blocks

-- all the code of a function

pub joined : (m : Module) (is js is2 js2 : List Instr) → Beside m is js → Beside m is2 js2 → Beside m (is ++ is2) (js ++ js2)
joined m _ _ is2 js2 ends h = h
joined m _ _ is2 js2 (bare i j is js a b) h = bare i j (is ++ is2) (js ++ js2) a (joined m is js is2 js2 b h)
joined m _ _ is2 js2 (marked i k j is js e a b) h = marked i k j (is ++ is2) (js ++ js2) e a (joined m is js is2 js2 b h)

abbrev pub flat : List Block → List Instr
flat bs = flat_map (λ b. b.instrs) bs

pub flat_beside : (m : Module) (bs cs : List Block) → BesideBlocks m bs cs → Beside m (flat bs) (flat cs)
flat_beside m _ _ no_blocks = ends
flat_beside m _ _ (blocks b c bs cs h rest) = joined m b.instrs c.instrs (flat bs) (flat cs) h.code (flat_beside m bs cs rest)

pub blocks_beside : (m : Module) (b c : Option (List Block)) → BesideBody m b c → BesideBlocks m (blocks_of_option b) (blocks_of_option c)
blocks_beside m _ _ no_body = no_blocks
blocks_beside m _ _ (body bs cs h) = h

pub code_beside : (m : Module) (f g : Function) → BesideFunction m f g → Beside m (instrs_of f) (instrs_of g)
code_beside m f g h = flat_beside m (blocks_of f) (blocks_of g) (blocks_beside m f.blocks g.blocks h.body)

-- what an instruction of the module has in common with what it is in the image

plain_same : {B : Type 0} (h : Op → B) (m : Module) (o : Op) → not (is_image_line o) ≡ true → ((to : Option ℕ) (ret : Option Scalar) (c : Callee) (args : List Argument) → h (op.Call to ret c args) ≡ h (op.Call to ret (image_callee m c) args)) → h o ≡ h (image_op m o)
plain_same h m (op.Call to ret c args) p k = k to ret c args
plain_same h m (op.Guard at size narrow) p k = false_true p
plain_same h m (op.Check target) p k = false_true p
plain_same h m o p k = refl

pub same : {B : Type 0} (h : Op → B) (m : Module) (o p : Op) → Alike m o p → ((to : Option ℕ) (ret : Option Scalar) (c : Callee) (args : List Argument) → h (op.Call to ret c args) ≡ h (op.Call to ret (image_callee m c) args)) → h o ≡ h p
same h m o p a k = plain_same h m o a.plain k ∙ ap h a.is

callee_reads : (m : Module) (c : Callee) → callee_operands c ≡ callee_operands (image_callee m c)
callee_reads m (callee.Register r) = refl
callee_reads m (callee.Symbol (symbol.Global g)) = refl
callee_reads m (callee.Symbol (symbol.Function k)) = sym (for_none m k (slice_get m.functions k))

pub same_operands : (m : Module) (o p : Op) → Alike m o p → operands_of o ≡ operands_of p
same_operands m o p a = same operands_of m o p a (λ to ret c args. ap (λ (xs : List Argument). xs ++ args) (callee_reads m c))

pub same_given : (m : Module) (o p : Op) → Alike m o p → given_by o ≡ given_by p
same_given m o p a = same given_by m o p a (λ to ret c args. refl)

pub same_result : (m : Module) (o p : Op) → Alike m o p → result_of o ≡ result_of p
same_result m o p a = same result_of m o p a (λ to ret c args. refl)

pub same_labels : (m : Module) (o p : Op) → Alike m o p → labels_of o ≡ labels_of p
same_labels m o p a = same labels_of m o p a (λ to ret c args. refl)

pub same_targets : (m : Module) (o p : Op) → Alike m o p → targets_of o ≡ targets_of p
same_targets m o p a = same targets_of m o p a (λ to ret c args. refl)

pub same_ends : (m : Module) (o p : Op) → Alike m o p → is_terminator o ≡ is_terminator p
same_ends m o p a = same is_terminator m o p a (λ to ret c args. refl)

pub same_phi : (m : Module) (o p : Op) → Alike m o p → is_phi o ≡ is_phi p
same_phi m o p a = same is_phi m o p a (λ to ret c args. refl)

pub same_line : (m : Module) (o p : Op) → Alike m o p → is_image_line o ≡ is_image_line p
same_line m o p a = same is_image_line m o p a (λ to ret c args. refl)

-- marks

pub record MarkFacts (k o : Op) : Type 0 where
  pub mark : is_mark k ≡ true
  pub line : is_image_line k ≡ true
  pub given : given_by k ≡ None
  pub result : result_of k ≡ None
  pub labels : labels_of k ≡ []
  pub ends : is_terminator k ≡ false
  pub phi : is_phi k ≡ false
  -- what it stands before is no phi
  pub behind : is_phi o ≡ false

guard_facts : (at size : Value) (narrow : Bool) (k o : Op) → op.Guard at size narrow ≡ k → is_phi o ≡ false → MarkFacts k o
guard_facts at size narrow k o e b = subst (λ (q : Op). MarkFacts q o) e (record { mark = refl; line = refl; given = refl; result = refl; labels = refl; ends = refl; phi = refl; behind = b })

pub mark_facts : (k o : Op) → IsMarkOf k o → MarkFacts k o
mark_facts k (op.Store ty v at) e = guard_facts at (size_value ty) false k (op.Store ty v at) (heads e) refl
mark_facts k (op.CopyBlock moves dest source len) e = guard_facts dest len.value (is_narrow len.ty) k (op.CopyBlock moves dest source len) (heads e) refl
mark_facts k (op.FillBlock dest byte len) e = guard_facts dest len.value (is_narrow len.ty) k (op.FillBlock dest byte len) (heads e) refl
mark_facts k (op.Call to ret (callee.Register r) args) e =
    subst (λ (q : Op). MarkFacts q (op.Call to ret (callee.Register r) args)) (heads e) (record { mark = refl; line = refl; given = refl; result = refl; labels = refl; ends = refl; phi = refl; behind = refl })
mark_facts k (op.Call to ret (callee.Symbol s) args) e = no_list e
mark_facts k o e = no_list e
