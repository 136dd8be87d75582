-- The types of code within reach are within the limits, wherever an instruction stands.
use Rattle.std.proofs.Common.{◌≡◌, ℕ, zero, suc, Bool, true, false, not, Option, Some, None, List, [], ◌∷◌, map, drop, IsTrue, refl, sym, ap, ◌∙◌}
use Rattle.std.specs.Prelude.{cond}
use Rattle.std.specs.List.{list_all}
use Rattle.std.proofs.lemmas.Bool.{and_parts, and_from}
use Rattle.lx_ir.specs.declared.types.NamedType.{NamedType}
use Rattle.lx_ir.specs.declared.module.Block.{Block}
use Rattle.lx_ir.specs.declared.module.Function.{Function}
use Rattle.lx_ir.specs.declared.instr.Instr.{Instr}
use Rattle.lx_ir.specs.declared.instr.Op.{Op}
use Rattle.lx_ir.specs.Lookup.{blocks_of}
use Rattle.lx_model.specs.Program.{module_of, home_or_kernel}
use Rattle.lx_model.specs.Thread.{code_block_of, routine_or_none}
use Rattle.lx_model.specs.Effect.{is_phi, without_phis}
use Rattle.lx_code.specs.Reach.{is_sized, are_sized, are_sized_instrs}
use Rattle.lx_images.specs.Image.{Code, image_function, image_routine}
use Rattle.lx_image_code.specs.Jumps.{blocks_or_none}
use Rattle.lx_image_code.specs.Reach.{AreSized}
use Rattle.lx_image_steps.specs.Standing.{block_at, rest_from, head_of}

all_ops : (types : List NamedType) (is : List Instr) → are_sized_instrs types is ≡ true → list_all (is_sized types) (map (λ i. i.op) is) ≡ true
all_ops types [] h = refl
all_ops types (i ∷ is) h =
    let a = and_parts (is_sized types i.op) (are_sized_instrs types is) h in
    and_from (is_sized types i.op) (list_all (is_sized types) (map (λ i. i.op) is)) a.0 (all_ops types is a.1)

in_blocks : (types : List NamedType) (bs : List Block) (k : ℕ) → are_sized types bs ≡ true → list_all (is_sized types) (block_at (map code_block_of bs) k).code ≡ true
in_blocks types [] k h = refl
in_blocks types (b ∷ bs) zero h = all_ops types b.instrs ((and_parts (are_sized_instrs types b.instrs) (are_sized types bs) h).0)
in_blocks types (b ∷ bs) (suc k) h = in_blocks types bs k ((and_parts (are_sized_instrs types b.instrs) (are_sized types bs) h).1)

in_function : (types : List NamedType) (f : Option Function) (k : ℕ) → are_sized types (blocks_or_none f) ≡ true → list_all (is_sized types) (block_at (routine_or_none f).blocks k).code ≡ true
in_function types None k h = refl
in_function types (Some g) k h = in_blocks types (blocks_of g) k h

all_dropped : (test : Op → Bool) (k : ℕ) (os : List Op) → list_all test os ≡ true → list_all test (drop k os) ≡ true
all_dropped test zero os h = h
all_dropped test (suc k) [] h = refl
all_dropped test (suc k) (o ∷ os) h = all_dropped test k os ((and_parts (test o) (list_all test os) h).1)

all_if : (test : Op → Bool) (b : Bool) (o : Op) (os : List Op) → test o ≡ true → list_all test os ≡ true → list_all test (cond b (o ∷ os) os) ≡ true
all_if test true o os h k = and_from (test o) (list_all test os) h k
all_if test false o os h k = k

all_filtered : (test : Op → Bool) (os : List Op) → list_all test os ≡ true → list_all test (without_phis os) ≡ true
all_filtered test [] h = refl
all_filtered test (o ∷ os) h =
    let a = and_parts (test o) (list_all test os) h in
    all_if test (not (is_phi o)) o (without_phis os) a.0 (all_filtered test os a.1)

all_rest : (test : Op → Bool) (arrived : Bool) (k : ℕ) (os : List Op) → list_all test os ≡ true → list_all test (rest_from arrived k os) ≡ true
all_rest test true k os h = all_filtered test (drop k os) (all_dropped test k os h)
all_rest test false k os h = all_dropped test k os h

all_head : (test : Op → Bool) (os : List Op) (o : Op) → list_all test os ≡ true → head_of os ≡ Some o → test o ≡ true
all_head test [] o h e = absurd (cc)
all_head test (x ∷ os) o h e =
    let s : x ≡ o = cc in
    ap test (sym s) ∙ (and_parts (test x) (list_all test os) h).0

-- the next instruction of a function
pub sized_head : (c : Code) (n block place : ℕ) (arrived : Bool) (o : Op) → AreSized c → head_of (rest_from arrived place (block_at (image_routine c n).blocks block).code) ≡ Some o →
    IsTrue (is_sized (module_of c.program (home_or_kernel c.program n)).types o)
sized_head c n block place arrived o sized e =
    let types = (module_of c.program (home_or_kernel c.program n)).types in
    all_head (is_sized types) _ o (all_rest (is_sized types) arrived place _ (in_function types (image_function c n) block (sized n))) e
