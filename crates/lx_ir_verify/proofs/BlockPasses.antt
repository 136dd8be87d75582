-- Lemmas on passes over the instructions of blocks.
use Rattle.std.proofs.Common.{◌≡◌, ℕ, ◌+◌, ◌<◌, Option, None, List, ◌++◌, length, get_or, drop, ap, sym, ◌∙◌}
use Rattle.std.specs.Prelude.{flat_map, filter_map}
use Rattle.std.specs.Option.{option_or}
use Rattle.std.proofs.lemmas.List.{append_assoc}
use Rattle.lx_ir.specs.declared.types.Scalar.{Scalar}
use Rattle.lx_ir.specs.declared.module.Block.{Block}
use Rattle.lx_ir.specs.declared.instr.Instr.{Instr}
use Rattle.lx_ir.specs.Operands.{result_of}
use Rattle.lx_ir.specs.Faults.{Fault, first_some}
use Rattle.lx_ir_verify.proofs.Passes.{first_flat_step, filter_flat_step}

-- without a fault a pass goes on
pub passed : (x rest y : Option Fault) → y ≡ option_or x rest → x ≡ None → y ≡ rest
passed x rest y e h = e ∙ ap (λ z. option_or z rest) h

pub instrs_step : (f : Instr → Option Fault) (bs : List Block) (i : ℕ) (b : Block) (is : List Instr) → i < length bs → b ≡ get_or bs i b → is ≡ b.instrs → first_some f (flat_map (λ c. c.instrs) (drop i bs)) ≡ option_or (first_some f is) (first_some f (flat_map (λ c. c.instrs) (drop (i + 1) bs)))
instrs_step f bs i b is h e g =
    first_flat_step f (λ (c : Block). c.instrs) bs i b h e ∙ ap (λ z. option_or (first_some f z) (first_some f (flat_map (λ c. c.instrs) (drop (i + 1) bs)))) (sym g)

-- the results of a block more
pub results_more : (all old new : List Scalar) (bs : List Block) (i : ℕ) (b : Block) (is : List Instr) → i < length bs → b ≡ get_or bs i b → is ≡ b.instrs → all ≡ old ++ filter_map (λ (j : Instr). result_of j.op) (flat_map (λ c. c.instrs) (drop i bs)) → new ≡ old ++ filter_map (λ (j : Instr). result_of j.op) is → all ≡ new ++ filter_map (λ (j : Instr). result_of j.op) (flat_map (λ c. c.instrs) (drop (i + 1) bs))
results_more all old new bs i b is h e g k n =
    let rest : List Scalar = filter_map (λ (j : Instr). result_of j.op) (flat_map (λ c. c.instrs) (drop (i + 1) bs)) in
    let piece : List Scalar = filter_map (λ (j : Instr). result_of j.op) is in
    let step : filter_map (λ (j : Instr). result_of j.op) (flat_map (λ c. c.instrs) (drop i bs)) ≡ piece ++ rest =
    filter_flat_step (λ (j : Instr). result_of j.op) (λ (c : Block). c.instrs) bs i b h e ∙ ap (λ z. filter_map (λ (j : Instr). result_of j.op) z ++ rest) (sym g) in
    k ∙ (ap (λ z. old ++ z) step ∙ (sym (append_assoc old piece rest) ∙ ap (λ z. z ++ rest) (sym n)))
