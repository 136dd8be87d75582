-- Lemmas on passes over phis.
use Rattle.std.proofs.Common.{◌≡◌, ℕ, ◌+◌, ◌<◌, ◌≤◌, Bool, true, ◌&&◌, None, List, length, get_or, drop, ap}
use Rattle.std.specs.Option.{option_or}
use Rattle.std.proofs.lemmas.List.{drop_all}
use Rattle.lx_words.proofs.Lists.{rest_at}
use Rattle.lx_ir.specs.declared.module.Function.{Function}
use Rattle.lx_ir.specs.declared.module.Block.{Block}
use Rattle.lx_ir.specs.declared.instr.Instr.{Instr}
use Rattle.lx_ir.specs.Operands.{is_phi}
use Rattle.lx_ir.specs.Faults.{phi_fault, phi_faults, first_some}

pub phi_step : (f : Function) (name : List ℕ) (b : Bool) (xs : List Instr) (i : ℕ) (x : Instr) → i < length xs → x ≡ get_or xs i x → phi_faults f name b (drop i xs) ≡ option_or (phi_fault f name b x) (phi_faults f name (b && is_phi x.op) (drop (i + 1) xs))
phi_step f name b xs i x h e = ap (phi_faults f name b) (rest_at xs i x h e)

pub phi_end : (f : Function) (name : List ℕ) (b : Bool) (xs : List Instr) (i : ℕ) → length xs ≤ i → phi_faults f name b (drop i xs) ≡ None
phi_end f name b xs i h = ap (phi_faults f name b) (drop_all i xs h)

pub block_step : (f : Function) (xs : List Block) (i : ℕ) (x : Block) → i < length xs → x ≡ get_or xs i x → first_some (λ c. phi_faults f c.name true c.instrs) (drop i xs) ≡ option_or (phi_faults f x.name true x.instrs) (first_some (λ c. phi_faults f c.name true c.instrs) (drop (i + 1) xs))
block_step f xs i x h e = ap (first_some (λ (c : Block). phi_faults f c.name true c.instrs)) (rest_at xs i x h e)
