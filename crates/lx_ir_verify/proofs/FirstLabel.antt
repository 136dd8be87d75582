-- Lemmas on labels.
use Rattle.std.proofs.Common.{◌≡◌, ℕ, ◌+◌, ◌<◌, Bool, true, false, not, cond, Option, Some, List, [], ◌∷◌, length, get_or, drop, refl, ap, sym, ◌∙◌}
use Rattle.std.specs.Prelude.{option_map, find}
use Rattle.std.specs.Option.{option_or}
use Rattle.lx_ir.specs.declared.module.Function.{Function}
use Rattle.lx_ir.specs.declared.instr.Instr.{Instr}
use Rattle.lx_ir.specs.Operands.{labels_of}
use Rattle.lx_ir.specs.Faults.{Fault, NoSuchLabel, fault_unless, first_some, has_block, label_fault}
use Rattle.lx_ir_verify.specs.Shown.{missing_fault}
use Rattle.lx_ir_verify.proofs.Passes.{first_step}

by_test : (b : Bool) (line : ℕ) (l : List ℕ) (rest : Option Fault) (others : Option (List ℕ)) → rest ≡ option_map (λ label. NoSuchLabel line label) others → option_or (fault_unless b (NoSuchLabel line l)) rest ≡ option_map (λ label. NoSuchLabel line label) (cond (not b) (Some l) others)
by_test true line l rest others e = e
by_test false line l rest others e = refl

-- the first label that is missing is the first whose fault there is
same_first : (f : Function) (line : ℕ) (labels : List (List ℕ)) → first_some (missing_fault f line) labels ≡ option_map (λ label. NoSuchLabel line label) (find (λ label. not (has_block f label)) labels)
same_first f line [] = refl
same_first f line (l ∷ ls) = by_test (has_block f l) line l _ _ (same_first f line ls)

pub label_step : (f : Function) (xs : List Instr) (i : ℕ) (x : Instr) → i < length xs → x ≡ get_or xs i x → first_some (label_fault f) (drop i xs) ≡ option_or (first_some (missing_fault f x.line) (labels_of x.op)) (first_some (label_fault f) (drop (i + 1) xs))
label_step f xs i x h e =
    first_step (label_fault f) xs i x h e ∙ ap (λ z. option_or z (first_some (label_fault f) (drop (i + 1) xs))) (sym (same_first f x.line (labels_of x.op)))
