-- The program of an image, piece by piece.
use Rattle.std.proofs.Common.{◌≡◌, ◌∙◌, ℕ, ◌+◌, ◌<◌, ◌≤◌, Bool, true, false, not, cond, List, [], ◌∷◌, ◌++◌, length, get_or, map, drop, refl, ap}
use Rattle.std.specs.Prelude.{filter}
use Rattle.std.proofs.lemmas.List.{drop_all}
use Rattle.lx_words.proofs.Lists.{goes_on, ends, rest_at}
use Rattle.lx_ir.specs.declared.module.Function.{Function}
use Rattle.lx_ir.specs.declared.module.Module.{Module}
use Rattle.lx_ir.specs.declared.instr.Instr.{Instr}
use Rattle.lx_ir.specs.declared.instr.Op.{Op}
use Rattle.lx_image_texts.specs.Marks.{is_mark, without_marks}
use Rattle.lx_image_texts.specs.WrapperText.{unlined}
use Rattle.lx_image_texts.specs.Erased.{erased_op, is_of_program}
use Rattle.lx_image_texts.specs.Programs.{program_function}
use Rattle.lx_image_check.specs.Program.{lines_of, program_lines}

marked_if : (b : Bool) (x : Module) (o : Op) (os : List Op)
    → map unlined (map (erased_op x) (cond b (o ∷ without_marks os) (without_marks os))) ≡ map unlined (map (erased_op x) (cond b (o ∷ []) [])) ++ map unlined (map (erased_op x) (without_marks os))
marked_if true x o os = refl
marked_if false x o os = refl

lines_cons : (x : Module) (i : Instr) (is : List Instr) → lines_of x (i ∷ is) ≡ program_lines x i.op ++ lines_of x is
lines_cons x i is = marked_if (not (is_mark i.op)) x i.op (map (λ (j : Instr). j.op) is)

pub lines_step : (x : Module) (is : List Instr) (k : ℕ) (i : Instr) (old new all : List Instr) → k < length is → i ≡ get_or is k i
    → old ++ lines_of x (drop k is) ≡ all → new ≡ old ++ program_lines x i.op → new ++ lines_of x (drop (k + 1) is) ≡ all
lines_step x is k i old new all h e was n =
    goes_on old new (program_lines x i.op) (lines_of x (drop k is)) (lines_of x (drop (k + 1) is)) all was (ap (lines_of x) (rest_at is k i h e) ∙ lines_cons x i (drop (k + 1) is)) n

pub lines_end : (x : Module) (is : List Instr) (k : ℕ) (old all : List Instr) → length is ≤ k → old ++ lines_of x (drop k is) ≡ all → old ≡ all
lines_end x is k old all h was = ends old (lines_of x (drop k is)) all was (ap (lines_of x) (drop_all k is h))

-- functions of the program

kept_if : (b : Bool) (x : Module) (f : Function) (fs : List Function)
    → map (program_function x) (cond b (f ∷ filter is_of_program fs) (filter is_of_program fs)) ≡ map (program_function x) (cond b (f ∷ []) []) ++ map (program_function x) (filter is_of_program fs)
kept_if true x f fs = refl
kept_if false x f fs = refl

pub functions_step : (x : Module) (fs : List Function) (k : ℕ) (f : Function) (old new all : List Function) → k < length fs → f ≡ get_or fs k f
    → old ++ map (program_function x) (filter is_of_program (drop k fs)) ≡ all → new ≡ old ++ map (program_function x) (filter is_of_program (f ∷ []))
    → new ++ map (program_function x) (filter is_of_program (drop (k + 1) fs)) ≡ all
functions_step x fs k f old new all h e was n =
    let kept : List Function → List Function = λ gs. map (program_function x) (filter is_of_program gs) in
    goes_on old new (kept (f ∷ [])) (kept (drop k fs)) (kept (drop (k + 1) fs)) all was (ap kept (rest_at fs k f h e) ∙ kept_if (is_of_program f) x f (drop (k + 1) fs)) n

pub functions_end : (x : Module) (fs : List Function) (k : ℕ) (old all : List Function) → length fs ≤ k → old ++ map (program_function x) (filter is_of_program (drop k fs)) ≡ all → old ≡ all
functions_end x fs k old all h was =
    let kept : List Function → List Function = λ gs. map (program_function x) (filter is_of_program gs) in
    ends old (kept (drop k fs)) all was (ap kept (drop_all k fs h))
