-- Phis are evaluated together: each value is found before any register is given.
use Rattle.std.proofs.Common.{◌≡◌, ℕ, zero, suc, ◌≤◌, Bool, true, false, cond, Option, Some, List, [], ◌∷◌, ◌++◌, length, take, map, refl, ap, ◌∙◌}
use Rattle.std.specs.Prelude.{IsSome, find, flat_map, slice_get}
use Rattle.std.proofs.lemmas.List.{take_all}
use Rattle.lx_words.specs.Word.{Word}
use Rattle.lx_ir.specs.declared.instr.Instr.{Instr}
use Rattle.lx_ir.specs.declared.instr.Op.{Op}
use Rattle.lx_ir.specs.declared.instr.Op.TheVariants as op
use Rattle.lx_model.specs.declared.program.Program.{Program}
use Rattle.lx_model.specs.Thread.{Activation}
use Rattle.lx_model.specs.Effect.{is_phi, with_phi, with_phis}
use Rattle.lx_image_steps.specs.declared.steps.PhiWord.{PhiWord}
use Rattle.lx_image_steps.specs.Phis.{phi_words, with_words}

give_one : (p : Program) (before : Activation) (o : Op) (rest : List PhiWord) (registers : List Word) →
    with_words (phi_words p before o ++ rest) registers ≡ with_words rest (with_phi p before o registers)
give_one p before (op.Binary to o ty a b) rest registers = refl
give_one p before (op.Compare to o ty a b) rest registers = refl
give_one p before (op.Convert to how from a into) rest registers = refl
give_one p before (op.Unary to o ty a) rest registers = refl
give_one p before (op.Select to test ty a b) rest registers = refl
give_one p before (op.Phi to ty edges) rest registers = refl
give_one p before (op.Alloca to ty) rest registers = refl
give_one p before (op.Load to ty at) rest registers = refl
give_one p before (op.Store ty v at) rest registers = refl
give_one p before (op.GetElementPtr to ty base indices) rest registers = refl
give_one p before (op.Call to ret callee args) rest registers = refl
give_one p before (op.CopyBlock moves dest source len) rest registers = refl
give_one p before (op.FillBlock dest byte len) rest registers = refl
give_one p before (op.Ret v) rest registers = refl
give_one p before (op.Jump label) rest registers = refl
give_one p before (op.Branch test a b) rest registers = refl
give_one p before (op.Switch ty v otherwise cases) rest registers = refl
give_one p before op.Unreachable rest registers = refl
give_one p before (op.Guard at size narrow) rest registers = refl
give_one p before (op.Check target) rest registers = refl
give_one p before (op.Enter f) rest registers = refl
give_one p before (op.Pre f k) rest registers = refl
give_one p before (op.Post f k) rest registers = refl
give_one p before (op.Leave f) rest registers = refl

give_all : (p : Program) (before : Activation) (is : List Instr) (registers : List Word) →
    with_words (flat_map (λ (i : Instr). phi_words p before i.op) is) registers ≡ with_phis p before (map (λ (i : Instr). i.op) is) registers
give_all p before [] registers = refl
give_all p before (i ∷ is) registers =
    give_one p before i.op (flat_map (λ (i : Instr). phi_words p before i.op) is) registers ∙ give_all p before is (with_phi p before i.op registers)

-- the words of a block's phis, given one after the other
pub phis_given : (p : Program) (before : Activation) (is : List Instr) (k : ℕ) (words : List PhiWord) (registers : List Word) → length is ≤ k →
    words ≡ flat_map (λ (i : Instr). phi_words p before i.op) (take k is) → with_words words registers ≡ with_phis p before (map (λ (i : Instr). i.op) is) registers
phis_given p before is k words registers h e =
    ap (λ (ws : List PhiWord). with_words ws registers) (e ∙ ap (flat_map (λ (i : Instr). phi_words p before i.op)) (take_all k is h)) ∙ give_all p before is registers

-- a phi among a block's instructions

found_first : (b : Bool) (o : Op) (later : Option Op) → b ≡ true → IsSome (cond b (Some o) later)
found_first false o later is = absurd (cc)
found_first true o later is = refl

found_later : (b : Bool) (o : Op) (later : Option Op) → IsSome later → IsSome (cond b (Some o) later)
found_later false o later is = is
found_later true o later is = refl

pub phi_found : (is : List Instr) (k : ℕ) (i : Instr) → slice_get is k ≡ Some i → is_phi i.op ≡ true → IsSome (find is_phi (map (λ (i : Instr). i.op) is))
phi_found [] k i at phi = absurd (cc)
phi_found (x ∷ xs) zero i at phi =
    let e : x ≡ i = cc in
    found_first (is_phi x.op) x.op (find is_phi (map (λ (i : Instr). i.op) xs)) (ap (λ (y : Instr). is_phi y.op) e ∙ phi)
phi_found (x ∷ xs) (suc k) i at phi = found_later (is_phi x.op) x.op (find is_phi (map (λ (i : Instr). i.op) xs)) (phi_found xs k i at phi)
