-- Texts of the first modules.
use Rattle.std.proofs.Common.{◌≡◌, ◌∙◌, sym, ap, ℕ, zero, suc, Some, List, [], ◌∷◌, map, take}
use Rattle.std.specs.Prelude.{slice_get}
use Rattle.lx_ir.specs.declared.module.Module.{Module}
use Rattle.lx_model.specs.declared.program.ProgramModule.{ProgramModule}
use Rattle.lx_name_tables.specs.Texts.{AreTextsOf}

text_of : ProgramModule → Module
text_of m = m.«module»

some_same : (x y : Module) → Some x ≡ Some y → y ≡ x
some_same x y e = cc

first_texts : (ms : List ProgramModule) (i : ℕ) → AreTextsOf ms (map (λ m. m.«module») (take i ms))
first_texts [] zero k text at = absurd (cc)
first_texts [] (suc i) k text at = absurd (cc)
first_texts (m ∷ ms) zero k text at = absurd (cc)
first_texts (m ∷ ms) (suc i) zero text at = some_same m.«module» text at
first_texts (m ∷ ms) (suc i) (suc k) text at = first_texts ms i k text at

pub are_texts : (ms : List ProgramModule) (texts : List Module) (i : ℕ) → texts ≡ map (λ m. m.«module») (take i ms) → AreTextsOf ms texts
are_texts ms texts i e k text at = first_texts ms i k text (sym (ap (λ l. slice_get l k) e) ∙ at)
