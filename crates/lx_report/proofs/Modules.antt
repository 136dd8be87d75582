-- Slot types of modules that a program has or lacks.
use Rattle.std.proofs.Common.{◌≡◌, refl, sym, subst, ℕ, List, [], ◌∷◌, Some, None, false, length, slice_get}
use Rattle.std.specs.Prelude.{find}
use Rattle.std.proofs.Common.{get_or}
use Rattle.std.proofs.lemmas.List.Elements.{All-get_or}
use Rattle.std.proofs.lemmas.Option.{slice_get_within, get_or_from_slice_get}
use Rattle.lx_annot.specs.declared.interface.Interface.{Interface}
use Rattle.lx_ir.specs.Lawful.{IsLawful}
use Rattle.lx_slot_types.specs.Gets.{below, slot_of}
use Rattle.lx_model.specs.declared.program.Program.{Program}
use Rattle.lx_model.specs.declared.program.ProgramModule.{ProgramModule}
use Rattle.lx_model.specs.Program.{empty_module}
use Rattle.lx_report.specs.Lawful.{HasLawfulModules}

found_none : (ns : List ℕ) → find (λ n. false) ns ≡ None
found_none [] = refl
found_none (n ∷ ns) = found_none ns

-- no function of an empty module gets a slot type
pub no_slot : (i : Interface) (f : ℕ) → None ≡ slot_of i empty_module f
no_slot i f = sym (found_none (below (length i.slots)))

-- a module of the program is lawful
pub lawful_at : (p : Program) (k : ℕ) (m : ProgramModule) → HasLawfulModules p → slice_get p.modules k ≡ Some m → IsLawful m.«module»
lawful_at p k m h is =
    let e : get_or p.modules k m ≡ m = get_or_from_slice_get p.modules k m m is in
    subst (λ (x : ProgramModule). IsLawful x.«module») e (All-get_or (λ (x : ProgramModule). IsLawful x.«module») p.modules k m (slice_get_within p.modules k m is) h)
