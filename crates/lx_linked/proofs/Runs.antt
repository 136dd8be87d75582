-- A well-formed program is that of its texts, so each of its runs is explained, and lawful where its calls fit.
use Rattle.std.proofs.Common.{◌≡◌, ℕ, zero, suc, ◌≤◌, true, Some, List, [], ◌∷◌, length, slice_get, refl, sym, subst}
use Rattle.std.specs.Prelude.{All}
use Rattle.std.proofs.lemmas.List.Elements.{All-head, All-tail}
use Rattle.lx_ir.specs.declared.module.Module.{Module}
use Rattle.lx_annot.specs.declared.interface.Interface.{Interface}
use Rattle.lx_model.specs.declared.program.Program.{Program}
use Rattle.lx_model.specs.declared.program.ProgramModule.{ProgramModule}
use Rattle.lx_model.specs.declared.program.ScriptCall.{ScriptCall}
use Rattle.lx_model.specs.Program.{module_of, module_or_empty}
use Rattle.lx_model.specs.World.{opening, run}
use Rattle.lx_link_texts.specs.Placing.{program_of}
use Rattle.lx_link_texts.specs.WellFormed.{texts_of, IsModuleOf, IsWellFormed, FitsCalls}
use Rattle.lx_run_laws.specs.RefusalLaws.{RefusalLaws}
use Rattle.lx_run_laws.specs.ReachedLaws.{ReachedLaws}
use Rattle.lx_run_laws.specs.Listed.{has_homes}
use Rattle.lx_run_laws.specs.Opened.{StandApart}
use Rattle.lx_linked.specs.FittingLaws.{FittingLaws}
use Rattle.lx_linked.specs.AssignedLaws.{AssignedLaws}
use Rattle.lx_linked.specs.SiteLaws.{SiteLaws}
use Rattle.lx_linked.specs.Paths.{HasLawfulGlobals}
use Rattle.lx_linked.specs.Explained.{HasTypesByFields, IsExplainedRun}
use Rattle.lx_linked.specs.Fitting.{IsFittingRun}
use Rattle.lx_linked.proofs.Apart.{apart}
use Rattle.lx_linked.proofs.Homes.{homes}

of_texts : (p : Program) → IsWellFormed p → program_of (texts_of p) ≡ p
of_texts p w =
    λ k. record {
      kernel = p.kernel;
      modules = p.modules;
      functions = sym w.functions k;
      globals = sym w.globals k;
      interface = p.interface;
    }

-- each module's globals are within the limits, since it is verified
lawful_in : SiteLaws → (kernel : Module) (i : Interface) (ms : List ProgramModule) → All (λ (m : ProgramModule). IsModuleOf kernel i m.«module») ms → (k : ℕ)
    → HasLawfulGlobals (module_or_empty (slice_get ms k))
lawful_in sites kernel i [] all k = refl
lawful_in sites kernel i (m ∷ ms) all zero = sites.lawful m.«module» (All-head (λ (x : ProgramModule). IsModuleOf kernel i x.«module») m ms all).verified.lawful
lawful_in sites kernel i (m ∷ ms) all (suc k) = lawful_in sites kernel i ms (All-tail (λ (x : ProgramModule). IsModuleOf kernel i x.«module») m ms all) k

typed_by_fields : SiteLaws → (i : Interface) (m : Module) → HasLawfulGlobals m → HasTypesByFields i m
typed_by_fields sites i m lawful = record {
  got = sites.got i m lawful;
  first = sites.first i m lawful;
  none = sites.none i m lawful;
}

-- the laws that a run is explained by
pub record Laws : Type 0 where
  pub sites : SiteLaws
  pub refusals : RefusalLaws
  pub reached : ReachedLaws

pub explained : Laws → (p : Program) → IsWellFormed p → (script : List (List ScriptCall)) (schedule : List ℕ) → IsExplainedRun p script schedule
explained laws p w script schedule =
    let is = of_texts p w in
    let homed : has_homes p ≡ true = subst (λ q. has_homes q ≡ true) is (homes (texts_of p)) in
    record {
      caused = laws.refusals.caused p script schedule;
      explained = laws.refusals.runs p schedule (opening p script);
      first = laws.reached.first p;
      apart = subst StandApart is (apart (texts_of p));
      typed = λ m. typed_by_fields laws.sites p.interface (module_of p (Some m)) (lawful_in laws.sites p.kernel p.interface p.modules w.modules m);
      reached = λ s. record {
        listed = laws.reached.listed p script s homed;
        slot_calls = λ t. laws.reached.slot_calls p script s t homed;
        numbered = laws.reached.numbered p script s;
        texts = laws.reached.texts p script s;
        asked = laws.reached.asked p script s;
        stopped = λ t. laws.reached.stopped p t (run p s (opening p script));
      };
    }

-- where calls fit, so does all that is asked for, and no register is read before it is given
pub fitting_run : FittingLaws → AssignedLaws → (p : Program) → IsWellFormed p → (script : List (List ScriptCall)) (schedule : List ℕ) → length script ≤ 16 → FitsCalls p script
    → IsFittingRun p script schedule
fitting_run fitting assigned p w script schedule few fits = record {
  assigned = assigned.assigned p w script schedule fits;
  lawful = λ s t thread is_at. (fitting.runs p script s t thread w few fits is_at).1;
}
