-- A world of images, in parts and whole.
use Rattle.std.proofs.Common.{◌≡◌, ◌∙◌, sym, ap, subst, ℕ, suc, true, List, [], ◌∷◌}
use Rattle.lx_caps.specs.History.{History}
use Rattle.lx_model.specs.declared.program.Program.{Program}
use Rattle.lx_model.specs.World.{is_done}
use Rattle.lx_images.specs.Image.{Code, ImageThread}
use Rattle.lx_images.specs.ImageWorld.{ImageWorld}
use Rattle.lx_images.specs.Shown.{shown}
use Rattle.lx_simulation.specs.Showing.{ShowingLaws}
use Rattle.lx_interp.specs.declared.runner.Runner.{Runner}
use Rattle.lx_serve.specs.Stands.{StandsForState, program_of}
use Rattle.lx_serve.specs.declared.shared.SharedPart.{SharedPart}
use Rattle.lx_caplock.specs.declared.knowledge.Entry.{Entry}
use Rattle.lx_caplock.specs.Serving.{state_after}
use Rattle.lx_threads.specs.Machines.{AreEvents}
use Rattle.lx_threads.specs.Working.{AllStand as AllRun}
use Rattle.lx_world.specs.declared.runners.Runners.{Runners}
use Rattle.lx_world.specs.declared.world.World.{World}
use Rattle.lx_world.specs.Parts.{list_of, AreParts}
use Rattle.lx_world.specs.Worlds.{StandsFor, AllStand, StandsForWorld}
use Rattle.lx_threads.specs.declared.runner.ThreadCode.{ThreadCode}
use Rattle.lx_threads.specs.Imaged.{imaged, images_behind, ImageMonitorLaws}
use Rattle.lx_threads.specs.Running.{HasRun}
use Rattle.lx_threads.proofs.Monitoring.{monitored}

abbrev runs : ThreadCode → ℕ → Runner → ImageThread → Type 0
runs text t r v = StandsFor text.code t r v

-- the same, thread by thread
pub all_run : (text : ThreadCode) (c : Code) (t : ℕ) (rs : List Runner) (vs : List ImageThread) → text.code ≡ c → AllStand c t rs vs → AllRun runs text t rs vs
all_run text c t [] [] is all = tt
all_run text c t [] (v ∷ vs) is all = absurd all
all_run text c t (r ∷ rs) [] is all = absurd all
all_run text c t (r ∷ rs) (v ∷ vs) is all = (subst (λ (d : Code). StandsFor d t r v) (sym is) all.0, all_run text c (suc t) rs vs is all.1)

pub all_stand : (text : ThreadCode) (c : Code) (t : ℕ) (rs : List Runner) (vs : List ImageThread) → text.code ≡ c → AllRun runs text t rs vs → AllStand c t rs vs
all_stand text c t [] [] is all = tt
all_stand text c t [] (v ∷ vs) is all = absurd all
all_stand text c t (r ∷ rs) [] is all = absurd all
all_stand text c t (r ∷ rs) (v ∷ vs) is all = (subst (λ (d : Code). StandsFor d t r v) is all.0, all_stand text c (suc t) rs vs is all.1)

module _ {C : Type 0} (stands : C → History → Type 0) where
  -- the parts of a world that stands for one
  pub record Parts (c : Code) (part : SharedPart C) (rs : List Runner) (text : ThreadCode) (m : ImageWorld) : Type 0 where
    pub code : text.code ≡ c
    pub state : StandsForState stands c.program part m.state
    pub own : StandsForState stands (program_of part) part m.state
    pub threads : AllRun runs text 0 rs m.threads

  pub parts_of : (c : Code) (world : World C) (m : ImageWorld) (part : SharedPart C) (list : Runners) (code : Code) (rs : List Runner) → StandsForWorld stands c world m → AreParts world part list code → rs ≡ list_of list
      → Parts c part rs (record { code = code }) m
  parts_of c world m part list code rs st are is =
      let same : code ≡ c = sym are.code ∙ st.code in
      let state = subst (λ (x : SharedPart C). StandsForState stands c.program x m.state) are.shared st.shared in record {
        code = same;
        state = state;
        own = subst (λ (q : Program). StandsForState stands q part m.state) (sym state.program) state;
        threads = subst (λ (l : List Runner). AllRun runs (record { code = code }) 0 l m.threads) (sym (is ∙ ap list_of (sym are.runners))) (all_run (record { code = code }) c 0 (list_of world.runners) m.threads same st.threads);
      }

  -- the new world has run
  pub has_run : (laws : ImageMonitorLaws) (showing : ShowingLaws) (c : Code) (served : Program) (part : SharedPart C) (list : Runners) (text : ThreadCode) (done : World C) (before : ImageWorld) (vs : List ImageThread) (history : List Entry)
      → text.code ≡ c → served ≡ c.program → program_of part ≡ c.program
      → AreEvents (imaged text.code) served before.state before.threads history vs → StandsForState stands (program_of part) part (state_after served before.state history)
      → AllRun runs text 0 (list_of list) vs → AreParts done part list text.code
      → ((d : Code) (w : ImageWorld) → StandsForWorld stands d done w → true ≡ is_done (shown w))
      → HasRun stands done c history before (images_behind c before history vs)
  has_run laws showing c served part list text done before vs history is is_served is_part events state threads are ended =
      let behind : ImageWorld = images_behind c before history vs in
      let happened : AreEvents (imaged c) c.program before.state before.threads history vs =
      subst (λ (d : Code). AreEvents (imaged d) c.program before.state before.threads history vs) is
      (subst (λ (q : Program). AreEvents (imaged text.code) q before.state before.threads history vs) is_served events) in
      let shared : StandsForState stands c.program part behind.state =
      subst (λ (q : Program). StandsForState stands q part behind.state) is_part
      (subst (λ (q : Program). StandsForState stands (program_of part) part (state_after q before.state history)) is_served state) in
      let st : StandsForWorld stands c done behind = record {
        code = are.code ∙ is;
        shared = subst (λ (x : SharedPart C). StandsForState stands c.program x behind.state) (sym are.shared) shared;
        threads = subst (λ (l : Runners). AllStand c 0 (list_of l) vs) (sym are.runners) (all_stand text c 0 (list_of list) vs is threads);
      } in
      let ran = laws.runs c before history vs happened in record {
        stands_for = st;
        run = ran;
        monitored = monitored showing c before behind history ran (sym (ended c behind st));
        whole = laws.whole c before history vs happened (sym (ended c behind st));
      }
