-- A run that certifies, as its parts change.
use Rattle.std.proofs.Common.{◌≡◌, ◌∙◌, sym, ap, subst, ℕ, ◌≤◌, List, [], ◌∷◌, ◌++◌, length, reverse}
use Rattle.std.proofs.lemmas.List.{reverse-reverse}
use Rattle.lx_caps.specs.declared.Act.{Act}
use Rattle.lx_caps.specs.History.{History, without_zeros}
use Rattle.lx_model.specs.declared.program.Program.{Program}
use Rattle.lx_model.specs.declared.program.ScriptCall.{ScriptCall}
use Rattle.lx_model.specs.State.{State}
use Rattle.lx_model.specs.World.{World, opening}
use Rattle.lx_images.specs.Image.{Code}
use Rattle.lx_images.specs.ImageWorld.{ImageWorld, image_event, image_opening, image_run}
use Rattle.lx_images.specs.Stands.{SameState}
use Rattle.lx_simulation.specs.Images.{code_of}
use Rattle.lx_world.specs.declared.world.World.{World as Held}
use Rattle.lx_world.specs.Worlds.{StandsForWorld}
use Rattle.lx_why.specs.declared.logged.Logged.{Logged}
use Rattle.lx_why.specs.declared.noted.Noted.{Noted}
use Rattle.lx_why.specs.declared.run.WhyRun.{WhyRun}
use Rattle.lx_why.specs.Noted.{HasNoted}
use Rattle.lx_why.specs.Run.{StandsForWhy, acts_of}
use Rattle.lx_why.specs.Why.{behind}
use Rattle.lx_why.proofs.Behind.{still_noted, still_within}
use Rattle.lx_model.proofs.Turns.{run_more}
use Rattle.lx_simulation.proofs.Showing.{image_run_further}

-- the list of a store that stands for the history is the acts of the world
pub acts_are : (w : World) (v : State) (acts : List Act) → SameState w.state v → without_zeros v.history ≡ reverse acts → acts ≡ acts_of w
acts_are w v acts same is = sym (reverse-reverse acts) ∙ ap reverse (sym is) ∙ ap (λ (h : History). reverse (without_zeros h)) same.history

module _ {C : Type 0} (stands : Logged C → History → Type 0) (p : Program) (script : List (List ScriptCall)) (s : List ℕ) where
  -- more acts are noted
  pub caught : (old : WhyRun C) (new : Noted) (acts : List Act) → acts ≡ acts_of (behind p script s) → (HasNoted old.noted acts → HasNoted new acts) → (old.noted.seen ≤ length acts → new.seen ≤ length acts)
      → StandsForWhy stands p script s old → StandsForWhy stands p script s (record { world = old.world; noted = new })
  caught old new acts are notes within st = record {
    images = st.images;
    accepted = st.accepted;
    guarded = st.guarded;
    world = st.world;
    noted = subst (HasNoted new) are (notes (subst (HasNoted old.noted) (sym are) st.noted));
    within = subst (λ (l : List Act). new.seen ≤ length l) are (within (subst (λ (l : List Act). old.noted.seen ≤ length l) (sym are) st.within));
  }

  -- another world stands for the same
  pub moved : (old : WhyRun C) (world : Held (Logged C)) → ((c : Code) (v : ImageWorld) → StandsForWorld stands c old.world v → StandsForWorld stands c world v)
      → StandsForWhy stands p script s old → StandsForWhy stands p script s (record { world = world; noted = old.noted })
  moved old world stays st = record {
    images = st.images;
    accepted = st.accepted;
    guarded = st.guarded;
    world = stays (code_of p st.images) (image_run (code_of p st.images) s (image_opening (code_of p st.images) script)) st.world;
    noted = st.noted;
    within = st.within;
  }

  -- or for one event more
  pub gone_on : (t : ℕ) (old : WhyRun C) (world : Held (Logged C)) → ((c : Code) (v : ImageWorld) → StandsForWorld stands c old.world v → StandsForWorld stands c world (image_event c t v))
      → StandsForWhy stands p script s old → StandsForWhy stands p script (s ++ t ∷ []) (record { world = world; noted = old.noted })
  gone_on t old world goes st =
      let code = code_of p st.images in
      let further = sym (run_more p s t (opening p script)) in
      record {
        images = st.images;
        accepted = st.accepted;
        guarded = st.guarded;
        world = subst (StandsForWorld stands code world) (sym (image_run_further code s t (image_opening code script))) (goes code (image_run code s (image_opening code script)) st.world);
        noted = subst (λ (w : World). HasNoted old.noted (acts_of w)) further (still_noted p t (behind p script s) old.noted st.within st.noted);
        within = subst (λ (w : World). old.noted.seen ≤ length (acts_of w)) further (still_within p t (behind p script s) old.noted.seen st.within);
      }
