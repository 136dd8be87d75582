-- Functions run and ask as principals of their texts.
use Rattle.std.proofs.Common.{◌≡◌, ◌↔◌, ℕ, true, Some, None, List, [], ◌∷◌, nat_eq, refl, sym, ap, subst, ◌∙◌}
use Rattle.std.proofs.lemmas.Bool.{eqb-true, eq-eqb}
use Rattle.lx_words.proofs.Options.{some_is}
use Rattle.lx_caps.specs.declared.Principal.{Principal}
use Rattle.lx_caps.specs.declared.Principal.TheVariants.{Kernel, Shared, Global, Inst}
use Rattle.lx_caps.specs.History.{is_of}
use Rattle.lx_model.specs.declared.program.Program.{Program}
use Rattle.lx_model.specs.declared.request.Request.{Request}
use Rattle.lx_model.specs.Enter.{text_of_principal}
use Rattle.lx_model.specs.Next.{next}
use Rattle.lx_model.specs.Program.{Home, home_or_kernel}
use Rattle.lx_model.specs.Thread.{Frame}
use Rattle.lx_model.specs.World.{World, run}
use Rattle.lx_run_laws.specs.Authorised.{AsksAsTop, IsOnTop}
use Rattle.lx_run_laws.specs.Laws.{RunLaws}
use Rattle.lx_run_laws.specs.Texts.{AllRunAsTexts, AsksByText, IsAskedByText, IsOfText, IsTextOnTop, RunAsTexts}
use Rattle.lx_run_laws.proofs.ReachedEntering.{IsKnown}
use Rattle.lx_run_laws.proofs.Frames.{IsAskedFrom, all_run, next_fits}
use Rattle.lx_run_laws.proofs.ReachedFrames.{Reached}

-- whose text a principal runs, and which principal it is

kernel_text : (who : Principal) → (text_of_principal who ≡ None) ↔ (who ≡ Kernel)
kernel_text Kernel = ((λ is. refl), (λ is. refl))
kernel_text (Shared m) = ((λ is. absurd (cc)), (λ is. absurd (cc)))
kernel_text (Global m) = ((λ is. absurd (cc)), (λ is. absurd (cc)))
kernel_text (Inst m k) = ((λ is. absurd (cc)), (λ is. absurd (cc)))

same_module : (n m : ℕ) → (Some n ≡ Some m) ↔ (nat_eq m n ≡ true)
same_module n m = ((λ is. eq-eqb m n (sym (some_is n m is))), (λ is. ap Some (sym (eqb-true m n is))))

module_text : (who : Principal) (m : ℕ) → (text_of_principal who ≡ Some m) ↔ (is_of m who ≡ true)
module_text Kernel m = ((λ is. absurd (cc)), (λ is. absurd (cc)))
module_text (Shared n) m = same_module n m
module_text (Global n) m = same_module n m
module_text (Inst n k) m = same_module n m

of_text : (p : Program) (f : Frame) (who : Principal) → text_of_principal who ≡ home_or_kernel p f.run.function → IsOfText p f who
of_text p f who is = record {
  kernel = subst (λ (home : Home). (home ≡ None) ↔ (who ≡ Kernel)) is (kernel_text who);
  of_module = λ m. subst (λ (home : Home). (home ≡ Some m) ↔ (is_of m who ≡ true)) is (module_text who m);
}

on_top : (p : Program) (frames : List Frame) (who : Principal) → RunAsTexts p frames → IsOnTop who frames → IsTextOnTop p who frames
on_top p [] who run is = is
on_top p (f ∷ fs) who run is = of_text p f who (ap text_of_principal is ∙ run.0.text)

asked_by : (p : Program) (P : Principal → Type 0) (frames : List Frame) (r : Request) → AsksAsTop frames r → IsAskedFrom P p frames r → IsAskedByText p frames r
asked_by p P frames r top h = record { who = h.who; between = h.between; act = λ is. on_top p frames r.who (all_run P p frames h.fit) (top is) }

pub run_as_texts : (p : Program) (w : World) → Reached p w → AllRunAsTexts p w
run_as_texts p w reached t x at = all_run (IsKnown p w.state.names) p x.frames (reached.frames t x at)

pub asks_by_text : (laws : RunLaws) (p : Program) (t : ℕ) (w : World) → Reached p w → AsksByText p t w
asks_by_text laws p t w reached x at work =
    let h = next_fits (IsKnown p w.state.names) p t x (reached.frames t x at) in
    let top = ((laws.authorised p (t ∷ []) w).0 x at work).0 in (
      all_run (IsKnown p w.state.names) p (next p t x).thread.frames h.fit,
      asked_by p (IsKnown p w.state.names) (next p t x).thread.frames (next p t x).request top h,
    )
