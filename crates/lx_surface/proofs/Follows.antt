-- What follows.
use Rattle.std.proofs.Common.{◌≡◌, ℕ, Bool, true, false, Option, Some, None, List, refl, sym, ap, subst, ◌∙◌}
use Rattle.std.specs.Prelude.{⊤}
use Rattle.lx_model.specs.declared.program.Program.{Program}
use Rattle.lx_model.specs.Program.{Home, home_of}
use Rattle.lx_surface.specs.declared.Thing.{Thing}
use Rattle.lx_surface.specs.declared.Thing.TheVariants.{Function}
use Rattle.lx_surface.specs.Names.{gives_behind}
use Rattle.lx_surface.specs.Reach.{Can, from_kernel, from_other}
use Rattle.lx_surface.specs.declared.work.Work.{Work}
use Rattle.lx_surface.specs.Given.{Followed, Gave}
use Rattle.lx_surface.specs.Right.{CanFrom}
use Rattle.lx_surface.specs.Work.{is_given}
use Rattle.lx_surface.proofs.Rights.{same_grows}

no_text : (o : Option Home) (from : Home) → o ≡ None → o ≡ Some from → ⊥
no_text None from none some = absurd (cc)
no_text (Some home) from none some = absurd (cc)

pub of_no_text : (p : Program) (w : Work) (m f : ℕ) → home_of p f ≡ None → Followed p w w m f
of_no_text p w m f is = record {
  grows = same_grows w;
  right = λ i j right can. right;
  has = λ i j right can from x home gives. absurd (no_text (home_of p f) from is home);
}

follows : (p : Program) (m f : ℕ) (x : Thing) (from : Home) → home_of p f ≡ Some from → Can p m (Function f) → gives_behind p f x ≡ true → CanFrom p from x → Can p m x
follows p m f x None is can gives come = from_kernel m f x is can gives
follows p m f x (Some k) is can gives come = from_other m k f x is can gives come

same_home : (from home : Home) (o : Option Home) → o ≡ Some from → o ≡ Some home → from ≡ home
same_home from home o a b = by (sym a ∙ b) where
  by : Some from ≡ Some home → from ≡ home
  by e = cc

pub of_text : (p : Program) (a b : Work) (m f : ℕ) (from : Home) → home_of p f ≡ Some from → Gave p a b m from (gives_behind p f) → Followed p a b m f
of_text p a b m f from is gave = record {
  grows = gave.grows;
  right = λ i j right can. gave.right i j right (λ x gives come. follows p m f x from is can gives come);
  has = λ i j right can home x at gives.
      subst (λ h. is_given b m h x ≡ true) (same_home from home (home_of p f) is at) (gave.has i j right (λ y given come. follows p m f y from is can given come) x gives);
}
