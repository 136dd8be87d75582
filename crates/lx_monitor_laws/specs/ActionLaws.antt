-- What an action of an annotation does to owners.
use Rattle.std.specs.Prelude.{◌≡◌, ◌⊎◌, ℕ, Bool, true, false, Some, List}
use Rattle.std.specs.List.{list_any}
use Rattle.lx_caps.specs.declared.Principal.{Principal}
use Rattle.lx_caps.specs.declared.Cap.{Cap}
use Rattle.lx_caps.specs.declared.Atom.{Atom}
use Rattle.lx_caps.specs.History.{History, has, owns}
use Rattle.lx_annot.specs.declared.expr.Env.{Env}
use Rattle.lx_model.specs.declared.program.Program.{Program}
use Rattle.lx_model.specs.declared.request.Reply.TheVariants.{Done}
use Rattle.lx_model.specs.declared.request.What.TheVariants.{Perform}
use Rattle.lx_model.specs.Authority.{is_module}
use Rattle.lx_model.specs.Next.{request}
use Rattle.lx_model.specs.Serve.{serve}
use Rattle.lx_model.specs.State.{State}
use Rattle.lx_run_laws.specs.Errands.{Errand, errand_of}

-- the atom is of one of these capabilities
abbrev pub is_of_items : List Cap → Atom → Bool
is_of_items items x = list_any (λ c. has c x) items

-- what an action that was performed makes of a history
pub record IsPerformed (dest : Principal) (e : Errand) (before after : History) : Type 0 where
  -- what is transferred is taken from everybody: only the destination owns it
  pub taken : e.transfers ≡ true → (q : Principal) (x : Atom) → is_of_items e.items x ≡ true → owns after q x ≡ true → q ≡ dest
  -- any other action takes from nobody
  pub left : e.transfers ≡ false → (q : Principal) (x : Atom) → owns before q x ≡ true → owns after q x ≡ true
  -- what is given, transferred or lent to a module is owned there
  pub given : e.gives ≡ true → is_module dest ≡ true → (x : Atom) → is_of_items e.items x ≡ true → owns after dest x ≡ true
  -- and nobody else gains anything
  pub gained : (q : Principal) (x : Atom) → owns after q x ≡ true → (owns before q x ≡ true) ⊎ (q ≡ dest)

pub record ActionLaws : Type 0 where
  pub performed : (p : Program) (s : State) (t : ℕ) (who : Principal) (n : ℕ) (post : Bool) (k : ℕ) (env : Env) (source dest : Principal) (e : Errand)
      → errand_of p s (Perform n post k env source dest) ≡ Some e → (serve p s t (request who (Perform n post k env source dest))).reply ≡ Done
      → IsPerformed dest e s.history (serve p s t (request who (Perform n post k env source dest))).state.history
