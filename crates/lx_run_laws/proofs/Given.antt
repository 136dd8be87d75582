-- To whom a history gives, where all that it gave before was to such principals.
use Rattle.std.proofs.Common.{ℕ, ◌<◌, Option, [], ◌∷◌, length, arith}
use Rattle.std.specs.Prelude.{⊤}
use Rattle.lx_caps.specs.declared.Principal.{Principal}
use Rattle.lx_caps.specs.declared.Principal.TheVariants.{Kernel, Shared, Global, Inst}
use Rattle.lx_caps.specs.declared.Act.TheVariants as acts
use Rattle.lx_caps.specs.declared.Cap.{Cap}
use Rattle.lx_caps.specs.History.{History, with_grant, with_lend}
use Rattle.lx_caps.specs.Names.{Namings, instance_count}
use Rattle.lx_annot.specs.declared.expr.Env.{Env}
use Rattle.lx_annot.specs.Action.{Action}
use Rattle.lx_model.specs.declared.program.Program.{Program}
use Rattle.lx_model.specs.Decide.{result_or_none}
use Rattle.lx_model.specs.Serve.{history_or}
use Rattle.lx_model.specs.State.{State}
use Rattle.lx_run_laws.proofs.Names.{HasGrown, counts_grow}
use Rattle.lx_model.proofs.ActKeeps.{Keeps, Any, action_keeps}

-- the module is one of the program's, and has such an instance
abbrev pub IsCounted : Program → Namings → Principal → Type 0
IsCounted p names Kernel = ⊥
IsCounted p names (Shared m) = m < length p.modules
IsCounted p names (Global m) = m < length p.modules
IsCounted p names (Inst m k) = (m < length p.modules) × (k < instance_count names m)

-- it is the kernel, or else this holds of it
abbrev pub OrKernel : (Principal → Type 0) → Principal → Type 0
OrKernel G Kernel = ⊤
OrKernel G (Shared m) = G (Shared m)
OrKernel G (Global m) = G (Global m)
OrKernel G (Inst m k) = G (Inst m k)

pub counted_more : (p : Program) (old new : Namings) → HasGrown old new → (q : Principal) → IsCounted p old q → IsCounted p new q
counted_more p old new more Kernel is = is
counted_more p old new more (Shared m) is = is
counted_more p old new more (Global m) is = is
counted_more p old new more (Inst m k) is = (is.0, let grown = counts_grow old new m more in let less = is.1 in omega (arith, grown, less))

pub or_kernel_more : (G H : Principal → Type 0) → ((q : Principal) → G q → H q) → (q : Principal) → OrKernel G q → OrKernel H q
or_kernel_more G H more Kernel is = tt
or_kernel_more G H more (Shared m) is = more (Shared m) is
or_kernel_more G H more (Global m) is = more (Global m) is
or_kernel_more G H more (Inst m k) is = more (Inst m k) is

-- this holds of each principal that a grant or a lend names
abbrev pub AllGiven : (Principal → Type 0) → History → Type 0
AllGiven G [] = ⊤
AllGiven G (acts.Grant q c ∷ h) = G q × AllGiven G h
AllGiven G (acts.Strip c ∷ h) = AllGiven G h
AllGiven G (acts.Zero at size ∷ h) = AllGiven G h
AllGiven G (acts.Loan t ∷ h) = AllGiven G h
AllGiven G (acts.Lend t q c ∷ h) = G q × AllGiven G h
AllGiven G (acts.Shut t n ∷ h) = AllGiven G h
AllGiven G (acts.ShutAll t ∷ h) = AllGiven G h

pub given_more : (G H : Principal → Type 0) → ((q : Principal) → G q → H q) → (h : History) → AllGiven G h → AllGiven H h
given_more G H more [] all = tt
given_more G H more (acts.Grant q c ∷ h) all = (more q all.0, given_more G H more h all.1)
given_more G H more (acts.Strip c ∷ h) all = given_more G H more h all
given_more G H more (acts.Zero at size ∷ h) all = given_more G H more h all
given_more G H more (acts.Loan t ∷ h) all = given_more G H more h all
given_more G H more (acts.Lend t q c ∷ h) all = (more q all.0, given_more G H more h all.1)
given_more G H more (acts.Shut t n ∷ h) all = given_more G H more h all
given_more G H more (acts.ShutAll t ∷ h) all = given_more G H more h all

-- grants, lends and strips

pub granted : (G : Principal → Type 0) (q : Principal) (c : Cap) (h : History) → OrKernel G q → AllGiven G h → AllGiven G (with_grant q c h)
granted G Kernel c h is all = all
granted G (Shared m) c h is all = (is, all)
granted G (Global m) c h is all = (is, all)
granted G (Inst m k) c h is all = (is, all)

lent_one : (G : Principal → Type 0) (t : ℕ) (q : Principal) (c : Cap) (h : History) → OrKernel G q → AllGiven G h → AllGiven G (with_lend t q c h)
lent_one G t Kernel c h is all = all
lent_one G t (Shared m) c h is all = (is, all)
lent_one G t (Global m) c h is all = (is, all)
lent_one G t (Inst m k) c h is all = (is, all)

-- an action gives to its destination alone
pub action_given : (G : Principal → Type 0) (p : Program) (s : State) (t : ℕ) (env : Env) (source dest : Principal) (a : Option Action) → OrKernel G dest → AllGiven G s.history
    → AllGiven G (history_or (result_or_none p s t a env source dest) s.history)
action_given G p s t env source dest a is all = action_keeps (AllGiven G) p s t a env source dest keeps all where
  keeps : Keeps (AllGiven G) t source dest s.history Any
  keeps = record {
    grant = λ transfers c h passes named given. granted G dest c h is given;
    strip = λ c h passes given. given;
    loan = λ h given. given;
    lend = λ c h passes named given. lent_one G t dest c h is given;
    shut = λ k h given. given;
  }
