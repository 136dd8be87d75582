-- What acts leave of who keeps the bytes of a stack.
use Rattle.std.proofs.Common.{◌≡◌, ℕ, ◌+◌, ◌<◌, ◌≤◌, Bool, true, false, ◌&&◌, List, [], ◌∷◌, Option, None, refl, arith}
use Rattle.lx_caps.specs.declared.Principal.{Principal}
use Rattle.lx_caps.specs.declared.Principal.TheVariants.{Kernel, Shared, Global, Inst}
use Rattle.lx_caps.specs.declared.Cap.{Cap}
use Rattle.lx_caps.specs.declared.Cap.TheVariants as cap
use Rattle.lx_caps.specs.declared.Atom.TheVariants.{Byte}
use Rattle.lx_caps.specs.declared.Act.TheVariants.{Strip}
use Rattle.lx_caps.specs.Regions.{covers, overlaps, stacks_start, region_size, stack_start, stack_end}
use Rattle.lx_caps.specs.History.{History, has, keeps, same_principal, with_grant, with_lend}
use Rattle.lx_model.specs.Thread.{Range, Frame, top_of_stack}
use Rattle.std.specs.Prelude.{slice_get}
use Rattle.std.proofs.lemmas.Bool.{or_right, not-true}
use Rattle.lx_words.proofs.Tests.{not_and}
use Rattle.lx_annot.specs.declared.expr.Env.{Env}
use Rattle.lx_annot.specs.Action.{Action}
use Rattle.lx_model.specs.declared.program.Program.{Program}
use Rattle.lx_model.specs.State.{State}
use Rattle.lx_model.specs.Next.{actions_of}
use Rattle.lx_model.specs.Decide.{result_or_none, action_result}
use Rattle.lx_model.specs.Serve.{history_or}
use Rattle.lx_model.specs.Act.{on_stack, item_refusal, outside}
use Rattle.lx_images.specs.Kept.{KeepsAll, LiesIn, FramesKept}
use Rattle.lx_caps.proofs.Covering.{covers_above}
use Rattle.lx_model.proofs.Passing.{passed, neither}
use Rattle.lx_model.proofs.ActKeeps.{Keeps, Any, action_keeps}

-- who kept a byte from `low` up to `high` keeps it still
abbrev pub Spares : ℕ → ℕ → History → History → Type 0
Spares low high h g = (q : Principal) (b : ℕ) → low ≤ b → b < high → keeps h q (Byte b) ≡ true → keeps g q (Byte b) ≡ true

pub covers_below : (at size b : ℕ) → b < at → covers at size b ≡ false
covers_below at size b h = grind (arith, h)

pub spares_strip_above : (low high at size : ℕ) (h : History) → high ≤ at → Spares low high h (Strip (cap.Write at size) ∷ h)
spares_strip_above low high at size h l q b lb bh o = not_and (covers at size b) (keeps h q (Byte b)) (covers_below at size b (omega arith)) o

pub spares_strip_below : (low high at size : ℕ) (h : History) → at + size ≤ low → Spares low high h (Strip (cap.Write at size) ∷ h)
spares_strip_below low high at size h l q b lb bh o = not_and (covers at size b) (keeps h q (Byte b)) (covers_above at size b (omega arith)) o

pub spares_grant : (low high : ℕ) (d : Principal) (c : Cap) (h g : History) → Spares low high h g → Spares low high h (with_grant d c g)
spares_grant low high Kernel c h g s q b lb bh o = s q b lb bh o
spares_grant low high (Shared m) c h g s q b lb bh o = or_right (same_principal q (Shared m) && has c (Byte b)) (keeps g q (Byte b)) (s q b lb bh o)
spares_grant low high (Global m) c h g s q b lb bh o = or_right (same_principal q (Global m) && has c (Byte b)) (keeps g q (Byte b)) (s q b lb bh o)
spares_grant low high (Inst m k) c h g s q b lb bh o = or_right (same_principal q (Inst m k) && has c (Byte b)) (keeps g q (Byte b)) (s q b lb bh o)

-- a lend gives nothing to keep
spares_lend : (low high t : ℕ) (d : Principal) (c : Cap) (h g : History) → Spares low high h g → Spares low high h (with_lend t d c g)
spares_lend low high t Kernel c h g s = s
spares_lend low high t (Shared m) c h g s = s
spares_lend low high t (Global m) c h g s = s
spares_lend low high t (Inst m k) c h g s = s

-- a transfer takes no byte of a stack
abbrev pub NoByte : ℕ → ℕ → Cap → Type 0
NoByte low high c = (b : ℕ) → low ≤ b → b < high → has c (Byte b) ≡ false

no_overlap : (at size b : ℕ) → overlaps at size stacks_start region_size ≡ false → stacks_start ≤ b → b < stacks_start + region_size → covers at size b ≡ false
no_overlap at size b e l h = grind (arith, e, l, h)

-- refusals

off_stack : (low high : ℕ) (source : Principal) (c : Cap) → stacks_start ≤ low → high ≤ stacks_start + region_size → on_stack true source c ≡ None → NoByte low high c
off_stack low high source (cap.Write at size) l h e b lb bh =
    no_overlap at size b (not-true (overlaps at size stacks_start region_size) (passed _ _ e)) (omega arith) (omega arith)
off_stack low high source (cap.Call a) l h e b lb bh = refl
off_stack low high source (cap.Ref ty a) l h e b lb bh = refl

-- actions

pub same_history : (low high : ℕ) (h : History) → Spares low high h h
same_history low high h q b lb bh o = o

-- a transfer that is not refused takes no byte of a stack
stripped_spares : (low high : ℕ) (h g : History) (source : Principal) (c : Cap) → stacks_start ≤ low → high ≤ stacks_start + region_size → item_refusal h true true source c ≡ None → Spares low high h g
    → Spares low high h (Strip c ∷ g)
stripped_spares low high h g source c l u e s q b lb bh o =
    let off = (neither (on_stack true source c) _ (neither (outside source c) _ e).1).0 in
    not_and (has c (Byte b)) (keeps g q (Byte b)) (off_stack low high source c l u off b lb bh) (s q b lb bh o)

action_spares : (low high : ℕ) (p : Program) (s : State) (t : ℕ) (a : Option Action) (env : Env) (source dest : Principal) → stacks_start ≤ low → high ≤ stacks_start + region_size →
    Spares low high s.history (history_or (result_or_none p s t a env source dest) s.history)
action_spares low high p s t a env source dest l u = action_keeps (Spares low high s.history) p s t a env source dest keeps_it (same_history low high s.history) where
  keeps_it : Keeps (Spares low high s.history) t source dest s.history Any
  keeps_it = record {
    grant = λ transfers c g passes named spared. spares_grant low high dest c s.history g spared;
    strip = λ c g passes spared. stripped_spares low high s.history g source c l u passes spared;
    loan = λ g spared. spared;
    lend = λ c g passes named spared. spares_lend low high t dest c s.history g spared;
    shut = λ k g spared. spared;
  }

-- an action of an annotation spares the stacks
pub perform_spares : (low high : ℕ) (p : Program) (s : State) (t n : ℕ) (post : Bool) (k : ℕ) (env : Env) (source dest : Principal) → stacks_start ≤ low → high ≤ stacks_start + region_size →
    Spares low high s.history (history_or (action_result p s t n post k env source dest) s.history)
perform_spares low high p s t n post k env source dest l u = action_spares low high p s t (slice_get (actions_of p n post) k) env source dest l u

-- the part of a thread's stack that its frames have

pub starts_below : (h : History) (t : ℕ) (fs : List Frame) → FramesKept h t fs → stack_start t ≤ top_of_stack t fs
starts_below h t [] k = omega arith
starts_below h t (f ∷ fs) k = let l : stack_start t ≤ top_of_stack t fs = starts_below h t fs k.2 in
    let a : top_of_stack t fs ≤ f.run.low = k.0.0 in let b : f.run.low ≤ f.run.high = k.0.1 in omega (arith, l, a, b)

pub ends_above : (h : History) (t : ℕ) (fs : List Frame) → FramesKept h t fs → top_of_stack t fs ≤ stack_end t
ends_above h t [] k = grind arith
ends_above h t (f ∷ fs) k = k.0.2

keeps_spared : (low high : ℕ) (h g : History) (q : Principal) (rs : List Range) → Spares low high h g → LiesIn low high rs → KeepsAll h q rs → KeepsAll g q rs
keeps_spared low high h g q rs s lies own b m w = s q b (lies b w).0 (lies b w).1 (own b m w)

narrower : (a b low high : ℕ) (h g : History) → a ≤ low → high ≤ b → Spares a b h g → Spares low high h g
narrower a b low high h g l u s q x lx xh o = s q x (omega arith) (omega arith) o

-- frames keep their bytes where those are spared
pub frames_spared : (h g : History) (t : ℕ) (fs : List Frame) → Spares (stack_start t) (top_of_stack t fs) h g → FramesKept h t fs → FramesKept g t fs
frames_spared h g t [] s k = tt
frames_spared h g t (f ∷ fs) s k =
    let l : stack_start t ≤ top_of_stack t fs = starts_below h t fs k.2 in
    let a : top_of_stack t fs ≤ f.run.low = k.0.0 in
    let b : f.run.low ≤ f.run.high = k.0.1 in (
      k.0,
      keeps_spared f.run.low f.run.high h g f.principal f.run.allocas (narrower (stack_start t) f.run.high f.run.low f.run.high h g (omega (arith, l, a)) (omega arith) s) k.0.3 k.1,
      frames_spared h g t fs (narrower (stack_start t) f.run.high (stack_start t) (top_of_stack t fs) h g (omega arith) (omega (arith, a, b)) s) k.2,
    )
