-- What a request leaves that is served: a history within the bound, and an entry by somebody who can call the function.
use Rattle.std.proofs.Common.{◌≡◌, ℕ, zero, suc, Bool, true, false, Option, Some, None, Ok, Err, List, [], ◌∷◌, slice_get, refl, sym, ap, subst, ◌∙◌}
use Rattle.std.specs.Prelude.{⊤, unwrap_or, if◌then◌else◌}
use Rattle.lx_words.specs.Word.{Word}
use Rattle.lx_words.proofs.Lists.{any_at}
use Rattle.lx_caps.specs.declared.Principal.{Principal}
use Rattle.lx_caps.specs.declared.Cap.TheVariants as cap
use Rattle.lx_caps.specs.Heap.{alloc_address}
use Rattle.lx_caps.specs.History.{holds}
use Rattle.lx_caps.specs.Memory.{load64, number_at}
use Rattle.lx_caps.specs.Names.{Namings, named}
use Rattle.lx_annot.specs.declared.action.Who.{Who}
use Rattle.lx_annot.specs.declared.action.Who.TheVariants as who
use Rattle.lx_annot.specs.Action.{Action}
use Rattle.lx_annot.specs.Value.{Found, and_then, value}
use Rattle.lx_ir.specs.declared.module.Function.{Function as TextFunction}
use Rattle.lx_model.specs.declared.program.Program.{Program}
use Rattle.lx_model.specs.declared.program.ProgramFunction.{ProgramFunction}
use Rattle.lx_model.specs.declared.program.ProgramFunction.TheVariants.{Native, Of}
use Rattle.lx_model.specs.declared.request.Outcome.{Outcome}
use Rattle.lx_model.specs.declared.request.Outcome.TheVariants.{Refused}
use Rattle.lx_model.specs.declared.request.Refusal.TheVariants as refusal
use Rattle.lx_model.specs.declared.request.Request.{Request}
use Rattle.lx_model.specs.declared.request.Way.{Way}
use Rattle.lx_model.specs.declared.request.Way.TheVariants.{Script, Direct, Indirect, Slot}
use Rattle.lx_model.specs.declared.request.What.{What}
use Rattle.lx_model.specs.declared.request.What.TheVariants as what
use Rattle.lx_model.specs.Decide.{arg, decide, decide_what}
use Rattle.lx_model.specs.Enter.{Running, decide_enter, decide_target, entered_function, instance_named, runs_as, runs_by, runs_in, text_of_principal}
use Rattle.lx_model.specs.Next.{actions_of}
use Rattle.lx_model.specs.Program.{Home, NativeCall, Alloc, Free, ZeroBytes, TryLock, NoteValue, AliasPrincipal, annotation_of_entry, annotation_or_none, function_at, function_of, home_of, home_of_entry, home_or_kernel, is_in, native_call, no_annotation}
use Rattle.lx_model.specs.Serve.{Served, after_native, after_try_lock, entering, entering_as, grant_what, serve, serve_by, with_block}
use Rattle.lx_model.specs.State.{State}
use Rattle.lx_surface.specs.declared.Thing.{Thing}
use Rattle.lx_surface.specs.declared.Thing.TheVariants.{Function}
use Rattle.lx_surface.specs.Names.{gives, gives_behind}
use Rattle.lx_surface.specs.Reach.{Can, from_kernel, from_other, into_own}
use Rattle.lx_surface.proofs.Targets.{home_of_module}
use Rattle.lx_surface.proofs.Effects.{CanCall, IsAllowed, IsAllowedAction, IsAllowedWay}
use Rattle.lx_surface.proofs.Given.{AllWithin, IsWithin, MayGive, action_within, granted, held_call}
use Rattle.lx_surface.proofs.Replies.{EntersWell}
use Rattle.lx_model.proofs.Passing.{passed, neither}
use Rattle.lx_model.proofs.Homes.{instance_text, home_is}

-- as whom a function runs

abbrev IsOfText : Program → ℕ → Found Running → Type 0
IsOfText p n (Err at) = ⊤
IsOfText p n (Ok r) = text_of_principal r.principal ≡ home_or_kernel p n

valued : (p : Program) (names : Namings) (n m : ℕ) (found : Found ℕ) → Some m ≡ home_or_kernel p n → IsOfText p n (and_then found (λ v. Ok (instance_named names m v)))
valued p names n m (Err at) home = tt
valued p names n m (Ok v) home = instance_text names m v (named names m v) ∙ home

by_text : (p : Program) (s : State) (n m : ℕ) (args : List Word) (o : Option Who) → Some m ≡ home_or_kernel p n → IsOfText p n (runs_by s m args o)
by_text p s n m args None home = home
by_text p s n m args (Some who.Shared) home = home
by_text p s n m args (Some who.Global) home = home
by_text p s n m args (Some (who.Value e)) home = valued p s.names n m (value (load64 s.memory) (record { args = args; ret = None }) e) home

in_text : (p : Program) (s : State) (n : ℕ) (args : List Word) (o : Option Home) → home_of p n ≡ o → IsOfText p n (runs_in p s n args o)
in_text p s n args None is = sym (ap (λ o. unwrap_or o None) is)
in_text p s n args (Some None) is = sym (ap (λ o. unwrap_or o None) is)
in_text p s n args (Some (Some m)) is = by_text p s n m args (annotation_or_none p n).principal (sym (ap (λ o. unwrap_or o None) is))

if_text : (p : Program) (s : State) (caller : Principal) (n : ℕ) (args : List Word) (b : Bool) → is_in p (text_of_principal caller) n ≡ b
    → IsOfText p n (if b then Ok (record { principal = caller; names = s.names }) else runs_in p s n args (home_of p n))
if_text p s caller n args true is = sym (home_is p (text_of_principal caller) n is)
if_text p s caller n args false is = in_text p s n args (home_of p n) refl

runs_of_text : (p : Program) (s : State) (caller : Principal) (way : Way) (n : ℕ) (args : List Word) → IsOfText p n (runs_as p s caller way n args)
runs_of_text p s caller (Script f) n args = in_text p s n args (home_of p n) refl
runs_of_text p s caller (Direct f) n args = in_text p s n args (home_of p n) refl
runs_of_text p s caller (Indirect a) n args = if_text p s caller n args (is_in p (text_of_principal caller) n) refl
runs_of_text p s caller (Slot at ty) n args = in_text p s n args (home_of p n) refl

-- who enters a function can call it

no_module : (p : Program) (caller : Principal) (n : ℕ) → text_of_principal caller ≡ None → CanCall p caller n
no_module p caller n is m of = let never : None ≡ Some m = sym is ∙ of in absurd (cc)

can_enter : (p : Program) (s : State) (caller : Principal) (way : Way) (args : List Word) (n : ℕ) → IsAllowedWay p caller way → entered_function p s way ≡ Some n → decide_enter p s caller way args ≡ None
    → AllWithin p s.history → CanCall p caller n
can_enter p s caller (Script f) args n allowed is none all = no_module p caller n allowed
can_enter p s caller (Direct f) args n allowed is none all = subst (CanCall p caller) (same f n is) allowed where
  same : (a b : ℕ) → Some a ≡ Some b → a ≡ b
  same a b e = cc
can_enter p s caller (Indirect a) args n allowed is none all = λ m of.
    held_call p s.history caller a m (Function n) (passed (holds s.history caller (cap.Call a)) (Refused (refusal.Call caller a)) (neither _ (decide_target p s caller a args (function_at p a)) none).0) all of is
can_enter p s caller (Slot at ty) args n allowed is none all = no_module p caller n allowed

-- what an action may give

before_may : (p : Program) (n k : ℕ) (source dest : Principal) (a : Action) → text_of_principal dest ≡ home_or_kernel p n → slice_get (actions_of p n false) k ≡ Some a → MayGive p source dest (gives p a)
before_may p n k source dest a allowed at m x text names from =
    into_own m n x (home_of_module p n m (sym allowed ∙ text)) (any_at (λ (b : Action). gives p b x) (actions_of p n false) k a at names)

-- a function of no text has no annotation
unannotated : (p : Program) (e : Option ProgramFunction) (g : Option TextFunction) → home_of_entry e ≡ None → annotation_of_entry p e g ≡ None
unannotated p None g is = refl
unannotated p (Some (Native k)) g is = refl
unannotated p (Some (Of home f)) g is = absurd (cc)

nothing_behind : (p : Program) (n k : ℕ) (a : Action) → home_of p n ≡ None → slice_get (actions_of p n true) k ≡ Some a → ⊥
nothing_behind p n k a is at =
    let none = unannotated p (slice_get p.functions n) (function_of p n) is in
    let never : None ≡ Some a = ap (λ o. slice_get (unwrap_or o no_annotation).post k) (sym none) ∙ at in
    absurd (cc)

behind_by : (p : Program) (n m : ℕ) (x : Thing) (source : Principal) (o : Option Home) → home_of p n ≡ o → (o ≡ None → ⊥) → text_of_principal source ≡ unwrap_or o None → Can p m (Function n) → gives_behind p n x ≡ true
    → ((k : ℕ) → text_of_principal source ≡ Some k → Can p k x) → Can p m x
behind_by p n m x source None is some text can names from = absurd (some refl)
behind_by p n m x source (Some None) is some text can names from = from_kernel m n x is can names
behind_by p n m x source (Some (Some k)) is some text can names from = from_other m k n x is can names (from k text)

behind_may : (p : Program) (n k : ℕ) (source dest : Principal) (a : Action) → IsAllowedAction p n true source dest → slice_get (actions_of p n true) k ≡ Some a → MayGive p source dest (gives p a)
behind_may p n k source dest a allowed at m x text names from =
    behind_by p n m x source (home_of p n) refl (λ none. nothing_behind p n k a none at) allowed.0 (allowed.1 m text) (any_at (λ (b : Action). gives p b x) (actions_of p n true) k a at names) from

action_may : (p : Program) (n k : ℕ) (post : Bool) (source dest : Principal) (a : Action) → IsAllowedAction p n post source dest → slice_get (actions_of p n post) k ≡ Some a → MayGive p source dest (gives p a)
action_may p n k false source dest a allowed at = before_may p n k source dest a allowed at
action_may p n k true source dest a allowed at = behind_may p n k source dest a allowed at

-- what is served

pub record IsServedWell (p : Program) (caller : Principal) (x : Served) : Type 0 where
  pub within : AllWithin p x.state.history
  pub reply : EntersWell p caller x.reply

entered_well : (p : Program) (s : State) (caller : Principal) (way : Way) (n : ℕ) (found : Found Running) → AllWithin p s.history → IsOfText p n found → CanCall p caller n
    → IsServedWell p caller (entering_as p s caller way n found)
entered_well p s caller way n (Err at) all text can = record { within = all; reply = tt }
entered_well p s caller way n (Ok r) all text can = record { within = all; reply = (text, λ crossed. can) }

enters_well : (p : Program) (s : State) (caller : Principal) (way : Way) (args : List Word) (o : Option ℕ) → AllWithin p s.history → ((n : ℕ) → o ≡ Some n → CanCall p caller n)
    → IsServedWell p caller (entering p s caller way args o)
enters_well p s caller way args None all can = record { within = all; reply = tt }
enters_well p s caller way args (Some n) all can = entered_well p s caller way n (runs_as p s caller way n args) all (runs_of_text p s caller way n args) (can n refl)

blocked : (p : Program) (at size : ℕ) (s : State) → AllWithin p s.history → AllWithin p (with_block at size s).history
blocked p zero size s all = all
blocked p (suc at) size s all = all

locked : (p : Program) (caller : Principal) (s : State) (at n : ℕ) → AllWithin p s.history → IsServedWell p caller (after_try_lock s at n)
locked p caller s at zero all = record { within = all; reply = tt }
locked p caller s at (suc n) all = record { within = all; reply = tt }

native_well : (p : Program) (s : State) (t : ℕ) (caller : Principal) (k : NativeCall) (args : List Word) → AllWithin p s.history → IsServedWell p caller (after_native s t caller k args)
native_well p s t caller Alloc args all = record { within = blocked p (alloc_address s.blocks (arg args 0)) (arg args 0) s all; reply = tt }
native_well p s t caller Free args all = record { within = all; reply = tt }
native_well p s t caller ZeroBytes args all = record { within = all; reply = tt }
native_well p s t caller TryLock args all = locked p caller s (arg args 0) (number_at s.memory (arg args 0) 4) all
native_well p s t caller NoteValue args all = record { within = all; reply = tt }
native_well p s t caller AliasPrincipal args all = record { within = all; reply = tt }

write_within : (p : Program) (q : Principal) (at size : ℕ) → IsWithin p q (cap.Write at size)
write_within p q at size m x text of = absurd of

grant_well : (p : Program) (s : State) (t : ℕ) (caller : Principal) (w : What) → IsAllowed p caller w → decide_what p s t caller w ≡ None → AllWithin p s.history → IsServedWell p caller (grant_what p s t caller w)
grant_well p s t caller (what.Load at width) allowed none all = record { within = all; reply = tt }
grant_well p s t caller (what.Store at w) allowed none all = record { within = all; reply = tt }
grant_well p s t caller (what.Copy to from len) allowed none all = record { within = all; reply = tt }
grant_well p s t caller (what.Fill to byte len) allowed none all = record { within = all; reply = tt }
grant_well p s t caller (what.Alloca at size) allowed none all = record { within = granted p caller (cap.Write at size) _ (write_within p caller at size) all; reply = tt }
grant_well p s t caller (what.Enter way args) allowed none all =
    enters_well p s caller way args (entered_function p s way) all (λ n is. can_enter p s caller way args n allowed is none all)
grant_well p s t caller (what.Perform n post k env source dest) allowed none all = record {
  within = action_within p s t env source dest (slice_get (actions_of p n post) k) (λ a at. action_may p n k post source dest a allowed at) all;
  reply = tt;
}
grant_well p s t caller (what.Return low high) allowed none all = record { within = all; reply = tt }
grant_well p s t caller (what.Native k args) allowed none all = native_well p s t caller (native_call k) args all
grant_well p s t caller (what.Finish o) allowed none all = record { within = all; reply = tt }

decided_well : (d : Option Outcome) (p : Program) (s : State) (t : ℕ) (r : Request) → decide p s t r ≡ d → IsAllowed p r.who r.what → AllWithin p s.history → IsServedWell p r.who (serve_by d p s t r)
decided_well None p s t r is allowed all = grant_well p s t r.who r.what allowed is all
decided_well (Some o) p s t r is allowed all = record { within = all; reply = tt }

pub served_well : (p : Program) (s : State) (t : ℕ) (r : Request) → IsAllowed p r.who r.what → AllWithin p s.history → IsServedWell p r.who (serve p s t r)
served_well p s t r allowed all =
    let h = decided_well (decide p s t r) p s t r refl allowed all in
    record { within = h.within; reply = h.reply }
