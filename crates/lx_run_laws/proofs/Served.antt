-- What a request leaves that is served: names that are numbered, and acts that give to principals that are there.
use Rattle.std.proofs.Common.{◌≡◌, ℕ, ◌<◌, ◌≤◌, zero, suc, true, Option, Some, None, Ok, Err, List, slice_get, refl, subst, arith}
use Rattle.std.specs.Prelude.{⊤}
use Rattle.lx_words.specs.Word.{Word}
use Rattle.lx_caps.specs.declared.Principal.{Principal}
use Rattle.lx_caps.specs.declared.Cap.TheVariants as cap
use Rattle.lx_caps.specs.Heap.{alloc_address}
use Rattle.lx_caps.specs.Memory.{number_at}
use Rattle.lx_caps.specs.NameLaws.{IsNumbered}
use Rattle.lx_caps.specs.Names.{Namings, instance_count}
use Rattle.lx_annot.specs.Value.{Found}
use Rattle.lx_model.specs.declared.program.Program.{Program}
use Rattle.lx_model.specs.declared.request.Outcome.{Outcome}
use Rattle.lx_model.specs.declared.request.Request.{Request}
use Rattle.lx_model.specs.declared.request.Way.{Way}
use Rattle.lx_model.specs.declared.request.What.{What}
use Rattle.lx_model.specs.declared.request.What.TheVariants as what
use Rattle.lx_model.specs.Decide.{arg, decide}
use Rattle.lx_model.specs.Enter.{Running, entered_function, runs_as, text_of_principal}
use Rattle.lx_model.specs.Next.{actions_of}
use Rattle.lx_model.specs.Program.{Home, NativeCall, Alloc, Free, ZeroBytes, TryLock, NoteValue, AliasPrincipal, native_call}
use Rattle.lx_model.specs.Serve.{Served, after_alias, after_native, after_try_lock, entering, entering_as, grant_what, known_instance, serve, serve_by, with_block, with_further_name}
use Rattle.lx_model.specs.State.{State}
use Rattle.lx_run_laws.specs.Listed.{has_homes}
use Rattle.lx_run_laws.proofs.ReachedEntering.{FoundFits, IsKnown, runs_fit}
use Rattle.lx_run_laws.proofs.Given.{AllGiven, IsCounted, action_given, counted_more, given_more, granted}
use Rattle.lx_run_laws.proofs.Names.{HasGrown, grows, named_below, same_names}
use Rattle.lx_run_laws.proofs.ReachedReplies.{ReplyFits}

-- names are numbered, and what was given was given to principals that are there
pub record StateFits (p : Program) (s : State) : Type 0 where
  pub numbered : IsNumbered s.names
  pub given : has_homes p ≡ true → AllGiven (IsCounted p s.names) s.history

-- so it is in the state behind, where names have only grown, and who is entered is there
pub record ServedFits (p : Program) (s : State) (x : Served) : Type 0 where
  pub state : StateFits p x.state
  pub grown : HasGrown s.names x.state.names
  pub reply : ReplyFits (IsKnown p x.state.names) p x.reply

-- an action gives to a principal that is there
abbrev pub DestKnown : Program → Namings → What → Type 0
DestKnown p names (what.Perform n post k env source dest) = IsKnown p names dest
DestKnown p names _ = ⊤

entered_fits : (p : Program) (s : State) (who : Principal) (way : Way) (n : ℕ) (found : Found Running) → StateFits p s → FoundFits p s.names n found → ServedFits p s (entering_as p s who way n found)
entered_fits p s who way n (Err at) fit found = record { state = fit; grown = same_names s.names; reply = tt }
entered_fits p s who way n (Ok r) fit found = record {
  state = record {
    numbered = found.numbered;
    given = λ homes. given_more (IsCounted p s.names) (IsCounted p r.names) (counted_more p s.names r.names found.grown) s.history (fit.given homes);
  };
  grown = found.grown;
  reply = (found.known, found.text);
}

enters_fit : (p : Program) (s : State) (who : Principal) (way : Way) (args : List Word) (target : Option ℕ) → StateFits p s → IsKnown p s.names who → ServedFits p s (entering p s who way args target)
enters_fit p s who way args None fit known = record { state = fit; grown = same_names s.names; reply = tt }
enters_fit p s who way args (Some n) fit known = entered_fits p s who way n (runs_as p s who way n args) fit (runs_fit p s who way n args known fit.numbered)

blocks_fit : (p : Program) (at size : ℕ) (s : State) → StateFits p s → StateFits p (with_block at size s)
blocks_fit p zero size s fit = fit
blocks_fit p (suc at) size s fit = record { numbered = fit.numbered; given = fit.given }

blocks_grow : (at size : ℕ) (s : State) → HasGrown s.names (with_block at size s).names
blocks_grow zero size s = same_names s.names
blocks_grow (suc at) size s = same_names s.names

locks_fit : (p : Program) (s : State) (at n : ℕ) → StateFits p s → ServedFits p s (after_try_lock s at n)
locks_fit p s at zero fit = record { state = record { numbered = fit.numbered; given = fit.given }; grown = same_names s.names; reply = tt }
locks_fit p s at (suc n) fit = record { state = fit; grown = same_names s.names; reply = tt }

-- a further name
less_most : (a b : ℕ) → a < b → a ≤ b
less_most a b less = omega arith

further_numbered : (home : Home) (k : Option ℕ) (v : ℕ) (names : Namings) → ((m i : ℕ) → home ≡ Some m → k ≡ Some i → i < instance_count names m) → IsNumbered names
    → IsNumbered (with_further_name home k v names)
further_numbered None k v names below numbered = numbered
further_numbered (Some m) None v names below numbered = numbered
further_numbered (Some m) (Some i) v names below numbered = (less_most i (instance_count names m) (below m i refl refl), numbered)

further_grows : (home : Home) (k : Option ℕ) (v : ℕ) (names : Namings) → HasGrown names (with_further_name home k v names)
further_grows None k v names = same_names names
further_grows (Some m) None v names = same_names names
further_grows (Some m) (Some i) v names = grows (record { «module» = m; value = v; instance = i }) names

known_below : (s : State) (home : Home) (v m i : ℕ) → IsNumbered s.names → home ≡ Some m → known_instance s home v ≡ Some i → i < instance_count s.names m
known_below s None v m i numbered is there = absurd (cc)
known_below s (Some k) v m i numbered is there = subst (λ n. i < instance_count s.names n) (same k m is) (named_below s.names k v i numbered there) where
  same : (a b : ℕ) → Some a ≡ Some b → a ≡ b
  same a b e = cc

alias_fits : (p : Program) (s : State) (home : Home) (known further : ℕ) → StateFits p s → ServedFits p s (after_alias s home known further)
alias_fits p s home known further fit =
    let names = with_further_name home (known_instance s home known) further s.names in
    let grown = further_grows home (known_instance s home known) further s.names in
    record {
      state = record {
        numbered = further_numbered home (known_instance s home known) further s.names (λ m i is there. known_below s home known m i fit.numbered is there) fit.numbered;
        given = λ homes. given_more (IsCounted p s.names) (IsCounted p names) (counted_more p s.names names grown) s.history (fit.given homes);
      };
      grown = grown;
      reply = tt;
    }

native_fits : (p : Program) (s : State) (t : ℕ) (who : Principal) (k : NativeCall) (args : List Word) → StateFits p s → ServedFits p s (after_native s t who k args)
native_fits p s t who Alloc args fit = record {
  state = blocks_fit p (alloc_address s.blocks (arg args 0)) (arg args 0) s fit;
  grown = blocks_grow (alloc_address s.blocks (arg args 0)) (arg args 0) s;
  reply = tt;
}
native_fits p s t who Free args fit = record { state = record { numbered = fit.numbered; given = fit.given }; grown = same_names s.names; reply = tt }
native_fits p s t who ZeroBytes args fit = record { state = record { numbered = fit.numbered; given = fit.given }; grown = same_names s.names; reply = tt }
native_fits p s t who TryLock args fit = locks_fit p s (arg args 0) (number_at s.memory (arg args 0) 4) fit
native_fits p s t who NoteValue args fit = record { state = record { numbered = fit.numbered; given = fit.given }; grown = same_names s.names; reply = tt }
native_fits p s t who AliasPrincipal args fit = alias_fits p s (text_of_principal who) (arg args 0) (arg args 1) fit

grant_fits : (p : Program) (s : State) (t : ℕ) (who : Principal) (w : What) → StateFits p s → IsKnown p s.names who → DestKnown p s.names w → ServedFits p s (grant_what p s t who w)
grant_fits p s t who (what.Load at width) fit known dest = record { state = fit; grown = same_names s.names; reply = tt }
grant_fits p s t who (what.Store at w) fit known dest = record { state = record { numbered = fit.numbered; given = fit.given }; grown = same_names s.names; reply = tt }
grant_fits p s t who (what.Copy to from len) fit known dest = record { state = record { numbered = fit.numbered; given = fit.given }; grown = same_names s.names; reply = tt }
grant_fits p s t who (what.Fill to byte len) fit known dest = record { state = record { numbered = fit.numbered; given = fit.given }; grown = same_names s.names; reply = tt }
grant_fits p s t who (what.Alloca at size) fit known dest = record {
  state = record { numbered = fit.numbered; given = λ homes. granted (IsCounted p s.names) who (cap.Write at size) _ (known homes) (fit.given homes) };
  grown = same_names s.names;
  reply = tt;
}
grant_fits p s t who (what.Enter way args) fit known dest = enters_fit p s who way args (entered_function p s way) fit known
grant_fits p s t who (what.Perform n post k env source dest) fit known is = record {
  state = record {
    numbered = fit.numbered;
    given = λ homes. action_given (IsCounted p s.names) p s t env source dest (slice_get (actions_of p n post) k) (is homes) (fit.given homes);
  };
  grown = same_names s.names;
  reply = tt;
}
grant_fits p s t who (what.Return low high) fit known dest = record { state = record { numbered = fit.numbered; given = fit.given }; grown = same_names s.names; reply = tt }
grant_fits p s t who (what.Native k args) fit known dest = native_fits p s t who (native_call k) args fit
grant_fits p s t who (what.Finish o) fit known dest = record { state = record { numbered = fit.numbered; given = fit.given }; grown = same_names s.names; reply = tt }

decided_fits : (d : Option Outcome) (p : Program) (s : State) (t : ℕ) (r : Request) → StateFits p s → IsKnown p s.names r.who → DestKnown p s.names r.what → ServedFits p s (serve_by d p s t r)
decided_fits None p s t r fit known dest = grant_fits p s t r.who r.what fit known dest
decided_fits (Some o) p s t r fit known dest = record { state = record { numbered = fit.numbered; given = fit.given }; grown = same_names s.names; reply = tt }

-- whoever asks, where it is there
pub served_fits : (p : Program) (s : State) (t : ℕ) (r : Request) → StateFits p s → IsKnown p s.names r.who → DestKnown p s.names r.what → ServedFits p s (serve p s t r)
served_fits p s t r fit known dest =
    let h = decided_fits (decide p s t r) p s t r fit known dest in
    record { state = record { numbered = h.state.numbered; given = h.state.given }; grown = h.grown; reply = h.reply }
