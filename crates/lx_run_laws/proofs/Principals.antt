-- Every principal of a world that a run reaches is listed.
use Rattle.std.proofs.Common.{◌≡◌, ℕ, Bool, true, List, [], ◌∷◌, ◌++◌, inl, inr, length, map, ◌&&◌, refl, sym, ap, subst, ◌∙◌}
use Rattle.std.specs.List.{flat_map, list_all, list_any}
use Rattle.std.proofs.lemmas.Bool.{and_from, and_parts, or_cases, or_left, or_right}
use Rattle.std.proofs.lemmas.List.{append_assoc}
use Rattle.std.proofs.lemmas.List.Folds.{list_any-append}
use Rattle.std.proofs.lemmas.Map.Views.{any-filter_same}
use Rattle.lx_caps.specs.declared.Atom.{Atom}
use Rattle.lx_caps.specs.declared.Cap.{Cap}
use Rattle.lx_caps.specs.declared.Cap.TheVariants.{Call}
use Rattle.lx_caps.specs.declared.Principal.{Principal}
use Rattle.lx_caps.specs.declared.Principal.TheVariants.{Kernel, Shared, Global, Inst}
use Rattle.lx_caps.specs.History.{has, holds, owns, same_principal}
use Rattle.lx_caps.specs.Memory.{number_at}
use Rattle.lx_caps.specs.Names.{Namings}
use Rattle.lx_caps.specs.Writers.{is_slot_writer}
use Rattle.lx_model.specs.declared.account.Owned.{Owned}
use Rattle.lx_model.specs.declared.program.Program.{Program}
use Rattle.lx_model.specs.Account.{account, owned_by}
use Rattle.lx_model.specs.Enter.{slot_writers}
use Rattle.lx_model.specs.Owned.{owned_caps}
use Rattle.lx_model.specs.State.{State, principals}
use Rattle.lx_model.specs.Thread.{Frame}
use Rattle.lx_model.specs.World.{World}
use Rattle.lx_run_laws.specs.Listed.{has_homes, is_kernel_or_listed, is_listed, IsPart, ListsPrincipals, NumbersInstances, WritersHold}
use Rattle.lx_run_laws.specs.Laws.{RunLaws}
use Rattle.lx_run_laws.proofs.Covered.{caps_covered}
use Rattle.lx_run_laws.proofs.ReachedEntering.{IsKnown}
use Rattle.lx_run_laws.proofs.Frames.{AllFit}
use Rattle.lx_run_laws.proofs.Given.{IsCounted, OrKernel, given_more}
use Rattle.lx_run_laws.proofs.Listing.{counted_listed, owns_given, receivers_pass, slot_writer_given}
use Rattle.lx_run_laws.proofs.Names.{counts_grow, named_below}
use Rattle.lx_run_laws.proofs.ReachedFrames.{Reached, event_grown}
use Rattle.lx_caps.proofs.Principals.{same_principal_itself, same_principal_is}

-- frames

known_listed : (p : Program) (names : Namings) (q : Principal) → OrKernel (IsCounted p names) q → is_kernel_or_listed p names q ≡ true
known_listed p names Kernel is = refl
known_listed p names (Shared m) is = counted_listed p names (Shared m) is
known_listed p names (Global m) is = counted_listed p names (Global m) is
known_listed p names (Inst m k) is = counted_listed p names (Inst m k) is

frames_listed : (p : Program) (names : Namings) (frames : List Frame) → has_homes p ≡ true → AllFit (IsKnown p names) p frames
    → list_all (λ f. is_kernel_or_listed p names f.principal) frames ≡ true
frames_listed p names [] homes fit = refl
frames_listed p names (f ∷ fs) homes fit =
    and_from (is_kernel_or_listed p names f.principal) _ (known_listed p names f.principal (fit.0.known homes)) (frames_listed p names fs homes fit.1)

-- writers

is_asked : (p : Program) (s : State) (slot : ℕ) (q : Principal) → is_slot_writer s.history slot q ≡ true → is_listed p s.names q ≡ true
    → list_any (same_principal q) (slot_writers p s slot) ≡ true
is_asked p s slot q writes listed =
    any-filter_same (same_principal q) (is_slot_writer s.history slot) true
    (λ k same. subst (λ r. is_slot_writer s.history slot r ≡ true) (same_principal_is q k same) writes) (principals p s.names)
    ∙ listed

-- what an account reports of a principal that is listed

regrouped : (a b c d : List Owned) → a ++ (b ++ c ++ d) ≡ a ++ b ++ c ++ d
regrouped a b c d = sym (append_assoc a (b ++ c) d) ∙ ap (λ front. front ++ d) (sym (append_assoc a b c))

is_part : (f : Principal → List Owned) (q : Principal) (qs : List Principal) → list_any (same_principal q) qs ≡ true → IsPart (f q) (flat_map f qs)
is_part f q [] is = absurd (cc)
is_part f q (r ∷ rs) is =
    elim (or_cases (same_principal q r) (list_any (same_principal q) rs) is) [
      | inl here ↦ record { before = []; after = flat_map f rs; stands = ap (λ k. f k ++ flat_map f rs) (sym (same_principal_is q r here)) }
      | inr there ↦ (let rest = is_part f q rs there in record {
        before = f r ++ rest.before;
        after = rest.after;
        stands = ap (λ more. f r ++ more) rest.stands ∙ regrouped (f r) rest.before (f q) rest.after;
      })
    ]

-- each atom is reported

-- the report has this atom of the principal
abbrev Reports : Principal → Atom → List Owned → Type 0
Reports q x os = list_any (λ (o : Owned). same_principal q o.who && has o.cap x) os ≡ true

caps_reported : (q : Principal) (x : Atom) (cs : List Cap) → list_any (λ c. has c x) cs ≡ true → Reports q x (map (λ c. record { who = q; cap = c }) cs)
caps_reported q x [] is = is
caps_reported q x (c ∷ cs) is = elim (or_cases (has c x) (list_any (λ k. has k x) cs) is) [
  | inl here ↦ or_left (same_principal q q && has c x) _ (and_from (same_principal q q) (has c x) (same_principal_itself q) here)
  | inr there ↦ or_right (same_principal q q && has c x) _ (caps_reported q x cs there)
]

part_reported : (q : Principal) (x : Atom) (part whole : List Owned) → IsPart part whole → Reports q x part → Reports q x whole
part_reported q x part whole is there =
    let test = λ (o : Owned). same_principal q o.who && has o.cap x in
    ap (λ os. list_any test os) is.stands
    ∙ list_any-append test (is.before ++ part) is.after
    ∙ or_left (list_any test (is.before ++ part)) _ (list_any-append test is.before part ∙ or_right (list_any test is.before) _ there)

pub lists_principals : (p : Program) (w : World) → has_homes p ≡ true → Reached p w → ListsPrincipals p w
lists_principals p w homes reached =
    let given = reached.state.given homes in
    let listed = counted_listed p w.state.names in
    let owner = λ (q : Principal) (x : Atom) (is : owns w.state.history q x ≡ true). listed q (owns_given (IsCounted p w.state.names) q w.state.history x is given) in
    record {
      owners = owner;
      receivers = receivers_pass (is_listed p w.state.names) w.state.history
          (given_more (IsCounted p w.state.names) (λ q. is_listed p w.state.names q ≡ true) listed w.state.history given);
      frames = λ t x at. frames_listed p w.state.names x.frames homes (reached.frames t x at);
      writers = λ slot q is. is_asked p w.state slot q is (listed q (slot_writer_given (IsCounted p w.state.names) q w.state.history slot is given));
      accounted = λ q x is. is_part (owned_by p w.state) q (principals p w.state.names) (owner q x is);
      reported = λ q x is named. part_reported q x (owned_by p w.state q) (account p w).owners (is_part (owned_by p w.state) q (principals p w.state.names) (owner q x is))
          (caps_reported q x (owned_caps (length p.interface.reftypes) w.state.history q) (caps_covered (length p.interface.reftypes) w.state.history q x named is));
    }

-- what all of a list do, one of it does
all_do : (does : Principal → Bool) (q : Principal) (qs : List Principal) → list_all does qs ≡ true → list_any (same_principal q) qs ≡ true → does q ≡ true
all_do does q [] all is = absurd (cc)
all_do does q (r ∷ rs) all is =
    let both = and_parts (does r) (list_all does rs) all in
    elim (or_cases (same_principal q r) (list_any (same_principal q) rs) is) [
      | inl here ↦ subst (λ k. does k ≡ true) (sym (same_principal_is q r here)) both.0
      | inr there ↦ all_do does q rs both.1 there
    ]

pub writers_hold : (laws : RunLaws) (p : Program) (t : ℕ) (w : World) → has_homes p ≡ true → Reached p w → WritersHold p t w
writers_hold laws p t w homes reached x slot ty args n entered crosses at work asks replied q writes =
    all_do (λ v. holds w.state.history v (Call (number_at w.state.memory slot 8))) q (slot_writers p w.state slot)
    (((laws.authorised p (t ∷ []) w).0 x at work).1.by_writers slot ty args n entered crosses asks replied) ((lists_principals p w homes reached).writers slot q writes)

pub numbers_instances : (p : Program) (w : World) → Reached p w → NumbersInstances p w
numbers_instances p w reached = record {
  named = λ m v k is. named_below w.state.names m v k reached.state.numbered is;
  added = λ t. let grown = event_grown p t w reached in (grown.more, grown.is);
  counts = λ t m. counts_grow w.state.names _ m (event_grown p t w reached);
}
