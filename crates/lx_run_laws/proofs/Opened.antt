-- Who owns what before the first call.
use Rattle.std.proofs.Common.{◌≡◌, ℕ, Bool, true, false, not, ◌&&◌, ◌||◌, nat_eq, nat_lt, Option, Some, None, List, [], ◌∷◌, ◌++◌, length, filter, inl, inr, refl, sym, ap, subst, ◌∙◌, arith, if◌then◌else◌}
use Rattle.std.specs.Prelude.{cond}
use Rattle.std.specs.List.{flat_map, list_any}
use Rattle.std.proofs.lemmas.Bool.{and_from, and_parts, eq-eqb, eqb-true, or_cases, or_left, or_right, or_parts}
use Rattle.std.proofs.lemmas.Bool.Decides.{nat_tests}
use Rattle.std.proofs.lemmas.List.Folds.{list_any-append}
use Rattle.std.proofs.lemmas.Map.Views.{any-filter_same}
use Rattle.lx_words.proofs.Tests.{same_tests, nat_turned, or_false}
use Rattle.lx_caps.specs.declared.Atom.{Atom}
use Rattle.lx_caps.specs.declared.Atom.TheVariants.{Byte, Call, Ref}
use Rattle.lx_caps.specs.declared.Act.TheVariants.{Grant, Strip}
use Rattle.lx_caps.specs.declared.Cap.TheVariants as cap
use Rattle.lx_caps.specs.declared.Principal.{Principal}
use Rattle.lx_caps.specs.declared.Principal.TheVariants.{Shared}
use Rattle.lx_caps.specs.History.{History, has, owned_among, owns, same_principal}
use Rattle.lx_caps.specs.Loans.{none_end}
use Rattle.lx_caps.specs.Regions.{covers}
use Rattle.lx_ir.specs.declared.module.GlobalVar.{GlobalVar}
use Rattle.lx_ir.specs.Layout.{size_of}
use Rattle.lx_slot_types.specs.Gets.{below}
use Rattle.lx_model.specs.declared.program.Program.{Program}
use Rattle.lx_model.specs.declared.program.ProgramGlobal.{ProgramGlobal}
use Rattle.lx_model.specs.Opening.{call_granted, calls_granted, global_granted, global_of, globals_granted, is_global_of, module_opened, modules_opened, opening_history}
use Rattle.lx_model.specs.Program.{Home, Target, ToNative, ToSlot, ToImport, ToOwn, Nowhere, module_of, same_home, target}
use Rattle.lx_run_laws.specs.Opened.{calls_of, gives_byte, is_call_of, is_constant, is_constant_with, is_shared, is_variable, is_variable_with, module_globals, stays, FirstOwned, StandApart}
use Rattle.lx_run_laws.proofs.Listing.{any_below, below_any, owns_given}
use Rattle.lx_run_laws.proofs.OpeningGiven.{opening_given_to}
use Rattle.lx_caps.proofs.Tests.{no_more}
use Rattle.lx_model.proofs.Homes.{same_home_is}

-- tests

-- what is owned, what takes and gives now, what takes and gives later
in_turn : (o t g u v : Bool) → (((o && not t) || g) && not u) || v ≡ (o && not (t || u)) || ((g && not u) || v)
in_turn true true true true v = refl
in_turn true true true false v = refl
in_turn true true false true v = refl
in_turn true true false false v = refl
in_turn true false true true v = refl
in_turn true false true false v = refl
in_turn true false false true v = refl
in_turn true false false false v = refl
in_turn false t true true v = refl
in_turn false t true false v = refl
in_turn false t false true v = refl
in_turn false t false false v = refl

owned_behind : (constant who covered o : Bool) → (if constant then not covered && ((who && covered) || o) else ((who && covered) || o)) ≡ (o && not (constant && covered)) || (who && (not constant && covered))
owned_behind true true true true = refl
owned_behind true true true false = refl
owned_behind true true false true = refl
owned_behind true true false false = refl
owned_behind true false true true = refl
owned_behind true false true false = refl
owned_behind true false false true = refl
owned_behind true false false false = refl
owned_behind false true true true = refl
owned_behind false true true false = refl
owned_behind false true false true = refl
owned_behind false true false false = refl
owned_behind false false covered true = refl
owned_behind false false covered false = refl

stays_join : (gives takes : ProgramGlobal → Bool) (xs ys : List ProgramGlobal) → stays gives takes (xs ++ ys) ≡ (stays gives takes xs && not (list_any takes ys)) || stays gives takes ys
stays_join gives takes [] ys = refl
stays_join gives takes (x ∷ xs) ys =
    ap (λ b. (gives x && not b) || stays gives takes (xs ++ ys)) (list_any-append takes xs ys)
    ∙ ap (λ b. (gives x && not (list_any takes xs || list_any takes ys)) || b) (stays_join gives takes xs ys)
    ∙ sym (in_turn (gives x) (list_any takes xs) (stays gives takes xs) (list_any takes ys) (stays gives takes ys))

-- bytes

abbrev OwnedByte : Principal → ℕ → History → Bool
OwnedByte q b h = owned_among (same_principal q) none_end h (Byte b)

-- the principal is the module's, and a variable has the byte
abbrev gives_to : Principal → Home → Bool
gives_to q None = false
gives_to q (Some m) = same_principal q (Shared m)

abbrev gives : Program → Principal → ℕ → ProgramGlobal → Bool
gives p q b x = gives_to q x.«module» && is_variable_with p b x

as_before : (o k : Bool) → o ≡ (o && true) || (k && false)
as_before true k = refl
as_before false true = refl
as_before false false = refl

chosen : (q : Principal) (b : ℕ) (constant : Bool) (new old : History) → OwnedByte q b (if constant then new else old) ≡ (if constant then OwnedByte q b new else OwnedByte q b old)
chosen q b true new old = refl
chosen q b false new old = refl

granted_byte : (p : Program) (q : Principal) (b m : ℕ) (x : ProgramGlobal) (g : Option GlobalVar) (h : History) → x.«module» ≡ Some m
    → OwnedByte q b (global_granted p m x g h) ≡ (OwnedByte q b h && not (is_constant p b x g)) || (gives_to q x.«module» && is_variable p b x g)
granted_byte p q b m x None h is = as_before (OwnedByte q b h) (gives_to q x.«module»)
granted_byte p q b m x (Some g) h is =
    let owned = OwnedByte q b (global_granted p m x (Some g) h) in
    let covered = λ (home : Home). covers x.at (size_of (module_of p home).types g.ty) b in
    subst (λ (home : Home). owned ≡ (OwnedByte q b h && not (g.constant && covered home)) || (gives_to q home && (not g.constant && covered home))) (sym is)
    (chosen q b g.constant _ _ ∙ owned_behind g.constant (same_principal q (Shared m)) (covered (Some m)) (OwnedByte q b h))

globals_byte : (p : Program) (q : Principal) (b m : ℕ) (xs : List ProgramGlobal) (h : History)
    → OwnedByte q b (globals_granted p m xs h)
    ≡ (OwnedByte q b h && not (list_any (is_constant_with p b) (filter (is_global_of m) xs))) || stays (gives p q b) (is_constant_with p b) (filter (is_global_of m) xs)
globals_byte p q b m [] h = as_before (OwnedByte q b h) false
globals_byte p q b m (x ∷ xs) h = by (is_global_of m x) refl (λ old. globals_byte p q b m xs old) where
  ys : List ProgramGlobal
  ys = filter (is_global_of m) xs

  takes : ProgramGlobal → Bool
  takes = is_constant_with p b

  by : (here : Bool) → is_global_of m x ≡ here
      → ((old : History) → OwnedByte q b (globals_granted p m xs old) ≡ (OwnedByte q b old && not (list_any takes ys)) || stays (gives p q b) takes ys)
      → OwnedByte q b (globals_granted p m xs (if here then global_granted p m x (global_of p x) h else h))
      ≡ (OwnedByte q b h && not (list_any takes (cond here (x ∷ ys) ys))) || stays (gives p q b) takes (cond here (x ∷ ys) ys)
  by true is later =
      later (global_granted p m x (global_of p x) h)
      ∙ ap (λ o. (o && not (list_any takes ys)) || stays (gives p q b) takes ys) (granted_byte p q b m x (global_of p x) h (same_home_is x.«module» (Some m) is))
      ∙ in_turn (OwnedByte q b h) (takes x) (gives p q b x) (list_any takes ys) (stays (gives p q b) takes ys)
  by false is later = later h

call_byte : (q : Principal) (b m : ℕ) (x : Target) (h : History) → OwnedByte q b (call_granted m x h) ≡ OwnedByte q b h
call_byte q b m (ToNative k) h = refl
call_byte q b m (ToSlot s) h = refl
call_byte q b m (ToImport n) h = no_more (same_principal q (Shared m)) (OwnedByte q b h)
call_byte q b m (ToOwn n) h = no_more (same_principal q (Shared m)) (OwnedByte q b h)
call_byte q b m Nowhere h = refl

calls_byte : (p : Program) (q : Principal) (b m : ℕ) (fs : List ℕ) (h : History) → OwnedByte q b (calls_granted p m fs h) ≡ OwnedByte q b h
calls_byte p q b m [] h = refl
calls_byte p q b m (f ∷ fs) h = calls_byte p q b m fs (call_granted m (target p (Some m) f) h) ∙ call_byte q b m (target p (Some m) f) h

-- the globals of these modules
abbrev globals_among : Program → List ℕ → List ProgramGlobal
globals_among p ms = flat_map (λ m. filter (is_global_of m) p.globals) ms

modules_byte : (p : Program) (q : Principal) (b : ℕ) (ms : List ℕ) (h : History)
    → OwnedByte q b (modules_opened p ms h) ≡ (OwnedByte q b h && not (list_any (is_constant_with p b) (globals_among p ms))) || stays (gives p q b) (is_constant_with p b) (globals_among p ms)
modules_byte p q b [] h = as_before (OwnedByte q b h) false
modules_byte p q b (m ∷ ms) h =
    let o = OwnedByte q b h in
    let takes = is_constant_with p b in
    let now = filter (is_global_of m) p.globals in
    let later = globals_among p ms in
    modules_byte p q b ms (module_opened p m h)
    ∙ ap (λ owned. (owned && not (list_any takes later)) || stays (gives p q b) takes later)
    (calls_byte p q b m (below (length (module_of p (Some m)).functions)) (globals_granted p m p.globals h) ∙ globals_byte p q b m p.globals h)
    ∙ in_turn o (list_any takes now) (stays (gives p q b) takes now) (list_any takes later) (stays (gives p q b) takes later)
    ∙ ap (λ t. (o && not t) || ((stays (gives p q b) takes now && not (list_any takes later)) || stays (gives p q b) takes later)) (sym (list_any-append takes now later))
    ∙ ap (λ v. (o && not (list_any takes (now ++ later))) || v) (sym (stays_join (gives p q b) takes now later))

gives_same : (m : ℕ) (home : Home) → gives_to (Shared m) home ≡ same_home home (Some m)
gives_same m None = refl
gives_same m (Some k) = nat_turned m k

bytes_first : (p : Program) (m b : ℕ) → owns (opening_history p) (Shared m) (Byte b) ≡ stays (gives_byte p m b) (is_constant_with p b) (module_globals p)
bytes_first p m b =
    let same : (x : ProgramGlobal) → gives p (Shared m) b x ≡ gives_byte p m b x = λ x. ap (λ here. here && is_variable_with p b x) (gives_same m x.«module») in
    modules_byte p (Shared m) b (below (length p.modules)) []
    ∙ ap (λ (given : ProgramGlobal → Bool). stays given (is_constant_with p b) (module_globals p)) (λ j x. same x j)

-- bytes of variables, where globals stand apart

filter_any : (test keep : ProgramGlobal → Bool) (xs : List ProgramGlobal) → list_any test (filter keep xs) ≡ true → list_any test xs ≡ true
filter_any test keep [] is = is
filter_any test keep (x ∷ xs) is = by (keep x) (λ more. filter_any test keep xs more) is where
  by : (here : Bool) → (list_any test (filter keep xs) ≡ true → list_any test xs ≡ true) → list_any test (cond here (x ∷ filter keep xs) (filter keep xs)) ≡ true → (test x || list_any test xs) ≡ true
  by true behind is = elim (or_cases (test x) (list_any test (filter keep xs)) is) [
    | inl now ↦ or_left (test x) (list_any test xs) now
    | inr later ↦ or_right (test x) (list_any test xs) (behind later)
  ]
  by false behind is = or_right (test x) (list_any test xs) (behind is)

among_any : (p : Program) (test : ProgramGlobal → Bool) (ms : List ℕ) → list_any test (globals_among p ms) ≡ true → list_any test p.globals ≡ true
among_any p test [] is = absurd (cc)
among_any p test (m ∷ ms) is =
    elim (or_cases (list_any test (filter (is_global_of m) p.globals)) (list_any test (globals_among p ms)) (sym (list_any-append test (filter (is_global_of m) p.globals) (globals_among p ms)) ∙ is)) [
      | inl here ↦ filter_any test (is_global_of m) p.globals here
      | inr there ↦ among_any p test ms there
    ]

-- what a test finds nowhere among all, it finds nowhere among some
none_among : (p : Program) (test : ProgramGlobal → Bool) (ms : List ℕ) → list_any test p.globals ≡ false → list_any test (globals_among p ms) ≡ false
none_among p test ms none = same_tests _ false (λ is. sym none ∙ among_any p test ms is) (λ wrong. absurd (cc))

kept_all : (a t : Bool) → t ≡ false → (a && not t) ≡ a
kept_all true t none = ap not none
kept_all false t none = refl

stays_all : (gives takes : ProgramGlobal → Bool) (xs : List ProgramGlobal) → list_any takes xs ≡ false → stays gives takes xs ≡ list_any gives xs
stays_all gives takes [] none = refl
stays_all gives takes (x ∷ xs) none =
    let parts = or_parts (takes x) (list_any takes xs) none in
    ap (λ b. b || stays gives takes xs) (kept_all (gives x) (list_any takes xs) parts.1) ∙ ap (λ b. gives x || b) (stays_all gives takes xs parts.1)

stays_none : (gives takes : ProgramGlobal → Bool) (xs : List ProgramGlobal) → list_any gives xs ≡ false → stays gives takes xs ≡ list_any gives xs
stays_none gives takes [] none = refl
stays_none gives takes (x ∷ xs) none =
    let parts = or_parts (gives x) (list_any gives xs) none in
    ap (λ b. (b && not (list_any takes xs)) || stays gives takes xs) parts.0
    ∙ stays_none gives takes xs parts.1
    ∙ sym (ap (λ b. b || list_any gives xs) parts.0)

any_more : (test more : ProgramGlobal → Bool) → ((x : ProgramGlobal) → test x ≡ true → more x ≡ true) → (xs : List ProgramGlobal) → list_any test xs ≡ true → list_any more xs ≡ true
any_more test more go [] is = is
any_more test more go (x ∷ xs) is = elim (or_cases (test x) (list_any test xs) is) [
  | inl here ↦ or_left (more x) (list_any more xs) (go x here)
  | inr there ↦ or_right (more x) (list_any more xs) (any_more test more go xs there)
]

variable_given : (p : Program) (m b : ℕ) (x : ProgramGlobal) → gives_byte p m b x ≡ true → is_variable_with p b x ≡ true
variable_given p m b x is = (and_parts (is_global_of m x) (is_variable_with p b x) is).1

stays_apart : (p : Program) (m b : ℕ) (v : Bool) → list_any (is_variable_with p b) p.globals ≡ v → StandApart p
    → stays (gives_byte p m b) (is_constant_with p b) (module_globals p) ≡ list_any (gives_byte p m b) (module_globals p)
stays_apart p m b true is apart =
    stays_all (gives_byte p m b) (is_constant_with p b) (module_globals p) (none_among p (is_constant_with p b) (below (length p.modules)) (apart b is))
stays_apart p m b false is apart =
    stays_none (gives_byte p m b) (is_constant_with p b) (module_globals p)
    (none_among p (gives_byte p m b) (below (length p.modules))
    (same_tests _ false (λ any. sym is ∙ any_more (gives_byte p m b) (is_variable_with p b) (variable_given p m b) p.globals any) (λ wrong. absurd (cc))))

-- a module alone

one_module : (m n : ℕ) (c : ℕ → Bool) → list_any (λ j. nat_eq m j && c j) (below n) ≡ (nat_lt m n && c m)
one_module m n c = same_tests _ _ there back where
  there : list_any (λ j. nat_eq m j && c j) (below n) ≡ true → (nat_lt m n && c m) ≡ true
  there is =
      let (j, less, here) = below_any (λ j. nat_eq m j && c j) n is in
      let parts = and_parts (nat_eq m j) (c j) here in
      let same = eqb-true m j parts.0 in
      subst (λ k. (nat_lt k n && c k) ≡ true) (sym same) (and_from (nat_lt j n) (c j) (grind (arith, nat_tests, less)) parts.1)

  back : (nat_lt m n && c m) ≡ true → list_any (λ j. nat_eq m j && c j) (below n) ≡ true
  back is =
      let parts = and_parts (nat_lt m n) (c m) is in
      any_below (λ j. nat_eq m j && c j) n m (let less = parts.0 in grind (arith, nat_tests, less)) (and_from (nat_eq m m) (c m) (eq-eqb m m refl) parts.1)

of_module : (p : Program) (m b j : ℕ) → list_any (gives_byte p m b) (filter (is_global_of j) p.globals) ≡ (nat_eq m j && list_any (gives_byte p m b) p.globals)
of_module p m b j =
    any-filter_same (gives_byte p m b) (is_global_of j) (nat_eq m j)
    (λ x given. ap (λ home. same_home home (Some j)) (same_home_is x.«module» (Some m) (and_parts (is_global_of m x) (is_variable_with p b x) given).0)) p.globals

among_modules : (p : Program) (m b : ℕ) (ms : List ℕ) → list_any (gives_byte p m b) (globals_among p ms) ≡ list_any (λ j. nat_eq m j && list_any (gives_byte p m b) p.globals) ms
among_modules p m b [] = refl
among_modules p m b (j ∷ ms) =
    list_any-append (gives_byte p m b) (filter (is_global_of j) p.globals) (globals_among p ms)
    ∙ ap (λ here. here || list_any (gives_byte p m b) (globals_among p ms)) (of_module p m b j)
    ∙ ap (λ more. (nat_eq m j && list_any (gives_byte p m b) p.globals) || more) (among_modules p m b ms)

bytes_apart : (p : Program) → StandApart p → (m b : ℕ) → owns (opening_history p) (Shared m) (Byte b) ≡ (nat_lt m (length p.modules) && list_any (gives_byte p m b) p.globals)
bytes_apart p apart m b =
    bytes_first p m b
    ∙ stays_apart p m b (list_any (is_variable_with p b) p.globals) refl apart
    ∙ among_modules p m b (below (length p.modules))
    ∙ one_module m (length p.modules) (λ j. list_any (gives_byte p m b) p.globals)

-- calls and references, which no range has

abbrev Owned : Principal → Atom → History → Bool
Owned q x h = owned_among (same_principal q) none_end h x

abbrev InNoRange : Atom → Type 0
InNoRange x = (at size : ℕ) → has (cap.Write at size) x ≡ false

global_if : (q : Principal) (x : Atom) (constant : Bool) (m at size : ℕ) (h : History) → has (cap.Write at size) x ≡ false
    → Owned q x (if constant then Strip (cap.Write at size) ∷ Grant (Shared m) (cap.Write at size) ∷ h else Grant (Shared m) (cap.Write at size) ∷ h) ≡ Owned q x h
global_if q x true m at size h none =
    ap (λ b. not b && ((same_principal q (Shared m) && b) || Owned q x h)) none ∙ no_more (same_principal q (Shared m)) (Owned q x h)
global_if q x false m at size h none = ap (λ b. (same_principal q (Shared m) && b) || Owned q x h) none ∙ no_more (same_principal q (Shared m)) (Owned q x h)

global_none : (p : Program) (q : Principal) (x : Atom) (m : ℕ) (y : ProgramGlobal) (g : Option GlobalVar) (h : History) → InNoRange x → Owned q x (global_granted p m y g h) ≡ Owned q x h
global_none p q x m y None h none = refl
global_none p q x m y (Some g) h none = global_if q x g.constant m y.at _ h (none y.at _)

either : (q : Principal) (x : Atom) (b : Bool) (new old : History) → Owned q x new ≡ Owned q x old → Owned q x (if b then new else old) ≡ Owned q x old
either q x true new old same = same
either q x false new old same = refl

globals_none : (p : Program) (q : Principal) (x : Atom) (m : ℕ) (ys : List ProgramGlobal) (h : History) → InNoRange x → Owned q x (globals_granted p m ys h) ≡ Owned q x h
globals_none p q x m [] h none = refl
globals_none p q x m (y ∷ ys) h none =
    globals_none p q x m ys (if is_global_of m y then global_granted p m y (global_of p y) h else h) none
    ∙ either q x (is_global_of m y) (global_granted p m y (global_of p y) h) h (global_none p q x m y (global_of p y) h none)

-- calls

call_call : (q : Principal) (a m : ℕ) (x : Target) (h : History) → Owned q (Call a) (call_granted m x h) ≡ (same_principal q (Shared m) && is_call_of a x) || Owned q (Call a) h
call_call q a m (ToNative k) h = sym (no_more (same_principal q (Shared m)) (Owned q (Call a) h))
call_call q a m (ToSlot s) h = sym (no_more (same_principal q (Shared m)) (Owned q (Call a) h))
call_call q a m (ToImport n) h = refl
call_call q a m (ToOwn n) h = refl
call_call q a m Nowhere h = sym (no_more (same_principal q (Shared m)) (Owned q (Call a) h))

one_more : (k c l o : Bool) → (k && l) || ((k && c) || o) ≡ (k && (c || l)) || o
one_more true true true o = refl
one_more true true false o = refl
one_more true false l o = refl
one_more false c l o = refl

calls_call : (p : Program) (q : Principal) (a m : ℕ) (fs : List ℕ) (h : History)
    → Owned q (Call a) (calls_granted p m fs h) ≡ (same_principal q (Shared m) && list_any (λ f. is_call_of a (target p (Some m) f)) fs) || Owned q (Call a) h
calls_call p q a m [] h = sym (no_more (same_principal q (Shared m)) (Owned q (Call a) h))
calls_call p q a m (f ∷ fs) h =
    let k = same_principal q (Shared m) in
    let l = list_any (λ g. is_call_of a (target p (Some m) g)) fs in
    calls_call p q a m fs (call_granted m (target p (Some m) f) h)
    ∙ ap (λ o. (k && l) || o) (call_call q a m (target p (Some m) f) h)
    ∙ one_more k (is_call_of a (target p (Some m) f)) l (Owned q (Call a) h)

turned : (l x o : Bool) → l || (x || o) ≡ (x || l) || o
turned true true o = refl
turned true false o = refl
turned false true o = refl
turned false false o = refl

modules_call : (p : Program) (q : Principal) (a : ℕ) (ms : List ℕ) (h : History)
    → Owned q (Call a) (modules_opened p ms h) ≡ list_any (λ m. same_principal q (Shared m) && calls_of p a m) ms || Owned q (Call a) h
modules_call p q a [] h = refl
modules_call p q a (m ∷ ms) h =
    let now = same_principal q (Shared m) && calls_of p a m in
    let later = list_any (λ j. same_principal q (Shared j) && calls_of p a j) ms in
    modules_call p q a ms (module_opened p m h)
    ∙ ap (λ o. later || o) (calls_call p q a m (below (length (module_of p (Some m)).functions)) (globals_granted p m p.globals h))
    ∙ ap (λ o. later || (now || o)) (globals_none p q (Call a) m p.globals h (λ at size. refl))
    ∙ turned later now (Owned q (Call a) h)

calls_first : (p : Program) (m a : ℕ) → owns (opening_history p) (Shared m) (Call a) ≡ (nat_lt m (length p.modules) && calls_of p a m)
calls_first p m a =
    modules_call p (Shared m) a (below (length p.modules)) [] ∙ or_false (list_any (λ j. nat_eq m j && calls_of p a j) (below (length p.modules)))
    ∙ one_module m (length p.modules) (calls_of p a)

-- references

call_ref : (q : Principal) (ty a m : ℕ) (x : Target) (h : History) → Owned q (Ref ty a) (call_granted m x h) ≡ Owned q (Ref ty a) h
call_ref q ty a m (ToNative k) h = refl
call_ref q ty a m (ToSlot s) h = refl
call_ref q ty a m (ToImport n) h = no_more (same_principal q (Shared m)) (Owned q (Ref ty a) h)
call_ref q ty a m (ToOwn n) h = no_more (same_principal q (Shared m)) (Owned q (Ref ty a) h)
call_ref q ty a m Nowhere h = refl

calls_ref : (p : Program) (q : Principal) (ty a m : ℕ) (fs : List ℕ) (h : History) → Owned q (Ref ty a) (calls_granted p m fs h) ≡ Owned q (Ref ty a) h
calls_ref p q ty a m [] h = refl
calls_ref p q ty a m (f ∷ fs) h = calls_ref p q ty a m fs (call_granted m (target p (Some m) f) h) ∙ call_ref q ty a m (target p (Some m) f) h

modules_ref : (p : Program) (q : Principal) (ty a : ℕ) (ms : List ℕ) (h : History) → Owned q (Ref ty a) (modules_opened p ms h) ≡ Owned q (Ref ty a) h
modules_ref p q ty a [] h = refl
modules_ref p q ty a (m ∷ ms) h =
    modules_ref p q ty a ms (module_opened p m h)
    ∙ calls_ref p q ty a m (below (length (module_of p (Some m)).functions)) (globals_granted p m p.globals h)
    ∙ globals_none p q (Ref ty a) m p.globals h (λ at size. refl)

-- nobody else

others_first : (p : Program) (q : Principal) (x : Atom) → is_shared q ≡ false → owns (opening_history p) q x ≡ false
others_first p q x other =
    same_tests (owns (opening_history p) q x) false
    (λ is. sym other ∙ owns_given (λ r. is_shared r ≡ true) q (opening_history p) x is (opening_given_to (λ r. is_shared r ≡ true) p (λ m less. refl)))
    (λ wrong. absurd (cc))

pub first_owned : (p : Program) → FirstOwned p
first_owned p = record {
  bytes = bytes_first p;
  apart = bytes_apart p;
  calls = calls_first p;
  refs = λ q ty a. modules_ref p q ty a (below (length p.modules)) [];
  others = others_first p;
}
