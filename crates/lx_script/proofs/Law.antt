-- What is read is in the grammar, and what is in the grammar is read.
use Rattle.std.proofs.Common.{◌≡◌, ℕ, ◌+◌, List, [], ◌∷◌, ◌++◌, length, Bool, true, false, cond, Option, Some, None, Result, Ok, Err, ◌⊎◌, inl, inr, refl, sym, ap, ◌∙◌, subst, arith}
use Rattle.std.specs.Prelude.{codes, bytes_eq, position, is_some, not, nat_lt, nat_le, ◌==◌}
use Rattle.std.proofs.lemmas.Bool.{ltb-false, leb-false, not-false, eqb-false}
use Rattle.lx_words.proofs.Lists.{same_bytes}
use Rattle.lx_words.proofs.Options.{no_value}
use Rattle.lx_script.specs.declared.case.Origin.{Origin}
use Rattle.lx_script.specs.declared.case.Origin.TheVariants as origins
use Rattle.lx_script.specs.declared.case.CaseArg.{CaseArg}
use Rattle.lx_script.specs.declared.case.CaseCall.{CaseCall}
use Rattle.lx_script.specs.declared.fault.Fault.{Fault}
use Rattle.lx_script.specs.Case.{Case, most_modules, most_threads, most_calls, most_fuel, call_count, fuel_sum}
use Rattle.lx_script.specs.Lines.{Statement}
use Rattle.lx_script.specs.Reading.{◌>>=◌, left, word_by, word_at, end_by, end_at, fixed_at, version_at, last_at, file_at, place_at, origin_at, symbol_at, argument_at, with_argument, arguments_by, arguments_at, fuel_at, spent_at, call_in, call_at, thread_at, file_of_module, module_named, module_at, statement_by, statement_at, body_at, next_at, case_at, Draft, names_of, is_module_name}
use Rattle.lx_script.specs.Grammar.{Has, origin_words, IsModule, IsThread, IsCall, AreArguments, Stands, StandAll, IsCase}
use Rattle.lx_script.proofs.Counts.{bind_ok, guard_ok, same_ok, call_fits}

-- words that are read
pub record Takes (s : Statement) (word : List ℕ) (t : Statement) : Type 0 where
  pub words : s.words ≡ word ∷ t.words
  pub row : t.row ≡ s.row
  pub stop : t.stop ≡ s.stop

taken_by : (row : ℕ) (stop : Option ℕ) (words : List (List ℕ)) (r : List ℕ × Statement) → word_by row stop words ≡ Ok r → Takes (left row stop words) r.0 r.1
taken_by row stop [] r e = cc
taken_by row stop (w ∷ ws) r e =
    let same = same_ok (w, left row stop ws) r _ refl e in
    subst (λ (p : List ℕ × Statement). Takes (left row stop (w ∷ ws)) p.0 p.1) same (record { words = refl; row = refl; stop = refl })

taken : (s : Statement) (r : List ℕ × Statement) → word_at s ≡ Ok r → Takes s r.0 r.1
unfolding word_at
taken s r e = taken_by s.row s.stop s.words r e

ended_by : (row : ℕ) (stop : Option ℕ) (words : List (List ℕ)) (u : Unit {0}) → end_by row stop words ≡ Ok u → (words ≡ []) × (stop ≡ None)
ended_by row None [] u e = (refl, refl)
ended_by row (Some b) [] u e = cc
ended_by row None (w ∷ ws) u e = cc
ended_by row (Some b) (w ∷ ws) u e = cc

ended : (s : Statement) (u : Unit {0}) → end_at s ≡ Ok u → Has s []
unfolding end_at
ended s u e = ended_by s.row s.stop s.words u e

-- which way a test went
abbrev Ways : {A : Type 0} → Bool → Result A Fault → Result A Fault → A → Type 0
Ways b x y z = ((b ≡ true) × (x ≡ Ok z)) ⊎ ((b ≡ false) × (y ≡ Ok z))

chosen : {A : Type 0} (b : Bool) (x y z : A) → cond b x y ≡ z → ((b ≡ true) × (x ≡ z)) ⊎ ((b ≡ false) × (y ≡ z))
chosen true x y z e = inl (refl, e)
chosen false x y z e = inr (refl, e)

fixed_by : (s : Statement) (text : List ℕ) (w : List ℕ × Statement) (t : Statement) (f : Fault) → Takes s w.0 w.1 → Ways (bytes_eq w.0 text) (Ok w.1) (Err f) t → Takes s text t
fixed_by s text w t f h (inl x) = subst (λ u. Takes s text u) (same_ok w.1 t (Ok w.1) refl x.1) (subst (λ v. Takes s v w.1) (same_bytes w.0 text x.0) h)
fixed_by s text w t f h (inr x) = cc (x.1)

fixed_taken : (text : List ℕ) (s t : Statement) → fixed_at text s ≡ Ok t → Takes s text t
unfolding fixed_at
fixed_taken text s t e =
    let w = bind_ok (word_at s) _ t e in
    fixed_by s text w.0 t _ (taken s w.0 w.1) (chosen (bytes_eq w.0.0 text) _ _ (Ok t) w.2)

-- a word before those that are left
before : (s t : Statement) (w : List ℕ) (ws : List (List ℕ)) → Takes s w t → Has t ws → Has s (w ∷ ws)
before s t w ws h k = (h.words ∙ ap (λ v. w ∷ v) k.0, sym h.stop ∙ k.1)

pub version_is : (s : Statement) (u : Unit {0}) → version_at s ≡ Ok u → Has s (codes "lxfi" ∷ codes "case" ∷ codes "1" ∷ [])
unfolding version_at
version_is s u e =
    let a = bind_ok (fixed_at (codes "lxfi") s) _ u e in
    let b = bind_ok (fixed_at (codes "case") a.0) _ u a.2 in
    let c = bind_ok (fixed_at (codes "1") b.0) _ u b.2 in
    before s a.0 (codes "lxfi") _ (fixed_taken (codes "lxfi") s a.0 a.1) (before a.0 b.0 (codes "case") _ (fixed_taken (codes "case") a.0 b.0 b.1) (before b.0 c.0 (codes "1") _ (fixed_taken (codes "1") b.0 c.0 c.1) (ended c.0 u c.2)))

last_is : (o : Origin) (s : Statement) (p : Origin) → last_at o s ≡ Ok p → Has s [] × (o ≡ p)
unfolding last_at
last_is o s p e = let a = bind_ok (end_at s) _ p e in (ended s a.0 a.1, same_ok o p (Ok o) refl a.2)

file_is : (s : Statement) (o : Origin) → file_at s ≡ Ok o → (name : List ℕ) × Has s (name ∷ []) × (origins.File name ≡ o)
unfolding file_at
file_is s o e =
    let w = bind_ok (word_at s) _ o e in
    let l = last_is (origins.File w.0.0) w.0.1 o w.2 in
    (w.0.0, before s w.0.1 w.0.0 [] (taken s w.0 w.1) l.0, l.1)

-- the words behind the keyword
abbrev Placed : List ℕ → Statement → Origin → Type 0
Placed word s o = (word ∷ s.words ≡ origin_words o) × (s.stop ≡ None)

place_of_file : (word : List ℕ) (s : Statement) (o : Origin) (f : Fault) → ((bytes_eq word (codes "file") ≡ true) × (file_at s ≡ Ok o)) ⊎ ((bytes_eq word (codes "file") ≡ false) × (Err f ≡ Ok o)) → Placed word s o
place_of_file word s o f (inr x) = cc (x.1)
place_of_file word s o f (inl x) =
    let k = file_is s o x.1 in
    let same : word ≡ codes "file" = same_bytes word (codes "file") x.0 in
    (ap (λ v. v ∷ s.words) same ∙ ap (λ ws. codes "file" ∷ ws) k.1.0 ∙ ap origin_words k.2, k.1.1)

place_alone : (word text : List ℕ) (s : Statement) (o p : Origin) → bytes_eq word text ≡ true → origin_words o ≡ text ∷ [] → Has s [] × (o ≡ p) → Placed word s p
place_alone word text s o p b t k = (ap (λ v. v ∷ s.words) (same_bytes word text b) ∙ ap (λ ws. text ∷ ws) k.0.0 ∙ sym t ∙ ap origin_words k.1, k.0.1)

place_by_builtin : (row : ℕ) (word : List ℕ) (s : Statement) (o : Origin) (f : Fault) → ((bytes_eq word (codes "builtin") ≡ true) × (last_at origins.Builtin s ≡ Ok o)) ⊎ ((bytes_eq word (codes "builtin") ≡ false) × (cond (bytes_eq word (codes "file")) (file_at s) (Err f) ≡ Ok o)) → Placed word s o
place_by_builtin row word s o f (inl x) = place_alone word (codes "builtin") s origins.Builtin o x.0 refl (last_is origins.Builtin s o x.1)
place_by_builtin row word s o f (inr x) = place_of_file word s o f (chosen (bytes_eq word (codes "file")) _ _ (Ok o) x.1)

place_by_none : (row : ℕ) (word : List ℕ) (s : Statement) (o : Origin) (f : Fault) → ((bytes_eq word (codes "none") ≡ true) × (last_at origins.None s ≡ Ok o)) ⊎ ((bytes_eq word (codes "none") ≡ false) × (cond (bytes_eq word (codes "builtin")) (last_at origins.Builtin s) (cond (bytes_eq word (codes "file")) (file_at s) (Err f)) ≡ Ok o)) → Placed word s o
place_by_none row word s o f (inl x) = place_alone word (codes "none") s origins.None o x.0 refl (last_is origins.None s o x.1)
place_by_none row word s o f (inr x) = place_by_builtin row word s o f (chosen (bytes_eq word (codes "builtin")) _ _ (Ok o) x.1)

place_is : (row : ℕ) (word : List ℕ) (s : Statement) (o : Origin) → place_at row word s ≡ Ok o → Placed word s o
unfolding place_at
place_is row word s o e = place_by_none row word s o _ (chosen (bytes_eq word (codes "none")) _ _ (Ok o) e)

pub origin_is : (keyword : List ℕ) (s : Statement) (o : Origin) → origin_at keyword s ≡ Ok o → Has s (keyword ∷ origin_words o)
unfolding origin_at
origin_is keyword s o e =
    let a = bind_ok (fixed_at keyword s) _ o e in
    let w = bind_ok (word_at a.0) _ o a.2 in
    let t = taken a.0 w.0 w.1 in
    let p = place_is s.row w.0.0 w.0.1 o w.2 in
    before s a.0 keyword _ (fixed_taken keyword s a.0 a.1) (t.words ∙ p.0, sym t.stop ∙ p.1)

no_threads : (ts : List (List CaseCall)) → nat_lt 0 (length ts) ≡ false → ts ≡ []
no_threads [] e = refl
no_threads (t ∷ ts) e = absurd (omega (arith, ltb-false 0 (length (t ∷ ts)) e))

module_file_is : (d : Draft) (name : List ℕ) (s : Statement) (e : Draft) → file_of_module d name s ≡ Ok e → (file : List ℕ) × Has s (file ∷ []) × (e ≡ record { modules = d.modules ++ record { name = name; file = file } ∷ []; threads = d.threads })
unfolding file_of_module
module_file_is d name s e h =
    let w = bind_ok (word_at s) _ e h in
    let z = bind_ok (end_at w.0.1) _ e w.2 in
    (w.0.0, before s w.0.1 w.0.0 [] (taken s w.0 w.1) (ended w.0.1 z.0 z.1), sym (same_ok _ e _ refl z.2))

module_is : (d : Draft) (s0 s : Statement) (e : Draft) → Takes s0 (codes "module") s → module_at d s ≡ Ok e → IsModule d s0 e
unfolding module_at module_named
module_is d s0 s e first h =
    let a = guard_ok (nat_lt 0 (length d.threads)) _ _ e h in
    let b = guard_ok (nat_le most_modules (length d.modules)) _ _ e a.1 in
    let w = bind_ok (word_at s) _ e b.1 in
    let name = w.0.0 in
    let n = guard_ok (not (is_module_name name)) _ _ e w.2 in
    let p = guard_ok (is_some (position (bytes_eq name) (names_of d.modules))) _ _ e n.1 in
    let f = module_file_is d name w.0.1 e p.1 in
    record {
      name = name;
      file = f.0;
      has = before s0 s (codes "module") _ first (before s w.0.1 name _ (taken s w.0 w.1) f.1);
      no_thread = no_threads d.threads a.0;
      room = leb-false most_modules (length d.modules) b.0;
      named = not-false (is_module_name name) n.0;
      first = no_value (position (bytes_eq name) (names_of d.modules)) p.0;
      is = f.2;
    }

thread_is : (d : Draft) (s0 s : Statement) (e : Draft) → Takes s0 (codes "thread") s → thread_at d s ≡ Ok e → IsThread d s0 e
unfolding thread_at
thread_is d s0 s e first h =
    let a = guard_ok (nat_le most_threads (length d.threads)) _ _ e h in
    let z = bind_ok (end_at s) _ e a.1 in
    record {
      has = before s0 s (codes "thread") [] first (ended s z.0 z.1);
      room = leb-false most_threads (length d.threads) a.0;
      is = sym (same_ok _ e _ refl z.2);
    }

-- arguments up to `fuel`
pub record Listed (names : List (List ℕ)) (row : ℕ) (stop : Option ℕ) (words : List (List ℕ)) (r : List CaseArg × Statement) : Type 0 where
  pub arguments : List (List ℕ)
  pub words_are : words ≡ arguments ++ codes "fuel" ∷ r.1.words
  pub say : AreArguments names row arguments r.0
  pub row_is : r.1.row ≡ row
  pub stop_is : r.1.stop ≡ stop

with_ok : (a : CaseArg) (read : Result (List CaseArg × Statement) Fault) (r : List CaseArg × Statement) → with_argument a read ≡ Ok r → (others : List CaseArg × Statement) × (read ≡ Ok others) × ((a ∷ others.0, others.1) ≡ r)
unfolding with_argument
with_ok a read r e = let o = bind_ok read _ r e in (o.0, o.1, same_ok _ r _ refl o.2)

abbrev Reading : Type 0
Reading = Result (List CaseArg × Statement) Fault

listed_end : (names : List (List ℕ)) (row : ℕ) (stop : Option ℕ) (w : List ℕ) (ws : List (List ℕ)) (r : List CaseArg × Statement) → bytes_eq w (codes "fuel") ≡ true → ([], left row stop ws) ≡ r → Listed names row stop (w ∷ ws) r
listed_end names row stop w ws r b e = subst (λ q. Listed names row stop (w ∷ ws) q) e (record {
  arguments = [];
  words_are = ap (λ v. v ∷ ws) (same_bytes w (codes "fuel") b);
  say = tt;
  row_is = refl;
  stop_is = refl;
})

listed_more : (names : List (List ℕ)) (row : ℕ) (stop : Option ℕ) (w : List ℕ) (ws : List (List ℕ)) (a : CaseArg) (others r : List CaseArg × Statement) → argument_at names row w ≡ Ok a → Listed names row stop ws others → (a ∷ others.0, others.1) ≡ r → Listed names row stop (w ∷ ws) r
listed_more names row stop w ws a others r h l e = subst (λ q. Listed names row stop (w ∷ ws) q) e (record {
  arguments = w ∷ l.arguments;
  words_are = ap (λ v. w ∷ v) l.words_are;
  say = (h, l.say);
  row_is = l.row_is;
  stop_is = l.stop_is;
})

listed_by : (names : List (List ℕ)) (row : ℕ) (stop : Option ℕ) (w : List ℕ) (ws : List (List ℕ)) (r : List CaseArg × Statement) → Ways (bytes_eq w (codes "fuel")) (Ok ([], left row stop ws)) (argument_at names row w >>= λ first. with_argument first (arguments_by names row stop ws)) r → ((q : List CaseArg × Statement) → arguments_by names row stop ws ≡ Ok q → Listed names row stop ws q) → Listed names row stop (w ∷ ws) r
listed_by names row stop w ws r (inl x) rest = listed_end names row stop w ws r x.0 (same_ok _ r _ refl x.1)
listed_by names row stop w ws r (inr x) rest =
    let a = bind_ok (argument_at names row w) _ r x.1 in
    let o = with_ok a.0 (arguments_by names row stop ws) r a.2 in
    listed_more names row stop w ws a.0 o.0 r a.1 (rest o.0 o.1) o.2

listed : (names : List (List ℕ)) (row : ℕ) (stop : Option ℕ) (words : List (List ℕ)) (r : List CaseArg × Statement) → arguments_by names row stop words ≡ Ok r → Listed names row stop words r
unfolding arguments_by
listed names row stop [] r e = cc
listed names row stop (w ∷ ws) r e = listed_by names row stop w ws r (chosen (bytes_eq w (codes "fuel")) _ _ (Ok r) e) (λ q h. listed names row stop ws q h)

-- fuel that fits
spent_is : (row spent : ℕ) (s : Statement) (r : ℕ × Statement) → spent_at row spent s ≡ Ok r → (word : List ℕ) × Takes s word r.1 × (fuel_at row word ≡ Ok r.0)
unfolding spent_at
spent_is row spent s r e =
    let w = bind_ok (word_at s) _ r e in
    let f = bind_ok (fuel_at row w.0.0) _ r w.2 in
    let g = guard_ok (nat_lt most_fuel (spent + f.0)) _ (Ok (f.0, w.0.1)) r f.2 in
    let same = same_ok (f.0, w.0.1) r _ refl g.1 in
    (w.0.0, subst (λ t. Takes s w.0.0 t) (ap (λ (p : ℕ × Statement). p.1) same) (taken s w.0 w.1), f.1 ∙ ap (λ (p : ℕ × Statement). Ok p.0) same)

-- a call, word by word
pub record Called (names : List (List ℕ)) (spent : ℕ) (s : Statement) (call : CaseCall) : Type 0 where
  pub target : List ℕ
  pub arguments : List (List ℕ)
  pub fuel : List ℕ
  pub has : Has s (target ∷ (arguments ++ codes "fuel" ∷ fuel ∷ []))
  pub target_is : symbol_at names s.row target target ≡ Ok (call.target.«module», call.target.function)
  pub arguments_are : AreArguments names s.row arguments call.args
  pub fuel_is : fuel_at s.row fuel ≡ Ok call.fuel
  pub line_is : call.line ≡ s.row

called : (names : List (List ℕ)) (spent : ℕ) (s : Statement) (call : CaseCall) → call_in names spent s ≡ Ok call → Called names spent s call
unfolding call_in
called names spent s call e =
    let w = bind_ok (word_at s) _ call e in
    let t = bind_ok (symbol_at names s.row w.0.0 w.0.0) _ call w.2 in
    let a = bind_ok (arguments_at names w.0.1) _ call t.2 in
    let f = bind_ok (spent_at s.row spent a.0.1) _ call a.2 in
    let z = bind_ok (end_at f.0.1) _ call f.2 in
    let k = taken s w.0 w.1 in
    let l = listed names w.0.1.row w.0.1.stop w.0.1.words a.0 a.1 in
    let n = spent_is s.row spent a.0.1 f.0 f.1 in
    let behind = before a.0.1 f.0.1 n.0 [] n.1 (ended f.0.1 z.0 z.1) in
    subst (λ c. Called names spent s c) (same_ok _ call _ refl z.2) (record {
      target = w.0.0;
      arguments = l.arguments;
      fuel = n.0;
      has = before s w.0.1 w.0.0 _ k (l.words_are ∙ ap (λ v. l.arguments ++ codes "fuel" ∷ v) behind.0, sym l.stop_is ∙ behind.1);
      target_is = t.1;
      arguments_are = subst (λ row. AreArguments names row l.arguments a.0.0) k.row l.say;
      fuel_is = n.2;
      line_is = refl;
    })

call_is : (d : Draft) (s0 s : Statement) (e : Draft) → Takes s0 (codes "call") s → call_at d s ≡ Ok e → IsCall d s0 e
unfolding call_at
call_is d s0 s e first h =
    let a = guard_ok (length d.threads == 0) _ _ e h in
    let b = guard_ok (nat_le most_calls (call_count d.threads)) _ _ e a.1 in
    let c = bind_ok (call_in (names_of d.modules) (fuel_sum d.threads) s) _ e b.1 in
    let k = called (names_of d.modules) (fuel_sum d.threads) s c.0 c.1 in
    record {
      target = k.target;
      arguments = k.arguments;
      fuel = k.fuel;
      call = c.0;
      has = before s0 s (codes "call") _ first k.has;
      some_thread = omega (arith, eqb-false (length d.threads) 0 a.0);
      room = leb-false most_calls (call_count d.threads) b.0;
      target_is = subst (λ row. symbol_at (names_of d.modules) row k.target k.target ≡ Ok (c.0.target.«module», c.0.target.function)) first.row k.target_is;
      arguments_are = subst (λ row. AreArguments (names_of d.modules) row k.arguments c.0.args) first.row k.arguments_are;
      fuel_is = subst (λ row. fuel_at row k.fuel ≡ Ok c.0.fuel) first.row k.fuel_is;
      fuel_fits = call_fits (names_of d.modules) (fuel_sum d.threads) s c.0 c.1;
      line_is = k.line_is ∙ first.row;
      is = sym (same_ok _ e _ refl c.2);
    }

by_call : (d : Draft) (s0 : Statement) (w : List ℕ × Statement) (e : Draft) (f : Fault) → Takes s0 w.0 w.1 → Ways (bytes_eq w.0 (codes "call")) (call_at d w.1) (Err f) e → Stands d s0 e
by_call d s0 w e f t (inl x) = inr (inr (call_is d s0 w.1 e (subst (λ v. Takes s0 v w.1) (same_bytes w.0 (codes "call") x.0) t) x.1))
by_call d s0 w e f t (inr x) = cc (x.1)

by_thread : (d : Draft) (s0 : Statement) (w : List ℕ × Statement) (e : Draft) (f : Fault) → Takes s0 w.0 w.1 → Ways (bytes_eq w.0 (codes "thread")) (thread_at d w.1) (cond (bytes_eq w.0 (codes "call")) (call_at d w.1) (Err f)) e → Stands d s0 e
by_thread d s0 w e f t (inl x) = inr (inl (thread_is d s0 w.1 e (subst (λ v. Takes s0 v w.1) (same_bytes w.0 (codes "thread") x.0) t) x.1))
by_thread d s0 w e f t (inr x) = by_call d s0 w e f t (chosen (bytes_eq w.0 (codes "call")) _ _ (Ok e) x.1)

by_module : (d : Draft) (s0 : Statement) (w : List ℕ × Statement) (e : Draft) (f : Fault) → Takes s0 w.0 w.1 → Ways (bytes_eq w.0 (codes "module")) (module_at d w.1) (cond (bytes_eq w.0 (codes "thread")) (thread_at d w.1) (cond (bytes_eq w.0 (codes "call")) (call_at d w.1) (Err f))) e → Stands d s0 e
by_module d s0 w e f t (inl x) = inl (module_is d s0 w.1 e (subst (λ v. Takes s0 v w.1) (same_bytes w.0 (codes "module") x.0) t) x.1)
by_module d s0 w e f t (inr x) = by_thread d s0 w e f t (chosen (bytes_eq w.0 (codes "thread")) _ _ (Ok e) x.1)

pub stands : (d : Draft) (s : Statement) (e : Draft) → statement_at d s ≡ Ok e → Stands d s e
unfolding statement_at statement_by
stands d s e h = let w = bind_ok (word_at s) _ e h in by_module d s w.0 e _ (taken s w.0 w.1) (chosen (bytes_eq w.0.0 (codes "module")) _ _ (Ok e) w.2)

pub stand_all : (d : Draft) (ss : List Statement) (e : Draft) → body_at d ss ≡ Ok e → StandAll d ss e
unfolding body_at
stand_all d [] e h = same_ok d e _ refl h
stand_all d (s ∷ ss) e h = let n = bind_ok (statement_at d s) _ e h in (n.0, stands d s n.0 n.1, stand_all n.0 ss e n.2)

next_is : (row : ℕ) (ss : List Statement) (r : Statement × List Statement) → next_at row ss ≡ Ok r → ss ≡ r.0 ∷ r.1
unfolding next_at
next_is row [] r e = cc
next_is row (s ∷ ss) r e = ap (λ (p : Statement × List Statement). p.0 ∷ p.1) (same_ok (s, ss) r _ refl e)

-- what is read is in the grammar
pub read_is : (ss : List Statement) (case : Case) → case_at ss ≡ Ok case → IsCase ss case
unfolding case_at
read_is ss case e =
    let first = bind_ok (next_at 1 ss) _ case e in
    let version = bind_ok (version_at first.0.0) _ case first.2 in
    let second = bind_ok (next_at first.0.0.row first.0.1) _ case version.2 in
    let kernel = bind_ok (origin_at (codes "kernel") second.0.0) _ case second.2 in
    let third = bind_ok (next_at second.0.0.row second.0.1) _ case kernel.2 in
    let interface = bind_ok (origin_at (codes "interface") third.0.0) _ case third.2 in
    let draft = bind_ok (body_at (record { modules = []; threads = [] }) third.0.1) _ case interface.2 in
    subst (λ c. IsCase ss c) (same_ok _ case _ refl draft.2) (record {
      version = first.0.0;
      kernel = second.0.0;
      interface = third.0.0;
      body = third.0.1;
      whole = next_is 1 ss first.0 first.1 ∙ ap (λ t. first.0.0 ∷ t) (next_is first.0.0.row first.0.1 second.0 second.1 ∙ ap (λ t. second.0.0 ∷ t) (next_is second.0.0.row second.0.1 third.0 third.1));
      version_has = version_is first.0.0 version.0 version.1;
      kernel_has = origin_is (codes "kernel") second.0.0 kernel.0 kernel.1;
      interface_has = origin_is (codes "interface") third.0.0 interface.0 interface.1;
      body_stands = stand_all (record { modules = []; threads = [] }) third.0.1 draft.0 draft.1;
    })
