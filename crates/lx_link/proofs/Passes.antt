-- Lemmas on passes: a first fault in a list, and what a pass answers.
use Rattle.std.proofs.Common.{◌≡◌, ◌⊎◌, ℕ, ◌+◌, ◌<◌, ◌≤◌, Option, Some, None, List, length, get_or, drop, nat_le, true, refl, ap, sym, inl, inr, ◌∙◌, arith}
use Rattle.std.proofs.lemmas.Bool.Decides.{nat_tests}
use Rattle.std.specs.Option.{option_or}
use Rattle.std.proofs.lemmas.List.{drop_all}
use Rattle.lx_words.proofs.Lists.{rest_at}
use Rattle.lx_ir.specs.Faults.{first_some}
use Rattle.lx_script.specs.Case.{Case}
use Rattle.lx_model.specs.declared.program.Program.{Program}
use Rattle.lx_link_texts.specs.declared.sources.Sources.{Sources}
use Rattle.lx_link_texts.specs.Faults.{Fault, fault_unless, functions_fault, globals_fault, limit_fault, most_functions, text_fault}
use Rattle.lx_link_texts.specs.Placing.{functions_of, globals_end, last_end, program_of}
use Rattle.lx_link.specs.declared.fault.LinkFault.{LinkFault}
use Rattle.lx_link.specs.declared.fault.LinkFault.TheVariants.{Memory}
use Rattle.lx_link.specs.Answers.{IsFault, IsFaultOr, IsWanted, answered, link_fault, source_fault}
use Rattle.lx_link.specs.Calls.{script_fault}
use Rattle.lx_link_texts.proofs.Sound.{passes}

pub first_step : {A B : Type 0} (f : A → Option B) (xs : List A) (i : ℕ) (x : A) → i < length xs → x ≡ get_or xs i x → first_some f (drop i xs) ≡ option_or (f x) (first_some f (drop (i + 1) xs))
first_step f xs i x h e = ap (first_some f) (rest_at xs i x h e)

pub first_end : {A B : Type 0} (f : A → Option B) (xs : List A) (i : ℕ) → length xs ≤ i → first_some f (drop i xs) ≡ None
first_end f xs i h = ap (first_some f) (drop_all i xs h)

-- What is answered.

pub is_answer : (w : Type 0) (c : Case) (f : Fault) (e : LinkFault) → e ≡ answered c f → IsFaultOr w c (Some f) e
is_answer w c f e h = inr (f, refl, h)

pub not_named : (w : Type 0) (c : Case) (x : Option Fault) (e : LinkFault) → e ≡ Memory → w → IsFaultOr w c x e
not_named w c x e h want = inl (h, want)

pub any_want : (w : Type 0) (c : Case) (x : Option Fault) (e : LinkFault) → IsFaultOr w c x e → IsFault c x e
any_want w c x e h = elim h [
  | inl m ↦ inl m.0
  | inr f ↦ inr f
]

-- want of memory for another reason, and the fault of a row of passes
other_row : (v w : Type 0) (c : Case) (x y : Option Fault) (e : LinkFault) → (v → w) → ((f : Fault) → x ≡ Some f → y ≡ Some f) → IsFaultOr v c x e → IsFaultOr w c y e
other_row v w c x y e weaker same h = elim h [
  | inl m ↦ inl (m.0, weaker m.1)
  | inr f ↦ inr (f.0, same f.0 f.1, f.2)
]

row_first : (a b d : Option Fault) (f : Fault) → option_or a b ≡ Some f → option_or a (option_or b d) ≡ Some f
row_first None b d f h = ap (λ z. option_or z d) h
row_first (Some x) b d f h = h

row_passed : (a b d : Option Fault) → option_or a b ≡ None → option_or a (option_or b d) ≡ d
row_passed None b d h = ap (λ z. option_or z d) h
row_passed (Some x) b d h = absurd (cc)

row_second : (a b : Option Fault) → option_or a b ≡ None → b ≡ None
row_second None b h = h
row_second (Some x) b h = absurd (cc)

row_front : (a b : Option Fault) → option_or a b ≡ None → a ≡ None
row_front None b h = refl
row_front (Some x) b h = absurd (cc)

within : (n m : ℕ) (x : Fault) → fault_unless (nat_le n m) x ≡ None → n ≤ m
within n m x h = let t : nat_le n m ≡ true = passes (nat_le n m) x h in grind (arith, nat_tests, t)

-- texts and limits without a fault

pub few_functions : (s : Sources) (p : Program) → source_fault s ≡ None → p ≡ program_of s → length p.functions ≤ most_functions
few_functions s p h e =
    let few = within (length (functions_of s)) most_functions _ (row_front (functions_fault s) (globals_fault s) (row_second (text_fault s) (limit_fault s) h)) in
    let same : length p.functions ≡ length (functions_of s) = ap (λ (q : Program). length q.functions) e in
    omega (arith, few, same)

pub globals_fit : (s : Sources) → source_fault s ≡ None → globals_end s ≤ last_end
globals_fit s h = within (globals_end s) last_end _ (row_second (functions_fault s) (globals_fault s) (row_second (text_fault s) (limit_fault s) h))

-- The ends of linking.

pub source_stops : (v w : Type 0) (c : Case) (s : Sources) (e : LinkFault) → IsFaultOr v c (source_fault s) e → IsFaultOr (IsWanted v w s) c (link_fault s c) e
source_stops v w c s e h =
    other_row v (IsWanted v w s) c (source_fault s) (link_fault s c) e (λ want. inl want)
    (row_first (text_fault s) (limit_fault s) (script_fault (program_of s) c.threads)) h

pub no_table : (v w : Type 0) (c : Case) (s : Sources) (x : Option Fault) (e : LinkFault) → source_fault s ≡ None → w → e ≡ Memory → IsFaultOr (IsWanted v w s) c x e
no_table v w c s x e none lacks h = inl (h, inr (lacks, none))

pub calls_stop : (v w : Type 0) (c : Case) (x : Option Fault) (e : LinkFault) → IsFaultOr v c x e → IsFaultOr (v ⊎ w) c x e
calls_stop v w c x e h = other_row v (v ⊎ w) c x x e (λ want. inl want) (λ f is. is) h

pub lacked : (v w : Type 0) (c : Case) (x : Option Fault) (e : LinkFault) → w → e ≡ Memory → IsFaultOr (v ⊎ w) c x e
lacked v w c x e lacks h = inl (h, inr lacks)

pub script_stops : (v w : Type 0) (c : Case) (s : Sources) (p : Program) (e : LinkFault) → source_fault s ≡ None → p ≡ program_of s → IsFaultOr (v ⊎ w) c (script_fault p c.threads) e → IsFaultOr (IsWanted v w s) c (link_fault s c) e
script_stops v w c s p e none is h =
    let all = row_passed (text_fault s) (limit_fault s) (script_fault (program_of s) c.threads) none in
    other_row (v ⊎ w) (IsWanted v w s) c (script_fault p c.threads) (link_fault s c) e
    (λ want. elim want [
      | inl names ↦ inl names
      | inr lacks ↦ inr (lacks, none)
    ])
    (λ f x. all ∙ ap (λ (q : Program). script_fault q c.threads) (sym is) ∙ x) h

pub all_passed : (c : Case) (s : Sources) (p : Program) → source_fault s ≡ None → p ≡ program_of s → script_fault p c.threads ≡ None → link_fault s c ≡ None
all_passed c s p none is h =
    row_passed (text_fault s) (limit_fault s) (script_fault (program_of s) c.threads) none ∙ ap (λ (q : Program). script_fault q c.threads) (sym is) ∙ h

pub either_wanted : (v w : Type 0) (c : Case) (s : Sources) (x : Option Fault) (e : LinkFault) → IsFaultOr (IsWanted v w s) c x e → IsFaultOr (v ⊎ w) c x e
either_wanted v w c s x e h =
    other_row (IsWanted v w s) (v ⊎ w) c x x e (λ want. elim want [
      | inl names ↦ inl names
      | inr tables ↦ inr tables.0
    ]) (λ f is. is) h
