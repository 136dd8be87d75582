-- Lemmas on passes: a first fault in a list, and what a pass answers.
use Rattle.std.proofs.Common.{◌≡◌, ℕ, zero, suc, ◌+◌, ◌<◌, ◌≤◌, Bool, ◌||◌, Option, Some, None, List, [], ◌∷◌, length, get_or, drop, map, refl, sym, ap, ◌∙◌, arith, nat_le, le-leb}
use Rattle.std.specs.Prelude.{flat_map}
use Rattle.std.specs.List.{list_any}
use Rattle.std.specs.Option.{option_or}
use Rattle.std.proofs.lemmas.List.{drop_all, length-map}
use Rattle.std.proofs.lemmas.Bool.{lt-leb}
use Rattle.lx_words.proofs.Lists.{rest_at}
use Rattle.lx_ir.specs.declared.module.Module.{Module}
use Rattle.lx_ir.specs.Faults.{first_some}
use Rattle.lx_model.specs.declared.program.ProgramModule.{ProgramModule}
use Rattle.lx_link_texts.specs.Faults.{Fault, fault_unless, first_module}
use Rattle.lx_caps.proofs.Items.{any_append}

pub first_step : {A B : Type 0} (f : A → Option B) (xs : List A) (i : ℕ) (x : A) → i < length xs → x ≡ get_or xs i x → first_some f (drop i xs) ≡ option_or (f x) (first_some f (drop (i + 1) xs))
first_step f xs i x h e = ap (first_some f) (rest_at xs i x h e)

pub first_end : {A B : Type 0} (f : A → Option B) (xs : List A) (i : ℕ) → length xs ≤ i → first_some f (drop i xs) ≡ None
first_end f xs i h = ap (first_some f) (drop_all i xs h)

-- a fault that comes first is the answer
pub first_answer : (x rest y : Option Fault) (e : Fault) → y ≡ option_or x rest → x ≡ Some e → y ≡ Some e
first_answer x rest y e p h = p ∙ ap (λ z. option_or z rest) h

-- without a fault a pass goes on
pub passed : (x rest y : Option Fault) → y ≡ option_or x rest → x ≡ None → y ≡ rest
passed x rest y e h = e ∙ ap (λ z. option_or z rest) h

pub module_step : (f : ℕ → Module → Option Fault) (ms : List ProgramModule) (i : ℕ) (m : ProgramModule) → i < length ms → m ≡ get_or ms i m → first_module f i (drop i ms) ≡ option_or (f i m.«module») (first_module f (i + 1) (drop (i + 1) ms))
module_step f ms i m h e = ap (first_module f i) (rest_at ms i m h e)

pub module_end : (f : ℕ → Module → Option Fault) (ms : List ProgramModule) (i : ℕ) → length ms ≤ i → first_module f i (drop i ms) ≡ None
module_end f ms i h = ap (first_module f i) (drop_all i ms h)

mapped : {A B : Type 0} (f : A → B) (xs : List A) (i : ℕ) (x : A) (y : B) → i < length xs → x ≡ get_or xs i x → get_or (map f xs) i y ≡ f x
mapped f [] i x y h p = absurd (omega arith)
mapped f (z ∷ zs) zero x y h p = ap f (sym p)
mapped f (z ∷ zs) (suc i) x y h p = mapped f zs i x y (omega arith) p

-- one of the elements of some list
pub any_flat : {A B : Type 0} (p : B → Bool) (f : A → List B) (xs : List A) → list_any p (flat_map f xs) ≡ list_any (λ x. list_any p (f x)) xs
any_flat p f [] = refl
any_flat p f (x ∷ xs) = any_append p (f x) (flat_map f xs) ∙ ap (λ b. list_any p (f x) || b) (any_flat p f xs)

-- the element of a mapped list at a place
pub map_at : {A B : Type 0} (f : A → B) (xs : List A) (ys : List B) (i : ℕ) (x : A) (y : B) → ys ≡ map f xs → i < length xs → x ≡ get_or xs i x → y ≡ get_or ys i y → y ≡ f x
map_at f xs ys i x y e h p q =
    let a : get_or ys i y ≡ get_or (map f xs) i y = ap (λ zs. get_or zs i y) e in
    q ∙ a ∙ mapped f xs i x y h p

pub map_long : {A B : Type 0} (f : A → B) (xs : List A) (ys : List B) (i : ℕ) → ys ≡ map f xs → i < length xs → i < length ys
map_long f xs ys i e h = let n : length ys ≡ length xs = ap length e ∙ length-map xs f in omega arith

-- limits

pub is_within : (n m : ℕ) (x : Fault) → n ≤ m → fault_unless (nat_le n m) x ≡ None
is_within n m x h = ap (λ b. fault_unless b x) (le-leb n m h)

pub is_past : (n m : ℕ) (x : Fault) → m < n → fault_unless (nat_le n m) x ≡ Some x
is_past n m x h = ap (λ b. fault_unless b x) (lt-leb n m h)
