-- The items of a group, one behind another.
use Rattle.std.proofs.Common.{◌≡◌, ℕ, ◌+◌, ◌-◌, ◌<◌, ◌≤◌, Bool, true, false, List, [], ◌∷◌, length, get_or, drop, min, nat_le, refl, ap, sym, subst, ◌∙◌, arith, leb-true}
use Rattle.std.specs.Prelude.{IsTrue}
use Rattle.std.proofs.lemmas.Bool.{and_parts}
use Rattle.std.proofs.lemmas.List.{length-drop}
use Rattle.lx_words.proofs.Lists.{rest_at}
use Rattle.lx_caps.specs.Memory.{Memory}
use Rattle.lx_ir.specs.declared.types.NamedType.{NamedType}
use Rattle.lx_ir.specs.declared.module.Module.{Module}
use Rattle.lx_ir.specs.IrType.{IrType}
use Rattle.lx_ir.specs.Init.{Init, Inits, no_more, more}
use Rattle.lx_ir.specs.InitNodes.{inits_of_list}
use Rattle.lx_ir.specs.Layout.{Layout, layout, beside, layout_of, size_of, is_lawful_type}
use Rattle.lx_model.specs.declared.program.Program.{Program}
use Rattle.lx_model.specs.Program.{Home, module_of}
use Rattle.lx_model.specs.Opening.{item_start, with_init, with_items}
use Rattle.lx_link_texts.specs.Placing.{last_end}
use Rattle.lx_opening.specs.Placed.{start_behind, end_behind, fits_item, is_init_placed, are_items_placed}
use Rattle.lx_opening.proofs.Typed.{behind}

-- only how far items reach counts
items_alike : (p : Program) (home : Home) (at : ℕ) (packed : Bool) (laid : Layout) (ts : List IrType) (is : Inits) (m : Memory) → with_items p home at packed laid ts is m ≡ with_items p home at packed (layout laid.size 1) ts is m
items_alike p home at packed laid ts no_more m = refl
items_alike p home at packed laid [] (more i is) m = refl
items_alike p home at true laid (t ∷ ts) (more i is) m =
    let l : Layout = layout_of (module_of p home).types t in
    let next : Memory = with_init p home (at + laid.size) i m in
    items_alike p home at true (beside true laid l) ts is next ∙ sym (items_alike p home at true (beside true (layout laid.size 1) l) ts is next)
items_alike p home at false laid (t ∷ ts) (more i is) m =
    let l : Layout = layout_of (module_of p home).types t in
    let next : Memory = with_init p home (at + item_start false laid l) i m in
    items_alike p home at false (beside false laid l) ts is next ∙ sym (items_alike p home at false (beside false (layout laid.size 1) l) ts is next)

first_item : (p : Program) (home : Home) (at : ℕ) (packed : Bool) (taken : ℕ) (t : IrType) (ts : List IrType) (i : Init) (is : Inits) (m : Memory)
    → with_items p home at packed (layout taken 1) (t ∷ ts) (more i is) m
    ≡ with_items p home at packed (layout (end_behind (module_of p home).types packed taken t) 1) ts is (with_init p home (at + start_behind (module_of p home).types packed taken t) i m)
unfolding start_behind
first_item p home at packed taken t ts i is m =
    let types : List NamedType = (module_of p home).types in
    let next : Memory = with_init p home (at + start_behind types packed taken t) i m in
    items_alike p home at packed (beside packed (layout taken 1) (layout_of types t)) ts is next
    ∙ ap (λ n. with_items p home at packed (layout n 1) ts is next) (behind types packed (layout taken 1) t)

-- one item more
pub items_more : (p : Program) (home : Home) (at : ℕ) (packed : Bool) (taken : ℕ) (ts : List IrType) (is : List Init) (k : ℕ) (t : IrType) (i : Init) (m : Memory)
    → k < length ts → k < length is → t ≡ get_or ts k t → i ≡ get_or is k i
    → with_items p home at packed (layout taken 1) (drop k ts) (inits_of_list (drop k is)) m
    ≡ with_items p home at packed (layout (end_behind (module_of p home).types packed taken t) 1) (drop (k + 1) ts) (inits_of_list (drop (k + 1) is)) (with_init p home (at + start_behind (module_of p home).types packed taken t) i m)
items_more p home at packed taken ts is k t i m h g e d =
    let a = rest_at ts k t h e in
    let b = rest_at is k i g d in
    (λ j. with_items p home at packed (layout taken 1) (a j) (inits_of_list (b j)) m)
    ∙ first_item p home at packed taken t (drop (k + 1) ts) i (inits_of_list (drop (k + 1) is)) m

no_items : (p : Program) (home : Home) (at : ℕ) (packed : Bool) (laid : Layout) (ts : List IrType) (is : List Init) (m : Memory) → min (length ts) (length is) ≡ 0 → with_items p home at packed laid ts (inits_of_list is) m ≡ m
no_items p home at packed laid [] [] m h = refl
no_items p home at packed laid [] (i ∷ is) m h = refl
no_items p home at packed laid (t ∷ ts) [] m h = refl
no_items p home at packed laid (t ∷ ts) (i ∷ is) m h = absurd (omega (arith, h))

-- no item is left
pub items_end : (p : Program) (home : Home) (at : ℕ) (packed : Bool) (taken : ℕ) (ts : List IrType) (is : List Init) (k : ℕ) (m : Memory) → min (length ts) (length is) ≤ k
    → with_items p home at packed (layout taken 1) (drop k ts) (inits_of_list (drop k is)) m ≡ m
items_end p home at packed taken ts is k m h =
    let a : length (drop k ts) ≡ length ts - k = length-drop k ts in
    let b : length (drop k is) ≡ length is - k = length-drop k is in
    no_items p home at packed (layout taken 1) (drop k ts) (drop k is) m (omega (arith, a, b, h))

-- what is known of the next item
pub record NextItem (p : Program) (home : Home) (at : ℕ) (packed : Bool) (taken : ℕ) (ts : List IrType) (is : List Init) (k : ℕ) (t : IrType) (i : Init) : Type 0 where
  pub fits : fits_item (module_of p home).types at packed taken t ≡ true
  pub init : is_init_placed p home (at + start_behind (module_of p home).types packed taken t) i ≡ true
  pub rest : are_items_placed p home at packed (end_behind (module_of p home).types packed taken t) (drop (k + 1) ts) (inits_of_list (drop (k + 1) is)) ≡ true

pub next_item : (p : Program) (home : Home) (at : ℕ) (packed : Bool) (taken : ℕ) (ts : List IrType) (is : List Init) (k : ℕ) (t : IrType) (i : Init)
    → k < length ts → k < length is → t ≡ get_or ts k t → i ≡ get_or is k i
    → are_items_placed p home at packed taken (drop k ts) (inits_of_list (drop k is)) ≡ true → NextItem p home at packed taken ts is k t i
next_item p home at packed taken ts is k t i h g e d placed =
    let a = rest_at ts k t h e in
    let b = rest_at is k i g d in
    let types : List NamedType = (module_of p home).types in
    let all : are_items_placed p home at packed taken (t ∷ drop (k + 1) ts) (more i (inits_of_list (drop (k + 1) is))) ≡ true =
    (λ j. are_items_placed p home at packed taken (sym a j) (inits_of_list (sym b j))) ∙ placed in
    let c = and_parts (fits_item types at packed taken t) _ all in
    let f = and_parts (is_init_placed p home (at + start_behind types packed taken t) i) (are_items_placed p home at packed (end_behind types packed taken t) (drop (k + 1) ts) (inits_of_list (drop (k + 1) is))) c.1 in
    record { fits = c.0; init = f.0; rest = f.1 }

-- an item that fits

pub fit_lawful : (types : List NamedType) (at : ℕ) (packed : Bool) (taken : ℕ) (t : IrType) → fits_item types at packed taken t ≡ true → IsTrue (is_lawful_type types t)
unfolding fits_item
fit_lawful types at packed taken t h = (and_parts (is_lawful_type types t) (nat_le (at + end_behind types packed taken t) last_end) h).0

pub fit_end : (types : List NamedType) (at : ℕ) (packed : Bool) (taken : ℕ) (t : IrType) → fits_item types at packed taken t ≡ true → at + end_behind types packed taken t ≤ last_end
unfolding fits_item
fit_end types at packed taken t h = leb-true (at + end_behind types packed taken t) last_end (and_parts (is_lawful_type types t) (nat_le (at + end_behind types packed taken t) last_end) h).1

pub start_le : (types : List NamedType) (packed : Bool) (taken : ℕ) (t : IrType) → start_behind types packed taken t + size_of types t ≡ end_behind types packed taken t
unfolding end_behind
start_le types packed taken t = refl

pub fit_start : (types : List NamedType) (at : ℕ) (packed : Bool) (taken : ℕ) (t : IrType) → fits_item types at packed taken t ≡ true → start_behind types packed taken t ≤ last_end
fit_start types at packed taken t h = omega (arith, fit_end types at packed taken t h, start_le types packed taken t)

pub sum_is : (types : List NamedType) (packed : Bool) (taken : ℕ) (t : IrType) (start size : ℕ) → start ≡ start_behind types packed taken t → size ≡ size_of types t → start + size ≡ end_behind types packed taken t
sum_is types packed taken t start size s z = (λ j. s j + z j) ∙ start_le types packed taken t

-- one item more, as the loop goes over it
pub record Step (p : Program) (home : Home) (at : ℕ) (packed : Bool) (taken : ℕ) (ts : List IrType) (is : List Init) (k : ℕ) (i : Init) (start end : ℕ) : Type 0 where
  pub init : is_init_placed p home (at + start) i ≡ true
  pub rest : are_items_placed p home at packed end (drop (k + 1) ts) (inits_of_list (drop (k + 1) is)) ≡ true
  pub more : (m : Memory) → with_items p home at packed (layout taken 1) (drop k ts) (inits_of_list (drop k is)) m ≡ with_items p home at packed (layout end 1) (drop (k + 1) ts) (inits_of_list (drop (k + 1) is)) (with_init p home (at + start) i m)

pub items_step : (p : Program) (home : Home) (at : ℕ) (packed : Bool) (taken : ℕ) (ts : List IrType) (is : List Init) (k : ℕ) (t : IrType) (i : Init) (text : Module) (start end : ℕ)
    → k < length ts → k < length is → t ≡ get_or ts k t → i ≡ get_or is k i → text ≡ module_of p home → start ≡ start_behind text.types packed taken t → end ≡ end_behind text.types packed taken t
    → are_items_placed p home at packed taken (drop k ts) (inits_of_list (drop k is)) ≡ true → Step p home at packed taken ts is k i start end
items_step p home at packed taken ts is k t i text start end h g e d x s n placed =
    let a = next_item p home at packed taken ts is k t i h g e d placed in
    let starts : start ≡ start_behind (module_of p home).types packed taken t = s ∙ ap (λ (m : Module). start_behind m.types packed taken t) x in
    let ends : end ≡ end_behind (module_of p home).types packed taken t = n ∙ ap (λ (m : Module). end_behind m.types packed taken t) x in
    record {
      init = subst (λ z. is_init_placed p home (at + z) i ≡ true) (sym starts) a.init;
      rest = subst (λ z. are_items_placed p home at packed z (drop (k + 1) ts) (inits_of_list (drop (k + 1) is)) ≡ true) (sym ends) a.rest;
      more = λ m. items_more p home at packed taken ts is k t i m h g e d ∙ (λ j. with_items p home at packed (layout (sym ends j) 1) (drop (k + 1) ts) (inits_of_list (drop (k + 1) is)) (with_init p home (at + sym starts j) i m));
    }

pub item_fits : (p : Program) (home : Home) (at : ℕ) (packed : Bool) (taken : ℕ) (ts : List IrType) (is : List Init) (k : ℕ) (t : IrType) (i : Init) (text : Module)
    → k < length ts → k < length is → t ≡ get_or ts k t → i ≡ get_or is k i → text ≡ module_of p home
    → are_items_placed p home at packed taken (drop k ts) (inits_of_list (drop k is)) ≡ true → fits_item text.types at packed taken t ≡ true
item_fits p home at packed taken ts is k t i text h g e d x placed =
    subst (λ (m : Module). fits_item m.types at packed taken t ≡ true) (sym x) (next_item p home at packed taken ts is k t i h g e d placed).fits
