-- The sites in the items of an initialiser, item by item.
use Rattle.std.proofs.Common.{◌≡◌, ℕ, zero, suc, ◌+◌, ◌<◌, ◌≤◌, min, List, [], ◌∷◌, ◌++◌, length, get_or, drop, refl, sym, ap, ◌∙◌, subst, arith, add-one}
use Rattle.lx_annot.specs.declared.interface.Interface.{Interface}
use Rattle.lx_ir.specs.declared.module.Module.{Module}
use Rattle.lx_ir.specs.IrType.{IrType}
use Rattle.lx_ir.specs.Init.{Init, Inits, no_more, more}
use Rattle.lx_ir.specs.InitNodes.{inits_of_list}
use Rattle.lx_slot_types.specs.Sites.{FieldName, Site, field_if_named, function_init, init_sites, items_sites, sites_at}
use Rattle.lx_propagate.specs.Tables.{Table, Adds}
use Rattle.lx_propagate.proofs.Adding.{adds_none, adds_then}

abbrev item_sites : IrType → ℕ → IrType → Init → List Site
item_sites t n u i = sites_at (field_if_named t n) (function_init i) ++ init_sites u i

items_step : (t : IrType) (ts : List IrType) (is : List Init) (n k : ℕ) (u : IrType) (i : Init) → k < length ts → k < length is → u ≡ get_or ts k u → i ≡ get_or is k i → items_sites t n (drop k ts) (inits_of_list (drop k is)) ≡ item_sites t n u i ++ items_sites t (suc n) (drop (suc k) ts) (inits_of_list (drop (suc k) is))
items_step t [] is n k u i h g p q = absurd (omega arith)
items_step t (v ∷ ts) [] n k u i h g p q = absurd (omega arith)
items_step t (v ∷ ts) (j ∷ is) n zero u i h g p q = λ x. item_sites t n (sym p x) (sym q x) ++ items_sites t (suc n) ts (inits_of_list is)
items_step t (v ∷ ts) (j ∷ is) n (suc k) u i h g p q = items_step t ts is n k u i (omega arith) (omega arith) p q

none_left : {A : Type 0} (k : ℕ) → drop {A = A} k [] ≡ []
none_left zero = refl
none_left (suc k) = refl

no_types : (t : IrType) (n : ℕ) (is : Inits) → items_sites t n [] is ≡ []
no_types t n no_more = refl
no_types t n (more i is) = refl

items_end : (t : IrType) (ts : List IrType) (is : List Init) (n k : ℕ) → min (length ts) (length is) ≤ k → items_sites t n (drop k ts) (inits_of_list (drop k is)) ≡ []
items_end t [] is n k h = ap (λ us. items_sites t n us (inits_of_list (drop k is))) (none_left k) ∙ no_types t n (inits_of_list (drop k is))
items_end t (u ∷ ts) [] n k h = ap (λ js. items_sites t n (drop k (u ∷ ts)) (inits_of_list js)) (none_left k)
items_end t (u ∷ ts) (i ∷ is) n zero h = absurd (omega arith)
items_end t (u ∷ ts) (i ∷ is) n (suc k) h = items_end t ts is n k (omega arith)

pub items_more : (i : Interface) (m : Module) (t : IrType) (ts : List IrType) (is : List Init) (k : ℕ) (u : IrType) (x : Init) (names : List FieldName) (all : List Site) (before now new : Table) → k < length ts → k < length is → u ≡ get_or ts k u → x ≡ get_or is k x → field_if_named t k ≡ names → ((c : Table) → Adds i m (items_sites t k (drop k ts) (inits_of_list (drop k is))) now c → Adds i m all before c) → Adds i m (sites_at names (function_init x) ++ init_sites u x) now new → (c : Table) → Adds i m (items_sites t (k + 1) (drop (k + 1) ts) (inits_of_list (drop (k + 1) is))) new c → Adds i m all before c
items_more i m t ts is k u x names all before now new h g p q f go step c after =
    let rest : ℕ → List Site = λ j. items_sites t j (drop j ts) (inits_of_list (drop j is)) in
    let item : List FieldName → List Site = λ ns. sites_at ns (function_init x) ++ init_sites u x in
    let n : suc k ≡ k + 1 = sym (add-one k) in
    let e : rest k ≡ item names ++ rest (k + 1) = items_step t ts is k k u x h g p q ∙ (λ j. item (f j) ++ rest (n j)) in
    go c (subst (λ zs. Adds i m zs now c) (sym e) (adds_then i m (item names) (rest (k + 1)) now new c step after))

pub items_done : (i : Interface) (m : Module) (t : IrType) (ts : List IrType) (is : List Init) (k : ℕ) (all : List Site) (before now : Table) → min (length ts) (length is) ≤ k → ((c : Table) → Adds i m (items_sites t k (drop k ts) (inits_of_list (drop k is))) now c → Adds i m all before c) → Adds i m all before now
items_done i m t ts is k all before now h go = go now (subst (λ zs. Adds i m zs now now) (sym (items_end t ts is k k h)) (adds_none i m now))
