-- Lemmas on initialisers in lists.
use Rattle.std.proofs.Common.{◌≡◌, ℕ, ◌+◌, ◌<◌, ◌≤◌, List, [], ◌∷◌, ◌++◌, length, get_or, take, codes, refl, ap, sym, ◌∙◌, zero, suc, min, flat_map, Vec, Global, arith}
use Rattle.std.proofs.lemmas.Grind.{common_steps}
use Rattle.std.proofs.lemmas.List.{take_more, append_assoc, append-nil, length-take-le, take_all}
use Rattle.lx_words.proofs.Lists.{joined_three}
use Rattle.lx_ir.specs.IrType.{IrType}
use Rattle.lx_ir.specs.Init.{Init, Bytes, init_depth, inits_depth}
use Rattle.lx_ir.specs.InitNodes.{inits_of_list, init_of_node}
use Rattle.lx_ir.specs.declared.module.Brackets.{Brackets}
use Rattle.lx_ir.specs.declared.module.InitNode.{InitNode}
use Rattle.lx_ir.specs.declared.module.InitNode.TheVariants as node
use Rattle.lx_ir.specs.declared.module.Module.{Module}
use Rattle.lx_ir.specs.Text.{Text, type_text, byte_text, init_text, item_texts, comma_list, spaced_list, separator, opening, closing}
use Rattle.lx_ir.proofs.TypeLists.{comma_push}

-- an element of a list of initialisers is less deep
pub init_depth_at : (is : List Init) (i : ℕ) (d : Init) → i < length is → init_depth (get_or is i d) < inits_depth (inits_of_list is)
init_depth_at [] i d h = omega arith
init_depth_at (x ∷ is) zero d h = omega arith
init_depth_at (x ∷ is) (suc i) d h = let r : init_depth (get_or is i d) < inits_depth (inits_of_list is) = init_depth_at is i d (omega arith) in omega arith

pub depth_of_init : (is : List Init) (i : ℕ) (x : Init) → i < length is → x ≡ get_or is i x → init_depth x < inits_depth (inits_of_list is)
depth_of_init is i x h e = let a : init_depth (get_or is i x) < inits_depth (inits_of_list is) = init_depth_at is i x h in let k : init_depth x ≡ init_depth (get_or is i x) = ap init_depth e in omega arith

pub item_count : (m : Module) (ts : List IrType) (is : List Init) → length (item_texts m ts (inits_of_list is)) ≡ min (length ts) (length is)
item_count m [] [] = refl
item_count m [] (i ∷ is) = omega arith
item_count m (t ∷ ts) [] = omega arith
item_count m (t ∷ ts) (i ∷ is) = let r = item_count m ts is in omega arith

pub item_at : (m : Module) (ts : List IrType) (is : List Init) (k : ℕ) (t : IrType) (i : Init) (d : Text) → k < length ts → k < length is → t ≡ get_or ts k t → i ≡ get_or is k i → get_or (item_texts m ts (inits_of_list is)) k d ≡ type_text m.types t ++ codes " " ++ init_text m i
item_at m [] is k t i d h g p q = absurd (omega arith)
item_at m (u ∷ ts) [] k t i d h g p q = absurd (omega arith)
item_at m (u ∷ ts) (j ∷ is) zero t i d h g p q = λ x. type_text m.types (sym p x) ++ codes " " ++ init_text m (sym q x)
item_at m (u ∷ ts) (j ∷ is) (suc k) t i d h g p q = item_at m ts is k t i d (omega arith) (omega arith) p q

-- one more item behind those before it
pub item_more : (m : Module) (ts : List IrType) (is : List Init) (k : ℕ) (t : IrType) (i : Init) (o : Text) → k < min (length ts) (length is) → t ≡ get_or ts k t → i ≡ get_or is k i → ((((o ++ comma_list (take k (item_texts m ts (inits_of_list is)))) ++ separator k) ++ type_text m.types t) ++ codes " ") ++ init_text m i ≡ o ++ comma_list (take (k + 1) (item_texts m ts (inits_of_list is)))
item_more m ts is k t i o h p q =
    let all : List Text = item_texts m ts (inits_of_list is) in
    let n : length all ≡ min (length ts) (length is) = item_count m ts is in
    let l : length (take k all) ≡ k = length-take-le k all (omega arith) in
    let x : get_or all k [] ≡ type_text m.types t ++ codes " " ++ init_text m i = item_at m ts is k t i [] (omega arith) (omega arith) p q in
    let one : comma_list (take (k + 1) all) ≡ (comma_list (take k all) ++ separator k) ++ (type_text m.types t ++ codes " " ++ init_text m i) =
    ap comma_list (take_more all k [] (omega arith)) ∙ (comma_push (take k all) (get_or all k []) ∙ (ap (λ j. (comma_list (take k all) ++ separator j) ++ get_or all k []) l ∙ ap (λ y. (comma_list (take k all) ++ separator k) ++ y) x)) in
    simp (one, append_assoc)

-- and the loop that appends it
pub next_init : (m : Module) (ts : List IrType) (is : List Init) (k : ℕ) (t : IrType) (i : Init) (o before a b c d : Text) → k < min (length ts) (length is) → t ≡ get_or ts k t → i ≡ get_or is k i → before ≡ o ++ comma_list (take k (item_texts m ts (inits_of_list is))) → a ≡ before ++ separator k → b ≡ a ++ type_text m.types t → c ≡ b ++ codes " " → d ≡ c ++ init_text m i → d ≡ o ++ comma_list (take (k + 1) (item_texts m ts (inits_of_list is)))
next_init m ts is k t i o before a b c d h p q is_before is_a is_b is_c is_d =
    is_d
    ∙ (ap (λ s. s ++ init_text m i) (is_c ∙ ap (λ s. s ++ codes " ") (is_b ∙ ap (λ s. s ++ type_text m.types t) (is_a ∙ ap (λ s. s ++ separator k) is_before)))
    ∙ item_more m ts is k t i o h p q)

-- an initialiser that a node stands for, piece by piece
pub bytes_written : (m : Module) (n : InitNode) (i : Init) (bytes written : List ℕ) (o x y : Text) → init_of_node n ≡ i → n ≡ node.Bytes bytes → written ≡ bytes → x ≡ o ++ codes "c\"" → y ≡ x ++ flat_map byte_text written → y ++ codes "\"" ≡ o ++ init_text m i
bytes_written m n i bytes written o x y seen form all p q =
    joined_three o (codes "c\"") (flat_map byte_text written) (codes "\"") x y p q
    ∙ ap (λ k. o ++ init_text m k) (ap Bytes all ∙ (sym (ap init_of_node form) ∙ seen))

pub group_written : (m : Module) (n : InitNode) (i : Init) (k : Brackets) (types ts : List IrType) (v : Vec Init Global) (is : List Init) (before behind o x y : Text) → init_of_node n ≡ i → n ≡ node.Group k types v → ts ≡ types → is ≡ v.items → before ≡ opening k → behind ≡ closing k → x ≡ o ++ before → y ≡ x ++ spaced_list (item_texts m ts (inits_of_list is)) → y ++ behind ≡ o ++ init_text m i
group_written m n i k types ts v is before behind o x y seen form all_types all opens closes p q =
    joined_three o before (spaced_list (item_texts m ts (inits_of_list is))) behind x y p q
    ∙ ((λ j. o ++ ((opens j ++ spaced_list (item_texts m (all_types j) (inits_of_list (all j)))) ++ closes j))
    ∙ ap (λ g. o ++ init_text m g) (sym (ap init_of_node form) ∙ seen))

spaced_some : (ts : List Text) → 0 < length ts → spaced_list ts ≡ codes " " ++ comma_list ts ++ codes " "
spaced_some [] h = absurd (omega arith)
spaced_some (t ∷ ts) h = refl

pub items_all : (m : Module) (ts : List IrType) (is : List Init) (o : Text) → 0 < min (length ts) (length is) → ((o ++ codes " ") ++ comma_list (take (min (length ts) (length is)) (item_texts m ts (inits_of_list is)))) ++ codes " " ≡ o ++ spaced_list (item_texts m ts (inits_of_list is))
items_all m ts is o h =
    let all : List Text = item_texts m ts (inits_of_list is) in
    let n : length all ≡ min (length ts) (length is) = item_count m ts is in
    let e : take (min (length ts) (length is)) all ≡ all = take_all (min (length ts) (length is)) all (omega arith) in
    simp (e, spaced_some all (omega arith), append_assoc)

items_none : (m : Module) (ts : List IrType) (is : List Init) → min (length ts) (length is) ≡ 0 → spaced_list (item_texts m ts (inits_of_list is)) ≡ []
items_none m [] [] h = refl
items_none m [] (i ∷ is) h = refl
items_none m (t ∷ ts) [] h = refl
items_none m (t ∷ ts) (i ∷ is) h = absurd (omega arith)

pub no_items : (m : Module) (ts : List IrType) (is : List Init) (o : Text) → min (length ts) (length is) ≡ 0 → o ≡ o ++ spaced_list (item_texts m ts (inits_of_list is))
no_items m ts is o h = sym (ap (λ t. o ++ t) (items_none m ts is h) ∙ append-nil o)
