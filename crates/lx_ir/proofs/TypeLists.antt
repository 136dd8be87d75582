-- Lemmas on types in lists, and on lists of texts.
use Rattle.std.proofs.Common.{◌≡◌, ℕ, ◌+◌, ◌<◌, ◌≤◌, List, [], ◌∷◌, ◌++◌, length, get_or, take, map, flat_map, codes, refl, ap, sym, ◌∙◌, zero, suc, arith, max, false, ◌==◌, Vec, Box, Global}
use Rattle.std.proofs.lemmas.Grind.{common_steps}
use Rattle.std.proofs.lemmas.List.{map_more, append_assoc, length-map, length-take-le, take_all}
use Rattle.lx_words.specs.Text.{decimal_text}
use Rattle.lx_words.proofs.Lists.{joined_three}
use Rattle.lx_ir.specs.IrType.{IrType, Array, Struct, Packed, none, also, depth, depths}
use Rattle.lx_ir.specs.declared.types.NamedType.{NamedType}
use Rattle.lx_ir.specs.declared.types.Scalar.{Scalar}
use Rattle.lx_ir.specs.declared.module.Function.{Function}
use Rattle.lx_ir.specs.declared.module.Module.{Module}
use Rattle.lx_ir.specs.declared.instr.SwitchCase.{SwitchCase}
use Rattle.lx_ir.specs.Text.{Text, type_text, type_texts, comma_list, spaced_list, separator, case_text, cases_text}
use Rattle.lx_ir.specs.declared.types.TypeNode.{TypeNode}
use Rattle.lx_ir.specs.declared.types.TypeNode.TheVariants as node
use Rattle.lx_ir.specs.TypeNodes.{types_of_list, type_of_node}

-- an element of a list of types is less deep
pub depth_at : (ts : List IrType) (i : ℕ) (d : IrType) → i < length ts → depth (get_or ts i d) < depths (types_of_list ts)
depth_at [] i d h = omega arith
depth_at (t ∷ ts) zero d h = omega arith
depth_at (t ∷ ts) (suc i) d h = let r : depth (get_or ts i d) < depths (types_of_list ts) = depth_at ts i d (omega arith) in omega arith

pub depth_of_item : (ts : List IrType) (i : ℕ) (x : IrType) → i < length ts → x ≡ get_or ts i x → depth x < depths (types_of_list ts)
depth_of_item ts i x h e = let a : depth (get_or ts i x) < depths (types_of_list ts) = depth_at ts i x h in let k : depth x ≡ depth (get_or ts i x) = ap depth e in omega arith

-- the texts of types in a list
pub type_texts_map : (types : List NamedType) (ts : List IrType) → type_texts types (types_of_list ts) ≡ map (type_text types) ts
type_texts_map types [] = refl
type_texts_map types (t ∷ ts) = ap (λ us. type_text types t ∷ us) (type_texts_map types ts)

pub struct_text : (types : List NamedType) (ts : List IrType) → type_text types (Struct (types_of_list ts)) ≡ codes "{" ++ spaced_list (map (type_text types) ts) ++ codes "}"
struct_text types ts = ap (λ us. codes "{" ++ spaced_list us ++ codes "}") (type_texts_map types ts)

pub packed_text : (types : List NamedType) (ts : List IrType) → type_text types (Packed (types_of_list ts)) ≡ codes "<{" ++ spaced_list (map (type_text types) ts) ++ codes "}>"
packed_text types ts = ap (λ us. codes "<{" ++ spaced_list us ++ codes "}>") (type_texts_map types ts)

-- one more item behind those before it
pub comma_push : (ts : List Text) (t : Text) → comma_list (ts ++ t ∷ []) ≡ (comma_list ts ++ separator (length ts)) ++ t
comma_push [] t = grind (arith, common_steps)
comma_push (u ∷ us) t = grind (arith, common_steps)

pub comma_more : {X : Type 0} (f : X → Text) (xs : List X) (i : ℕ) (x : X) (o : Text) → i < length xs → x ≡ get_or xs i x → ((o ++ comma_list (map f (take i xs))) ++ separator i) ++ f x ≡ o ++ comma_list (map f (take (i + 1) xs))
comma_more f xs i x o h e =
    let n : length (map f (take i xs)) ≡ i = length-map (take i xs) f ∙ length-take-le i xs (omega arith) in
    let one : comma_list (map f (take (i + 1) xs)) ≡ (comma_list (map f (take i xs)) ++ separator i) ++ f x =
    ap comma_list (map_more f xs i x h) ∙ (comma_push (map f (take i xs)) (f (get_or xs i x)) ∙ (ap (λ k. (comma_list (map f (take i xs)) ++ separator k) ++ f (get_or xs i x)) n ∙ ap (λ y. (comma_list (map f (take i xs)) ++ separator i) ++ f y) (sym e))) in
    simp (one, append_assoc)

-- a loop that appends the texts with commas between: one item more
pub next_item : {X : Type 0} (f : X → Text) (xs : List X) (i : ℕ) (x : X) (start before between after : Text) → i < length xs → x ≡ get_or xs i x → before ≡ start ++ comma_list (map f (take i xs)) → between ≡ before ++ separator i → after ≡ between ++ f x → after ≡ start ++ comma_list (map f (take (i + 1) xs))
next_item f xs i x start before between after h e p q r = r ∙ (ap (λ t. t ++ f x) (q ∙ ap (λ t. t ++ separator i) p) ∙ comma_more f xs i x start h e)

-- and its end
pub all_items : {X : Type 0} (f : X → Text) (xs : List X) (i : ℕ) (start after : Text) → length xs ≤ i → after ≡ start ++ comma_list (map f (take i xs)) → after ≡ start ++ comma_list (map f xs)
all_items f xs i start after h p = p ∙ ap (λ ys. start ++ comma_list (map f ys)) (take_all i xs h)

pub spaced_all : (o t : Text) (ts : List Text) → ((o ++ codes " ") ++ comma_list (t ∷ ts)) ++ codes " " ≡ o ++ spaced_list (t ∷ ts)
spaced_all o t ts = grind (arith, common_steps)

-- the fields of a struct between their spaces
pub spaced_end : {X : Type 0} (f : X → Text) (xs : List X) (i : ℕ) (o before after : Text) → (length xs == 0) ≡ false → length xs ≤ i → before ≡ o ++ codes " " → after ≡ before ++ comma_list (map f (take i xs)) → after ++ codes " " ≡ o ++ spaced_list (map f xs)
spaced_end f [] i o before after h l p q = cc
spaced_end f (x ∷ xs) i o before after h l p q =
    ap (λ t. t ++ codes " ") (all_items f (x ∷ xs) i before after l q ∙ ap (λ t. t ++ comma_list (map f (x ∷ xs))) p) ∙ spaced_all o (f x) (map f xs)

-- a type that a node stands for, piece by piece
pub array_written : (types : List NamedType) (n : TypeNode) (t : IrType) (count : ℕ) (b : Box IrType Global) (e : IrType) (o x y : Text) → type_of_node n ≡ t → n ≡ node.Array count b → e ≡ b.value → x ≡ o ++ (codes "[" ++ decimal_text count ++ codes " x ") → y ≡ x ++ type_text types e → y ++ codes "]" ≡ o ++ type_text types t
array_written types n t count b e o x y seen form part p q =
    joined_three o (codes "[" ++ decimal_text count ++ codes " x ") (type_text types e) (codes "]") x y p q
    ∙ ap (λ k. o ++ type_text types k) (ap (Array count) part ∙ (sym (ap type_of_node form) ∙ seen))

pub struct_written : (types : List NamedType) (n : TypeNode) (t : IrType) (v : Vec IrType Global) (fields : List IrType) (o x y : Text) → type_of_node n ≡ t → n ≡ node.Struct v → fields ≡ v.items → x ≡ o ++ codes "{" → y ≡ x ++ spaced_list (map (type_text types) fields) → y ++ codes "}" ≡ o ++ type_text types t
struct_written types n t v fields o x y seen form all p q =
    joined_three o (codes "{") (spaced_list (map (type_text types) fields)) (codes "}") x y p q
    ∙ ap (λ s. o ++ s) (sym (struct_text types fields) ∙ ap (type_text types) (ap (λ l. Struct (types_of_list l)) all ∙ (sym (ap type_of_node form) ∙ seen)))

pub packed_written : (types : List NamedType) (n : TypeNode) (t : IrType) (v : Vec IrType Global) (fields : List IrType) (o x y : Text) → type_of_node n ≡ t → n ≡ node.Packed v → fields ≡ v.items → x ≡ o ++ codes "<{" → y ≡ x ++ spaced_list (map (type_text types) fields) → y ++ codes "}>" ≡ o ++ type_text types t
packed_written types n t v fields o x y seen form all p q =
    joined_three o (codes "<{") (spaced_list (map (type_text types) fields)) (codes "}>") x y p q
    ∙ ap (λ s. o ++ s) (sym (packed_text types fields) ∙ ap (type_text types) (ap (λ l. Packed (types_of_list l)) all ∙ (sym (ap type_of_node form) ∙ seen)))

pub cases_some : (m : Module) (f : Function) (ty : Scalar) (cs : List SwitchCase) → 0 < length cs → cases_text m f ty cs ≡ codes "[" ++ flat_map (λ x. codes " " ++ case_text m f ty x) cs ++ codes " ]"
cases_some m f ty [] h = absurd (omega arith)
cases_some m f ty (c ∷ cs) h = refl
