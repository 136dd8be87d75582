-- What functions with one text have in common: lines are not looked at.
use Rattle.std.proofs.Common.{◌≡◌, ℕ, zero, suc, ◌+◌, Bool, true, false, not, ◌&&◌, ◌||◌, List, [], ◌∷◌, ◌++◌, length, map, Option, Some, None, refl, sym, ◌∙◌, ap}
use Rattle.std.specs.Prelude.{bytes_eq, codes, flat_map, is_some, option_map, slice_get}
use Rattle.std.specs.List.{list_all, list_any}
use Rattle.std.proofs.lemmas.Option.{slice_get-map}
use Rattle.lx_words.proofs.Lists.{map_length, map_append as map_join, no_list, heads, tails}
use Rattle.lx_words.proofs.Options.{some_same, none_some}
use Rattle.lx_ir.specs.declared.types.NamedType.{NamedType}
use Rattle.lx_ir.specs.declared.module.Symbol.TheVariants as symbol
use Rattle.lx_ir.specs.declared.module.Value.TheVariants as value
use Rattle.lx_ir.specs.declared.module.Block.{Block}
use Rattle.lx_ir.specs.declared.module.Function.{Function}
use Rattle.lx_ir.specs.declared.module.Module.{Module}
use Rattle.lx_ir.specs.declared.instr.Callee.TheVariants as callee
use Rattle.lx_ir.specs.declared.instr.Instr.{Instr}
use Rattle.lx_ir.specs.declared.instr.Op.{Op}
use Rattle.lx_ir.specs.declared.instr.Op.TheVariants as op
use Rattle.lx_ir.specs.Layout.{scalar_size}
use Rattle.lx_ir.specs.Lookup.{is_defined, blocks_of_option, instrs_of}
use Rattle.lx_image_texts.specs.Marks.{is_wrapped, one_if, wrapped_before, callee_if, callee_for, image_op}
use Rattle.lx_image_texts.specs.Guards.{BlockText, block_text, FunctionText, function_text}
use Rattle.lx_image_texts.specs.Spared.{uses_as_address, allocates, is_spared_in, is_spared}
use Rattle.lx_image_texts.proofs.Back.{some_kept}

-- two functions, and the functions of two modules, that differ in lines alone

abbrev pub Alike : Function → Function → Type 0
Alike f g = function_text f ≡ function_text g

abbrev pub AreAlike : List Function → List Function → Type 0
AreAlike fs gs = map function_text fs ≡ map function_text gs

pub same_name : (f g : Function) → Alike f g → f.name ≡ g.name
same_name f g e = ap (λ (t : FunctionText). t.name) e

same_defined : (f g : Function) → Alike f g → is_defined f ≡ is_defined g
same_defined f g e = sym (some_kept (map block_text) f.blocks) ∙ (ap (λ (t : FunctionText). is_some t.blocks) e ∙ some_kept (map block_text) g.blocks)

pub same_wrapped : (f g : Function) → Alike f g → is_wrapped f ≡ is_wrapped g
same_wrapped f g e = λ j. not (same_defined f g e j) && not (bytes_eq (same_name f g e j) (codes "lxfi_princ_alias"))

-- lists of functions

pub same_length : (fs gs : List Function) → AreAlike fs gs → length fs ≡ length gs
same_length fs gs e = sym (map_length function_text fs) ∙ (ap length e ∙ map_length function_text gs)

pub same_got : (fs gs : List Function) → AreAlike fs gs → (k : ℕ) → option_map function_text (slice_get fs k) ≡ option_map function_text (slice_get gs k)
same_got fs gs e k = sym (slice_get-map function_text fs k) ∙ (ap (λ (ts : List FunctionText). slice_get ts k) e ∙ slice_get-map function_text gs k)

same_counted : (fs gs : List Function) → AreAlike fs gs → (k : ℕ) → wrapped_before fs k ≡ wrapped_before gs k
same_counted [] [] e k = refl
same_counted (f ∷ fs) (g ∷ gs) e zero = refl
same_counted (f ∷ fs) (g ∷ gs) e (suc k) = λ j. one_if (same_wrapped f g (heads e) j) (same_counted fs gs (tails e) k j)
same_counted [] (g ∷ gs) e k = no_list e
same_counted (f ∷ fs) [] e k = no_list (sym e)

-- what an instruction is in the image

module _ (a b : Module) (e : AreAlike a.functions b.functions) where
  callee_if_same : (w : Bool) (k : ℕ) → callee_if w a k ≡ callee_if w b k
  callee_if_same true k = λ j. callee.Symbol (symbol.Function (same_length a.functions b.functions e j + same_counted a.functions b.functions e k j))
  callee_if_same false k = refl

  callee_for_same : (k : ℕ) (o q : Option Function) → option_map function_text o ≡ option_map function_text q → callee_for a k o ≡ callee_for b k q
  callee_for_same k None None h = refl
  callee_for_same k (Some f) (Some g) h = ap (λ (w : Bool). callee_if w a k) (same_wrapped f g (some_same h)) ∙ callee_if_same (is_wrapped g) k
  callee_for_same k None (Some g) h = none_some h
  callee_for_same k (Some f) None h = none_some (sym h)

  pub same_image_op : (o : Op) → image_op a o ≡ image_op b o
  same_image_op (op.Call to ret (callee.Symbol (symbol.Function k)) args) =
      λ j. op.Call to ret (callee_for_same k (slice_get a.functions k) (slice_get b.functions k) (same_got a.functions b.functions e k) j) args
  same_image_op (op.Call to ret (callee.Symbol (symbol.Global g)) args) = refl
  same_image_op (op.Call to ret (callee.Register r) args) = refl
  same_image_op (op.Guard at size narrow) = refl
  same_image_op (op.Check target) = refl
  same_image_op o = refl

-- the instructions of a function

abbrev ops : List Instr → List Op
ops is = map (λ (i : Instr). i.op) is

abbrev codes_of : Option (List BlockText) → List Op
codes_of None = []
codes_of (Some ts) = flat_map (λ (t : BlockText). t.code) ts

ops_of_blocks : (bs : List Block) → ops (flat_map (λ (b : Block). b.instrs) bs) ≡ flat_map (λ (t : BlockText). t.code) (map block_text bs)
ops_of_blocks [] = refl
ops_of_blocks (b ∷ bs) = map_join (λ (i : Instr). i.op) b.instrs (flat_map (λ (b : Block). b.instrs) bs) ∙ ap (λ (os : List Op). ops b.instrs ++ os) (ops_of_blocks bs)

ops_of_body : (o : Option (List Block)) → ops (flat_map (λ (b : Block). b.instrs) (blocks_of_option o)) ≡ codes_of (option_map (map block_text) o)
ops_of_body None = refl
ops_of_body (Some bs) = ops_of_blocks bs

same_ops : (f g : Function) → Alike f g → ops (instrs_of f) ≡ ops (instrs_of g)
same_ops f g e = ops_of_body f.blocks ∙ (ap (λ (t : FunctionText). codes_of t.blocks) e ∙ sym (ops_of_body g.blocks))

-- spared stores

any_ops : (p : Op → Bool) (is : List Instr) → list_any p (ops is) ≡ list_any (λ (i : Instr). p i.op) is
any_ops p [] = refl
any_ops p (i ∷ is) = ap (λ (b : Bool). p i.op || b) (any_ops p is)

all_ops : (p : Op → Bool) (is : List Instr) → list_all p (ops is) ≡ list_all (λ (i : Instr). p i.op) is
all_ops p [] = refl
all_ops p (i ∷ is) = ap (λ (b : Bool). p i.op && b) (all_ops p is)

spared_in_same : (types : List NamedType) (is js : List Instr) → ops is ≡ ops js → (o : Op) → is_spared_in types is o ≡ is_spared_in types js o
spared_in_same types is js e (op.Store ty v (value.Register r)) =
    λ j. (sym (any_ops (allocates types r (scalar_size ty)) is) ∙ (ap (list_any (allocates types r (scalar_size ty))) e ∙ any_ops (allocates types r (scalar_size ty)) js)) j
    && (sym (all_ops (uses_as_address r) is) ∙ (ap (list_all (uses_as_address r)) e ∙ all_ops (uses_as_address r) js)) j
spared_in_same types is js e (op.Store ty v (value.Constant c)) = refl
spared_in_same types is js e o = refl

pub same_spared : (a b : Module) (f g : Function) → a.types ≡ b.types → Alike f g → (o : Op) → is_spared a f o ≡ is_spared b g o
same_spared a b f g t e o = ap (λ (ts : List NamedType). is_spared_in ts (instrs_of f) o) t ∙ spared_in_same b.types (instrs_of f) (instrs_of g) (same_ops f g e) o
