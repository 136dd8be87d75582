-- A store is spared in an image exactly where it is in its program.
use Rattle.std.proofs.Common.{◌≡◌, ℕ, Bool, true, false, not, ◌&&◌, ◌||◌, List, [], ◌∷◌, ◌++◌, map, Option, Some, None, inl, inr, refl, sym, ◌∙◌, ap, nat_eq}
use Rattle.std.specs.Prelude.{zero, suc, flat_map, slice_get, length, take}
use Rattle.std.specs.List.{list_all, list_any}
use Rattle.std.proofs.lemmas.List.Folds.{list_any-append}
use Rattle.std.proofs.lemmas.Bool.{and_from}
use Rattle.lx_words.proofs.Options.{some_same, none_some}
use Rattle.lx_words.proofs.Tests.{or_assoc, false_true, first_of, second_of}
use Rattle.lx_words.proofs.Lists.{any_mapped as any_map}
use Rattle.lx_ir.specs.declared.types.NamedType.{NamedType}
use Rattle.lx_ir.specs.declared.types.Scalar.{Scalar}
use Rattle.lx_ir.specs.declared.module.Value.{Value}
use Rattle.lx_ir.specs.declared.module.Value.TheVariants as value
use Rattle.lx_ir.specs.declared.module.Block.{Block}
use Rattle.lx_ir.specs.declared.module.Function.{Function}
use Rattle.lx_ir.specs.declared.module.Module.{Module}
use Rattle.lx_ir.specs.declared.instr.Argument.{Argument}
use Rattle.lx_ir.specs.declared.instr.Callee.{Callee}
use Rattle.lx_ir.specs.declared.instr.Callee.TheVariants as callee
use Rattle.lx_ir.specs.declared.module.Symbol.TheVariants as symbol
use Rattle.lx_ir.specs.declared.instr.Instr.{Instr}
use Rattle.lx_ir.specs.declared.instr.Op.{Op}
use Rattle.lx_ir.specs.declared.instr.Op.TheVariants as op
use Rattle.lx_ir.specs.Layout.{scalar_size}
use Rattle.lx_ir.specs.Lookup.{blocks_of_option, instrs_of}
use Rattle.lx_ir.specs.Operands.{callee_operands, is_image_line}
use Rattle.lx_annot.specs.declared.interface.Interface.{Interface}
use Rattle.lx_image_texts.proofs.Erasing.{all_first, all_second}
use Rattle.lx_image_texts.specs.Marks.{mark_of, image_op, image_callee, callee_for, callee_if, is_wrapped}
use Rattle.lx_image_texts.specs.Spared.{reads, uses_as_address, allocates, keeps_address, is_spared_at, is_spared_in, is_spared}
use Rattle.lx_image_texts.specs.Guards.{ops_of, IsMarked, AreMarked, HasMarks, IsGuarded, AreGuarded, Guards}

or_twice : (a b : Bool) → (a || (a || b)) ≡ (a || b)
or_twice true b = refl
or_twice false b = refl

not_or : (a b : Bool) → (not a && not b) ≡ not (a || b)
not_or true b = refl
not_or false b = refl

not_not : (a : Bool) → not (not a) ≡ a
not_not true = refl
not_not false = refl

-- all pass where none fails
all_none : {A : Type 0} (p : A → Bool) (xs : List A) → list_all p xs ≡ not (list_any (λ x. not (p x)) xs)
all_none p [] = refl
all_none p (x ∷ xs) = (λ j. sym (not_not (p x)) j && all_none p xs j) ∙ not_or (not (p x)) (list_any (λ x. not (p x)) xs)

-- a test that marks do not change

record Quiet (p : Op → Bool) : Type 0 where
  guards : (at size : Value) (narrow : Bool) → p (op.Guard at size narrow) ≡ false
  images : (m : Module) (o : Op) → not (is_image_line o) ≡ true → p (image_op m o) ≡ p o
  checks : (to : Option ℕ) (ret : Option Scalar) (r : ℕ) (args : List Argument) → (p (op.Check (value.Register r)) || p (op.Call to ret (callee.Register r) args)) ≡ p (op.Call to ret (callee.Register r) args)

head_any : (p : Op → Bool) → Quiet p → (m : Module) (o : Op) (rest : List Op) → not (is_image_line o) ≡ true → list_any p (mark_of o ++ (image_op m o ∷ rest)) ≡ (p o || list_any p rest)
head_any p q m (op.Store ty x y) rest a = ap (λ (b : Bool). b || (p (op.Store ty x y) || list_any p rest)) (q.guards y _ false)
head_any p q m (op.CopyBlock moves dest source len) rest a = ap (λ (b : Bool). b || (p (op.CopyBlock moves dest source len) || list_any p rest)) (q.guards dest len.value _)
head_any p q m (op.FillBlock dest byte len) rest a = ap (λ (b : Bool). b || (p (op.FillBlock dest byte len) || list_any p rest)) (q.guards dest len.value _)
head_any p q m (op.Call to ret (callee.Register r) args) rest a =
    or_assoc (p (op.Check (value.Register r))) (p (op.Call to ret (callee.Register r) args)) (list_any p rest) ∙ ap (λ (b : Bool). b || list_any p rest) (q.checks to ret r args)
head_any p q m (op.Call to ret (callee.Symbol s) args) rest a = ap (λ (b : Bool). b || list_any p rest) (q.images m (op.Call to ret (callee.Symbol s) args) a)
head_any p q m o rest a = ap (λ (b : Bool). b || list_any p rest) (q.images m o a)

marked_any : (p : Op → Bool) → Quiet p → (m : Module) (f : Function) (os is : List Op) → list_all (λ (o : Op). not (is_image_line o)) os ≡ true → IsMarked m f os is → list_any p is ≡ list_any p os
marked_any p q m f [] is a e = ap (list_any p) e
marked_any p q m f (o ∷ os) is a (rest, inl e, k) =
    ap (list_any p) e ∙ (head_any p q m o rest (first_of (not (is_image_line o)) _ a) ∙ ap (λ (b : Bool). p o || b) (marked_any p q m f os rest (second_of (not (is_image_line o)) _ a) k))
marked_any p q m f (o ∷ os) is a (rest, inr e, k) =
    ap (list_any p) e.1 ∙ (λ j. q.images m o (first_of (not (is_image_line o)) _ a) j || marked_any p q m f os rest (second_of (not (is_image_line o)) _ a) k j)

all_ops : (is : List Instr) → list_all (λ (i : Instr). not (is_image_line i.op)) is ≡ true → list_all (λ (o : Op). not (is_image_line o)) (map (λ (i : Instr). i.op) is) ≡ true
all_ops [] a = a
all_ops (i ∷ is) a = and_from (not (is_image_line i.op)) _ (first_of (not (is_image_line i.op)) _ a) (all_ops is (second_of (not (is_image_line i.op)) _ a))

abbrev Own : List Block → Type 0
Own bs = list_all (λ (i : Instr). not (is_image_line i.op)) (flat_map (λ (b : Block). b.instrs) bs) ≡ true

abbrev AnyOf : (Op → Bool) → List Block → Bool
AnyOf p bs = list_any (λ (i : Instr). p i.op) (flat_map (λ (b : Block). b.instrs) bs)

blocks_any : (p : Op → Bool) → Quiet p → (m : Module) (f : Function) (bs cs : List Block) → Own bs → AreMarked m f bs cs → AnyOf p cs ≡ AnyOf p bs
blocks_any p q m f [] [] a k = refl
blocks_any p q m f (b ∷ bs) (c ∷ cs) a k =
    let first : list_all (λ (i : Instr). not (is_image_line i.op)) b.instrs ≡ true = all_first (λ (i : Instr). not (is_image_line i.op)) b.instrs (flat_map (λ (b : Block). b.instrs) bs) a in
    let second : Own bs = all_second (λ (i : Instr). not (is_image_line i.op)) b.instrs (flat_map (λ (b : Block). b.instrs) bs) a in
    let here : list_any (λ (i : Instr). p i.op) c.instrs ≡ list_any (λ (i : Instr). p i.op) b.instrs = any_map p (λ (i : Instr). i.op) c.instrs ∙ (marked_any p q m f (ops_of b) (ops_of c) (all_ops b.instrs first) k.1 ∙ sym (any_map p (λ (i : Instr). i.op) b.instrs)) in
    list_any-append (λ (i : Instr). p i.op) c.instrs (flat_map (λ (b : Block). b.instrs) cs)
    ∙ ((λ j. here j || blocks_any p q m f bs cs second k.2 j)
    ∙ sym (list_any-append (λ (i : Instr). p i.op) b.instrs (flat_map (λ (b : Block). b.instrs) bs)))
blocks_any p q m f [] (c ∷ cs) a k = absurd k
blocks_any p q m f (b ∷ bs) [] a k = absurd k

bodies_any : (p : Op → Bool) → Quiet p → (m : Module) (f : Function) (bs cs : Option (List Block)) → Own (blocks_of_option bs) → HasMarks m f bs cs → AnyOf p (blocks_of_option cs) ≡ AnyOf p (blocks_of_option bs)
bodies_any p q m f None None a k = refl
bodies_any p q m f (Some bs) (Some cs) a k = blocks_any p q m f bs cs a k
bodies_any p q m f None (Some cs) a k = absurd k
bodies_any p q m f (Some bs) None a k = absurd k

-- allocas, and uses of a register

allocates_image : (types : List NamedType) (r n : ℕ) (m : Module) (o : Op) → allocates types r n (image_op m o) ≡ allocates types r n o
allocates_image types r n m (op.Guard at size narrow) = refl
allocates_image types r n m (op.Check target) = refl
allocates_image types r n m (op.Call to ret y args) = refl
allocates_image types r n m o = refl

allocates_quiet : (types : List NamedType) (r n : ℕ) → Quiet (allocates types r n)
allocates_quiet types r n = record { guards = λ at size narrow. refl; images = λ m o a. allocates_image types r n m o; checks = λ to ret k args. refl }

called_by_name : (m : Module) (b : Bool) (k : ℕ) → callee_operands (callee_if b m k) ≡ []
called_by_name m true k = refl
called_by_name m false k = refl

pub callee_reads : (m : Module) (k : ℕ) (g : Option Function) → callee_operands (callee_for m k g) ≡ []
callee_reads m k None = refl
callee_reads m k (Some g) = called_by_name m (is_wrapped g) k

pub callees_alike : (m : Module) (y : Callee) → callee_operands (image_callee m y) ≡ callee_operands y
callees_alike m (callee.Register r) = refl
callees_alike m (callee.Symbol (symbol.Global g)) = refl
callees_alike m (callee.Symbol (symbol.Function k)) = callee_reads m k (slice_get m.functions k)

-- the instruction lets the address go
abbrev lets_go : ℕ → Op → Bool
lets_go r o = not (uses_as_address r o)

lets_go_image : (r : ℕ) (m : Module) (o : Op) → not (is_image_line o) ≡ true → lets_go r (image_op m o) ≡ lets_go r o
lets_go_image r m (op.Guard at size narrow) a = false_true a
lets_go_image r m (op.Check target) a = false_true a
lets_go_image r m (op.Call to ret y args) a = ap (λ (xs : List Argument). not (not (reads r (xs ++ args)))) (callees_alike m y)
lets_go_image r m o a = refl

check_twice : (a b : Bool) → (not (not (a || false)) || not (not (a || b))) ≡ not (not (a || b))
check_twice true b = refl
check_twice false b = refl

lets_go_quiet : (r : ℕ) → Quiet (lets_go r)
lets_go_quiet r = record { guards = λ at size narrow. refl; images = lets_go_image r; checks = λ to ret k args. check_twice (nat_eq k r) (reads r args) }

keeps_alike : (types : List NamedType) (m : Module) (f : Function) (bs cs : Option (List Block)) (n r : ℕ) → Own (blocks_of_option bs) → HasMarks m f bs cs → keeps_address types (flat_map (λ (b : Block). b.instrs) (blocks_of_option cs)) n r ≡ keeps_address types (flat_map (λ (b : Block). b.instrs) (blocks_of_option bs)) n r
keeps_alike types m f bs cs n r a k =
    λ j. bodies_any (allocates types r n) (allocates_quiet types r n) m f bs cs a k j
    && (all_none (λ (i : Instr). uses_as_address r i.op) (flat_map (λ (b : Block). b.instrs) (blocks_of_option cs)) ∙ (ap not (bodies_any (lets_go r) (lets_go_quiet r) m f bs cs a k) ∙ sym (all_none (λ (i : Instr). uses_as_address r i.op) (flat_map (λ (b : Block). b.instrs) (blocks_of_option bs))))) j

spared_at_alike : (types : List NamedType) (m : Module) (f : Function) (bs cs : Option (List Block)) (n : ℕ) (v : Value) → Own (blocks_of_option bs) → HasMarks m f bs cs → is_spared_at types (flat_map (λ (b : Block). b.instrs) (blocks_of_option cs)) n v ≡ is_spared_at types (flat_map (λ (b : Block). b.instrs) (blocks_of_option bs)) n v
spared_at_alike types m f bs cs n (value.Register r) a k = keeps_alike types m f bs cs n r a k
spared_at_alike types m f bs cs n (value.Constant c) a k = refl

spared_in_alike : (types : List NamedType) (m : Module) (f : Function) (bs cs : Option (List Block)) (o : Op) → Own (blocks_of_option bs) → HasMarks m f bs cs → is_spared_in types (flat_map (λ (b : Block). b.instrs) (blocks_of_option cs)) o ≡ is_spared_in types (flat_map (λ (b : Block). b.instrs) (blocks_of_option bs)) o
spared_in_alike types m f bs cs (op.Store ty v at) a k = spared_at_alike types m f bs cs (scalar_size ty) at a k
spared_in_alike types m f bs cs o a k = refl

-- in a function of the program and its image
pub spared_alike : (m x : Module) (f g : Function) (o : Op) → x.types ≡ m.types → list_all (λ (i : Instr). not (is_image_line i.op)) (instrs_of f) ≡ true → IsGuarded m f g → is_spared x g o ≡ is_spared m f o
spared_alike m x f g o e a k =
    ap (λ (ts : List NamedType). is_spared_in ts (instrs_of g) o) e ∙ spared_in_alike m.types m f f.blocks g.blocks o a k.body

alike_from : (m x : Module) (fs gs : List Function) (k : ℕ) (f g : Function) (o : Op) → x.types ≡ m.types → list_all (λ (i : Instr). not (is_image_line i.op)) (flat_map instrs_of fs) ≡ true → AreGuarded m fs (take (length fs) gs) → slice_get fs k ≡ Some f → slice_get gs k ≡ Some g → is_spared x g o ≡ is_spared m f o
alike_from m x [] gs k f g o t a h e c = none_some e
alike_from m x (f0 ∷ fs) [] k f g o t a h e c = none_some c
alike_from m x (f0 ∷ fs) (g0 ∷ gs) zero f g o t a h e c =
    ap (λ (y : Function). is_spared x y o) (sym (some_same c))
    ∙ (spared_alike m x f0 g0 o t (all_first (λ (i : Instr). not (is_image_line i.op)) (instrs_of f0) (flat_map instrs_of fs) a) h.0
    ∙ ap (λ (y : Function). is_spared m y o) (some_same e))
alike_from m x (f0 ∷ fs) (g0 ∷ gs) (suc k) f g o t a h e c =
    alike_from m x fs gs k f g o t (all_second (λ (i : Instr). not (is_image_line i.op)) (instrs_of f0) (flat_map instrs_of fs) a) h.1 e c

-- in an image of the program
pub still_spared : (i : Interface) (m x : Module) (k : ℕ) (f g : Function) (o : Op) → Guards i m x → slice_get m.functions k ≡ Some f → slice_get x.functions k ≡ Some g → is_spared x g o ≡ is_spared m f o
still_spared i m x k f g o h e c = alike_from m x m.functions x.functions k f g o h.types h.plain.lines h.functions e c
