-- What is known further of the functions of a verified module: the forms of their instructions, and the edges of their phis.
use Rattle.std.proofs.Common.{◌≡◌, ℕ, zero, suc, ◌+◌, ◌<◌, ◌≤◌, Bool, true, false, not, ◌&&◌, ◌||◌, List, [], ◌∷◌, ◌++◌, length, map, Option, Some, None, inl, inr, refl, sym, subst, ◌∙◌, ap, arith}
use Rattle.std.specs.Prelude.{flat_map, filter_map, slice_get, nat_eq, is_some, is_none}
use Rattle.std.specs.List.{list_all, cons_option}
use Rattle.lx_words.proofs.Tests.{true_false, first_of, second_of}
use Rattle.lx_words.proofs.Options.{none_some, some_same, neither_some}
use Rattle.lx_words.proofs.Lists.{map_length, got_past}
use Rattle.lx_ir.specs.declared.types.Scalar.{Scalar}
use Rattle.lx_ir.specs.declared.module.Block.{Block}
use Rattle.lx_ir.specs.declared.module.Function.{Function}
use Rattle.lx_ir.specs.declared.module.Module.{Module}
use Rattle.lx_ir.specs.declared.module.Parameter.{Parameter}
use Rattle.lx_ir.specs.declared.instr.Instr.{Instr}
use Rattle.lx_ir.specs.declared.instr.Op.{Op}
use Rattle.lx_ir.specs.declared.instr.Op.TheVariants as op
use Rattle.lx_ir.specs.Lookup.{blocks_of, blocks_of_option, instrs_of, is_defined}
use Rattle.lx_ir.specs.Operands.{given_by, result_of, kept_result, is_phi, labels_of, register_types}
use Rattle.lx_ir.specs.Lawful.{counts_from, is_name, has_form, is_lawful_op, is_lawful_block, is_lawful_body, is_lawful_function, numbers_registers, is_lawful_callee}
use Rattle.lx_ir.specs.Faults.{Fault, first_some, earlier_fault, FirstOrUnassigned, global_fault, end_fault, label_fault, type_fault, phi_fault, phi_faults, op_edges_fit, block_phi_faults}
use Rattle.lx_ir.specs.Verified.{IsVerified}
use Rattle.lx_ir.proofs.Refused.{unless_none}
use Rattle.lx_images.specs.Places.{IsIn}
use Rattle.lx_simulation.proofs.Elements.{all_in}
use Rattle.lx_simulation.proofs.Verifying.{Sound, sound, given_from, no_parameter, of_functions, behind_globals}
use Rattle.lx_linked.proofs.Calling.{formed_by, block_formed}

-- elements

pub from_append : {A : Type 0} (x : A) (xs ys : List A) {B : Type 0} → IsIn x (xs ++ ys) → (IsIn x xs → B) → (IsIn x ys → B) → B
from_append x [] ys i f g = g i
from_append x (y ∷ xs) ys (inl e) f g = f (inl e)
from_append x (y ∷ xs) ys (inr i) f g = from_append x xs ys i (λ j. f (inr j)) g

pub from_blocks : (bs : List Block) (i : Instr) → IsIn i (flat_map (λ (b : Block). b.instrs) bs) → (b : Block) × IsIn b bs × IsIn i b.instrs
from_blocks [] i j = absurd j
from_blocks (b ∷ bs) i j =
    from_append i b.instrs (flat_map (λ (c : Block). c.instrs) bs) j
    (λ here. (b, inl refl, here))
    (λ there. (let f = from_blocks bs i there in (f.0, inr f.1, f.2)))

-- faults

earlier_none : (f : Function) (o : Option Fault) → FirstOrUnassigned o f None → o ≡ None
earlier_none f None h = refl
earlier_none f (Some x) h = none_some h

-- the edges of phis

phi_edges : (a b : Bool) (f : Function) (name : List ℕ) (o : Op) → is_phi o ≡ a → (not a || b && op_edges_fit f name o) ≡ true → op_edges_fit f name o ≡ true
phi_edges true true f name o p e = e
phi_edges true false f name o p e = true_false (sym e)
phi_edges false b f name (op.Phi to ty edges) p e = true_false p
phi_edges false b f name _ p e = refl

listed_edges : (f : Function) (name : List ℕ) (behind : Bool) (is : List Instr) (i : Instr) → phi_faults f name behind is ≡ None → IsIn i is → op_edges_fit f name i.op ≡ true
listed_edges f name behind [] i e j = absurd j
listed_edges f name behind (x ∷ is) i e (inl same) =
    let first = (neither_some (phi_fault f name behind x) (phi_faults f name (behind && is_phi x.op) is) e).0 in
    subst (λ (y : Instr). op_edges_fit f name y.op ≡ true) same (phi_edges (is_phi x.op) behind f name x.op refl (unless_none _ _ first))
listed_edges f name behind (x ∷ is) i e (inr j) =
    listed_edges f name (behind && is_phi x.op) is i (neither_some (phi_fault f name behind x) (phi_faults f name (behind && is_phi x.op) is) e).1 j

later_edges : (f : Function) (bs : List Block) (b : Block) (i : Instr) → first_some (λ c. phi_faults f c.name true c.instrs) bs ≡ None → IsIn b bs → IsIn i b.instrs → op_edges_fit f b.name i.op ≡ true
later_edges f [] b i e at j = absurd at
later_edges f (c ∷ bs) b i e (inl same) j =
    listed_edges f b.name true b.instrs i (subst (λ (x : Block). phi_faults f x.name true x.instrs ≡ None) same (neither_some (phi_faults f c.name true c.instrs) _ e).0) j
later_edges f (c ∷ bs) b i e (inr at) j = later_edges f bs b i (neither_some (phi_faults f c.name true c.instrs) _ e).1 at j

block_edges : (f : Function) (bs : List Block) (b : Block) (i : Instr) → block_phi_faults f bs ≡ None → IsIn b bs → IsIn i b.instrs → op_edges_fit f b.name i.op ≡ true
block_edges f [] b i e at j = absurd at
block_edges f (c ∷ bs) b i e (inl same) j =
    listed_edges f b.name false b.instrs i (subst (λ (x : Block). phi_faults f x.name false x.instrs ≡ None) same (neither_some (phi_faults f c.name false c.instrs) _ e).0) j
block_edges f (c ∷ bs) b i e (inr at) j = later_edges f bs b i (neither_some (phi_faults f c.name false c.instrs) _ e).1 at j

-- the forms of instructions

op_form : (m : Module) (f : Function) (o : Op) → is_lawful_op m f o ≡ true → has_form m o ≡ true
op_form m f o e = first_of (has_form m o) _ (first_of (has_form m o && _) (list_all is_name (labels_of o)) e)

body_form : (m : Module) (f : Function) (i : Instr) → is_lawful_body m f ≡ true → IsIn i (instrs_of f) → has_form m i.op ≡ true
body_form m f i e j =
    let at = from_blocks (blocks_of f) i j in
    block_formed m f at.0 i (all_in (is_lawful_block m f) (blocks_of f) at.0 (second_of _ (list_all (is_lawful_block m f) (blocks_of f)) (first_of _ (numbers_registers f) e)) at.1) at.2

import_none : (f : Function) (i : Instr) → is_defined f ≡ false → IsIn i (instrs_of f) → ⊥
import_none f i e j = subst (λ (bs : List Block). IsIn i (flat_map (λ (b : Block). b.instrs) bs)) (no_blocks f.blocks e) j where
  no_blocks : (o : Option (List Block)) → is_some o ≡ false → blocks_of_option o ≡ []
  no_blocks None e = refl
  no_blocks (Some bs) e = true_false e

-- what is known of a function
pub record Known (m : Module) (g : Function) : Type 0 where
  pub is_sound : Sound m g
  pub form : (i : Instr) → IsIn i (instrs_of g) → has_form m i.op ≡ true
  pub edges : (b : Block) (i : Instr) → IsIn b (blocks_of g) → IsIn i b.instrs → op_edges_fit g b.name i.op ≡ true

pub known : (m : Module) (g : Function) → IsVerified m → IsIn g m.functions → Known m g
known m g v i =
    let fault = earlier_none g (earlier_fault m g) (of_functions m m.functions g (behind_globals m (first_some (global_fault m) m.globals) v.no_fault) i) in
    let behind_ends = (neither_some (first_some (end_fault g) (blocks_of g)) _ fault).1 in
    let behind_labels = (neither_some (first_some (label_fault g) (instrs_of g)) _ behind_ends).1 in
    let types = neither_some (first_some (type_fault m g (register_types g)) (instrs_of g)) _ behind_labels in
    record {
      is_sound = sound m g v i;
      form = λ x j. formed_by m g x (is_defined g) refl (second_of _ _ (all_in (is_lawful_function m) m.functions g v.lawful.functions i)) j;
      edges = λ b x at j. block_edges g (blocks_of g) b x types.1 at j;
    }

-- the type of the register that an instruction gives

abbrev given : Instr → Option ℕ
given x = given_by x.op

abbrev typed : Instr → Option Scalar
typed x = result_of x.op

-- an instruction that gives a register has a result
abbrev Gives : Op → Type 0
Gives o = is_some (given_by o) ≡ is_some (result_of o)

call_gives : (to : Option ℕ) (ret : Option Scalar) → (is_none to || is_some ret) ≡ true → is_some to ≡ is_some (kept_result to ret)
call_gives None ret e = refl
call_gives (Some r) ret e = sym e

gives : (m : Module) (o : Op) → has_form m o ≡ true → Gives o
gives m (op.Call to ret callee args) e = call_gives to ret (first_of (is_none to || is_some ret) (is_lawful_callee m callee) e)
gives m (op.Binary to o ty a b) e = refl
gives m (op.Compare to p ty a b) e = refl
gives m (op.Convert to how from a into) e = refl
gives m (op.Unary to o ty a) e = refl
gives m (op.Select to c ty a b) e = refl
gives m (op.Phi to ty edges) e = refl
gives m (op.Alloca to ty) e = refl
gives m (op.Load to ty at) e = refl
gives m (op.GetElementPtr to ty base indices) e = refl
gives m _ e = refl

abbrev TypesFrom : List Instr → Type 0
TypesFrom is =
    (n k r : ℕ) (i : Instr) → counts_from n (filter_map given is) ≡ true → ((x : Instr) → IsIn x is → Gives x.op) → r ≡ n + k → IsIn i is → given i ≡ Some r
    → slice_get (filter_map typed is) k ≡ typed i

counted : (k n : ℕ) (ks : List ℕ) → counts_from n (k ∷ ks) ≡ true → (k ≡ n) × (counts_from (suc n) ks ≡ true)
counted k n ks e = (same k n (first_of (nat_eq k n) (counts_from (suc n) ks) e), second_of (nat_eq k n) (counts_from (suc n) ks) e) where
  same : (a b : ℕ) → nat_eq a b ≡ true → a ≡ b
  same a b e = grind (arith, e)

none_left : (n k : ℕ) → n ≡ n + k → k ≡ 0
none_left n k e = omega (arith, e)

type_later : (q : ℕ) (t : Scalar) (x : Instr) (is : List Instr) → TypesFrom is → (n k r : ℕ) (i : Instr) → counts_from (suc n) (filter_map given is) ≡ true → ((y : Instr) → IsIn y is → Gives y.op) → r ≡ n + k → IsIn i is → given i ≡ Some r → suc n ≤ r →
    slice_get (t ∷ filter_map typed is) k ≡ typed i
type_later q t x is ih n zero r i c all e j g least = absurd (omega (arith, e, least))
type_later q t x is ih n (suc k) r i c all e j g least = let at : r ≡ suc n + k = omega (arith, e) in ih (suc n) k r i c all at j g

type_cases : (x : Instr) (is : List Instr) (o : Option ℕ) (t : Option Scalar) → given x ≡ o → typed x ≡ t → is_some o ≡ is_some t → TypesFrom is →
    (n k r : ℕ) (i : Instr) → counts_from n (cons_option o (filter_map given is)) ≡ true → ((y : Instr) → IsIn y is → Gives y.op) → r ≡ n + k → IsIn i (x ∷ is) → given i ≡ Some r
    → slice_get (cons_option t (filter_map typed is)) k ≡ typed i
type_cases x is None None ex et s ih n k r i c all e (inl same) g = none_some (sym ex ∙ ap given same ∙ g)
type_cases x is None None ex et s ih n k r i c all e (inr j) g = ih n k r i c all e j g
type_cases x is None (Some t) ex et s ih n k r i c all e j g = true_false (sym s)
type_cases x is (Some q) None ex et s ih n k r i c all e j g = true_false s
type_cases x is (Some q) (Some t) ex et s ih n k r i c all e (inl same) g =
    let cs = counted q n (filter_map given is) c in
    let at : n ≡ n + k = sym cs.0 ∙ some_same (sym ex ∙ ap given same ∙ g) ∙ e in
    ap (slice_get (t ∷ filter_map typed is)) (none_left n k at) ∙ (sym et ∙ ap typed same)
type_cases x is (Some q) (Some t) ex et s ih n k r i c all e (inr j) g =
    let cs = counted q n (filter_map given is) c in
    type_later q t x is ih n k r i cs.1 all e j g (given_from is (suc n) i r cs.1 j g)

types_from : (is : List Instr) → TypesFrom is
types_from [] n k r i c all e j g = absurd j
types_from (x ∷ is) n k r i c all e j g =
    type_cases x is (given x) (typed x) refl refl (all x (inl refl)) (types_from is) n k r i c (λ y a. all y (inr a)) e j g

pub param_type : Parameter → Scalar
param_type q = q.ty

as_far : (a b : ℕ) → a ≤ b → (k : ℕ) × (b ≡ a + k)
as_far zero b h = (b, omega arith)
as_far (suc a) zero h = absurd (omega (arith, h))
as_far (suc a) (suc b) h = let f = as_far a b (omega (arith, h)) in let e : b ≡ a + f.0 = f.1 in (f.0, omega (arith, e))

-- the type of the register that an instruction gives is that of its result
pub given_type : (m : Module) (g : Function) → Known m g → (i : Instr) (r : ℕ) → IsIn i (instrs_of g) → given_by i.op ≡ Some r → slice_get (register_types g) r ≡ result_of i.op
given_type m g k i r j e =
    let far = as_far (length g.params) r (no_parameter m g k.is_sound i r j e) in
    let many : length (map (λ (q : Parameter). q.ty) g.params) ≡ length g.params = map_length _ g.params in
    ap (slice_get (register_types g)) (far.1 ∙ ap (λ (n : ℕ). n + far.0) (sym many))
    ∙ got_past (map (λ (q : Parameter). q.ty) g.params) (filter_map typed (instrs_of g)) far.0
    ∙ types_from (instrs_of g) (length g.params) far.0 r i k.is_sound.given (λ x a. gives m x.op (k.form x a)) far.1 j e

-- and there is one
pub given_typed : (m : Module) (g : Function) → Known m g → (i : Instr) (r : ℕ) → IsIn i (instrs_of g) → given_by i.op ≡ Some r → (ty : Scalar) × (result_of i.op ≡ Some ty)
given_typed m g k i r j e = there (result_of i.op) (sym (gives m i.op (k.form i j)) ∙ ap (λ (o : Option ℕ). is_some o) e) where
  there : (o : Option Scalar) → is_some o ≡ true → (ty : Scalar) × (o ≡ Some ty)
  there None h = true_false (sym h)
  there (Some ty) h = (ty, refl)

front_there : {A : Type 0} (xs ys : List A) (r : ℕ) → r < length xs → (x : A) × (slice_get (xs ++ ys) r ≡ Some x)
front_there [] ys r h = absurd (omega (arith, h))
front_there (x ∷ xs) ys zero h = (x, refl)
front_there (x ∷ xs) ys (suc r) h = front_there xs ys r (omega (arith, h))

-- a parameter has a type
pub param_typed : (g : Function) (r : ℕ) → r < length g.params → (ty : Scalar) × (slice_get (register_types g) r ≡ Some ty)
param_typed g r h =
    let many : length (map (λ (q : Parameter). q.ty) g.params) ≡ length g.params = map_length _ g.params in
    front_there (map (λ (q : Parameter). q.ty) g.params) (filter_map typed (instrs_of g)) r (subst (λ (n : ℕ). r < n) (sym many) h)
