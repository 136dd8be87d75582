-- Without what an image has besides, it is its program.
use Rattle.std.proofs.Common.{◌≡◌, ℕ, suc, ◌+◌, ◌<◌, Bool, true, false, not, ◌&&◌, List, [], ◌∷◌, ◌++◌, length, map, take, drop, Option, Some, None, inl, inr, refl, sym, ◌∙◌, ap, arith}
use Rattle.std.specs.Prelude.{slice_get, option_map, filter, filter_map, cond, codes, flat_map, is_some}
use Rattle.std.specs.List.{list_all}
use Rattle.std.proofs.lemmas.Bool.{and_from}
use Rattle.lx_words.proofs.Lists.{split_at, no_more, all_joined}
use Rattle.lx_words.proofs.Tests.{true_less, false_true, first_of, second_of}
use Rattle.lx_ir.specs.declared.types.Scalar.{Scalar}
use Rattle.lx_ir.specs.declared.module.Symbol.TheVariants as symbol
use Rattle.lx_ir.specs.declared.module.Block.{Block}
use Rattle.lx_ir.specs.declared.module.GlobalVar.{GlobalVar}
use Rattle.lx_ir.specs.declared.module.Function.{Function}
use Rattle.lx_ir.specs.declared.module.Module.{Module}
use Rattle.lx_ir.specs.declared.instr.Argument.{Argument}
use Rattle.lx_ir.specs.declared.instr.Callee.{Callee}
use Rattle.lx_ir.specs.declared.instr.Callee.TheVariants as callee
use Rattle.lx_ir.specs.declared.instr.Instr.{Instr}
use Rattle.lx_ir.specs.declared.instr.Op.{Op}
use Rattle.lx_ir.specs.declared.instr.Op.TheVariants as op
use Rattle.lx_ir.specs.Lookup.{is_defined, blocks_of, blocks_of_option, instrs_of}
use Rattle.lx_ir.specs.Lawful.{IsPlain, is_own_name, is_lawful_function, is_lawful_body, is_lawful_block, is_lawful_import, numbers_registers}
use Rattle.lx_ir.specs.Operands.{is_image_line}
use Rattle.lx_annot.specs.declared.interface.Interface.{Interface}
use Rattle.lx_slot_types.specs.declared.Marked.{Marked}
use Rattle.lx_propagate.specs.Slots.{annotated_of}
use Rattle.lx_image_texts.specs.Marks.{is_wrapped, image_callee, image_op, mark_of, without_marks}
use Rattle.lx_image_texts.specs.Guards.{ops_of, BlockText, block_text, FunctionText, function_text, IsMarked, AreMarked, HasMarks, AreGuarded, Guards}
use Rattle.lx_image_texts.specs.WrapperText.{out_if, out_wrappers, in_wrapper, in_wrappers, wrappers_of}
use Rattle.lx_image_texts.specs.Programs.{callee_within, op_within}
use Rattle.lx_image_texts.specs.Erased.{erased_callee, erased_op, erased_block, erased_text, is_of_program}

-- lists

kept_one : (p : Function → Bool) (x : Function) (xs ys : List Function) (b : Bool) → p x ≡ b → b ≡ true → filter p (xs ++ ys) ≡ xs ++ filter p ys → filter p (x ∷ (xs ++ ys)) ≡ x ∷ (xs ++ filter p ys)
kept_one p x xs ys true e t ih = λ j. cond (e j) (x ∷ ih j) (ih j)
kept_one p x xs ys false e t ih = false_true t

dropped_one : (p : Function → Bool) (x : Function) (xs : List Function) (b : Bool) → p x ≡ b → not b ≡ true → filter p xs ≡ [] → filter p (x ∷ xs) ≡ []
dropped_one p x xs true e t ih = false_true t
dropped_one p x xs false e t ih = λ j. cond (e j) (x ∷ ih j) (ih j)

pub kept_all : (p : Function → Bool) (xs ys : List Function) → list_all p xs ≡ true → filter p (xs ++ ys) ≡ xs ++ filter p ys
kept_all p [] ys a = refl
kept_all p (x ∷ xs) ys a = kept_one p x xs ys (p x) refl (first_of (p x) (list_all p xs) a) (kept_all p xs ys (second_of (p x) (list_all p xs) a))

kept_none : (p : Function → Bool) (xs : List Function) → list_all (λ x. not (p x)) xs ≡ true → filter p xs ≡ []
kept_none p [] a = refl
kept_none p (x ∷ xs) a = dropped_one p x xs (p x) refl (first_of (not (p x)) (list_all (λ x. not (p x)) xs) a) (kept_none p xs (second_of (not (p x)) (list_all (λ x. not (p x)) xs) a))

pub all_second : {A : Type 0} (p : A → Bool) (xs ys : List A) → list_all p (xs ++ ys) ≡ true → list_all p ys ≡ true
all_second p [] ys a = a
all_second p (x ∷ xs) ys a = all_second p xs ys (second_of (p x) (list_all p (xs ++ ys)) a)

pub all_first : {A : Type 0} (p : A → Bool) (xs ys : List A) → list_all p (xs ++ ys) ≡ true → list_all p xs ≡ true
all_first p [] ys a = refl
all_first p (x ∷ xs) ys a = and_from (p x) (list_all p xs) (first_of (p x) (list_all p (xs ++ ys)) a) (all_first p xs ys (second_of (p x) (list_all p (xs ++ ys)) a))

-- names

abbrev pub names_of : List Function → List (List ℕ)
names_of fs = map (λ f. f.name) fs

abbrev pub out_prefix : List ℕ
out_prefix = codes "lxfi.out."

abbrev pub is_program_name : List ℕ → Bool
is_program_name n = not (is_own_name n)

named_all : (fs : List Function) → list_all is_program_name (names_of fs) ≡ list_all is_of_program fs
named_all [] = refl
named_all (f ∷ fs) = ap (λ (b : Bool). is_of_program f && b) (named_all fs)

named_none : (fs : List Function) → list_all (λ n. not (is_program_name n)) (names_of fs) ≡ list_all (λ f. not (is_of_program f)) fs
named_none [] = refl
named_none (f ∷ fs) = ap (λ (b : Bool). not (is_of_program f) && b) (named_none fs)

pub names_append : (xs ys : List Function) → names_of (xs ++ ys) ≡ names_of xs ++ names_of ys
names_append [] ys = refl
names_append (x ∷ xs) ys = ap (λ (ns : List (List ℕ)). x.name ∷ ns) (names_append xs ys)

pub guarded_names : (m : Module) (fs gs : List Function) → AreGuarded m fs gs → names_of gs ≡ names_of fs
guarded_names m [] gs h = ap names_of h
guarded_names m (f ∷ fs) [] h = absurd h
guarded_names m (f ∷ fs) (g ∷ gs) h = λ j. h.0.name j ∷ guarded_names m fs gs h.1 j

text_names : (xs : List Function) → map (λ (t : FunctionText). t.name) (map function_text xs) ≡ names_of xs
text_names [] = refl
text_names (x ∷ xs) = ap (λ (ns : List (List ℕ)). x.name ∷ ns) (text_names xs)

pub drop_names : (i : Interface) (m x : Module) → Guards i m x → names_of (drop (length m.functions) x.functions) ≡ names_of (wrappers_of i m)
drop_names i m x g = sym (text_names (drop (length m.functions) x.functions)) ∙ (ap (map (λ (t : FunctionText). t.name)) g.wrappers ∙ text_names (wrappers_of i m))

-- the image's functions that are the program's

out_own : (i : Interface) (n : ℕ) (f : Function) (fs : List Function) (b : Bool) → list_all (λ n. not (is_program_name n)) (names_of (out_wrappers i (suc n) fs)) ≡ true → list_all (λ n. not (is_program_name n)) (names_of (out_if b i n f ++ out_wrappers i (suc n) fs)) ≡ true
out_own i n f fs true ih = ih
out_own i n f fs false ih = ih

outs_own : (i : Interface) (n : ℕ) (fs : List Function) → list_all (λ n. not (is_program_name n)) (names_of (out_wrappers i n fs)) ≡ true
outs_own i n [] = refl
outs_own i n (f ∷ fs) = out_own i n f fs (is_wrapped f) (outs_own i (suc n) fs)

in_own : (i : Interface) (m : Module) (k : Marked) (ks : List Marked) (f : Option Function) → slice_get m.functions k.function ≡ f → list_all (λ n. not (is_program_name n)) (names_of (filter_map (in_wrapper i m) ks)) ≡ true →
    list_all (λ n. not (is_program_name n)) (names_of (filter_map (in_wrapper i m) (k ∷ ks))) ≡ true
in_own i m k ks None e ih = grind (arith, e, ih)
in_own i m k ks (Some f) e ih = grind (arith, e, ih)

ins_own : (i : Interface) (m : Module) (ks : List Marked) → list_all (λ n. not (is_program_name n)) (names_of (filter_map (in_wrapper i m) ks)) ≡ true
ins_own i m [] = refl
ins_own i m (k ∷ ks) = in_own i m k ks (slice_get m.functions k.function) refl (ins_own i m ks)

pub all_own : (i : Interface) (m : Module) → list_all (λ n. not (is_program_name n)) (names_of (wrappers_of i m)) ≡ true
all_own i m =
    ap (list_all (λ n. not (is_program_name n))) (names_append (out_wrappers i 0 m.functions) (in_wrappers i m))
    ∙ all_joined (λ n. not (is_program_name n)) (names_of (out_wrappers i 0 m.functions)) (names_of (in_wrappers i m)) (outs_own i 0 m.functions) (ins_own i m (annotated_of i m))

pub plain_functions : (m : Module) → IsPlain m → list_all is_program_name (names_of m.functions) ≡ true
plain_functions m p = all_second is_program_name (map (λ (g : GlobalVar). g.name) m.globals) (names_of m.functions) p.names

pub kept_functions : (i : Interface) (m x : Module) → Guards i m x → filter is_of_program x.functions ≡ take (length m.functions) x.functions
kept_functions i m x g =
    ap (filter is_of_program) (sym (split_at (length m.functions) x.functions))
    ∙ (kept_all is_of_program (take (length m.functions) x.functions) (drop (length m.functions) x.functions)
    (sym (named_all (take (length m.functions) x.functions)) ∙ (ap (list_all is_program_name) (guarded_names m m.functions (take (length m.functions) x.functions) g.functions) ∙ plain_functions m g.plain))
    ∙ (ap (λ (ys : List Function). take (length m.functions) x.functions ++ ys)
    (kept_none is_of_program (drop (length m.functions) x.functions) (sym (named_none (drop (length m.functions) x.functions)) ∙ (ap (list_all (λ n. not (is_program_name n))) (drop_names i m x g) ∙ all_own i m)))
    ∙ no_more (take (length m.functions) x.functions)))

-- code without its marks

mark_dropped : (m : Module) (o : Op) (rest : List Op) → without_marks (mark_of o ++ (image_op m o ∷ rest)) ≡ image_op m o ∷ without_marks rest
mark_dropped m (op.Call to ret (callee.Register r) args) rest = refl
mark_dropped m (op.Call to ret (callee.Symbol s) args) rest = refl
mark_dropped m o rest = refl

none_dropped : (m : Module) (o : Op) (rest : List Op) → without_marks (image_op m o ∷ rest) ≡ image_op m o ∷ without_marks rest
none_dropped m (op.Call to ret (callee.Register r) args) rest = refl
none_dropped m (op.Call to ret (callee.Symbol s) args) rest = refl
none_dropped m o rest = refl

unmarked : (m : Module) (f : Function) (os is : List Op) → IsMarked m f os is → without_marks is ≡ map (image_op m) os
unmarked m f [] is h = ap without_marks h
unmarked m f (o ∷ os) is (rest, inl e, h) = ap without_marks e ∙ (mark_dropped m o rest ∙ ap (λ (xs : List Op). image_op m o ∷ xs) (unmarked m f os rest h))
unmarked m f (o ∷ os) is (rest, inr e, h) = ap without_marks e.1 ∙ (none_dropped m o rest ∙ ap (λ (xs : List Op). image_op m o ∷ xs) (unmarked m f os rest h))

-- calls

abbrev pub CallsBack : Module → Module → Type 0
CallsBack m x = (k : ℕ) → k < length m.functions → erased_callee x (image_callee m (callee.Symbol (symbol.Function k))) ≡ callee.Symbol (symbol.Function k)

call_back : (m x : Module) (to : Option ℕ) (ret : Option Scalar) (y : Callee) (args : List Argument) → CallsBack m x → callee_within m y ≡ true → erased_op x (image_op m (op.Call to ret y args)) ≡ op.Call to ret y args
call_back m x to ret (callee.Register r) args back l = refl
call_back m x to ret (callee.Symbol (symbol.Global g)) args back l = refl
call_back m x to ret (callee.Symbol (symbol.Function k)) args back l = ap (λ (c : Callee). op.Call to ret c args) (back k (true_less k (length m.functions) l))

op_back : (m x : Module) (o : Op) → CallsBack m x → op_within m o ≡ true → not (is_image_line o) ≡ true → erased_op x (image_op m o) ≡ o
op_back m x (op.Call to ret y args) back l p = call_back m x to ret y args back (first_of (callee_within m y) _ l)
op_back m x (op.Guard at size narrow) back l p = false_true p
op_back m x (op.Check target) back l p = false_true p
op_back m x o back l p = refl

abbrev Within : Module → List Instr → Type 0
Within m is = list_all (λ (i : Instr). op_within m i.op) is ≡ true

code_back : (m x : Module) (is : List Instr) → CallsBack m x → Within m is → list_all (λ (i : Instr). not (is_image_line i.op)) is ≡ true → map (erased_op x) (map (image_op m) (map (λ (i : Instr). i.op) is)) ≡ map (λ (i : Instr). i.op) is
code_back m x [] back l p = refl
code_back m x (i ∷ is) back l p =
    λ j. op_back m x i.op back (first_of (op_within m i.op) (list_all (λ (i : Instr). op_within m i.op) is) l) (first_of (not (is_image_line i.op)) (list_all (λ (i : Instr). not (is_image_line i.op)) is) p) j
    ∷ code_back m x is back (second_of (op_within m i.op) (list_all (λ (i : Instr). op_within m i.op) is) l) (second_of (not (is_image_line i.op)) (list_all (λ (i : Instr). not (is_image_line i.op)) is) p) j

-- bodies

blocks_back : (m x : Module) (f : Function) (bs cs : List Block) → CallsBack m x → Within m (flat_map (λ (b : Block). b.instrs) bs) → list_all (λ (i : Instr). not (is_image_line i.op)) (flat_map (λ (b : Block). b.instrs) bs) ≡ true → AreMarked m f bs cs → map block_text bs ≡ map (erased_block x) cs
blocks_back m x f [] [] back l p h = refl
blocks_back m x f (b ∷ bs) (c ∷ cs) back l p h =
    λ j. record {
      name = sym h.0 j;
      code = (sym (ap (map (erased_op x)) (unmarked m f (ops_of b) (ops_of c) h.1) ∙ code_back m x b.instrs back (all_first (λ (i : Instr). op_within m i.op) b.instrs (flat_map (λ (b : Block). b.instrs) bs) l) (all_first (λ (i : Instr). not (is_image_line i.op)) b.instrs (flat_map (λ (b : Block). b.instrs) bs) p))) j;
    } ∷ blocks_back m x f bs cs back (all_second (λ (i : Instr). op_within m i.op) b.instrs (flat_map (λ (b : Block). b.instrs) bs) l) (all_second (λ (i : Instr). not (is_image_line i.op)) b.instrs (flat_map (λ (b : Block). b.instrs) bs) p) h.2 j
blocks_back m x f [] (c ∷ cs) back l p h = absurd h
blocks_back m x f (b ∷ bs) [] back l p h = absurd h

defined_body : (m : Module) (f : Function) (b : Bool) → b ≡ true → cond b (is_lawful_body m f) (is_lawful_import f) ≡ true → is_lawful_body m f ≡ true
defined_body m f true e h = h
defined_body m f false e h = false_true e

pub lawful_blocks : (m : Module) (f : Function) (bs : List Block) → f.blocks ≡ Some bs → is_lawful_function m f ≡ true → list_all (is_lawful_block m f) bs ≡ true
lawful_blocks m f bs e l =
    let body : is_lawful_body m f ≡ true = defined_body m f (is_defined f) (ap is_some e) (second_of _ _ l) in
    ap (λ (x : Option (List Block)). list_all (is_lawful_block m f) (blocks_of_option x)) (sym e) ∙ second_of _ (list_all (is_lawful_block m f) (blocks_of f)) (first_of _ (numbers_registers f) body)

body_back : (m x : Module) (f : Function) (bs cs : Option (List Block)) → CallsBack m x → Within m (flat_map (λ (b : Block). b.instrs) (blocks_of_option bs)) → list_all (λ (i : Instr). not (is_image_line i.op)) (flat_map (λ (b : Block). b.instrs) (blocks_of_option bs)) ≡ true → HasMarks m f bs cs → option_map (map block_text) bs ≡ option_map (map (erased_block x)) cs
body_back m x f None None back l p h = refl
body_back m x f (Some bs) (Some cs) back l p h = ap (λ (ts : List BlockText). Some ts) (blocks_back m x f bs cs back l p h)
body_back m x f None (Some cs) back l p h = absurd h
body_back m x f (Some bs) None back l p h = absurd h

pub functions_back : (m x : Module) (fs gs : List Function) → CallsBack m x → Within m (flat_map instrs_of fs) → list_all (λ (i : Instr). not (is_image_line i.op)) (flat_map instrs_of fs) ≡ true → AreGuarded m fs gs → map function_text fs ≡ map (erased_text x) gs
functions_back m x [] gs back l p h = ap (map (erased_text x)) (sym h)
functions_back m x (f ∷ fs) [] back l p h = absurd h
functions_back m x (f ∷ fs) (g ∷ gs) back l p h =
    λ j. record {
      name = sym h.0.name j;
      params = sym h.0.params j;
      locals = sym h.0.locals j;
      ret = sym h.0.ret j;
      blocks = body_back m x f f.blocks g.blocks back (all_first (λ (i : Instr). op_within m i.op) (instrs_of f) (flat_map instrs_of fs) l) (all_first (λ (i : Instr). not (is_image_line i.op)) (instrs_of f) (flat_map instrs_of fs) p) h.0.body j;
    } ∷ functions_back m x fs gs back (all_second (λ (i : Instr). op_within m i.op) (instrs_of f) (flat_map instrs_of fs) l) (all_second (λ (i : Instr). not (is_image_line i.op)) (instrs_of f) (flat_map instrs_of fs) p) h.1 j
