-- Modules that are compared as the same are one text, and one text is compared as the same.
use Rattle.std.proofs.Common.{◌≡◌, Bool, true, ◌&&◌, Option, Some, None, List, [], ◌∷◌, map, refl, sym, ◌∙◌, ap}
use Rattle.std.specs.Prelude.{bytes_eq}
use Rattle.lx_ir.specs.declared.types.NamedType.{NamedType}
use Rattle.lx_ir.specs.declared.module.Brackets.{Brackets}
use Rattle.lx_ir.specs.declared.module.Brackets.TheVariants as brackets
use Rattle.lx_ir.specs.declared.module.GlobalVar.{GlobalVar}
use Rattle.lx_ir.specs.declared.module.Parameter.{Parameter}
use Rattle.lx_ir.specs.declared.module.Block.{Block}
use Rattle.lx_ir.specs.declared.module.Function.{Function}
use Rattle.lx_ir.specs.declared.module.Module.{Module}
use Rattle.lx_ir.specs.IrType.{IrType}
use Rattle.lx_ir.specs.Init.{Init, Plain, Empty, Bytes, Group, Inits, no_more, more}
use Rattle.lx_ir.specs.TypeNodes.{types_of_list}
use Rattle.lx_ir.specs.Lawful.{same_scalar}
use Rattle.lx_ir.specs.Faults.{same_result, same_type, same_types}
use Rattle.lx_ir.proofs.Equality.{scalar_is, scalar_itself, blank_is, blank_itself, constant_is, constant_itself, result_is}
use Rattle.lx_image_texts.specs.ImageFaults.{same_narrow}
use Rattle.lx_image_texts.specs.Guards.{BlockText, block_text, FunctionText, function_text, unlined_global}
use Rattle.std.specs.Prelude.{option_map}
use Rattle.std.proofs.lemmas.Bool.{and_from}
use Rattle.lx_words.proofs.Lists.{same_bytes, bytes_itself}
use Rattle.lx_words.proofs.Tests.{false_true, first_of, second_of}
use Rattle.lx_image_texts.proofs.Comparing.{result_itself}
use Rattle.lx_image_texts.proofs.MarkedCode.{narrow_is, narrow_itself}
use Rattle.lx_same_texts.specs.Same.{same_lists, same_op, same_brackets, same_init, same_inits, same_named_type, same_global, same_parameter, same_instr, same_block, same_body, same_function, same_module}
use Rattle.lx_same_texts.specs.SameText.{SameText}
use Rattle.lx_same_texts.proofs.Parts.{lists_are, lists_themselves, type_is, type_itself, types_themselves, op_is, op_itself}

-- lists by what is compared of their elements

lists_alike : {A B : Type 0} (same : A → A → Bool) (f : A → B) → ((x y : A) → same x y ≡ true → f x ≡ f y) → (xs ys : List A) → same_lists same xs ys ≡ true → map f xs ≡ map f ys
lists_alike same f law [] [] e = refl
lists_alike same f law (x ∷ xs) (y ∷ ys) e = λ j. law x y (first_of (same x y) (same_lists same xs ys) e) j ∷ lists_alike same f law xs ys (second_of (same x y) (same_lists same xs ys) e) j
lists_alike same f law [] (y ∷ ys) e = false_true e
lists_alike same f law (x ∷ xs) [] e = false_true e

lists_meet : {A B : Type 0} (same : A → A → Bool) (f : A → B) → ((x y : A) → f x ≡ f y → same x y ≡ true) → (xs ys : List A) → map f xs ≡ map f ys → same_lists same xs ys ≡ true
lists_meet same f law [] [] e = refl
lists_meet same f law (x ∷ xs) (y ∷ ys) e =
    let here : f x ≡ f y = cc in
    let rest : map f xs ≡ map f ys = cc in
    and_from (same x y) (same_lists same xs ys) (law x y here) (lists_meet same f law xs ys rest)
lists_meet same f law [] (y ∷ ys) e = cc
lists_meet same f law (x ∷ xs) [] e = cc

-- what is the same as itself is the same as what it equals
meets : {A : Type 0} (same : A → A → Bool) → ((x : A) → same x x ≡ true) → (a b : A) → a ≡ b → same a b ≡ true
meets same law a b p = ap (λ x. same a x) (sym p) ∙ law a

-- initialisers

brackets_are : (a b : Brackets) → same_brackets a b ≡ true → a ≡ b
brackets_are brackets.Struct brackets.Struct e = refl
brackets_are brackets.Packed brackets.Packed e = refl
brackets_are brackets.Array brackets.Array e = refl
brackets_are _ _ e = false_true e

brackets_themselves : (b : Brackets) → same_brackets b b ≡ true
brackets_themselves brackets.Struct = refl
brackets_themselves brackets.Packed = refl
brackets_themselves brackets.Array = refl

list_is : (ss ts : List IrType) → same_types (types_of_list ss) (types_of_list ts) ≡ true → ss ≡ ts
list_is [] [] e = refl
list_is (s ∷ ss) (t ∷ ts) e = λ j. type_is s t (first_of (same_type s t) (same_types (types_of_list ss) (types_of_list ts)) e) j ∷ list_is ss ts (second_of (same_type s t) (same_types (types_of_list ss) (types_of_list ts)) e) j
list_is [] (t ∷ ts) e = false_true e
list_is (s ∷ ss) [] e = false_true e

mutual
  init_is : (x y : Init) → same_init x y ≡ true → x ≡ y
  init_is (Plain c) (Plain d) e = ap Plain (constant_is c d e)
  init_is (Empty a) (Empty b) e = ap Empty (blank_is a b e)
  init_is (Bytes a) (Bytes b) e = ap Bytes (same_bytes a b e)
  init_is (Group h ts is) (Group k us js) e =
      let two = first_of (same_brackets h k && same_types (types_of_list ts) (types_of_list us)) (same_inits is js) e in
      λ j. Group (brackets_are h k (first_of (same_brackets h k) (same_types (types_of_list ts) (types_of_list us)) two) j) (list_is ts us (second_of (same_brackets h k) (same_types (types_of_list ts) (types_of_list us)) two) j) (inits_are is js (second_of (same_brackets h k && same_types (types_of_list ts) (types_of_list us)) (same_inits is js) e) j)
  init_is _ _ e = false_true e

  inits_are : (xs ys : Inits) → same_inits xs ys ≡ true → xs ≡ ys
  inits_are no_more no_more e = refl
  inits_are (more x xs) (more y ys) e = λ j. more (init_is x y (first_of (same_init x y) (same_inits xs ys) e) j) (inits_are xs ys (second_of (same_init x y) (same_inits xs ys) e) j)
  inits_are no_more (more y ys) e = false_true e
  inits_are (more x xs) no_more e = false_true e

mutual
  init_itself : (x : Init) → same_init x x ≡ true
  init_itself (Plain c) = constant_itself c
  init_itself (Empty a) = blank_itself a
  init_itself (Bytes a) = bytes_itself a
  init_itself (Group k ts is) = and_from (same_brackets k k && same_types (types_of_list ts) (types_of_list ts)) (same_inits is is) (and_from (same_brackets k k) (same_types (types_of_list ts) (types_of_list ts)) (brackets_themselves k) (types_themselves (types_of_list ts))) (inits_themselves is)

  inits_themselves : (xs : Inits) → same_inits xs xs ≡ true
  inits_themselves no_more = refl
  inits_themselves (more x xs) = and_from (same_init x x) (same_inits xs xs) (init_itself x) (inits_themselves xs)

-- the parts of modules

named_type_is : (a b : NamedType) → same_named_type a b ≡ true → a ≡ b
named_type_is a b e =
    let e1 = first_of (bytes_eq a.name b.name) (same_type a.ty b.ty) e in
    λ j. record { name = same_bytes a.name b.name e1 j; ty = type_is a.ty b.ty (second_of (bytes_eq a.name b.name) (same_type a.ty b.ty) e) j }

named_type_itself : (a : NamedType) → same_named_type a a ≡ true
named_type_itself a = (and_from (bytes_eq a.name a.name) (same_type a.ty a.ty) (bytes_itself a.name) (type_itself a.ty))

parameter_is : (a b : Parameter) → same_parameter a b ≡ true → a ≡ b
parameter_is a b e =
    let e1 = first_of (bytes_eq a.name b.name) (same_scalar a.ty b.ty) e in
    λ j. record { name = same_bytes a.name b.name e1 j; ty = scalar_is a.ty b.ty (second_of (bytes_eq a.name b.name) (same_scalar a.ty b.ty) e) j }

parameter_itself : (a : Parameter) → same_parameter a a ≡ true
parameter_itself a = (and_from (bytes_eq a.name a.name) (same_scalar a.ty a.ty) (bytes_itself a.name) (scalar_itself a.ty))

global_is : (a b : GlobalVar) → same_global a b ≡ true → unlined_global a ≡ unlined_global b
global_is a b e =
    let e3 = first_of (bytes_eq a.name b.name && same_narrow a.constant b.constant && same_type a.ty b.ty) (same_init a.init b.init) e in
    let e2 = first_of (bytes_eq a.name b.name && same_narrow a.constant b.constant) (same_type a.ty b.ty) e3 in
    let e1 = first_of (bytes_eq a.name b.name) (same_narrow a.constant b.constant) e2 in
    λ j. record { name = same_bytes a.name b.name e1 j; constant = narrow_is a.constant b.constant (second_of (bytes_eq a.name b.name) (same_narrow a.constant b.constant) e2) j; ty = type_is a.ty b.ty (second_of (bytes_eq a.name b.name && same_narrow a.constant b.constant) (same_type a.ty b.ty) e3) j; init = init_is a.init b.init (second_of (bytes_eq a.name b.name && same_narrow a.constant b.constant && same_type a.ty b.ty) (same_init a.init b.init) e) j; line = 0 }

global_meets : (a b : GlobalVar) → unlined_global a ≡ unlined_global b → same_global a b ≡ true
global_meets a b p = (and_from (bytes_eq a.name b.name && same_narrow a.constant b.constant && same_type a.ty b.ty) (same_init a.init b.init) (and_from (bytes_eq a.name b.name && same_narrow a.constant b.constant) (same_type a.ty b.ty) (and_from (bytes_eq a.name b.name) (same_narrow a.constant b.constant) (meets bytes_eq bytes_itself a.name b.name (ap (λ (g : GlobalVar). g.name) p)) (meets same_narrow narrow_itself a.constant b.constant (ap (λ (g : GlobalVar). g.constant) p))) (meets same_type type_itself a.ty b.ty (ap (λ (g : GlobalVar). g.ty) p))) (meets same_init init_itself a.init b.init (ap (λ (g : GlobalVar). g.init) p)))

block_is : (a b : Block) → same_block a b ≡ true → block_text a ≡ block_text b
block_is a b e =
    λ j. record {
      name = same_bytes a.name b.name (first_of (bytes_eq a.name b.name) (same_lists same_instr a.instrs b.instrs) e) j;
      code = lists_alike same_instr (λ i. i.op) (λ x y h. op_is x.op y.op h) a.instrs b.instrs (second_of (bytes_eq a.name b.name) (same_lists same_instr a.instrs b.instrs) e) j;
    }

block_meets : (a b : Block) → block_text a ≡ block_text b → same_block a b ≡ true
block_meets a b p =
    and_from (bytes_eq a.name b.name) (same_lists same_instr a.instrs b.instrs)
    (meets bytes_eq bytes_itself a.name b.name (ap (λ (t : BlockText). t.name) p))
    (lists_meet same_instr (λ i. i.op) (λ x y h. meets same_op op_itself x.op y.op h) a.instrs b.instrs (ap (λ (t : BlockText). t.code) p))

body_is : (a b : Option (List Block)) → same_body a b ≡ true → option_map (map block_text) a ≡ option_map (map block_text) b
body_is None None e = refl
body_is (Some a) (Some b) e = ap (λ (ts : List BlockText). Some ts) (lists_alike same_block block_text block_is a b e)
body_is None (Some b) e = false_true e
body_is (Some a) None e = false_true e

body_meets : (a b : Option (List Block)) → option_map (map block_text) a ≡ option_map (map block_text) b → same_body a b ≡ true
body_meets None None e = refl
body_meets (Some a) (Some b) e = let p : map block_text a ≡ map block_text b = cc in lists_meet same_block block_text block_meets a b p
body_meets None (Some b) e = cc
body_meets (Some a) None e = cc

function_is : (a b : Function) → same_function a b ≡ true → function_text a ≡ function_text b
function_is a b e =
    let e4 = first_of (bytes_eq a.name b.name && same_lists same_parameter a.params b.params && same_lists bytes_eq a.locals b.locals && same_result a.ret b.ret) (same_body a.blocks b.blocks) e in
    let e3 = first_of (bytes_eq a.name b.name && same_lists same_parameter a.params b.params && same_lists bytes_eq a.locals b.locals) (same_result a.ret b.ret) e4 in
    let e2 = first_of (bytes_eq a.name b.name && same_lists same_parameter a.params b.params) (same_lists bytes_eq a.locals b.locals) e3 in
    let e1 = first_of (bytes_eq a.name b.name) (same_lists same_parameter a.params b.params) e2 in
    λ j. record { name = same_bytes a.name b.name e1 j; params = lists_are same_parameter parameter_is a.params b.params (second_of (bytes_eq a.name b.name) (same_lists same_parameter a.params b.params) e2) j; locals = lists_are bytes_eq same_bytes a.locals b.locals (second_of (bytes_eq a.name b.name && same_lists same_parameter a.params b.params) (same_lists bytes_eq a.locals b.locals) e3) j; ret = result_is a.ret b.ret (second_of (bytes_eq a.name b.name && same_lists same_parameter a.params b.params && same_lists bytes_eq a.locals b.locals) (same_result a.ret b.ret) e4) j; blocks = body_is a.blocks b.blocks (second_of (bytes_eq a.name b.name && same_lists same_parameter a.params b.params && same_lists bytes_eq a.locals b.locals && same_result a.ret b.ret) (same_body a.blocks b.blocks) e) j }

function_meets : (a b : Function) → function_text a ≡ function_text b → same_function a b ≡ true
function_meets a b p = (and_from (bytes_eq a.name b.name && same_lists same_parameter a.params b.params && same_lists bytes_eq a.locals b.locals && same_result a.ret b.ret) (same_body a.blocks b.blocks) (and_from (bytes_eq a.name b.name && same_lists same_parameter a.params b.params && same_lists bytes_eq a.locals b.locals) (same_result a.ret b.ret) (and_from (bytes_eq a.name b.name && same_lists same_parameter a.params b.params) (same_lists bytes_eq a.locals b.locals) (and_from (bytes_eq a.name b.name) (same_lists same_parameter a.params b.params) (meets bytes_eq bytes_itself a.name b.name (ap (λ (t : FunctionText). t.name) p)) (meets (same_lists same_parameter) (lists_themselves same_parameter parameter_itself) a.params b.params (ap (λ (t : FunctionText). t.params) p))) (meets (same_lists bytes_eq) (lists_themselves bytes_eq bytes_itself) a.locals b.locals (ap (λ (t : FunctionText). t.locals) p))) (meets same_result result_itself a.ret b.ret (ap (λ (t : FunctionText). t.ret) p))) (body_meets a.blocks b.blocks (ap (λ (t : FunctionText). t.blocks) p)))

-- modules

pub module_is : (a b : Module) → same_module a b ≡ true → SameText a b
module_is a b e =
    let e2 = first_of (same_lists same_named_type a.types b.types && same_lists same_global a.globals b.globals) (same_lists same_function a.functions b.functions) e in
    let e1 = first_of (same_lists same_named_type a.types b.types) (same_lists same_global a.globals b.globals) e2 in
    record {
      types = lists_are same_named_type named_type_is a.types b.types e1;
      globals = lists_alike same_global unlined_global global_is a.globals b.globals (second_of (same_lists same_named_type a.types b.types) (same_lists same_global a.globals b.globals) e2);
      functions = lists_alike same_function function_text function_is a.functions b.functions (second_of (same_lists same_named_type a.types b.types && same_lists same_global a.globals b.globals) (same_lists same_function a.functions b.functions) e);
    }

pub module_meets : (a b : Module) → SameText a b → same_module a b ≡ true
module_meets a b s = (and_from (same_lists same_named_type a.types b.types && same_lists same_global a.globals b.globals) (same_lists same_function a.functions b.functions) (and_from (same_lists same_named_type a.types b.types) (same_lists same_global a.globals b.globals) (meets (same_lists same_named_type) (lists_themselves same_named_type named_type_itself) a.types b.types s.types) (lists_meet same_global unlined_global global_meets a.globals b.globals s.globals)) (lists_meet same_function function_text function_meets a.functions b.functions s.functions))

-- what a test says, from what it is
pub told : (a b : Module) (r : Bool) → r ≡ same_module a b → r ≡ true → SameText a b
told a b r e h = module_is a b (sym e ∙ h)

pub tells : (a b : Module) (r : Bool) → r ≡ same_module a b → SameText a b → r ≡ true
tells a b r e s = e ∙ module_meets a b s

-- so it is of their types alone
pub types_told : (a b : List NamedType) (r : Bool) → r ≡ same_lists same_named_type a b → r ≡ true → a ≡ b
types_told a b r e h = lists_are same_named_type named_type_is a b (sym e ∙ h)
