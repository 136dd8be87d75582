-- The functions and globals of a module are lawful where those of its image are, and its text names nothing but its own.
use Rattle.std.proofs.Common.{◌≡◌, ℕ, zero, suc, Bool, true, false, not, ◌&&◌, ◌||◌, List, [], ◌∷◌, ◌++◌, map, length, Option, Some, cond, is_some, is_none, refl, sym, ◌∙◌, ap}
use Rattle.std.specs.Prelude.{bytes_eq, codes, slice_get, nat_eq, nat_lt, nat_le}
use Rattle.std.specs.List.{list_all}
use Rattle.std.proofs.lemmas.Bool.{and_from}
use Rattle.lx_words.proofs.Lists.{no_list, same_bytes, there_is, heads, tails}
use Rattle.lx_words.proofs.Options.{none_some, some_same}
use Rattle.lx_words.proofs.Tests.{true_less, false_true, first_of, second_of}
use Rattle.lx_ir.specs.declared.types.Scalar.{Scalar}
use Rattle.lx_ir.specs.declared.module.Parameter.{Parameter}
use Rattle.lx_ir.specs.declared.module.Symbol.TheVariants as symbol
use Rattle.lx_ir.specs.declared.module.Pointer.TheVariants as pointer
use Rattle.lx_ir.specs.declared.module.Constant.{Constant}
use Rattle.lx_ir.specs.declared.module.Constant.TheVariants as constant
use Rattle.lx_ir.specs.declared.module.Value.{Value}
use Rattle.lx_ir.specs.declared.module.Value.TheVariants as value
use Rattle.lx_ir.specs.declared.module.Block.{Block}
use Rattle.lx_ir.specs.declared.module.GlobalVar.{GlobalVar}
use Rattle.lx_ir.specs.declared.module.Function.{Function}
use Rattle.lx_ir.specs.declared.module.Module.{Module}
use Rattle.lx_ir.specs.declared.instr.Argument.{Argument}
use Rattle.lx_ir.specs.declared.instr.Callee.{Callee}
use Rattle.lx_ir.specs.declared.instr.Callee.TheVariants as callee
use Rattle.lx_ir.specs.declared.instr.Instr.{Instr}
use Rattle.lx_ir.specs.declared.instr.Op.{Op}
use Rattle.lx_ir.specs.declared.instr.Op.TheVariants as op
use Rattle.lx_ir.specs.IrType.{IrType, One, Array, Struct, Packed, Named}
use Rattle.lx_ir.specs.Init.{Init, Plain, Empty, Bytes, Group, Inits, no_more, more}
use Rattle.lx_ir.specs.Layout.{is_lawful_type}
use Rattle.lx_ir.specs.Lookup.{blocks_of, instrs_of, is_defined}
use Rattle.lx_ir.specs.Lawful.{is_name, is_label, is_distinct, is_block_write, is_image_name, is_own_name, is_lawful_symbol, is_lawful_pointer, fits_pointer, is_lawful_constant, nesting_of_constant, nesting_of_init, is_lawful_item, is_lawful_init, are_lawful_inits, is_lawful_value, is_lawful_callee, has_form, is_lawful_op, ends_once, is_lawful_block, numbers_registers, parameter_names, is_lawful_import, is_lawful_body, is_lawful_function, is_lawful_global}
use Rattle.lx_ir.specs.Operands.{operands_of, labels_of, is_image_line, register_count}
use Rattle.lx_ir.specs.Text.{symbol_name, name_at}
use Rattle.lx_annot.specs.declared.interface.Interface.{Interface}
use Rattle.lx_image_texts.specs.Marks.{image_callee, image_op}
use Rattle.lx_image_texts.specs.Guards.{unlined_global, Guards}
use Rattle.lx_image_texts.specs.Programs.{constant_within, value_within, callee_within, call_within, op_within, init_within, inits_within}
use Rattle.lx_image_texts.proofs.Erasing.{all_first, all_second}
use Rattle.lx_image_texts.proofs.Calling.{program_name}
use Rattle.lx_image_texts.proofs.Sound.{named}
use Rattle.lx_image_texts.proofs.Beside.{Alike, Beside, ends, bare, marked, BesideBlock, BesideBlocks, no_blocks, blocks, BesideBody, no_body, body, BesideFunction, blocks_beside, flat, same_operands, same_labels}
use Rattle.lx_image_texts.proofs.Along.{once_same}
use Rattle.lx_image_texts.proofs.Flow.{count_same, names_same, blocks_same}
use Rattle.lx_image_texts.proofs.Numbers.{numbers_program}
use Rattle.lx_image_texts.proofs.Paired.{there}
use Rattle.lx_image_texts.proofs.Complete.{names_same as global_names_same}

-- constants and values

constant_left : (m x : Module) (ty : Scalar) (c : Constant) → constant_within m c ≡ true → is_lawful_constant x ty c ≡ true → is_lawful_constant m ty c ≡ true
constant_left m x ty (constant.Pointer p) w l = and_from (is_lawful_pointer m p) (fits_pointer ty p) w (second_of (is_lawful_pointer x p) (fits_pointer ty p) l)
constant_left m x ty (constant.Cast p v) w l = w
constant_left m x ty c w l = l

value_left : (m x : Module) (f g : Function) → register_count f ≡ register_count g → (ty : Scalar) (v : Value) → value_within m v ≡ true → is_lawful_value x g ty v ≡ true → is_lawful_value m f ty v ≡ true
value_left m x f g n ty (value.Register r) w l = ap (nat_lt r) n ∙ l
value_left m x f g n ty (value.Constant c) w l =
    and_from (is_lawful_constant m ty c) (nat_le (nesting_of_constant c) 64) (constant_left m x ty c w (first_of (is_lawful_constant x ty c) (nat_le (nesting_of_constant c) 64) l)) (second_of (is_lawful_constant x ty c) (nat_le (nesting_of_constant c) 64) l)

values_left : (m x : Module) (f g : Function) → register_count f ≡ register_count g → (xs : List Argument) → list_all (λ (a : Argument). value_within m a.value) xs ≡ true → list_all (λ (a : Argument). is_lawful_value x g a.ty a.value) xs ≡ true → list_all (λ (a : Argument). is_lawful_value m f a.ty a.value) xs ≡ true
values_left m x f g n [] w l = refl
values_left m x f g n (a ∷ xs) w l =
    and_from (is_lawful_value m f a.ty a.value) (list_all (λ (a : Argument). is_lawful_value m f a.ty a.value) xs)
    (value_left m x f g n a.ty a.value (first_of (value_within m a.value) (list_all (λ (a : Argument). value_within m a.value) xs) w) (first_of (is_lawful_value x g a.ty a.value) (list_all (λ (a : Argument). is_lawful_value x g a.ty a.value) xs) l))
    (values_left m x f g n xs (second_of (value_within m a.value) (list_all (λ (a : Argument). value_within m a.value) xs) w) (second_of (is_lawful_value x g a.ty a.value) (list_all (λ (a : Argument). is_lawful_value x g a.ty a.value) xs) l))

-- initialisers

item_left : (m x : Module) (t : IrType) (c : Constant) → constant_within m c ≡ true → is_lawful_item x t c ≡ true → is_lawful_item m t c ≡ true
item_left m x (One ty) (constant.Pointer (pointer.Symbol s n)) w l = w
item_left m x (Array k t) (constant.Pointer (pointer.Symbol s n)) w l = w
item_left m x (Struct ts) (constant.Pointer (pointer.Symbol s n)) w l = w
item_left m x (Packed ts) (constant.Pointer (pointer.Symbol s n)) w l = w
item_left m x (Named k) (constant.Pointer (pointer.Symbol s n)) w l = w
item_left m x (One ty) (constant.Cast p v) w l = w
item_left m x (Array k t) (constant.Cast p v) w l = w
item_left m x (Struct ts) (constant.Cast p v) w l = w
item_left m x (Packed ts) (constant.Cast p v) w l = w
item_left m x (Named k) (constant.Cast p v) w l = w
item_left m x t c w l = l

mutual
  init_left : (m x : Module) → x.types ≡ m.types → (t : IrType) (i : Init) → init_within m i ≡ true → is_lawful_init x t i ≡ true → is_lawful_init m t i ≡ true
  init_left m x types t (Plain c) w l = item_left m x t c w l
  init_left m x types t (Empty b) w l = refl
  init_left m x types t (Bytes bs) w l = refl
  init_left m x types t (Group k ts is) w l =
      and_from (list_all (is_lawful_type m.types) ts) (are_lawful_inits m ts is)
      (ap (λ ns. list_all (is_lawful_type ns) ts) (sym types) ∙ first_of (list_all (is_lawful_type x.types) ts) (are_lawful_inits x ts is) l)
      (inits_left m x types ts is w (second_of (list_all (is_lawful_type x.types) ts) (are_lawful_inits x ts is) l))

  inits_left : (m x : Module) → x.types ≡ m.types → (ts : List IrType) (is : Inits) → inits_within m is ≡ true → are_lawful_inits x ts is ≡ true → are_lawful_inits m ts is ≡ true
  inits_left m x types [] no_more w l = refl
  inits_left m x types (t ∷ ts) (more i is) w l =
      and_from (is_lawful_init m t i) (are_lawful_inits m ts is) (init_left m x types t i (first_of (init_within m i) (inits_within m is) w) (first_of (is_lawful_init x t i) (are_lawful_inits x ts is) l))
      (inits_left m x types ts is (second_of (init_within m i) (inits_within m is) w) (second_of (is_lawful_init x t i) (are_lawful_inits x ts is) l))
  inits_left m x types [] (more i is) w l = false_true l
  inits_left m x types (t ∷ ts) no_more w l = false_true l

global_left : (m x : Module) (v w : GlobalVar) → x.types ≡ m.types → unlined_global v ≡ unlined_global w → init_within m w.init ≡ true → is_lawful_global x v ≡ true → is_lawful_global m w ≡ true
global_left m x v w types e within l =
    let name : v.name ≡ w.name = ap (λ (y : GlobalVar). y.name) e in
    let ty : v.ty ≡ w.ty = ap (λ (y : GlobalVar). y.ty) e in
    let init : v.init ≡ w.init = ap (λ (y : GlobalVar). y.init) e in
    let three = first_of (is_name v.name && is_lawful_type x.types v.ty && is_lawful_init x v.ty v.init) (nat_le (nesting_of_init v.init) 64) l in
    let two = first_of (is_name v.name && is_lawful_type x.types v.ty) (is_lawful_init x v.ty v.init) three in
    and_from (is_name w.name && is_lawful_type m.types w.ty && is_lawful_init m w.ty w.init) (nat_le (nesting_of_init w.init) 64)
    (and_from (is_name w.name && is_lawful_type m.types w.ty) (is_lawful_init m w.ty w.init)
    ((λ t. is_name (sym name t) && is_lawful_type (sym types t) (sym ty t)) ∙ two)
    (init_left m x types w.ty w.init within ((λ t. is_lawful_init x (sym ty t) (sym init t)) ∙ second_of (is_name v.name && is_lawful_type x.types v.ty) (is_lawful_init x v.ty v.init) three)))
    ((λ t. nat_le (nesting_of_init (sym init t)) 64) ∙ second_of (is_name v.name && is_lawful_type x.types v.ty && is_lawful_init x v.ty v.init) (nat_le (nesting_of_init v.init) 64) l)

pub globals_left : (m x : Module) (vs ws : List GlobalVar) → x.types ≡ m.types → map unlined_global vs ≡ map unlined_global ws → list_all (λ (g : GlobalVar). init_within m g.init) ws ≡ true → list_all (is_lawful_global x) vs ≡ true → list_all (is_lawful_global m) ws ≡ true
globals_left m x [] [] types e w l = refl
globals_left m x [] (v ∷ ws) types e w l = no_list e
globals_left m x (v ∷ vs) [] types e w l = no_list (sym e)
globals_left m x (v ∷ vs) (u ∷ ws) types e w l =
    and_from (is_lawful_global m u) (list_all (is_lawful_global m) ws)
    (global_left m x v u types (heads e) (first_of (init_within m u.init) (list_all (λ (g : GlobalVar). init_within m g.init) ws) w) (first_of (is_lawful_global x v) (list_all (is_lawful_global x) vs) l))
    (globals_left m x vs ws types (tails e) (second_of (init_within m u.init) (list_all (λ (g : GlobalVar). init_within m g.init) ws) w) (second_of (is_lawful_global x v) (list_all (is_lawful_global x) vs) l))

pub many_globals_same : (vs ws : List GlobalVar) → map unlined_global vs ≡ map unlined_global ws → length vs ≡ length ws
many_globals_same [] [] e = refl
many_globals_same [] (w ∷ ws) e = no_list e
many_globals_same (v ∷ vs) [] e = no_list (sym e)
many_globals_same (v ∷ vs) (w ∷ ws) e = ap suc (many_globals_same vs ws (tails e))

-- names that images alone have all begin alike

image_or : (name a : List ℕ) (rest : Bool) → is_own_name a ≡ true → is_own_name name ≡ false → rest ≡ false → (bytes_eq name a || rest) ≡ false
image_or name a rest own n r = by (bytes_eq name a) refl
  where
    by : (b : Bool) → bytes_eq name a ≡ b → (b || rest) ≡ false
    by true e = false_true (sym n ∙ ap is_own_name (same_bytes name a e) ∙ own)
    by false e = r

pub no_image_name : (name : List ℕ) → is_own_name name ≡ false → is_image_name name ≡ false
no_image_name name n =
    image_or name (codes "lxfi.guard") _ refl n
    (image_or name (codes "lxfi.guard32") _ refl n
    (image_or name (codes "lxfi.check") _ refl n
    (image_or name (codes "lxfi.enter") _ refl n
    (image_or name (codes "lxfi.pre") _ refl n (image_or name (codes "lxfi.post") _ refl n (image_or name (codes "lxfi.leave") _ refl n refl))))))

-- imports and definitions

defined_by : (m : Module) (b c : Option (List Block)) → BesideBody m b c → is_some b ≡ is_some c
defined_by m _ _ no_body = refl
defined_by m _ _ (body bs cs h) = refl

pub defined_same : (m : Module) (f g : Function) → BesideFunction m f g → is_defined f ≡ is_defined g
defined_same m f g h = defined_by m f.blocks g.blocks h.body

pub plain_name : (x : Module) (g : Function) → is_lawful_function x g ≡ true → not (is_block_write g.name) ≡ true
plain_name x g l = second_of (is_name g.name) (not (is_block_write g.name)) (first_of (is_name g.name && not (is_block_write g.name)) _ l)

-- what a body has beside its blocks and numbers

abbrev pub head_of : Function → Bool
head_of e =
    list_all is_name (parameter_names e ++ e.locals)
    && is_distinct (parameter_names e ++ e.locals)
    && nat_lt (register_count e) 4294967295
    && nat_lt 0 (length (blocks_of e))
    && is_distinct (map (λ c. c.name) (blocks_of e))

pub head_same : (m : Module) (f h : Function) → BesideFunction m f h → head_of f ≡ head_of h
head_same m f h b =
    let registers : parameter_names f ++ f.locals ≡ parameter_names h ++ h.locals = λ t. map (λ (p : Parameter). p.name) (b.params t) ++ b.locals t in
    λ t. list_all is_name (registers t) && is_distinct (registers t) && nat_lt (count_same m f h b t) 4294967295 && nat_lt 0 (blocks_same m f h b t) && is_distinct (names_same m f h b t)

-- so an import has

pub import_same : (m : Module) (f h : Function) → BesideFunction m f h → is_lawful_import f ≡ is_lawful_import h
import_same m f h b = λ t. list_all (λ (p : Parameter). nat_eq (length p.name) 0) (b.params t) && nat_eq (length (b.locals t)) 0

pub all_get : (p : Function → Bool) (fs : List Function) (k : ℕ) (f : Function) → list_all p fs ≡ true → slice_get fs k ≡ Some f → p f ≡ true
all_get p [] k f a e = none_some e
all_get p (g ∷ fs) zero f a e = ap p (sym (some_same e)) ∙ first_of (p g) (list_all p fs) a
all_get p (g ∷ fs) (suc k) f a e = all_get p fs k f (second_of (p g) (list_all p fs) a) e

module _ (i : Interface) (m x : Module) (g : Guards i m x) (law : list_all (is_lawful_function x) x.functions ≡ true) where
  -- what is called

  named_left : (k : ℕ) (f : Function) → nat_lt k (length m.functions) ≡ true → slice_get m.functions k ≡ Some f → is_lawful_callee m (callee.Symbol (symbol.Function k)) ≡ true
  named_left k f w e =
      let name : symbol_name m (symbol.Function k) ≡ f.name = named m.functions k f e in
      let h = there i m x g k f e in
      let plain : not (is_block_write f.name) ≡ true = ap (λ (n : List ℕ). not (is_block_write n)) h.beside.name ∙ plain_name x h.it (all_get (is_lawful_function x) x.functions k h.it law h.at) in
      and_from (is_lawful_symbol m (symbol.Function k) && not (is_block_write (symbol_name m (symbol.Function k)))) (not (is_image_name (symbol_name m (symbol.Function k))))
      (and_from (is_lawful_symbol m (symbol.Function k)) (not (is_block_write (symbol_name m (symbol.Function k)))) w (ap (λ (n : List ℕ). not (is_block_write n)) name ∙ plain))
      (ap (λ (n : List ℕ). not (is_image_name n)) name ∙ ap not (no_image_name f.name (program_name m i x g k f e)))

  callee_left : (c : Callee) → callee_within m c ≡ true → is_lawful_callee x (image_callee m c) ≡ true → is_lawful_callee m c ≡ true
  callee_left (callee.Register r) w l = refl
  callee_left (callee.Symbol (symbol.Global k)) w l =
      let names : map (λ (v : GlobalVar). v.name) m.globals ≡ map (λ (v : GlobalVar). v.name) x.globals = sym (global_names_same x.globals m.globals g.globals) in
      let many : length m.globals ≡ length x.globals = sym (many_globals_same x.globals m.globals g.globals) in
      (λ t. nat_lt k (many t) && not (is_block_write (name_at (names t) k)) && not (is_image_name (name_at (names t) k))) ∙ l
  callee_left (callee.Symbol (symbol.Function k)) w l =
      let f = there_is m.functions k (true_less k (length m.functions) w) in
      named_left k f.0 w f.1

  -- instructions

  form_left : (o : Op) → not (is_image_line o) ≡ true → call_within m o ≡ true → has_form x (image_op m o) ≡ true → has_form m o ≡ true
  form_left (op.Alloca to ty) p w l = ap (λ ns. is_lawful_type ns ty) (sym g.types) ∙ l
  form_left (op.GetElementPtr to ty base indices) p w l = ap (λ ns. is_lawful_type ns ty && nat_lt 0 (length indices)) (sym g.types) ∙ l
  form_left (op.Call to ret c args) p w l =
      and_from (is_none to || is_some ret) (is_lawful_callee m c) (first_of (is_none to || is_some ret) (is_lawful_callee x (image_callee m c)) l) (callee_left c w (second_of (is_none to || is_some ret) (is_lawful_callee x (image_callee m c)) l))
  form_left (op.Enter s) p w l = false_true p
  form_left (op.Pre s k) p w l = false_true p
  form_left (op.Post s k) p w l = false_true p
  form_left (op.Leave s) p w l = false_true p
  form_left (op.Guard at size narrow) p w l = false_true p
  form_left (op.Check target) p w l = false_true p
  form_left o p w l = l

  module _ (f h : Function) (b : BesideFunction m f h) where
    op_left : (o p : Op) → Alike m o p → op_within m o ≡ true → is_lawful_op x h p ≡ true → is_lawful_op m f o ≡ true
    op_left o p a w l =
        let two = first_of (has_form x p && list_all (λ (y : Argument). is_lawful_value x h y.ty y.value) (operands_of p)) (list_all is_name (labels_of p)) l in
        and_from (has_form m o && list_all (λ (y : Argument). is_lawful_value m f y.ty y.value) (operands_of o)) (list_all is_name (labels_of o))
        (and_from (has_form m o) (list_all (λ (y : Argument). is_lawful_value m f y.ty y.value) (operands_of o))
        (form_left o a.plain (first_of (call_within m o) (list_all (λ (y : Argument). value_within m y.value) (operands_of o)) w)
        (ap (has_form x) a.is ∙ first_of (has_form x p) (list_all (λ (y : Argument). is_lawful_value x h y.ty y.value) (operands_of p)) two))
        (values_left m x f h (count_same m f h b) (operands_of o) (second_of (call_within m o) (list_all (λ (y : Argument). value_within m y.value) (operands_of o)) w)
        (ap (list_all (λ (y : Argument). is_lawful_value x h y.ty y.value)) (same_operands m o p a) ∙ second_of (has_form x p) (list_all (λ (y : Argument). is_lawful_value x h y.ty y.value) (operands_of p)) two)))
        (ap (list_all is_name) (same_labels m o p a) ∙ second_of (has_form x p && list_all (λ (y : Argument). is_lawful_value x h y.ty y.value) (operands_of p)) (list_all is_name (labels_of p)) l)

    abbrev lawful_instr : Module → Function → Instr → Bool
    lawful_instr y e j = is_lawful_op y e j.op

    abbrev within_instr : Instr → Bool
    within_instr j = op_within m j.op

    code_left : (is js : List Instr) → Beside m is js → list_all within_instr is ≡ true → list_all (lawful_instr x h) js ≡ true → list_all (lawful_instr m f) is ≡ true
    code_left _ _ ends w l = refl
    code_left _ _ (bare i2 j is js a rest) w l =
        and_from (lawful_instr m f i2) (list_all (lawful_instr m f) is)
        (op_left i2.op j.op a (first_of (within_instr i2) (list_all within_instr is) w) (first_of (lawful_instr x h j) (list_all (lawful_instr x h) js) l))
        (code_left is js rest (second_of (within_instr i2) (list_all within_instr is) w) (second_of (lawful_instr x h j) (list_all (lawful_instr x h) js) l))
    code_left _ _ (marked i2 k j is js q a rest) w l =
        let behind = second_of (lawful_instr x h k) (list_all (lawful_instr x h) (j ∷ js)) l in
        and_from (lawful_instr m f i2) (list_all (lawful_instr m f) is)
        (op_left i2.op j.op a (first_of (within_instr i2) (list_all within_instr is) w) (first_of (lawful_instr x h j) (list_all (lawful_instr x h) js) behind))
        (code_left is js rest (second_of (within_instr i2) (list_all within_instr is) w) (second_of (lawful_instr x h j) (list_all (lawful_instr x h) js) behind))

    block_left : (c d : Block) → BesideBlock m c d → list_all within_instr c.instrs ≡ true → is_lawful_block x h d ≡ true → is_lawful_block m f c ≡ true
    block_left c d e w l =
        and_from (is_label c.name && ends_once c.instrs) (list_all (lawful_instr m f) c.instrs)
        ((λ t. is_label (e.name t) && once_same m c.instrs d.instrs e.code t) ∙ first_of (is_label d.name && ends_once d.instrs) (list_all (lawful_instr x h) d.instrs) l)
        (code_left c.instrs d.instrs e.code w (second_of (is_label d.name && ends_once d.instrs) (list_all (lawful_instr x h) d.instrs) l))

    blocks_left : (bs cs : List Block) → BesideBlocks m bs cs → list_all within_instr (flat bs) ≡ true → list_all (is_lawful_block x h) cs ≡ true → list_all (is_lawful_block m f) bs ≡ true
    blocks_left _ _ no_blocks w l = refl
    blocks_left _ _ (blocks c d bs cs e rest) w l =
        and_from (is_lawful_block m f c) (list_all (is_lawful_block m f) bs)
        (block_left c d e (all_first within_instr c.instrs (flat bs) w) (first_of (is_lawful_block x h d) (list_all (is_lawful_block x h) cs) l))
        (blocks_left bs cs rest (all_second within_instr c.instrs (flat bs) w) (second_of (is_lawful_block x h d) (list_all (is_lawful_block x h) cs) l))

    body_left : list_all within_instr (instrs_of f) ≡ true → is_lawful_body x h ≡ true → is_lawful_body m f ≡ true
    body_left w l =
        let front = first_of (head_of h && list_all (is_lawful_block x h) (blocks_of h)) (numbers_registers h) l in
        and_from (head_of f && list_all (is_lawful_block m f) (blocks_of f)) (numbers_registers f)
        (and_from (head_of f) (list_all (is_lawful_block m f) (blocks_of f))
        (head_same m f h b ∙ first_of (head_of h) (list_all (is_lawful_block x h) (blocks_of h)) front)
        (blocks_left (blocks_of f) (blocks_of h) (blocks_beside m f.blocks h.blocks b.body) w (second_of (head_of h) (list_all (is_lawful_block x h) (blocks_of h)) front)))
        (numbers_program m f h b (second_of (head_of h && list_all (is_lawful_block x h) (blocks_of h)) (numbers_registers h) l))

    defined_left : (d : Bool) → list_all within_instr (instrs_of f) ≡ true → cond d (is_lawful_body x h) (is_lawful_import h) ≡ true → cond d (is_lawful_body m f) (is_lawful_import f) ≡ true
    defined_left true w l = body_left w l
    defined_left false w l = import_same m f h b ∙ l

    pub lawful_left : list_all within_instr (instrs_of f) ≡ true → is_lawful_function x h ≡ true → is_lawful_function m f ≡ true
    lawful_left w l =
        and_from (is_name f.name && not (is_block_write f.name)) (cond (is_defined f) (is_lawful_body m f) (is_lawful_import f))
        (ap (λ (n : List ℕ). is_name n && not (is_block_write n)) b.name ∙ first_of (is_name h.name && not (is_block_write h.name)) (cond (is_defined h) (is_lawful_body x h) (is_lawful_import h)) l)
        (defined_left (is_defined f) w (ap (λ (d : Bool). cond d (is_lawful_body x h) (is_lawful_import h)) (defined_same m f h b) ∙ second_of (is_name h.name && not (is_block_write h.name)) (cond (is_defined h) (is_lawful_body x h) (is_lawful_import h)) l))
