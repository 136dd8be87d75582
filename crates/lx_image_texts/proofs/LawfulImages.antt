-- The functions and globals of an image are lawful where those of its module are, but for its wrappers.
use Rattle.std.proofs.Common.{◌≡◌, ℕ, ◌<◌, ◌≤◌, Bool, true, false, not, ◌&&◌, ◌||◌, List, [], ◌∷◌, ◌++◌, map, length, take, Option, Some, cond, is_some, is_none, refl, sym, ◌∙◌, ap, arith}
use Rattle.std.specs.Prelude.{codes, slice_get, nat_lt, nat_le}
use Rattle.std.specs.List.{list_all}
use Rattle.std.proofs.lemmas.Option.{slice_get_within}
use Rattle.std.proofs.lemmas.Bool.{and_from}
use Rattle.lx_words.proofs.Lists.{no_list, there_is, heads, tails}
use Rattle.lx_words.proofs.Tests.{less_true, true_less, false_true, first_of, second_of}
use Rattle.lx_ir.specs.declared.types.Scalar.{Scalar}
use Rattle.lx_ir.specs.declared.module.Symbol.{Symbol}
use Rattle.lx_ir.specs.declared.module.Symbol.TheVariants as symbol
use Rattle.lx_ir.specs.declared.module.Pointer.{Pointer}
use Rattle.lx_ir.specs.declared.module.Pointer.TheVariants as pointer
use Rattle.lx_ir.specs.declared.module.Constant.{Constant}
use Rattle.lx_ir.specs.declared.module.Constant.TheVariants as constant
use Rattle.lx_ir.specs.declared.module.Value.{Value}
use Rattle.lx_ir.specs.declared.module.Value.TheVariants as value
use Rattle.lx_ir.specs.declared.module.Block.{Block}
use Rattle.lx_ir.specs.declared.module.GlobalVar.{GlobalVar}
use Rattle.lx_ir.specs.declared.module.Function.{Function}
use Rattle.lx_ir.specs.declared.module.Module.{Module}
use Rattle.lx_ir.specs.declared.instr.Argument.{Argument}
use Rattle.lx_ir.specs.declared.instr.Callee.{Callee}
use Rattle.lx_ir.specs.declared.instr.Callee.TheVariants as callee
use Rattle.lx_ir.specs.declared.instr.Instr.{Instr}
use Rattle.lx_ir.specs.declared.instr.Op.{Op}
use Rattle.lx_ir.specs.declared.instr.Op.TheVariants as op
use Rattle.lx_ir.specs.IrType.{IrType, One, Array, Struct, Packed, Named}
use Rattle.lx_ir.specs.Init.{Init, Plain, Empty, Bytes, Group, Inits, no_more, more}
use Rattle.lx_ir.specs.Layout.{is_lawful_type}
use Rattle.lx_ir.specs.Lookup.{blocks_of, is_defined}
use Rattle.lx_ir.specs.Lawful.{is_name, is_label, is_block_write, is_image_name, is_lawful_symbol, is_lawful_pointer, fits_pointer, is_lawful_constant, nesting_of_constant, nesting_of_init, is_lawful_item, is_lawful_init, are_lawful_inits, is_lawful_value, is_lawful_callee, has_form, is_lawful_op, ends_once, is_lawful_block, numbers_registers, is_lawful_import, is_lawful_body, is_lawful_function, is_lawful_global}
use Rattle.lx_ir.specs.Operands.{operands_of, labels_of, is_image_line}
use Rattle.lx_ir.specs.Text.{symbol_name, name_at}
use Rattle.lx_annot.specs.declared.interface.Interface.{Interface}
use Rattle.lx_image_texts.specs.Marks.{is_mark, is_wrapped, callee_if, callee_for, image_callee, image_op, wrapper_number}
use Rattle.lx_image_texts.specs.Guards.{FunctionText, unlined_global, Guards}
use Rattle.lx_image_texts.proofs.Sound.{named}
use Rattle.lx_image_texts.proofs.Beside.{Alike, IsMarkOf, Beside, ends, bare, marked, BesideBlock, BesideBlocks, no_blocks, blocks, BesideFunction, blocks_beside, same_operands, same_labels, mark_facts}
use Rattle.lx_image_texts.proofs.Along.{once_same}
use Rattle.lx_image_texts.proofs.Flow.{count_same}
use Rattle.lx_image_texts.proofs.LawfulPrograms.{many_globals_same, defined_same, head_of, head_same, import_same}
use Rattle.lx_image_texts.proofs.MarkOperands.{mark_operands, mark_passes}
use Rattle.lx_image_texts.proofs.Numbers.{numbers_image}
use Rattle.lx_image_texts.proofs.Paired.{there, image_functions, as_many}
use Rattle.lx_image_texts.proofs.Programs.{taken_many}
use Rattle.lx_image_texts.proofs.Signatures.{out_there}
use Rattle.lx_image_texts.proofs.Complete.{names_same}

module _ (i : Interface) (m x : Module) (g : Guards i m x) where
  pub many : length m.functions ≤ length x.functions
  many =
      let pairing : length m.functions ≡ length (take (length m.functions) x.functions) = as_many m m.functions (take (length m.functions) x.functions) (image_functions i m x g) in
      let most : length (take (length m.functions) x.functions) ≤ length x.functions = taken_many (length m.functions) x.functions in
      omega (arith, pairing, most)

  -- symbols and constants

  pub symbol_more : (s : Symbol) → is_lawful_symbol m s ≡ true → is_lawful_symbol x s ≡ true
  symbol_more (symbol.Function k) l =
      let in_module : k < length m.functions = true_less k (length m.functions) l in
      let most : length m.functions ≤ length x.functions = many in
      less_true k (length x.functions) (omega (arith, in_module, most))
  symbol_more (symbol.Global k) l = ap (nat_lt k) (many_globals_same x.globals m.globals g.globals) ∙ l

  pointer_more : (p : Pointer) → is_lawful_pointer m p ≡ true → is_lawful_pointer x p ≡ true
  pointer_more (pointer.Symbol s n) l = symbol_more s l
  pointer_more p l = refl

  constant_more : (ty : Scalar) (c : Constant) → is_lawful_constant m ty c ≡ true → is_lawful_constant x ty c ≡ true
  constant_more ty (constant.Pointer p) l = and_from (is_lawful_pointer x p) (fits_pointer ty p) (pointer_more p (first_of (is_lawful_pointer m p) (fits_pointer ty p) l)) (second_of (is_lawful_pointer m p) (fits_pointer ty p) l)
  constant_more ty (constant.Cast p v) l = pointer_more p l
  constant_more ty c l = l

  -- initialisers

  item_more : (t : IrType) (c : Constant) → is_lawful_item m t c ≡ true → is_lawful_item x t c ≡ true
  item_more (One ty) (constant.Pointer (pointer.Symbol s n)) l = symbol_more s l
  item_more (Array k t) (constant.Pointer (pointer.Symbol s n)) l = symbol_more s l
  item_more (Struct ts) (constant.Pointer (pointer.Symbol s n)) l = symbol_more s l
  item_more (Packed ts) (constant.Pointer (pointer.Symbol s n)) l = symbol_more s l
  item_more (Named k) (constant.Pointer (pointer.Symbol s n)) l = symbol_more s l
  item_more (One ty) (constant.Cast p v) l = pointer_more p l
  item_more (Array k t) (constant.Cast p v) l = pointer_more p l
  item_more (Struct ts) (constant.Cast p v) l = pointer_more p l
  item_more (Packed ts) (constant.Cast p v) l = pointer_more p l
  item_more (Named k) (constant.Cast p v) l = pointer_more p l
  item_more t c l = l

  mutual
    init_more : (t : IrType) (n : Init) → is_lawful_init m t n ≡ true → is_lawful_init x t n ≡ true
    init_more t (Plain c) l = item_more t c l
    init_more t (Empty b) l = refl
    init_more t (Bytes bs) l = refl
    init_more t (Group k ts is) l =
        and_from (list_all (is_lawful_type x.types) ts) (are_lawful_inits x ts is)
        (ap (λ ns. list_all (is_lawful_type ns) ts) g.types ∙ first_of (list_all (is_lawful_type m.types) ts) (are_lawful_inits m ts is) l)
        (inits_more ts is (second_of (list_all (is_lawful_type m.types) ts) (are_lawful_inits m ts is) l))

    inits_more : (ts : List IrType) (is : Inits) → are_lawful_inits m ts is ≡ true → are_lawful_inits x ts is ≡ true
    inits_more [] no_more l = refl
    inits_more (t ∷ ts) (more n is) l =
        and_from (is_lawful_init x t n) (are_lawful_inits x ts is) (init_more t n (first_of (is_lawful_init m t n) (are_lawful_inits m ts is) l)) (inits_more ts is (second_of (is_lawful_init m t n) (are_lawful_inits m ts is) l))
    inits_more [] (more n is) l = false_true l
    inits_more (t ∷ ts) no_more l = false_true l

  global_more : (v w : GlobalVar) → unlined_global v ≡ unlined_global w → is_lawful_global m w ≡ true → is_lawful_global x v ≡ true
  global_more v w e l =
      let name : v.name ≡ w.name = ap (λ (y : GlobalVar). y.name) e in
      let ty : v.ty ≡ w.ty = ap (λ (y : GlobalVar). y.ty) e in
      let init : v.init ≡ w.init = ap (λ (y : GlobalVar). y.init) e in
      let three = first_of (is_name w.name && is_lawful_type m.types w.ty && is_lawful_init m w.ty w.init) (nat_le (nesting_of_init w.init) 64) l in
      let two = first_of (is_name w.name && is_lawful_type m.types w.ty) (is_lawful_init m w.ty w.init) three in
      and_from (is_name v.name && is_lawful_type x.types v.ty && is_lawful_init x v.ty v.init) (nat_le (nesting_of_init v.init) 64)
      (and_from (is_name v.name && is_lawful_type x.types v.ty) (is_lawful_init x v.ty v.init)
      ((λ t. is_name (name t) && is_lawful_type (g.types t) (ty t)) ∙ two)
      ((λ t. is_lawful_init x (ty t) (init t)) ∙ init_more w.ty w.init (second_of (is_name w.name && is_lawful_type m.types w.ty) (is_lawful_init m w.ty w.init) three)))
      ((λ t. nat_le (nesting_of_init (init t)) 64) ∙ second_of (is_name w.name && is_lawful_type m.types w.ty && is_lawful_init m w.ty w.init) (nat_le (nesting_of_init w.init) 64) l)

  pub globals_more : (vs ws : List GlobalVar) → map unlined_global vs ≡ map unlined_global ws → list_all (is_lawful_global m) ws ≡ true → list_all (is_lawful_global x) vs ≡ true
  globals_more [] [] e l = refl
  globals_more [] (w ∷ ws) e l = no_list e
  globals_more (v ∷ vs) [] e l = no_list (sym e)
  globals_more (v ∷ vs) (w ∷ ws) e l =
      and_from (is_lawful_global x v) (list_all (is_lawful_global x) vs) (global_more v w (heads e) (first_of (is_lawful_global m w) (list_all (is_lawful_global m) ws) l))
      (globals_more vs ws (tails e) (second_of (is_lawful_global m w) (list_all (is_lawful_global m) ws) l))

  -- what is called

  abbrev pub named_well : List ℕ → Bool
  named_well n = not (is_block_write n) && not (is_image_name n)

  pub callee_by : (y : Module) (s : Symbol) → is_lawful_symbol y s ≡ true → named_well (symbol_name y s) ≡ true → is_lawful_callee y (callee.Symbol s) ≡ true
  callee_by y s l n =
      and_from (is_lawful_symbol y s && not (is_block_write (symbol_name y s))) (not (is_image_name (symbol_name y s)))
      (and_from (is_lawful_symbol y s) (not (is_block_write (symbol_name y s))) l (first_of (not (is_block_write (symbol_name y s))) (not (is_image_name (symbol_name y s))) n))
      (second_of (not (is_block_write (symbol_name y s))) (not (is_image_name (symbol_name y s))) n)

  callee_symbol : (y : Module) (s : Symbol) → is_lawful_callee y (callee.Symbol s) ≡ true → is_lawful_symbol y s ≡ true
  callee_symbol y s l = first_of (is_lawful_symbol y s) (not (is_block_write (symbol_name y s))) (first_of (is_lawful_symbol y s && not (is_block_write (symbol_name y s))) (not (is_image_name (symbol_name y s))) l)

  callee_named : (y : Module) (s : Symbol) → is_lawful_callee y (callee.Symbol s) ≡ true → named_well (symbol_name y s) ≡ true
  callee_named y s l =
      and_from (not (is_block_write (symbol_name y s))) (not (is_image_name (symbol_name y s)))
      (second_of (is_lawful_symbol y s) (not (is_block_write (symbol_name y s))) (first_of (is_lawful_symbol y s && not (is_block_write (symbol_name y s))) (not (is_image_name (symbol_name y s))) l))
      (second_of (is_lawful_symbol y s && not (is_block_write (symbol_name y s))) (not (is_image_name (symbol_name y s))) l)

  function_more : (k : ℕ) (f : Function) (b : Bool) → slice_get m.functions k ≡ Some f → is_wrapped f ≡ b → is_lawful_callee m (callee.Symbol (symbol.Function k)) ≡ true → is_lawful_callee x (callee_if b m k) ≡ true
  function_more k f false e t l =
      let h = there i m x g k f e in
      let name : symbol_name x (symbol.Function k) ≡ symbol_name m (symbol.Function k) = named x.functions k h.it h.at ∙ sym h.beside.name ∙ sym (named m.functions k f e) in
      callee_by x (symbol.Function k) (symbol_more (symbol.Function k) (callee_symbol m (symbol.Function k) l)) (ap named_well name ∙ callee_named m (symbol.Function k) l)
  function_more k f true e t l =
      let w = out_there i m x g k f e t in
      let name : symbol_name x (symbol.Function (wrapper_number m k)) ≡ codes "lxfi.out." ++ f.name = named x.functions (wrapper_number m k) w.it w.at ∙ ap (λ (y : FunctionText). y.name) w.text in
      callee_by x (symbol.Function (wrapper_number m k)) (less_true (wrapper_number m k) (length x.functions) (slice_get_within x.functions (wrapper_number m k) w.it w.at)) (ap named_well name)

  callee_more : (c : Callee) → is_lawful_callee m c ≡ true → is_lawful_callee x (image_callee m c) ≡ true
  callee_more (callee.Register r) l = refl
  callee_more (callee.Symbol (symbol.Global k)) l =
      let names : map (λ (v : GlobalVar). v.name) x.globals ≡ map (λ (v : GlobalVar). v.name) m.globals = names_same x.globals m.globals g.globals in
      callee_by x (symbol.Global k) (symbol_more (symbol.Global k) (callee_symbol m (symbol.Global k) l)) (ap (λ ns. named_well (name_at ns k)) names ∙ callee_named m (symbol.Global k) l)
  callee_more (callee.Symbol (symbol.Function k)) l =
      let f = there_is m.functions k (true_less k (length m.functions) (callee_symbol m (symbol.Function k) l)) in
      ap (λ (o : Option Function). is_lawful_callee x (callee_for m k o)) f.1 ∙ function_more k f.0 (is_wrapped f.0) f.1 refl l

  -- instructions

  mark_form : (k : Op) → is_mark k ≡ true → has_form x k ≡ true
  mark_form (op.Guard at size narrow) e = refl
  mark_form (op.Check target) e = refl
  mark_form k e = false_true e

  form_more : (o : Op) → not (is_image_line o) ≡ true → has_form m o ≡ true → has_form x (image_op m o) ≡ true
  form_more (op.Alloca to ty) p l = ap (λ ns. is_lawful_type ns ty) g.types ∙ l
  form_more (op.GetElementPtr to ty base indices) p l = ap (λ ns. is_lawful_type ns ty && nat_lt 0 (length indices)) g.types ∙ l
  form_more (op.Call to ret c args) p l =
      and_from (is_none to || is_some ret) (is_lawful_callee x (image_callee m c)) (first_of (is_none to || is_some ret) (is_lawful_callee m c) l) (callee_more c (second_of (is_none to || is_some ret) (is_lawful_callee m c) l))
  form_more (op.Enter s) p l = false_true p
  form_more (op.Pre s k) p l = false_true p
  form_more (op.Post s k) p l = false_true p
  form_more (op.Leave s) p l = false_true p
  form_more (op.Guard at size narrow) p l = false_true p
  form_more (op.Check target) p l = false_true p
  form_more o p l = l

  module _ (f h : Function) (b : BesideFunction m f h) where
    value_more : (ty : Scalar) (v : Value) → is_lawful_value m f ty v ≡ true → is_lawful_value x h ty v ≡ true
    value_more ty (value.Register r) l = ap (nat_lt r) (sym (count_same m f h b)) ∙ l
    value_more ty (value.Constant c) l =
        and_from (is_lawful_constant x ty c) (nat_le (nesting_of_constant c) 64) (constant_more ty c (first_of (is_lawful_constant m ty c) (nat_le (nesting_of_constant c) 64) l)) (second_of (is_lawful_constant m ty c) (nat_le (nesting_of_constant c) 64) l)

    abbrev lawful_argument : Module → Function → Argument → Bool
    lawful_argument y e a = is_lawful_value y e a.ty a.value

    values_more : (xs : List Argument) → list_all (lawful_argument m f) xs ≡ true → list_all (lawful_argument x h) xs ≡ true
    values_more [] l = refl
    values_more (a ∷ xs) l =
        and_from (lawful_argument x h a) (list_all (lawful_argument x h) xs) (value_more a.ty a.value (first_of (lawful_argument m f a) (list_all (lawful_argument m f) xs) l))
        (values_more xs (second_of (lawful_argument m f a) (list_all (lawful_argument m f) xs) l))

    abbrev lawful_parts : Module → Function → Op → Bool
    lawful_parts y e o = has_form y o && list_all (lawful_argument y e) (operands_of o)

    op_more : (o p : Op) → Alike m o p → is_lawful_op m f o ≡ true → is_lawful_op x h p ≡ true
    op_more o p a l =
        let two = first_of (lawful_parts m f o) (list_all is_name (labels_of o)) l in
        and_from (lawful_parts x h p) (list_all is_name (labels_of p))
        (and_from (has_form x p) (list_all (lawful_argument x h) (operands_of p))
        (ap (has_form x) (sym a.is) ∙ form_more o a.plain (first_of (has_form m o) (list_all (lawful_argument m f) (operands_of o)) two))
        (ap (list_all (lawful_argument x h)) (sym (same_operands m o p a)) ∙ values_more (operands_of o) (second_of (has_form m o) (list_all (lawful_argument m f) (operands_of o)) two)))
        (ap (list_all is_name) (sym (same_labels m o p a)) ∙ second_of (lawful_parts m f o) (list_all is_name (labels_of o)) l)

    -- a mark is lawful before a lawful instruction

    mark_more : (k o : Op) → IsMarkOf k o → is_lawful_op m f o ≡ true → is_lawful_op x h k ≡ true
    mark_more k o q l =
        let two = first_of (lawful_parts m f o) (list_all is_name (labels_of o)) l in
        let form = first_of (has_form m o) (list_all (lawful_argument m f) (operands_of o)) two in
        and_from (lawful_parts x h k) (list_all is_name (labels_of k))
        (and_from (has_form x k) (list_all (lawful_argument x h) (operands_of k)) (mark_form k (mark_facts k o q).mark)
        (mark_passes (lawful_argument x h) (λ n. refl) (operands_of o) (operands_of k) (values_more (operands_of o) (second_of (has_form m o) (list_all (lawful_argument m f) (operands_of o)) two)) (mark_operands m k o form q)))
        (ap (list_all is_name) (mark_facts k o q).labels)

    abbrev lawful_instr : Module → Function → Instr → Bool
    lawful_instr y e j = is_lawful_op y e j.op

    code_more : (is js : List Instr) → Beside m is js → list_all (lawful_instr m f) is ≡ true → list_all (lawful_instr x h) js ≡ true
    code_more _ _ ends l = refl
    code_more _ _ (bare i2 j is js a rest) l =
        and_from (lawful_instr x h j) (list_all (lawful_instr x h) js) (op_more i2.op j.op a (first_of (lawful_instr m f i2) (list_all (lawful_instr m f) is) l))
        (code_more is js rest (second_of (lawful_instr m f i2) (list_all (lawful_instr m f) is) l))
    code_more _ _ (marked i2 k j is js q a rest) l =
        let here = first_of (lawful_instr m f i2) (list_all (lawful_instr m f) is) l in
        and_from (lawful_instr x h k) (list_all (lawful_instr x h) (j ∷ js)) (mark_more k.op i2.op q here)
        (and_from (lawful_instr x h j) (list_all (lawful_instr x h) js) (op_more i2.op j.op a here) (code_more is js rest (second_of (lawful_instr m f i2) (list_all (lawful_instr m f) is) l)))

    block_more : (c d : Block) → BesideBlock m c d → is_lawful_block m f c ≡ true → is_lawful_block x h d ≡ true
    block_more c d e l =
        and_from (is_label d.name && ends_once d.instrs) (list_all (lawful_instr x h) d.instrs)
        ((λ t. is_label (sym e.name t) && sym (once_same m c.instrs d.instrs e.code) t) ∙ first_of (is_label c.name && ends_once c.instrs) (list_all (lawful_instr m f) c.instrs) l)
        (code_more c.instrs d.instrs e.code (second_of (is_label c.name && ends_once c.instrs) (list_all (lawful_instr m f) c.instrs) l))

    blocks_more : (bs cs : List Block) → BesideBlocks m bs cs → list_all (is_lawful_block m f) bs ≡ true → list_all (is_lawful_block x h) cs ≡ true
    blocks_more _ _ no_blocks l = refl
    blocks_more _ _ (blocks c d bs cs e rest) l =
        and_from (is_lawful_block x h d) (list_all (is_lawful_block x h) cs) (block_more c d e (first_of (is_lawful_block m f c) (list_all (is_lawful_block m f) bs) l))
        (blocks_more bs cs rest (second_of (is_lawful_block m f c) (list_all (is_lawful_block m f) bs) l))

    body_more : is_lawful_body m f ≡ true → is_lawful_body x h ≡ true
    body_more l =
        let front = first_of (head_of f && list_all (is_lawful_block m f) (blocks_of f)) (numbers_registers f) l in
        and_from (head_of h && list_all (is_lawful_block x h) (blocks_of h)) (numbers_registers h)
        (and_from (head_of h) (list_all (is_lawful_block x h) (blocks_of h)) (sym (head_same m f h b) ∙ first_of (head_of f) (list_all (is_lawful_block m f) (blocks_of f)) front)
        (blocks_more (blocks_of f) (blocks_of h) (blocks_beside m f.blocks h.blocks b.body) (second_of (head_of f) (list_all (is_lawful_block m f) (blocks_of f)) front)))
        (numbers_image m f h b (second_of (head_of f && list_all (is_lawful_block m f) (blocks_of f)) (numbers_registers f) l))

    defined_more : (d : Bool) → cond d (is_lawful_body m f) (is_lawful_import f) ≡ true → cond d (is_lawful_body x h) (is_lawful_import h) ≡ true
    defined_more true l = body_more l
    defined_more false l = sym (import_same m f h b) ∙ l

    pub lawful_more : is_lawful_function m f ≡ true → is_lawful_function x h ≡ true
    lawful_more l =
        and_from (is_name h.name && not (is_block_write h.name)) (cond (is_defined h) (is_lawful_body x h) (is_lawful_import h))
        (ap (λ (n : List ℕ). is_name n && not (is_block_write n)) (sym b.name) ∙ first_of (is_name f.name && not (is_block_write f.name)) (cond (is_defined f) (is_lawful_body m f) (is_lawful_import f)) l)
        (defined_more (is_defined h) (ap (λ (d : Bool). cond d (is_lawful_body m f) (is_lawful_import f)) (sym (defined_same m f h b)) ∙ second_of (is_name f.name && not (is_block_write f.name)) (cond (is_defined f) (is_lawful_body m f) (is_lawful_import f)) l))
