-- The code of a wrapper, and what holds along it.
use Rattle.std.proofs.Common.{◌≡◌, ℕ, suc, Bool, true, false, not, ◌||◌, List, [], ◌∷◌, ◌++◌, map, length, Option, Some, None, refl, sym, subst, ◌∙◌, ap}
use Rattle.std.specs.Prelude.{codes, filter_map, flat_map, option_map}
use Rattle.std.specs.List.{list_any, cons_option}
use Rattle.std.proofs.lemmas.Bool.{or_right, and_from}
use Rattle.lx_words.proofs.Lists.{no_list, append_join, heads, tails}
use Rattle.lx_words.proofs.Options.{some_same, none_some}
use Rattle.lx_ir.specs.declared.module.Symbol.{Symbol}
use Rattle.lx_ir.specs.declared.module.Symbol.TheVariants as symbol
use Rattle.lx_ir.specs.declared.module.Block.{Block}
use Rattle.lx_ir.specs.declared.module.Function.{Function}
use Rattle.lx_ir.specs.declared.instr.Callee.TheVariants as callee
use Rattle.lx_ir.specs.declared.instr.Instr.{Instr}
use Rattle.lx_ir.specs.declared.instr.Op.{Op}
use Rattle.lx_ir.specs.declared.instr.Op.TheVariants as op
use Rattle.lx_ir.specs.Operands.{is_terminator}
use Rattle.lx_ir.specs.Lawful.{ends_once}
use Rattle.lx_ir.specs.Faults.{last_of, is_end}
use Rattle.lx_annot.specs.Action.{Action}
use Rattle.lx_annot.specs.declared.action.Annotation.{Annotation}
use Rattle.lx_image_texts.specs.WrapperText.{Side, wrapper_name, wrapper_params, wrapper_args, pre_lines, post_lines, result_register, result_names, returned, wrapper_code, wrapper_of}
use Rattle.lx_image_texts.specs.Guards.{BlockText, block_text, FunctionText, function_text}
use Rattle.lx_image_texts.proofs.Distinct.{Each}
use Rattle.lx_image_texts.proofs.Sound.{unlined_ops}
use Rattle.lx_image_texts.proofs.Wrapping.{each_joined}
use Rattle.lx_image_texts.proofs.Along.{end_of, end_is}

abbrev pub ops : List Instr → List Op
ops js = map (λ (j : Instr). j.op) js

-- A function with the text of a wrapper: the wrapper, with lines of its own.

abbrev pub made : Function → Side → List Instr → ℕ → Function
made f side js line =
    record {
      name = wrapper_name side f.name;
      params = wrapper_params 0 f.params;
      locals = result_names f.ret;
      ret = f.ret;
      blocks = Some (record { name = codes "0"; instrs = js } ∷ []);
      line = line;
    }

one_block : (bs : Option (List Block)) (t : BlockText) → option_map (map block_text) bs ≡ Some (t ∷ []) → (b : Block) × (bs ≡ Some (b ∷ [])) × (block_text b ≡ t)
one_block None t e = none_some e
one_block (Some []) t e = no_list (some_same e)
one_block (Some (b ∷ [])) t e = (b, refl, heads (some_same e))
one_block (Some (b ∷ c ∷ bs)) t e = no_list (sym (tails (some_same e)))

pub record Made (f : Function) (n : ℕ) (a : Annotation) (side : Side) (h : Function) : Type 0 where
  pub instrs : List Instr
  pub is : made f side instrs h.line ≡ h
  pub code : ops instrs ≡ wrapper_code f n a

pub from_text : (f : Function) (n : ℕ) (a : Annotation) (side : Side) (h : Function) → function_text h ≡ function_text (wrapper_of f n a side) → Made f n a side h
from_text f n a side h e =
    let b = one_block h.blocks _ (ap (λ (t : FunctionText). t.blocks) e) in
    let name : codes "0" ≡ b.0.name = sym (ap (λ (t : BlockText). t.name) b.2) in
    let block : record { name = codes "0"; instrs = b.0.instrs } ≡ b.0 = λ t. record { name = name t; instrs = b.0.instrs } in
    record {
      instrs = b.0.instrs;
      is = λ t. record {
        name = sym (ap (λ (y : FunctionText). y.name) e) t;
        params = sym (ap (λ (y : FunctionText). y.params) e) t;
        locals = sym (ap (λ (y : FunctionText). y.locals) e) t;
        ret = sym (ap (λ (y : FunctionText). y.ret) e) t;
        blocks = (ap (λ (c : Block). Some (c ∷ [])) block ∙ sym b.1) t;
        line = h.line;
      };
      code = ap (λ (t : BlockText). t.code) b.2 ∙ unlined_ops (wrapper_code f n a);
    }

-- what is so of each line

pre_each : (P : Op → Type 0) (s : Symbol) → ((k : ℕ) → P (op.Pre s k)) → (k : ℕ) (actions : List Action) → Each P (pre_lines s k actions)
pre_each P s h k [] = tt
pre_each P s h k (a ∷ rest) = (h k, pre_each P s h (suc k) rest)

post_each : (P : Op → Type 0) (s : Symbol) → ((k : ℕ) → P (op.Post s k)) → (k : ℕ) (actions : List Action) → Each P (post_lines s k actions)
post_each P s h k [] = tt
post_each P s h k (a ∷ rest) = (h k, post_each P s h (suc k) rest)

abbrev pub call_of : Function → ℕ → Op
call_of f n = op.Call (result_register (length f.params) f.ret) f.ret (callee.Symbol (symbol.Function n)) (wrapper_args 0 f.params)

abbrev pub return_of : Function → Op
return_of f = op.Ret (returned (length f.params) f.ret)

-- of the lines but for the last one
pub record Lines (P : Op → Type 0) (f : Function) (n : ℕ) : Type 0 where
  pub enter : P (op.Enter (symbol.Function n))
  pub pre : (k : ℕ) → P (op.Pre (symbol.Function n) k)
  pub call : P (call_of f n)
  pub post : (k : ℕ) → P (op.Post (symbol.Function n) k)
  pub leave : P (op.Leave (symbol.Function n))

pub code_each : (P : Op → Type 0) (f : Function) (n : ℕ) (a : Annotation) → Lines P f n → P (return_of f) → Each P (wrapper_code f n a)
code_each P f n a h r = (
  h.enter,
  each_joined P (pre_lines (symbol.Function n) 0 a.pre) _ (pre_each P (symbol.Function n) h.pre 0 a.pre)
      (h.call, each_joined P (post_lines (symbol.Function n) 0 a.post) _ (post_each P (symbol.Function n) h.post 0 a.post) (h.leave, (r, tt))),
)

pub ops_each : (P : Op → Type 0) (js : List Instr) (os : List Op) → ops js ≡ os → Each P os → Each (λ j. P j.op) js
ops_each P [] os e h = tt
ops_each P (j ∷ js) [] e h = no_list (sym e)
ops_each P (j ∷ js) (o ∷ os) e h = (subst P (sym (heads e)) h.0, ops_each P js os (tails e) h.1)

-- the lines but for the last one, and the last

abbrev pub front_of : Function → ℕ → Annotation → List Op
front_of f n a =
    op.Enter (symbol.Function n) ∷ (pre_lines (symbol.Function n) 0 a.pre ++ (call_of f n ∷ (post_lines (symbol.Function n) 0 a.post ++ (op.Leave (symbol.Function n) ∷ []))))

pub front_each : (P : Op → Type 0) (f : Function) (n : ℕ) (a : Annotation) → Lines P f n → Each P (front_of f n a)
front_each P f n a h = (
  h.enter,
  each_joined P (pre_lines (symbol.Function n) 0 a.pre) _ (pre_each P (symbol.Function n) h.pre 0 a.pre)
      (h.call, each_joined P (post_lines (symbol.Function n) 0 a.post) _ (post_each P (symbol.Function n) h.post 0 a.post) (h.leave, tt)),
)

pub in_two : (f : Function) (n : ℕ) (a : Annotation) → wrapper_code f n a ≡ front_of f n a ++ (return_of f ∷ [])
in_two f n a =
    let post : List Op = post_lines (symbol.Function n) 0 a.post in
    let pre : List Op = pre_lines (symbol.Function n) 0 a.pre in
    ap (λ (os : List Op). op.Enter (symbol.Function n) ∷ os)
    (ap (λ (os : List Op). pre ++ (call_of f n ∷ os)) (append_join post (op.Leave (symbol.Function n) ∷ []) (return_of f ∷ []))
    ∙ append_join pre (call_of f n ∷ (post ++ (op.Leave (symbol.Function n) ∷ []))) (return_of f ∷ []))

nil_joined : {B : Type 0} (os : List Op) (o : Op) → ◌≡◌ {A = List Op} [] (os ++ (o ∷ [])) → B
nil_joined [] o e = no_list e
nil_joined (p ∷ os) o e = no_list e

end_with : (js : List Instr) (os : List Op) (o : Op) → ops js ≡ os ++ (o ∷ []) → is_end (end_of js) ≡ is_terminator o
end_with [] os o e = nil_joined os o e
end_with (j ∷ []) [] o e = ap is_terminator (heads e)
end_with (j ∷ []) (p ∷ os) o e = nil_joined os o (tails e)
end_with (j ∷ k ∷ js) [] o e = no_list (sym (tails e))
end_with (j ∷ k ∷ js) (p ∷ os) o e = end_with (k ∷ js) os o (tails e)

-- the last line ends the block, where it is one that does
pub ends_with : (js : List Instr) (os : List Op) (o : Op) → ops js ≡ os ++ (o ∷ []) → is_end (last_of js) ≡ is_terminator o
ends_with js os o e = ap is_end (end_is js) ∙ end_with js os o e

-- and no other does
pub once_with : (js : List Instr) (os : List Op) (o : Op) → ops js ≡ os ++ (o ∷ []) → Each (λ p. is_terminator p ≡ false) os → ends_once js ≡ true
once_with [] os o e h = refl
once_with (j ∷ []) os o e h = refl
once_with (j ∷ k ∷ js) [] o e h = no_list (sym (tails e))
once_with (j ∷ k ∷ js) (p ∷ os) o e h = and_from (not (is_terminator j.op)) (ends_once (k ∷ js)) (ap not (ap is_terminator (heads e) ∙ h.0)) (once_with (k ∷ js) os o (tails e) h.1)

-- what only the call and the return add

none_filter : {B : Type 0} (h : Op → Option B) (xs ys : List Op) → Each (λ o. h o ≡ None) xs → filter_map h (xs ++ ys) ≡ filter_map h ys
none_filter h [] ys n = refl
none_filter h (x ∷ xs) ys n = (λ t. cons_option (n.0 t) (filter_map h (xs ++ ys))) ∙ none_filter h xs ys n.1

none_flat : {B : Type 0} (h : Op → List B) (xs ys : List Op) → Each (λ o. h o ≡ []) xs → flat_map h (xs ++ ys) ≡ flat_map h ys
none_flat h [] ys n = refl
none_flat h (x ∷ xs) ys n = (λ t. n.0 t ++ flat_map h (xs ++ ys)) ∙ none_flat h xs ys n.1

pub filter_code : {B : Type 0} (h : Op → Option B) (f : Function) (n : ℕ) (a : Annotation) → h (op.Enter (symbol.Function n)) ≡ None → ((k : ℕ) → h (op.Pre (symbol.Function n) k) ≡ None) → ((k : ℕ) → h (op.Post (symbol.Function n) k) ≡ None) → h (op.Leave (symbol.Function n)) ≡ None → h (return_of f) ≡ None →
    filter_map h (wrapper_code f n a) ≡ cons_option (h (call_of f n)) []
filter_code h f n a enter pre post leave last =
    let s : Symbol = symbol.Function n in
    (λ t. cons_option (enter t) (filter_map h (pre_lines s 0 a.pre ++ (call_of f n ∷ (post_lines s 0 a.post ++ (op.Leave s ∷ return_of f ∷ []))))))
    ∙ none_filter h (pre_lines s 0 a.pre) (call_of f n ∷ (post_lines s 0 a.post ++ (op.Leave s ∷ return_of f ∷ []))) (pre_each (λ o. h o ≡ None) s pre 0 a.pre)
    ∙ ap (cons_option (h (call_of f n))) (none_filter h (post_lines s 0 a.post) (op.Leave s ∷ return_of f ∷ []) (post_each (λ o. h o ≡ None) s post 0 a.post) ∙ (λ t. cons_option (leave t) (cons_option (last t) [])))

pub flat_code : {B : Type 0} (h : Op → List B) (f : Function) (n : ℕ) (a : Annotation) → h (op.Enter (symbol.Function n)) ≡ [] → ((k : ℕ) → h (op.Pre (symbol.Function n) k) ≡ []) → ((k : ℕ) → h (op.Post (symbol.Function n) k) ≡ []) → h (op.Leave (symbol.Function n)) ≡ [] →
    flat_map h (wrapper_code f n a) ≡ h (call_of f n) ++ (h (return_of f) ++ [])
flat_code h f n a enter pre post leave =
    let s : Symbol = symbol.Function n in
    (λ t. enter t ++ flat_map h (pre_lines s 0 a.pre ++ (call_of f n ∷ (post_lines s 0 a.post ++ (op.Leave s ∷ return_of f ∷ [])))))
    ∙ none_flat h (pre_lines s 0 a.pre) (call_of f n ∷ (post_lines s 0 a.post ++ (op.Leave s ∷ return_of f ∷ []))) (pre_each (λ o. h o ≡ []) s pre 0 a.pre)
    ∙ ap (λ xs. h (call_of f n) ++ xs) (none_flat h (post_lines s 0 a.post) (op.Leave s ∷ return_of f ∷ []) (post_each (λ o. h o ≡ []) s post 0 a.post) ∙ (λ t. leave t ++ (h (return_of f) ++ [])))

-- the same of instructions

pub filter_ops : {B : Type 0} (h : Op → Option B) (js : List Instr) → filter_map (λ (j : Instr). h j.op) js ≡ filter_map h (ops js)
filter_ops h [] = refl
filter_ops h (j ∷ js) = ap (cons_option (h j.op)) (filter_ops h js)

pub flat_ops : {B : Type 0} (h : Op → List B) (js : List Instr) → flat_map (λ (j : Instr). h j.op) js ≡ flat_map h (ops js)
flat_ops h [] = refl
flat_ops h (j ∷ js) = ap (λ xs. h j.op ++ xs) (flat_ops h js)

pub any_ops : (p : Op → Bool) (js : List Instr) → list_any (λ (j : Instr). p j.op) js ≡ list_any p (ops js)
any_ops p [] = refl
any_ops p (j ∷ js) = ap (λ (b : Bool). p j.op || b) (any_ops p js)

pub any_behind : (p : Op → Bool) (xs ys : List Op) → list_any p ys ≡ true → list_any p (xs ++ ys) ≡ true
any_behind p [] ys h = h
any_behind p (x ∷ xs) ys h = or_right (p x) (list_any p (xs ++ ys)) (any_behind p xs ys h)

pub any_call : (p : Op → Bool) (f : Function) (n : ℕ) (a : Annotation) → p (call_of f n) ≡ true → list_any p (wrapper_code f n a) ≡ true
any_call p f n a c =
    let s : Symbol = symbol.Function n in
    or_right (p (op.Enter s)) (list_any p (pre_lines s 0 a.pre ++ (call_of f n ∷ (post_lines s 0 a.post ++ (op.Leave s ∷ return_of f ∷ [])))))
    (any_behind p (pre_lines s 0 a.pre) (call_of f n ∷ (post_lines s 0 a.post ++ (op.Leave s ∷ return_of f ∷ [])))
    (ap (λ (b : Bool). b || list_any p (post_lines s 0 a.post ++ (op.Leave s ∷ return_of f ∷ []))) c))
