-- What is reported of an image is counted in it.
use Rattle.std.proofs.Common.{◌≡◌, ℕ, suc, ◌+◌, Bool, true, false, cond, not, ◌&&◌, ◌||◌, Option, Some, None, List, [], ◌∷◌, ◌++◌, length, map, take, drop, slice_get, is_some, refl, sym, ap, arith, ◌∙◌}
use Rattle.std.specs.Prelude.{if◌then◌else◌, count_by, filter_map, flat_map, option_map, option_to_list}
use Rattle.std.specs.List.{cons_option, enumerate_from}
use Rattle.std.proofs.lemmas.Grind.{flat_map-append}
use Rattle.std.proofs.lemmas.List.{length-append, length-map, map-append}
use Rattle.std.proofs.lemmas.List.Sums.{sum_by-cons}
use Rattle.lx_words.proofs.Lists.{split_at}
use Rattle.lx_words.proofs.Tests.{more_onto}
use Rattle.lx_ir.specs.declared.types.Scalar.{Scalar}
use Rattle.lx_ir.specs.declared.module.Block.{Block}
use Rattle.lx_ir.specs.declared.module.Function.{Function}
use Rattle.lx_ir.specs.declared.module.Module.{Module}
use Rattle.lx_ir.specs.declared.module.Symbol.{Symbol}
use Rattle.lx_ir.specs.declared.module.Symbol.TheVariants as symbol
use Rattle.lx_ir.specs.declared.instr.Argument.{Argument}
use Rattle.lx_ir.specs.declared.instr.Callee.TheVariants as callee
use Rattle.lx_ir.specs.declared.instr.Instr.{Instr}
use Rattle.lx_ir.specs.declared.instr.Op.{Op}
use Rattle.lx_ir.specs.declared.instr.Op.TheVariants as op
use Rattle.lx_ir.specs.Lookup.{all_instrs, blocks_of_option, instrs_of, is_defined, is_indirect_call, is_write}
use Rattle.lx_annot.specs.Action.{Action}
use Rattle.lx_annot.specs.declared.action.Annotation.{Annotation}
use Rattle.lx_annot.specs.declared.interface.Interface.{Interface}
use Rattle.lx_slot_types.specs.declared.Marked.{Marked}
use Rattle.lx_slot_types.specs.Gets.{slot_of}
use Rattle.lx_propagate.specs.Slots.{annotated_from, annotated_of, marked}
use Rattle.lx_image_texts.specs.Guards.{BlockText, FunctionText, block_text, function_text, ops_of}
use Rattle.lx_image_texts.specs.Instrumented.{GuardsBut, image_block_text, image_code, image_function_text, leaves_none}
use Rattle.lx_image_texts.specs.Marks.{image_op, is_alias, is_wrapped, mark_of}
use Rattle.lx_image_texts.specs.WrapperText.{In, Out, Side, import_annotation, in_wrapper, in_wrappers, out_if, out_wrappers, post_lines, pre_lines, result_register, returned, slot_annotation, unlined, wrapper_args, wrapper_code, wrapper_of, wrappers_of}
use Rattle.lx_model.specs.declared.program.Program.{Program}
use Rattle.lx_model.specs.Account.{has_wrapper, image_count}
use Rattle.lx_model.specs.Program.{module_of}
use Rattle.lx_monitor_laws.specs.CountLaws.{Counts, is_check, is_guard}

-- how many instructions pass a test

abbrev one : Bool → ℕ
one b = cond b 1 0

abbrev tally : (Op → Bool) → List Op → ℕ
tally q [] = 0
tally q (o ∷ os) = one (q o) + tally q os

tally-append : (q : Op → Bool) (xs ys : List Op) → tally q (xs ++ ys) ≡ tally q xs + tally q ys
tally-append q [] ys = omega arith
tally-append q (x ∷ xs) ys = let rest = tally-append q xs ys in omega (arith, rest)

counted : (q : Op → Bool) (is : List Instr) → count_by (λ i. q i.op) is ≡ tally q (map (λ i. i.op) is)
counted q [] = refl
counted q (i ∷ is) = sum_by-cons (λ (j : Instr). one (q j.op)) i is ∙ ap (λ (n : ℕ). one (q i.op) + n) (counted q is)

-- the code of texts

abbrev code_of : Option (List BlockText) → List Op
code_of None = []
code_of (Some bs) = flat_map (λ b. b.code) bs

abbrev all_code : List FunctionText → List Op
all_code ts = flat_map (λ t. code_of t.blocks) ts

blocks_code : (bs : List Block) → map (λ i. i.op) (flat_map (λ b. b.instrs) bs) ≡ flat_map (λ b. b.code) (map block_text bs)
blocks_code [] = refl
blocks_code (b ∷ bs) = map-append (λ (i : Instr). i.op) b.instrs (flat_map (λ x. x.instrs) bs) ∙ ap (λ (os : List Op). ops_of b ++ os) (blocks_code bs)

body_code : (o : Option (List Block)) → map (λ i. i.op) (flat_map (λ b. b.instrs) (blocks_of_option o)) ≡ code_of (option_map (map block_text) o)
body_code None = refl
body_code (Some bs) = blocks_code bs

functions_code : (fs : List Function) → map (λ i. i.op) (flat_map instrs_of fs) ≡ all_code (map function_text fs)
functions_code [] = refl
functions_code (f ∷ fs) =
    map-append (λ (i : Instr). i.op) (instrs_of f) (flat_map instrs_of fs)
    ∙ ap (λ (os : List Op). os ++ map (λ i. i.op) (flat_map instrs_of fs)) (body_code f.blocks)
    ∙ ap (λ (os : List Op). code_of (option_map (map block_text) f.blocks) ++ os) (functions_code fs)

count_of : (q : Op → Bool) (m : Module) → count_by (λ i. q i.op) (all_instrs m) ≡ tally q (all_code (map function_text m.functions))
count_of q m = counted q (all_instrs m) ∙ ap (tally q) (functions_code m.functions)

-- each instruction of the module that the first test passes is one mark that the second test passes

abbrev Marks : (Op → Bool) → (Op → Bool) → Type 0
Marks r q = (m : Module) (o : Op) → tally q (mark_of o) + one (q (image_op m o)) ≡ one (r o)

module _ (r q : Op → Bool) (marks : Marks r q) (m : Module) (f : Function) where
  code_marks : (os : List Op) → tally q (image_code (leaves_none f) m os) ≡ tally r os
  code_marks [] = refl
  code_marks (o ∷ os) =
      let first = marks m o in
      let rest = code_marks os in
      let both = tally-append q (mark_of o) (image_op m o ∷ image_code (leaves_none f) m os) in
      omega (arith, first, rest, both)

  blocks_marks : (bs : List Block) → tally q (flat_map (λ b. b.code) (map (image_block_text (leaves_none f) m) bs)) ≡ tally r (flat_map (λ b. b.code) (map block_text bs))
  blocks_marks [] = refl
  blocks_marks (b ∷ bs) =
      let first = code_marks (ops_of b) in
      let rest = blocks_marks bs in
      let image = tally-append q (image_code (leaves_none f) m (ops_of b)) (flat_map (λ x. x.code) (map (image_block_text (leaves_none f) m) bs)) in
      let own = tally-append r (ops_of b) (flat_map (λ x. x.code) (map block_text bs)) in
      image ∙ omega (arith, first, rest) ∙ sym own

  body_marks : (o : Option (List Block)) → tally q (code_of (option_map (map (image_block_text (leaves_none f) m)) o)) ≡ tally r (code_of (option_map (map block_text) o))
  body_marks None = refl
  body_marks (Some bs) = blocks_marks bs

functions_marks : (r q : Op → Bool) → Marks r q → (m : Module) (fs : List Function)
    → tally q (all_code (map (image_function_text leaves_none m) fs)) ≡ tally r (all_code (map function_text fs))
functions_marks r q marks m [] = refl
functions_marks r q marks m (f ∷ fs) =
    let first = body_marks r q marks m f f.blocks in
    let rest = functions_marks r q marks m fs in
    let image = tally-append q (code_of (option_map (map (image_block_text (leaves_none f) m)) f.blocks)) (all_code (map (image_function_text leaves_none m) fs)) in
    let own = tally-append r (code_of (option_map (map block_text) f.blocks)) (all_code (map function_text fs)) in
    image ∙ omega (arith, first, rest) ∙ sym own

-- wrappers have no marks

record Unmarked (q : Op → Bool) : Type 0 where
  enter : (s : Symbol) → q (op.Enter s) ≡ false
  pre : (s : Symbol) (k : ℕ) → q (op.Pre s k) ≡ false
  call : (to : Option ℕ) (ret : Option Scalar) (s : Symbol) (args : List Argument) → q (op.Call to ret (callee.Symbol s) args) ≡ false
  post : (s : Symbol) (k : ℕ) → q (op.Post s k) ≡ false
  leave : (s : Symbol) → q (op.Leave s) ≡ false
  ret : (v : Option Argument) → q (op.Ret v) ≡ false

module _ (q : Op → Bool) (none : Unmarked q) where
  pre_unmarked : (s : Symbol) (k : ℕ) (actions : List Action) → tally q (pre_lines s k actions) ≡ 0
  pre_unmarked s k [] = refl
  pre_unmarked s k (a ∷ actions) = let first = ap one (none.pre s k) in let rest = pre_unmarked s (suc k) actions in omega (arith, first, rest)

  post_unmarked : (s : Symbol) (k : ℕ) (actions : List Action) → tally q (post_lines s k actions) ≡ 0
  post_unmarked s k [] = refl
  post_unmarked s k (a ∷ actions) = let first = ap one (none.post s k) in let rest = post_unmarked s (suc k) actions in omega (arith, first, rest)

  code_unmarked : (f : Function) (n : ℕ) (a : Annotation) → tally q (wrapper_code f n a) ≡ 0
  code_unmarked f n a =
      let s = symbol.Function n in
      let call = op.Call (result_register (length f.params) f.ret) f.ret (callee.Symbol s) (wrapper_args 0 f.params) in
      let end = op.Leave s ∷ op.Ret (returned (length f.params) f.ret) ∷ [] in
      let enters = ap one (none.enter s) in
      let calls = ap one (none.call (result_register (length f.params) f.ret) f.ret s (wrapper_args 0 f.params)) in
      let leaves = ap one (none.leave s) in
      let returns = ap one (none.ret (returned (length f.params) f.ret)) in
      let before = pre_unmarked s 0 a.pre in
      let behind = post_unmarked s 0 a.post in
      let first = tally-append q (pre_lines s 0 a.pre) (call ∷ (post_lines s 0 a.post ++ end)) in
      let second = tally-append q (post_lines s 0 a.post) end in
      omega (arith, enters, calls, leaves, returns, before, behind, first, second)

  unlined_tally : (os : List Op) → tally q (map (λ i. i.op) (map unlined os)) ≡ tally q os
  unlined_tally [] = refl
  unlined_tally (o ∷ os) = ap (λ (n : ℕ). one (q o) + n) (unlined_tally os)

  wrapper_unmarked : (f : Function) (n : ℕ) (a : Annotation) (side : Side) → tally q (code_of (function_text (wrapper_of f n a side)).blocks) ≡ 0
  wrapper_unmarked f n a side =
      let end = tally-append q (map (λ i. i.op) (map unlined (wrapper_code f n a))) [] in
      end ∙ let lines = unlined_tally (wrapper_code f n a) in let code = code_unmarked f n a in omega (arith, lines, code)

  joined_unmarked : (f : Function) (fs : List Function) → tally q (code_of (function_text f).blocks) ≡ 0 → tally q (all_code (map function_text fs)) ≡ 0
      → tally q (all_code (map function_text (f ∷ fs))) ≡ 0
  joined_unmarked f fs first rest = tally-append q (code_of (function_text f).blocks) (all_code (map function_text fs)) ∙ omega (arith, first, rest)

  out_one_unmarked : (b : Bool) (i : Interface) (n : ℕ) (f : Function) (fs : List Function) → tally q (all_code (map function_text fs)) ≡ 0
      → tally q (all_code (map function_text (out_if b i n f ++ fs))) ≡ 0
  out_one_unmarked true i n f fs rest =
      joined_unmarked (wrapper_of f n (import_annotation i f.name) Out) fs (wrapper_unmarked f n (import_annotation i f.name) Out) rest
  out_one_unmarked false i n f fs rest = rest

  out_unmarked : (i : Interface) (n : ℕ) (fs : List Function) → tally q (all_code (map function_text (out_wrappers i n fs))) ≡ 0
  out_unmarked i n [] = refl
  out_unmarked i n (f ∷ fs) = out_one_unmarked (is_wrapped f) i n f (out_wrappers i (suc n) fs) (out_unmarked i (suc n) fs)

  in_one_unmarked : (found : Option Function) (i : Interface) (k : Marked) (fs : List Function) → tally q (all_code (map function_text fs)) ≡ 0
      → tally q (all_code (map function_text (cons_option (option_map (λ f. wrapper_of f k.function (slot_annotation i k.slot) In) found) fs))) ≡ 0
  in_one_unmarked None i k fs rest = rest
  in_one_unmarked (Some f) i k fs rest =
      joined_unmarked (wrapper_of f k.function (slot_annotation i k.slot) In) fs (wrapper_unmarked f k.function (slot_annotation i k.slot) In) rest

  in_unmarked : (i : Interface) (m : Module) (ks : List Marked) → tally q (all_code (map function_text (filter_map (in_wrapper i m) ks))) ≡ 0
  in_unmarked i m [] = refl
  in_unmarked i m (k ∷ ks) = in_one_unmarked (slice_get m.functions k.function) i k (filter_map (in_wrapper i m) ks) (in_unmarked i m ks)

  both_unmarked : (xs ys : List Function) → tally q (all_code (map function_text xs)) ≡ 0 → tally q (all_code (map function_text ys)) ≡ 0
      → tally q (all_code (map function_text (xs ++ ys))) ≡ 0
  both_unmarked xs ys first second =
      ap (λ (ts : List FunctionText). tally q (all_code ts)) (map-append function_text xs ys)
      ∙ ap (tally q) (flat_map-append (λ (t : FunctionText). code_of t.blocks) (map function_text xs) (map function_text ys))
      ∙ tally-append q (all_code (map function_text xs)) (all_code (map function_text ys))
      ∙ omega (arith, first, second)

  wrappers_unmarked : (i : Interface) (m : Module) → tally q (all_code (map function_text (wrappers_of i m))) ≡ 0
  wrappers_unmarked i m = both_unmarked (out_wrappers i 0 m.functions) (in_wrappers i m) (out_unmarked i 0 m.functions) (in_unmarked i m (annotated_of i m))

-- the marks of an image

image_marks : (r q : Op → Bool) → Marks r q → Unmarked q → (i : Interface) (m x : Module) → GuardsBut leaves_none i m x
    → count_by (λ j. r j.op) (all_instrs m) ≡ count_by (λ j. q j.op) (all_instrs x)
image_marks r q marks none i m x image =
    let n = length m.functions in
    let first = take n x.functions in
    let behind = drop n x.functions in
    let parts = ap (λ (fs : List Function). tally q (all_code (map function_text fs))) (sym (split_at n x.functions))
    ∙ ap (λ (ts : List FunctionText). tally q (all_code ts)) (map-append function_text first behind)
    ∙ ap (tally q) (flat_map-append (λ (t : FunctionText). code_of t.blocks) (map function_text first) (map function_text behind))
    ∙ tally-append q (all_code (map function_text first)) (all_code (map function_text behind)) in
    let own = ap (λ (ts : List FunctionText). tally q (all_code ts)) image.functions ∙ functions_marks r q marks m m.functions in
    let added = ap (λ (ts : List FunctionText). tally q (all_code ts)) image.wrappers ∙ wrappers_unmarked q none i m in
    let whole : tally r (all_code (map function_text m.functions)) ≡ tally q (all_code (map function_text x.functions)) = omega (arith, parts, own, added) in
    count_of r m ∙ whole ∙ sym (count_of q x)

guard_marks : Marks is_write is_guard
guard_marks m (op.Binary to o ty a b) = refl
guard_marks m (op.Compare to pred ty a b) = refl
guard_marks m (op.Convert to how from a into) = refl
guard_marks m (op.Unary to o ty a) = refl
guard_marks m (op.Select to test ty a b) = refl
guard_marks m (op.Phi to ty edges) = refl
guard_marks m (op.Alloca to ty) = refl
guard_marks m (op.Load to ty at) = refl
guard_marks m (op.Store ty v at) = refl
guard_marks m (op.GetElementPtr to ty base indices) = refl
guard_marks m (op.Call to ret (callee.Symbol s) args) = refl
guard_marks m (op.Call to ret (callee.Register r) args) = refl
guard_marks m (op.CopyBlock moves dest source len) = refl
guard_marks m (op.FillBlock dest byte len) = refl
guard_marks m (op.Ret v) = refl
guard_marks m (op.Jump label) = refl
guard_marks m (op.Branch test first second) = refl
guard_marks m (op.Switch ty v otherwise cases) = refl
guard_marks m op.Unreachable = refl
guard_marks m (op.Guard at size narrow) = refl
guard_marks m (op.Check target) = refl
guard_marks m (op.Enter s) = refl
guard_marks m (op.Pre s k) = refl
guard_marks m (op.Post s k) = refl
guard_marks m (op.Leave s) = refl

guard_unmarked : Unmarked is_guard
guard_unmarked = record { enter = λ s. refl; pre = λ s k. refl; call = λ to ret s args. refl; post = λ s k. refl; leave = λ s. refl; ret = λ v. refl }

check_marks : Marks is_indirect_call is_check
check_marks m (op.Binary to o ty a b) = refl
check_marks m (op.Compare to pred ty a b) = refl
check_marks m (op.Convert to how from a into) = refl
check_marks m (op.Unary to o ty a) = refl
check_marks m (op.Select to test ty a b) = refl
check_marks m (op.Phi to ty edges) = refl
check_marks m (op.Alloca to ty) = refl
check_marks m (op.Load to ty at) = refl
check_marks m (op.Store ty v at) = refl
check_marks m (op.GetElementPtr to ty base indices) = refl
check_marks m (op.Call to ret (callee.Symbol s) args) = refl
check_marks m (op.Call to ret (callee.Register r) args) = refl
check_marks m (op.CopyBlock moves dest source len) = refl
check_marks m (op.FillBlock dest byte len) = refl
check_marks m (op.Ret v) = refl
check_marks m (op.Jump label) = refl
check_marks m (op.Branch test first second) = refl
check_marks m (op.Switch ty v otherwise cases) = refl
check_marks m op.Unreachable = refl
check_marks m (op.Guard at size narrow) = refl
check_marks m (op.Check target) = refl
check_marks m (op.Enter s) = refl
check_marks m (op.Pre s k) = refl
check_marks m (op.Post s k) = refl
check_marks m (op.Leave s) = refl

check_unmarked : Unmarked is_check
check_unmarked = record { enter = λ s. refl; pre = λ s k. refl; call = λ to ret s args. refl; post = λ s k. refl; leave = λ s. refl; ret = λ v. refl }

-- the functions behind those of the module

abbrev wrapper_count : Interface → Module → ℕ → List Function → ℕ
wrapper_count i m n [] = 0
wrapper_count i m n (f ∷ fs) = one (has_wrapper i m (n, f)) + wrapper_count i m (suc n) fs

has_counted : (i : Interface) (m : Module) (n : ℕ) (fs : List Function) → count_by (has_wrapper i m) (enumerate_from n fs) ≡ wrapper_count i m n fs
has_counted i m n [] = refl
has_counted i m n (f ∷ fs) =
    sum_by-cons (λ (x : ℕ × Function). one (has_wrapper i m x)) (n, f) (enumerate_from (n + 1) fs)
    ∙ ap (λ (k : ℕ). one (has_wrapper i m (n, f)) + count_by (has_wrapper i m) (enumerate_from k fs)) (omega arith)
    ∙ ap (λ (k : ℕ). one (has_wrapper i m (n, f)) + k) (has_counted i m (suc n) fs)

out_length : (b : Bool) (i : Interface) (n : ℕ) (f : Function) (fs : List Function) → length (out_if b i n f ++ fs) ≡ one b + length fs
out_length true i n f fs = omega arith
out_length false i n f fs = omega arith

-- a defined function that gets a slot type, and is there, has one wrapper
in_length : (d : Bool) (slot : Option ℕ) (i : Interface) (m : Module) (n : ℕ) (f : Function) (ks : List Marked) → slice_get m.functions n ≡ Some f
    → length (filter_map (in_wrapper i m) (option_to_list (if d then option_map (marked n) slot else None) ++ ks)) ≡ one (d && is_some slot) + length (filter_map (in_wrapper i m) ks)
in_length false slot i m n f ks there = omega arith
in_length true None i m n f ks there = omega arith
in_length true (Some s) i m n f ks there =
    ap (λ (found : Option Function). length (cons_option (option_map (λ g. wrapper_of g n (slot_annotation i s) In) found) (filter_map (in_wrapper i m) ks))) there
    ∙ omega arith

one_of_two : (d a s : Bool) → one (not d && a) + one (d && s) ≡ one ((not d && a) || (d && s))
one_of_two true a true = refl
one_of_two true a false = refl
one_of_two false true s = refl
one_of_two false false s = refl

wrappers_counted : (i : Interface) (m : Module) (n : ℕ) (fs : List Function) → ((j : ℕ) (f : Function) → slice_get fs j ≡ Some f → slice_get m.functions (j + n) ≡ Some f)
    → length (out_wrappers i n fs) + length (filter_map (in_wrapper i m) (annotated_from i m n fs)) ≡ wrapper_count i m n fs
wrappers_counted i m n [] there = refl
wrappers_counted i m n (f ∷ fs) there =
    let place : n ≡ 0 + n = omega arith in
    let here : slice_get m.functions n ≡ Some f = ap (slice_get m.functions) place ∙ there 0 f refl in
    let out = out_length (is_wrapped f) i n f (out_wrappers i (suc n) fs) in
    let inward = in_length (is_defined f) (slot_of i m n) i m n f (annotated_from i m (suc n) fs) here in
    let both = one_of_two (is_defined f) (not (is_alias f)) (is_some (slot_of i m n)) in
    let rest = wrappers_counted i m (suc n) fs (λ j g is. ap (slice_get m.functions) (more_onto j n) ∙ there (suc j) g is) in
    omega (arith, out, inward, both, rest)

wrappers_are : (i : Interface) (m : Module) → count_by (has_wrapper i m) (enumerate_from 0 m.functions) ≡ length (wrappers_of i m)
wrappers_are i m =
    has_counted i m 0 m.functions
    ∙ sym (wrappers_counted i m 0 m.functions (λ j f is. ap (slice_get m.functions) (omega arith) ∙ is))
    ∙ sym (length-append (out_wrappers i 0 m.functions) (in_wrappers i m))

behind_counted : (i : Interface) (m x : Module) → GuardsBut leaves_none i m x → length (wrappers_of i m) ≡ length (drop (length m.functions) x.functions)
behind_counted i m x image =
    sym (length-map (wrappers_of i m) function_text) ∙ sym (ap length image.wrappers) ∙ length-map (drop (length m.functions) x.functions) function_text

pub counts : (p : Program) (k : ℕ) (x : Module) → GuardsBut leaves_none p.interface (module_of p (Some k)) x → Counts (image_count p k) (module_of p (Some k)) x
counts p k x image = record {
  guards = image_marks is_write is_guard guard_marks guard_unmarked p.interface (module_of p (Some k)) x image;
  checks = image_marks is_indirect_call is_check check_marks check_unmarked p.interface (module_of p (Some k)) x image;
  wrappers = wrappers_are p.interface (module_of p (Some k)) ∙ behind_counted p.interface (module_of p (Some k)) x image;
}
