-- What is made is the image that the definitions speak of.
use Rattle.std.proofs.Common.{◌≡◌, ℕ, zero, suc, ◌+◌, Bool, true, false, cond, Option, Some, None, List, [], ◌∷◌, ◌++◌, length, map, take, drop, refl, ap, ◌∙◌, arith, append_assoc}
use Rattle.std.specs.Prelude.{flat_map, option_map, slice_get, nat_le}
use Rattle.lx_words.specs.declared.word.Width.TheVariants.{W1, W8, W16, W32, W64}
use Rattle.lx_words.proofs.Lists.{map_append}
use Rattle.lx_ir.specs.declared.types.Scalar.{Scalar}
use Rattle.lx_ir.specs.declared.types.Scalar.TheVariants.{Int, Ptr}
use Rattle.lx_ir.specs.declared.module.Symbol.TheVariants as symbol
use Rattle.lx_ir.specs.declared.module.Value.{Value}
use Rattle.lx_ir.specs.declared.module.Value.TheVariants as value
use Rattle.lx_ir.specs.declared.module.Block.{Block}
use Rattle.lx_ir.specs.declared.module.Function.{Function}
use Rattle.lx_ir.specs.declared.module.Module.{Module}
use Rattle.lx_ir.specs.declared.instr.Callee.{Callee}
use Rattle.lx_ir.specs.declared.instr.Callee.TheVariants as callee
use Rattle.lx_ir.specs.declared.instr.Instr.{Instr}
use Rattle.lx_ir.specs.declared.instr.Op.{Op}
use Rattle.lx_ir.specs.declared.instr.Op.TheVariants as op
use Rattle.lx_ir.specs.Layout.{scalar_size}
use Rattle.lx_annot.specs.declared.interface.Interface.{Interface}
use Rattle.lx_image_texts.specs.Marks.{mark_of, is_wrapped, one_if, wrapped_before, wrapper_number, callee_if, callee_for, image_callee, image_op}
use Rattle.lx_image_texts.specs.Spared.{is_spared}
use Rattle.lx_image_texts.specs.Guards.{unlined_global, block_text, function_text}
use Rattle.lx_image_texts.specs.Instrumented.{Leaves, leaves_none, leaves_spared, unless_left, image_code, image_block_text, image_function_text, GuardsBut}
use Rattle.lx_image_texts.specs.WrapperText.{wrappers_of}
use Rattle.lx_image_texts.proofs.Paired.{op_of}
use Rattle.lx_instrument.specs.Made.{numbers_from, called_numbers, called_at, callee_by, op_by, lined, instr_by, block_by, function_by}
use Rattle.lx_spared.specs.Rooms.{has_room, spared_by}

-- what is called

abbrev look : ℕ → ℕ → Option Function → Callee
look w p None = callee.Symbol (symbol.Global 0)
look w p (Some g) = callee.Symbol (symbol.Function (cond (is_wrapped g) w p))

shift : (b : Bool) (n x : ℕ) → one_if b n + x ≡ n + one_if b x
shift true n x = omega arith
shift false n x = refl

number_is : (fs : List Function) (n k j : ℕ) → called_at (slice_get (numbers_from n k fs) j) ≡ look (n + wrapped_before fs j) (k + j) (slice_get fs j)
number_is [] n k j = refl
number_is (g ∷ gs) n k zero =
    let p : n ≡ n + 0 = omega arith in
    let q : k ≡ k + 0 = omega arith in
    λ i. callee.Symbol (symbol.Function (cond (is_wrapped g) (p i) (q i)))
number_is (g ∷ gs) n k (suc j) =
    let p : one_if (is_wrapped g) n + wrapped_before gs j ≡ n + one_if (is_wrapped g) (wrapped_before gs j) = shift (is_wrapped g) n (wrapped_before gs j) in
    let q : suc k + j ≡ k + suc j = omega arith in
    number_is gs (one_if (is_wrapped g) n) (suc k) j ∙ (λ i. look (p i) (q i) (slice_get gs j))

chosen : (b : Bool) (m : Module) (j : ℕ) → callee.Symbol (symbol.Function (cond b (wrapper_number m j) (0 + j))) ≡ callee_if b m j
chosen true m j = refl
chosen false m j = let p : 0 + j ≡ j = omega arith in ap (λ n. callee.Symbol (symbol.Function n)) p

look_is : (m : Module) (j : ℕ) (found : Option Function) → look (wrapper_number m j) (0 + j) found ≡ callee_for m j found
look_is m j None = refl
look_is m j (Some g) = chosen (is_wrapped g) m j

pub callee_is : (m : Module) (x : Callee) → callee_by (called_numbers m) x ≡ image_callee m x
callee_is m (callee.Symbol (symbol.Function f)) = number_is m.functions (length m.functions) 0 f ∙ look_is m f (slice_get m.functions f)
callee_is m (callee.Symbol (symbol.Global g)) = refl
callee_is m (callee.Register r) = refl

pub op_is : (m : Module) (o : Op) → op_by (called_numbers m) o ≡ image_op m o
op_is m (op.Binary to o ty a b) = refl
op_is m (op.Compare to p ty a b) = refl
op_is m (op.Convert to how from a into) = refl
op_is m (op.Unary to o ty a) = refl
op_is m (op.Select to c ty a b) = refl
op_is m (op.Phi to ty edges) = refl
op_is m (op.Alloca to ty) = refl
op_is m (op.Load to ty at) = refl
op_is m (op.Store ty v at) = refl
op_is m (op.GetElementPtr to ty base indices) = refl
op_is m (op.Call to ret x args) = ap (λ (y : Callee). op.Call to ret y args) (callee_is m x)
op_is m (op.CopyBlock moves dest source len) = refl
op_is m (op.FillBlock dest byte len) = refl
op_is m (op.Ret v) = refl
op_is m (op.Jump label) = refl
op_is m (op.Branch c a b) = refl
op_is m (op.Switch ty v otherwise cases) = refl
op_is m op.Unreachable = refl
op_is m (op.Guard at size narrow) = refl
op_is m (op.Check target) = refl
op_is m (op.Enter f) = refl
op_is m (op.Pre f k) = refl
op_is m (op.Post f k) = refl
op_is m (op.Leave f) = refl

-- code without its lines

append_three : {A : Type 0} (xs : List A) (y : A) (zs : List A) → (xs ++ y ∷ []) ++ zs ≡ xs ++ (y ∷ zs)
append_three [] y zs = refl
append_three (x ∷ xs) y zs = ap (λ ws. x ∷ ws) (append_three xs y zs)

ops_lined : (line : ℕ) (os : List Op) → map op_of (lined line os) ≡ os
ops_lined line [] = refl
ops_lined line (o ∷ os) = ap (λ ps. o ∷ ps) (ops_lined line os)

instr_is : (m : Module) (leaves : Op → Bool) (i : Instr) → map op_of (instr_by (called_numbers m) leaves i) ≡ unless_left (leaves i.op) (mark_of i.op) ++ image_op m i.op ∷ []
instr_is m leaves i =
    let marks = unless_left (leaves i.op) (mark_of i.op) in
    map_append op_of (lined i.line marks) (record { op = op_by (called_numbers m) i.op; line = i.line } ∷ [])
    ∙ (λ j. ops_lined i.line marks j ++ op_is m i.op j ∷ [])

code_is : (m : Module) (leaves : Op → Bool) (is : List Instr) → map op_of (flat_map (instr_by (called_numbers m) leaves) is) ≡ image_code leaves m (map op_of is)
code_is m leaves [] = refl
code_is m leaves (i ∷ is) =
    let rest = flat_map (instr_by (called_numbers m) leaves) is in
    map_append op_of (instr_by (called_numbers m) leaves i) rest
    ∙ (λ j. instr_is m leaves i j ++ code_is m leaves is j)
    ∙ append_three (unless_left (leaves i.op) (mark_of i.op)) (image_op m i.op) (image_code leaves m (map op_of is))

-- blocks and functions

blocks_are : (m : Module) (leaves : Op → Bool) (bs : List Block) → map block_text (map (block_by (called_numbers m) leaves) bs) ≡ map (image_block_text leaves m) bs
blocks_are m leaves [] = refl
blocks_are m leaves (b ∷ bs) = λ j. record { name = b.name; code = code_is m leaves b.instrs j } ∷ blocks_are m leaves bs j

body_is : (m : Module) (leaves : Op → Bool) (body : Option (List Block)) → option_map (map block_text) (option_map (map (block_by (called_numbers m) leaves)) body) ≡ option_map (map (image_block_text leaves m)) body
body_is m leaves None = refl
body_is m leaves (Some bs) = ap (λ xs. Some xs) (blocks_are m leaves bs)

pub functions_are : (m : Module) (leaves : Leaves) (fs : List Function) → map function_text (map (λ f. function_by (called_numbers m) (leaves f) f) fs) ≡ map (image_function_text leaves m) fs
functions_are m leaves [] = refl
functions_are m leaves (f ∷ fs) =
    λ j. record { name = f.name; params = f.params; locals = f.locals; ret = f.ret; blocks = body_is m (leaves f) f.blocks j } ∷ functions_are m leaves fs j

-- modules

take_first : {A B : Type 0} (f : A → B) (xs : List A) (ys : List B) → take (length xs) (map f xs ++ ys) ≡ map f xs
take_first f [] ys = refl
take_first f (x ∷ xs) ys = ap (λ zs. f x ∷ zs) (take_first f xs ys)

drop_first : {A B : Type 0} (f : A → B) (xs : List A) (ys : List B) → drop (length xs) (map f xs ++ ys) ≡ ys
drop_first f [] ys = refl
drop_first f (x ∷ xs) ys = drop_first f xs ys

pub made : (leaves : Leaves) (i : Interface) (m x : Module) → x.types ≡ m.types → x.globals ≡ m.globals
    → x.functions ≡ map (λ f. function_by (called_numbers m) (leaves f) f) m.functions ++ wrappers_of i m → GuardsBut leaves i m x
made leaves i m x a b c =
    let one : Function → Function = λ f. function_by (called_numbers m) (leaves f) f in
    record {
      types = a;
      globals = ap (map unlined_global) b;
      functions =
          ap (λ fs. map function_text (take (length m.functions) fs)) c
          ∙ ap (map function_text) (take_first one m.functions (wrappers_of i m))
          ∙ functions_are m leaves m.functions;
      wrappers =
          ap (λ fs. map function_text (drop (length m.functions) fs)) c
          ∙ ap (map function_text) (drop_first one m.functions (wrappers_of i m));
    }

-- without rooms every instruction has its mark

no_size : (ty : Scalar) → nat_le (scalar_size ty) 0 ≡ false
no_size Ptr = refl
no_size (Int W1) = refl
no_size (Int W8) = refl
no_size (Int W16) = refl
no_size (Int W32) = refl
no_size (Int W64) = refl

no_room : (ty : Scalar) (at : Value) → has_room [] (scalar_size ty) at ≡ false
no_room ty (value.Register r) = no_size ty
no_room ty (value.Constant c) = refl

none_left : (o : Op) → spared_by [] o ≡ false
none_left (op.Binary to o ty a b) = refl
none_left (op.Compare to p ty a b) = refl
none_left (op.Convert to how from a into) = refl
none_left (op.Unary to o ty a) = refl
none_left (op.Select to c ty a b) = refl
none_left (op.Phi to ty edges) = refl
none_left (op.Alloca to ty) = refl
none_left (op.Load to ty at) = refl
none_left (op.Store ty v at) = no_room ty at
none_left (op.GetElementPtr to ty base indices) = refl
none_left (op.Call to ret x args) = refl
none_left (op.CopyBlock moves dest source len) = refl
none_left (op.FillBlock dest byte len) = refl
none_left (op.Ret v) = refl
none_left (op.Jump label) = refl
none_left (op.Branch c a b) = refl
none_left (op.Switch ty v otherwise cases) = refl
none_left op.Unreachable = refl
none_left (op.Guard at size narrow) = refl
none_left (op.Check target) = refl
none_left (op.Enter f) = refl
none_left (op.Pre f k) = refl
none_left (op.Post f k) = refl
none_left (op.Leave f) = refl

pub made_full : (i : Interface) (m x : Module) → x.types ≡ m.types → x.globals ≡ m.globals
    → x.functions ≡ map (function_by (called_numbers m) (spared_by [])) m.functions ++ wrappers_of i m → GuardsBut leaves_none i m x
made_full i m x a b c =
    made leaves_none i m x a b (c ∙ (λ j. map (λ f. function_by (called_numbers m) (λ o. none_left o j) f) m.functions ++ wrappers_of i m))

-- the functions that are added, and the wrappers behind them
pub full_image : (i : Interface) (m : Module) (fs : List Function) (numbers : List ℕ) (rooms : List (ℕ × ℕ)) (old mid : List Function) → numbers ≡ called_numbers m → rooms ≡ [] → fs ≡ m.functions
    → mid ≡ old ++ map (function_by numbers (spared_by rooms)) fs → mid ++ wrappers_of i m ≡ old ++ (map (function_by (called_numbers m) (spared_by [])) m.functions ++ wrappers_of i m)
full_image i m fs numbers rooms old mid a b d e =
    ap (λ l. l ++ wrappers_of i m) (e ∙ (λ j. old ++ map (function_by (a j) (spared_by (b j))) (d j)))
    ∙ append_assoc old (map (function_by (called_numbers m) (spared_by [])) m.functions) (wrappers_of i m)

pub made_spared : (i : Interface) (m x : Module) → x.types ≡ m.types → x.globals ≡ m.globals
    → x.functions ≡ map (λ f. function_by (called_numbers m) (is_spared m f) f) m.functions ++ wrappers_of i m → GuardsBut (leaves_spared m) i m x
made_spared i m x a b c = made (leaves_spared m) i m x a b c

-- the functions that are added without the guards of spared stores, and the wrappers behind them
pub spared_image : (i : Interface) (m : Module) (fs : List Function) (numbers : List ℕ) (old mid : List Function) → numbers ≡ called_numbers m → fs ≡ m.functions
    → mid ≡ old ++ map (λ f. function_by numbers (is_spared m f) f) fs → mid ++ wrappers_of i m ≡ old ++ (map (λ f. function_by (called_numbers m) (is_spared m f) f) m.functions ++ wrappers_of i m)
spared_image i m fs numbers old mid a d e =
    ap (λ l. l ++ wrappers_of i m) (e ∙ (λ j. old ++ map (λ f. function_by (a j) (is_spared m f) f) (d j)))
    ∙ append_assoc old (map (λ f. function_by (called_numbers m) (is_spared m f) f) m.functions) (wrappers_of i m)
