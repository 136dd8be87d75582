-- In a text without a fault each instruction is watched; and a module has one image of each kind.
use Rattle.std.proofs.Common.{◌≡◌, ◌⊎◌, inl, inr, refl, sym, ◌∙◌, ap, subst, ℕ, zero, suc, ◌+◌, Bool, true, false, not, ◌&&◌, List, [], ◌∷◌, ◌++◌, map, length, take, drop, Option, Some, None, slice_get}
use Rattle.std.specs.Prelude.{option_map, cond}
use Rattle.std.specs.Option.{option_or}
use Rattle.lx_words.proofs.Options.{map_none, neither_some}
use Rattle.lx_ir.specs.declared.module.Block.{Block}
use Rattle.lx_ir.specs.declared.module.Function.{Function}
use Rattle.lx_ir.specs.declared.module.Module.{Module}
use Rattle.lx_ir.specs.declared.instr.Instr.{Instr}
use Rattle.lx_ir.specs.declared.instr.Op.{Op}
use Rattle.lx_ir.specs.Lookup.{blocks_of, is_write, is_indirect_call}
use Rattle.lx_ir.specs.Faults.{first_some}
use Rattle.lx_annot.specs.declared.interface.Interface.{Interface}
use Rattle.lx_image_texts.specs.Spared.{is_spared}
use Rattle.lx_image_texts.specs.ImageFaults.{ImageFault, Kind, StrayGuard, GuardDiffers, BareStore, BareIndirect, BodyReached, kind_if, is_stray, differs, is_bare_store, is_bare_call, is_guarding, is_checking, reaches_body, mark_kind, kind_at, first_op, fault_at, fault_in_block, fault_in_blocks, fault_in_function, is_wrapper, whole_fault, first_image_fault}
use Rattle.lx_image_texts.specs.Guards.{function_text, FunctionText}
use Rattle.lx_image_texts.specs.Instrumented.{Leaves, GuardsBut}
use Rattle.lx_image_texts.specs.Watched.{op_before, IsWatched, AllWatched, IsSameText}

-- Bare instructions.

pub kind_none : (b : Bool) (k : Kind) → kind_if b k ≡ None → b ≡ false
kind_none true k e = cc e
kind_none false k e = refl

written : (w g s : Bool) → (w && not g && not s) ≡ false → w ≡ true → (g ≡ true) ⊎ (s ≡ true)
written true true s e h = inl refl
written true false true e h = inr refl
written true false false e h = cc e
written false g s e h = cc h

called : (c k : Bool) → (c && not k) ≡ false → c ≡ true → k ≡ true
called true true e h = refl
called true false e h = cc e
called false k e h = cc h

watched_at : (x : Module) (f : Function) (before : Option Op) (o : Op) (next : Option Op) → kind_at x f before o next ≡ None → IsWatched x f before o
watched_at x f before o next e =
    let a = neither_some (mark_kind x f before o next) (kind_if (reaches_body x o) BodyReached) e in
    let b = neither_some (kind_if (is_stray next o) StrayGuard) _ a.0 in
    let c = neither_some (kind_if (differs next o) GuardDiffers) _ b.1 in
    let d = neither_some (kind_if (is_bare_store x f before o) BareStore) (kind_if (is_bare_call before o) BareIndirect) c.1 in
    record {
      write = written (is_write o) (is_guarding before) (is_spared x f o) (kind_none (is_bare_store x f before o) BareStore d.0);
      call = called (is_indirect_call o) (is_checking before) (kind_none (is_bare_call before o) BareIndirect d.1);
    }

-- The instructions of a block, behind this one.

abbrev before_of : Option Op → List Instr → ℕ → Option Op
before_of before is zero = before
before_of before is (suc n) = option_map (λ (i : Instr). i.op) (slice_get is n)

one_on : (before : Option Op) (i : Instr) (is : List Instr) (n : ℕ) → before_of (Some i.op) is n ≡ before_of before (i ∷ is) (suc n)
one_on before i is zero = refl
one_on before i is (suc n) = refl

start : (is : List Instr) (n : ℕ) → before_of None is n ≡ op_before is n
start is zero = refl
start is (suc n) = refl

in_block : (x : Module) (f : Function) (place : ℕ) (before : Option Op) (is : List Instr) → fault_in_block x f place before is ≡ None → (n : ℕ) (i : Instr) → slice_get is n ≡ Some i → IsWatched x f (before_of before is n) i.op
in_block x f place before [] e n i at = cc at
in_block x f place before (y ∷ is) e zero i at =
    let a = neither_some (option_map (fault_at f place y) (kind_at x f before y.op (first_op is))) (fault_in_block x f (suc place) (Some y.op) is) e in
    let same : y ≡ i = cc at in
    subst (λ (z : Instr). IsWatched x f before z.op) same (watched_at x f before y.op (first_op is) (map_none (fault_at f place y) (kind_at x f before y.op (first_op is)) a.0))
in_block x f place before (y ∷ is) e (suc n) i at =
    let a = neither_some (option_map (fault_at f place y) (kind_at x f before y.op (first_op is))) (fault_in_block x f (suc place) (Some y.op) is) e in
    subst (λ (z : Option Op). IsWatched x f z i.op) (one_on before y is n) (in_block x f (suc place) (Some y.op) is a.1 n i at)

in_blocks : (x : Module) (f : Function) (place : ℕ) (bs : List Block) → fault_in_blocks x f place bs ≡ None → (j : ℕ) (b : Block) (n : ℕ) (i : Instr) → slice_get bs j ≡ Some b → slice_get b.instrs n ≡ Some i → IsWatched x f (op_before b.instrs n) i.op
in_blocks x f place [] e j b n i at here = cc at
in_blocks x f place (c ∷ bs) e zero b n i at here =
    let a = neither_some (fault_in_block x f place None c.instrs) (fault_in_blocks x f (length c.instrs + place) bs) e in
    let same : c ≡ b = cc at in
    let there : slice_get c.instrs n ≡ Some i = ap (λ (z : Block). slice_get z.instrs n) same ∙ here in
    subst (λ (z : Block). IsWatched x f (op_before z.instrs n) i.op) same
    (subst (λ (z : Option Op). IsWatched x f z i.op) (start c.instrs n) (in_block x f place None c.instrs a.0 n i there))
in_blocks x f place (c ∷ bs) e (suc j) b n i at here =
    let a = neither_some (fault_in_block x f place None c.instrs) (fault_in_blocks x f (length c.instrs + place) bs) e in
    in_blocks x f (length c.instrs + place) bs a.1 j b n i at here

in_functions : (x : Module) (fs : List Function) → first_some (fault_in_function x) fs ≡ None → (k : ℕ) (f : Function) → slice_get fs k ≡ Some f → fault_in_function x f ≡ None
in_functions x [] e k f at = cc at
in_functions x (g ∷ fs) e zero f at =
    let a = neither_some (fault_in_function x g) (first_some (fault_in_function x) fs) e in
    let same : g ≡ f = cc at in
    sym (ap (fault_in_function x) same) ∙ a.0
in_functions x (g ∷ fs) e (suc k) f at = in_functions x fs (neither_some (fault_in_function x g) (first_some (fault_in_function x) fs) e).1 k f at

pub watched : (i : Interface) (x : Module) → first_image_fault i x ≡ None → AllWatched x
watched i x e k f j b n y at plain in_f in_b =
    let a = neither_some (first_some (fault_in_function x) x.functions) (whole_fault i x) e in
    let blocks : fault_in_blocks x f 0 (blocks_of f) ≡ None = sym (ap (λ (w : Bool). cond w None (fault_in_blocks x f 0 (blocks_of f))) plain) ∙ in_functions x x.functions a.0 k f at in
    in_blocks x f 0 (blocks_of f) blocks j b n y in_f in_b

-- One image of each kind.

in_two : (n : ℕ) (fs : List Function) → map function_text fs ≡ map function_text (take n fs) ++ map function_text (drop n fs)
in_two zero fs = refl
in_two (suc n) [] = refl
in_two (suc n) (f ∷ fs) = ap (λ (ts : List FunctionText). function_text f ∷ ts) (in_two n fs)

pub one_image : (leaves : Leaves) (i : Interface) (m x y : Module) → GuardsBut leaves i m x → GuardsBut leaves i m y → IsSameText x y
one_image leaves i m x y a b = record {
  types = a.types ∙ sym b.types;
  globals = a.globals ∙ sym b.globals;
  functions =
      in_two (length m.functions) x.functions
      ∙ ap (λ (ts : List FunctionText). ts ++ map function_text (drop (length m.functions) x.functions)) (a.functions ∙ sym b.functions)
      ∙ ap (λ (ts : List FunctionText). map function_text (take (length m.functions) y.functions) ++ ts) (a.wrappers ∙ sym b.wrappers)
      ∙ sym (in_two (length m.functions) y.functions);
}
