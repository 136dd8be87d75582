-- Passes that refuse for the first fault of a list.
use Rattle.std.proofs.Common.{◌≡◌, ℕ, ◌+◌, ◌<◌, ◌≤◌, Option, Some, None, List, ◌∷◌, length, get_or, drop, ap, sym, subst, ◌∙◌}
use Rattle.std.specs.Prelude.{option_map}
use Rattle.std.specs.Option.{option_or}
use Rattle.std.proofs.lemmas.List.{drop_all}
use Rattle.lx_words.proofs.Options.{or_some}
use Rattle.lx_words.proofs.Tests.{one_first}
use Rattle.lx_words.proofs.Lists.{rest_at}
use Rattle.lx_ir.specs.declared.module.Block.{Block}
use Rattle.lx_ir.specs.declared.module.Function.{Function}
use Rattle.lx_ir.specs.declared.module.Module.{Module}
use Rattle.lx_ir.specs.declared.instr.Instr.{Instr}
use Rattle.lx_ir.specs.declared.instr.Op.{Op}
use Rattle.lx_ir.specs.Faults.{first_some}
use Rattle.lx_image_texts.specs.ImageFaults.{ImageFault, fault_at, fault_in_block, fault_in_blocks, first_op, kind_at}
use Rattle.lx_image_marks.specs.declared.fault.Refusal.{Refusal}
use Rattle.lx_image_marks.specs.declared.fault.Refusal.TheVariants as refusal
use Rattle.lx_image_marks.specs.Told.{IsAnswer, IsAnswerOr}

pub first_step : {A B : Type 0} (f : A → Option B) (xs : List A) (i : ℕ) (x : A) → i < length xs → x ≡ get_or xs i x → first_some f (drop i xs) ≡ option_or (f x) (first_some f (drop (i + 1) xs))
first_step f xs i x h e = ap (first_some f) (rest_at xs i x h e)

pub first_end : {A B : Type 0} (f : A → Option B) (xs : List A) (i : ℕ) → length xs ≤ i → first_some f (drop i xs) ≡ None
first_end f xs i h = ap (first_some f) (drop_all i xs h)

-- a fault that comes first is the answer
pub first_answer : (x rest y : Option ImageFault) (e : Refusal) → y ≡ option_or x rest → IsAnswer x e → IsAnswer y e
first_answer x rest y (refusal.Fault f) p h = or_some x rest y _ p h
first_answer x rest y refusal.Memory p h = tt

-- and so whatever the reason of want of memory is
pub first_told : (w : Type 0) (x rest y : Option ImageFault) (e : Refusal) → y ≡ option_or x rest → IsAnswerOr w x e → IsAnswerOr w y e
first_told w x rest y (refusal.Fault f) p h = or_some x rest y _ p h
first_told w x rest y refusal.Memory p h = h

-- what is answered, whatever the reason of want of memory is
pub any_want : (w : Type 0) (x : Option ImageFault) (e : Refusal) → IsAnswerOr w x e → IsAnswer x e
any_want w x (refusal.Fault f) h = h
any_want w x refusal.Memory h = tt

pub wanted : (w : Type 0) (x : Option ImageFault) (e : Refusal) → e ≡ refusal.Memory → w → IsAnswerOr w x e
wanted w x e is h = subst (IsAnswerOr w x) (sym is) h

pub block_step : (m : Module) (f : Function) (place : ℕ) (before next : Option Op) (xs : List Instr) (k : ℕ) (x : Instr) → k < length xs → x ≡ get_or xs k x → next ≡ first_op (drop (k + 1) xs)
    → fault_in_block m f place before (drop k xs) ≡ option_or (option_map (fault_at f place x) (kind_at m f before x.op next)) (fault_in_block m f (1 + place) (Some x.op) (drop (k + 1) xs))
block_step m f place before next xs k x h e n =
    ap (fault_in_block m f place before) (rest_at xs k x h e)
    ∙ (λ j. option_or (option_map (fault_at f place x) (kind_at m f before x.op (sym n j))) (fault_in_block m f (one_first place j) (Some x.op) (drop (k + 1) xs)))

pub block_end : (m : Module) (f : Function) (place : ℕ) (before : Option Op) (xs : List Instr) (k : ℕ) → length xs ≤ k → fault_in_block m f place before (drop k xs) ≡ None
block_end m f place before xs k h = ap (fault_in_block m f place before) (drop_all k xs h)

pub blocks_step : (m : Module) (f : Function) (place : ℕ) (xs : List Block) (k : ℕ) (x : Block) → k < length xs → x ≡ get_or xs k x
    → fault_in_blocks m f place (drop k xs) ≡ option_or (fault_in_block m f place None x.instrs) (fault_in_blocks m f (length x.instrs + place) (drop (k + 1) xs))
blocks_step m f place xs k x h e = ap (fault_in_blocks m f place) (rest_at xs k x h e)

pub blocks_end : (m : Module) (f : Function) (place : ℕ) (xs : List Block) (k : ℕ) → length xs ≤ k → fault_in_blocks m f place (drop k xs) ≡ None
blocks_end m f place xs k h = ap (fault_in_blocks m f place) (drop_all k xs h)
