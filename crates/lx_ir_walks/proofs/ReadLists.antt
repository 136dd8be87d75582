-- Lemmas on lists of reads that a loop makes.
use Rattle.std.proofs.Common.{◌≡◌, ℕ, ◌+◌, ◌<◌, ◌≤◌, List, [], ◌++◌, length, get_or, drop, ap, sym, ◌∙◌, add-one}
use Rattle.std.specs.Prelude.{flat_map}
use Rattle.std.proofs.lemmas.List.{append_assoc, drop_all, append-nil}
use Rattle.lx_words.proofs.Lists.{rest_at}
use Rattle.lx_ir.specs.declared.module.Function.{Function}
use Rattle.lx_ir.specs.declared.module.Block.{Block}
use Rattle.lx_ir.specs.declared.instr.Instr.{Instr}
use Rattle.lx_ir.specs.Faults.{reads_of_op, reads_from, reads_of_blocks}

-- a piece more is appended
pub appended : {X : Type 0} (all old new piece rest left : List X) → all ≡ old ++ left → left ≡ piece ++ rest → new ≡ old ++ piece → all ≡ new ++ rest
appended all old new piece rest left a e n = a ∙ (ap (λ z. old ++ z) e ∙ (sym (append_assoc old piece rest) ∙ ap (λ z. z ++ rest) (sym n)))

pub all_appended : {X : Type 0} (all new left : List X) → all ≡ new ++ left → left ≡ [] → new ≡ all
all_appended all new left a e = sym (a ∙ (ap (λ z. new ++ z) e ∙ append-nil new))

pub flat_step : {A B : Type 0} (g : A → List B) (xs : List A) (i : ℕ) (x : A) → i < length xs → x ≡ get_or xs i x → flat_map g (drop i xs) ≡ g x ++ flat_map g (drop (i + 1) xs)
flat_step g xs i x h e = ap (flat_map g) (rest_at xs i x h e)

pub flat_end : {A B : Type 0} (g : A → List B) (xs : List A) (i : ℕ) → length xs ≤ i → flat_map g (drop i xs) ≡ []
flat_end g xs i h = ap (flat_map g) (drop_all i xs h)

pub reads_step : (f : Function) (k : ℕ) (xs : List Instr) (i : ℕ) (x : Instr) → i < length xs → x ≡ get_or xs i x → reads_from f k i (drop i xs) ≡ reads_of_op f k i x.line x.op ++ reads_from f k (i + 1) (drop (i + 1) xs)
reads_step f k xs i x h e =
    ap (reads_from f k i) (rest_at xs i x h e) ∙ ap (λ n. reads_of_op f k i x.line x.op ++ reads_from f k n (drop (i + 1) xs)) (sym (add-one i))

pub reads_end : (f : Function) (k n : ℕ) (xs : List Instr) (i : ℕ) → length xs ≤ i → reads_from f k n (drop i xs) ≡ []
reads_end f k n xs i h = ap (reads_from f k n) (drop_all i xs h)

pub blocks_step : (f : Function) (bs : List Block) (i : ℕ) (b : Block) (is : List Instr) → i < length bs → b ≡ get_or bs i b → is ≡ b.instrs → reads_of_blocks f i (drop i bs) ≡ reads_from f i 0 is ++ reads_of_blocks f (i + 1) (drop (i + 1) bs)
blocks_step f bs i b is h e g =
    ap (reads_of_blocks f i) (rest_at bs i b h e) ∙ (λ z. reads_from f i 0 (sym g z) ++ reads_of_blocks f (sym (add-one i) z) (drop (i + 1) bs))

pub blocks_end : (f : Function) (n : ℕ) (bs : List Block) (i : ℕ) → length bs ≤ i → reads_of_blocks f n (drop i bs) ≡ []
blocks_end f n bs i h = ap (reads_of_blocks f n) (drop_all i bs h)
