-- Where nothing is found, nothing is wrong; and what is found is wrong, and nothing that is told before it.
use Rattle.std.proofs.Common.{◌≡◌, refl, sym, subst, ◌∙◌, arith, ℕ, suc, ◌<◌, Bool, true, false, Option, Some, None, List, length, slice_get}
use Rattle.std.specs.Option.{option_or}
use Rattle.std.proofs.lemmas.Option.{slice_get_within}
use Rattle.lx_words.proofs.Options.{some_none, none_some, some_same, neither_some}
use Rattle.lx_words.proofs.Tests.{clash, false_true}
use Rattle.lx_ir.specs.declared.module.Block.{Block}
use Rattle.lx_ir.specs.declared.module.Function.{Function}
use Rattle.lx_ir.specs.declared.module.Module.{Module}
use Rattle.lx_ir.specs.declared.instr.Instr.{Instr}
use Rattle.lx_ir.specs.declared.instr.Op.{Op}
use Rattle.lx_ir.specs.Lookup.{blocks_of}
use Rattle.lx_image_texts.specs.ImageFaults.{Kind, BareStore, GuardDiffers, BareIndirect, WrapperDiffers, BodyReached, StrayGuard, kind_if, is_stray, differs, is_bare_store, is_bare_call, mark_kind, reaches_body, kind_at, fault_in_function}
use Rattle.lx_image_texts.specs.Named.{IsWrong, turn, AllAre, IsRight, IsRightBlock, IsRightCode}
use Rattle.lx_image_texts.specs.Watched.{op_before, op_at, NoneBefore, NoneInFront}
use Rattle.lx_image_texts.proofs.First.{none_in_blocks, unless_wrapper}

-- an instruction at which nothing is found

kind_none : (b : Bool) (k : Kind) → kind_if b k ≡ None → b ≡ true → ⊥
kind_none true k h e = some_none h
kind_none false k h e = false_true e

right : (x : Module) (f : Function) (before : Option Op) (o : Op) (next : Option Op) → option_or (mark_kind x f before o next) (kind_if (reaches_body x o) BodyReached) ≡ None → (kind : Kind) → IsWrong x f before o next kind → ⊥
right x f before o next h =
    let one = neither_some (mark_kind x f before o next) (kind_if (reaches_body x o) BodyReached) h in
    let two = neither_some (kind_if (is_stray next o) StrayGuard) (option_or (kind_if (differs next o) GuardDiffers) (option_or (kind_if (is_bare_store x f before o) BareStore) (kind_if (is_bare_call before o) BareIndirect))) one.0 in
    let three = neither_some (kind_if (differs next o) GuardDiffers) (option_or (kind_if (is_bare_store x f before o) BareStore) (kind_if (is_bare_call before o) BareIndirect)) two.1 in
    let four = neither_some (kind_if (is_bare_store x f before o) BareStore) (kind_if (is_bare_call before o) BareIndirect) three.1 in
    by (kind_none (is_bare_store x f before o) BareStore four.0) (kind_none (differs next o) GuardDiffers three.0) (kind_none (is_bare_call before o) BareIndirect four.1) (kind_none (reaches_body x o) BodyReached one.1) (kind_none (is_stray next o) StrayGuard two.0)
  where
    by : (is_bare_store x f before o ≡ true → ⊥) → (differs next o ≡ true → ⊥) → (is_bare_call before o ≡ true → ⊥) → (reaches_body x o ≡ true → ⊥) → (is_stray next o ≡ true → ⊥) → (kind : Kind) → IsWrong x f before o next kind → ⊥
    by a b c d s BareStore w = a w
    by a b c d s GuardDiffers w = b w
    by a b c d s BareIndirect w = c w
    by a b c d s WrapperDiffers w = w
    by a b c d s BodyReached w = d w
    by a b c d s StrayGuard w = s w

-- the instructions before a number, the blocks before a number, and a function

pub right_before : (x : Module) (f : Function) (is : List Instr) (k : ℕ) → NoneBefore x f is k → (n : ℕ) (i : Instr) → n < k → slice_get is n ≡ Some i → IsRight x f is n i
right_before x f is k none n i less at = right x f (op_before is n) i.op (op_at is (suc n)) (none n i less at)

pub right_blocks : (x : Module) (f : Function) (k : ℕ) → NoneInFront x f k → (j : ℕ) (b : Block) → j < k → slice_get (blocks_of f) j ≡ Some b → IsRightBlock x f b
right_blocks x f k none j b less at n i there = right_before x f b.instrs (length b.instrs) (none j b less at) n i (slice_get_within b.instrs n i there) there

pub right_function : (x : Module) (f : Function) → NoneInFront x f (length (blocks_of f)) → AllAre (λ j b. IsRightBlock x f b) (blocks_of f)
right_function x f none j b at = right_blocks x f (length (blocks_of f)) none j b (slice_get_within (blocks_of f) j b at) at

pub right_code : (x : Module) (f : Function) → fault_in_function x f ≡ None → IsRightCode x f
right_code x f h plain = right_function x f (none_in_blocks x f 0 (blocks_of f) (sym (unless_wrapper x f plain) ∙ h))

-- an instruction at which something is found

pub record IsChosen (x : Module) (f : Function) (before : Option Op) (o : Op) (next : Option Op) (l : Kind) : Type 0 where
  pub wrong : IsWrong x f before o next l
  pub first : (kind : Kind) → turn kind < turn l → IsWrong x f before o next kind → ⊥

earlier : (x : Module) (f : Function) (before : Option Op) (o : Op) (next : Option Op) (n : ℕ) → (0 < n → is_stray next o ≡ false) → (1 < n → differs next o ≡ false) → (2 < n → is_bare_store x f before o ≡ false) → (3 < n → is_bare_call before o ≡ false) → (4 < n → ⊥) → (kind : Kind) → turn kind < n → IsWrong x f before o next kind → ⊥
earlier x f before o next n s d b c r StrayGuard less w = clash (is_stray next o) w (s less)
earlier x f before o next n s d b c r GuardDiffers less w = clash (differs next o) w (d less)
earlier x f before o next n s d b c r BareStore less w = clash (is_bare_store x f before o) w (b less)
earlier x f before o next n s d b c r BareIndirect less w = clash (is_bare_call before o) w (c less)
earlier x f before o next n s d b c r BodyReached less w = r less
earlier x f before o next n s d b c r WrapperDiffers less w = w

chosen_by : (x : Module) (f : Function) (before : Option Op) (o : Op) (next : Option Op) (l : Kind) (s d b c r : Bool) → is_stray next o ≡ s → differs next o ≡ d → is_bare_store x f before o ≡ b → is_bare_call before o ≡ c → reaches_body x o ≡ r →
    option_or (option_or (kind_if s StrayGuard) (option_or (kind_if d GuardDiffers) (option_or (kind_if b BareStore) (kind_if c BareIndirect)))) (kind_if r BodyReached) ≡ Some l → IsChosen x f before o next l
chosen_by x f before o next l true d b c r es ed eb ec er h =
    subst (IsChosen x f before o next) (some_same h) (record { wrong = es; first = earlier x f before o next 0 (λ n. absurd (omega (arith, n))) (λ n. absurd (omega (arith, n))) (λ n. absurd (omega (arith, n))) (λ n. absurd (omega (arith, n))) (λ n. omega (arith, n)) })
chosen_by x f before o next l false true b c r es ed eb ec er h =
    subst (IsChosen x f before o next) (some_same h) (record { wrong = ed; first = earlier x f before o next 1 (λ n. es) (λ n. absurd (omega (arith, n))) (λ n. absurd (omega (arith, n))) (λ n. absurd (omega (arith, n))) (λ n. omega (arith, n)) })
chosen_by x f before o next l false false true c r es ed eb ec er h =
    subst (IsChosen x f before o next) (some_same h) (record { wrong = eb; first = earlier x f before o next 2 (λ n. es) (λ n. ed) (λ n. absurd (omega (arith, n))) (λ n. absurd (omega (arith, n))) (λ n. omega (arith, n)) })
chosen_by x f before o next l false false false true r es ed eb ec er h =
    subst (IsChosen x f before o next) (some_same h) (record { wrong = ec; first = earlier x f before o next 3 (λ n. es) (λ n. ed) (λ n. eb) (λ n. absurd (omega (arith, n))) (λ n. omega (arith, n)) })
chosen_by x f before o next l false false false false true es ed eb ec er h =
    subst (IsChosen x f before o next) (some_same h) (record { wrong = er; first = earlier x f before o next 4 (λ n. es) (λ n. ed) (λ n. eb) (λ n. ec) (λ n. omega (arith, n)) })
chosen_by x f before o next l false false false false false es ed eb ec er h = none_some h

pub chosen : (x : Module) (f : Function) (before : Option Op) (o : Op) (next : Option Op) (l : Kind) → kind_at x f before o next ≡ Some l → IsChosen x f before o next l
chosen x f before o next l h = chosen_by x f before o next l (is_stray next o) (differs next o) (is_bare_store x f before o) (is_bare_call before o) (reaches_body x o) refl refl refl refl refl h
