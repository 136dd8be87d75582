-- Large switches and phis, each of which has a table.
use Rattle.std.proofs.Common.{◌≡◌, ◌∙◌, refl, sym, ap, subst, ℕ, ◌+◌, ◌<◌, ◌≤◌, Bool, true, false, cond, nat_eq, nat_lt, Option, Some, None, IsSome, List, ◌&&◌, arith}
use Rattle.std.specs.Prelude.{slice_get, option_map, option_and_then}
use Rattle.std.proofs.lemmas.Bool.{ltb-true, ltb-false}
use Rattle.lx_words.proofs.Tests.{eq_self}
use Rattle.lx_ir.specs.declared.instr.Instr.{Instr}
use Rattle.lx_ir.specs.declared.instr.Op.{Op}
use Rattle.lx_ir.specs.declared.module.Block.{Block}
use Rattle.lx_code.specs.Fits.{op_at, same_place, wants_table, HasIfLarge}
use Rattle.lx_code.specs.declared.instructions.Table.{Table}

-- what holds at each number below one, and at that one, holds at each below the next
module _ (P : ℕ → Type 0) (n : ℕ) where
  below_by_test : (before : (k : ℕ) → k < n → P k) (here : P n) (k : ℕ) (below : k < n + 1) (b : Bool) → nat_lt k n ≡ b → P k
  below_by_test before here k below true e = before k (ltb-true k n e)
  below_by_test before here k below false e =
      let past = ltb-false k n e in
      let same : n ≡ k = omega (arith, below, past) in
      subst P same here

  pub below_next : ((k : ℕ) → k < n → P k) → P n → (k : ℕ) → k < n + 1 → P k
  below_next before here k below = below_by_test before here k below (nat_lt k n) refl

  within_by_test : (before : (k : ℕ) → k < n → P k) (past : (k : ℕ) → n ≤ k → P k) (k : ℕ) (b : Bool) → nat_lt k n ≡ b → P k
  within_by_test before past k true e = before k (ltb-true k n e)
  within_by_test before past k false e = past k (ltb-false k n e)

  -- and, if it holds at each past it, everywhere
  pub everywhere : ((k : ℕ) → k < n → P k) → ((k : ℕ) → n ≤ k → P k) → (k : ℕ) → P k
  everywhere before past k = within_by_test before past k (nat_lt k n) refl

-- an instruction whose table is made
pub made_here : (here : Option Op) (x : Op) (found : Option Table) → here ≡ Some x → (wants_table x ≡ true → IsSome found) → HasIfLarge here found
made_here here x found is made = λ o at wants.
    let same : o ≡ x = cc in
    made (subst (λ (y : Op). wants_table y ≡ true) same wants)

-- there is none
pub none_here : (here : Option Op) (found : Option Table) → here ≡ None → HasIfLarge here found
none_here here found none = λ o at wants. absurd (cc)

-- an instruction that wants no table
pub wants_none : (o x : Op) (found : Option Table) → o ≡ x → wants_table x ≡ false → wants_table o ≡ true → IsSome found
wants_none o x found is never_wants wants =
    let never : false ≡ true = sym never_wants ∙ ap wants_table (sym is) ∙ wants in
    absurd (cc)

-- a table that is made is there
pub made_where : (found other : Option Table) → found ≡ None → IsSome found → IsSome other
made_where found other is some =
    let never : false ≡ true = subst (λ (o : Option Table). IsSome o) is some in
    absurd (cc)

-- what has a table keeps one
pub still_large : (here : Option Op) (old new : Option Table) → (IsSome old → IsSome new) → HasIfLarge here old → HasIfLarge here new
still_large here old new keeps has = λ o at wants. keeps (has o at wants)

-- the instructions of a block
pub in_block : (blocks : List Block) (b : Block) (n k : ℕ) (instrs : List Instr) (found : Option Table) → slice_get blocks n ≡ Some b → b.instrs ≡ instrs
    → HasIfLarge (option_map (λ i. i.op) (slice_get instrs k)) found → HasIfLarge (op_at blocks n k) found
in_block blocks b n k instrs found block is has =
    let here : op_at blocks n k ≡ option_map (λ (i : Instr). i.op) (slice_get instrs k) =
    ap (λ (o : Option Block). option_map (λ (x : Instr). x.op) (option_and_then (λ (x : Block). slice_get x.instrs k) o)) block
    ∙ ap (λ (xs : List Instr). option_map (λ (x : Instr). x.op) (slice_get xs k)) is in
    subst (λ (o : Option Op). HasIfLarge o found) (sym here) has

-- one table more
module _ (block place b k : ℕ) (table : Table) (old : Option Table) where
  kept_by_test : (t : Bool) → IsSome old → IsSome (cond t (Some table) old)
  kept_by_test true some = refl
  kept_by_test false some = some

  pub one_more_kept : (found : Option Table) → found ≡ cond (same_place (block, place) (b, k)) (Some table) old → IsSome old → IsSome found
  one_more_kept found is some = subst (λ (o : Option Table). IsSome o) (sym is) (kept_by_test (same_place (block, place) (b, k)) some)

pub one_more_here : (block place : ℕ) (table : Table) (old found : Option Table) → found ≡ cond (same_place (block, place) (block, place)) (Some table) old → IsSome found
one_more_here block place table old found is =
    subst (λ (o : Option Table). IsSome o) (sym is)
    (subst (λ (t : Bool). IsSome (cond t (Some table) old)) (sym (ap (λ (t : Bool). t && nat_eq place place) (eq_self block) ∙ eq_self place)) refl)
