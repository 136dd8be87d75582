-- What the tables tell in the words of the definitions.
use Rattle.std.proofs.Common.{◌≡◌, ◌∙◌, sym, ap, ℕ, true, ◌&&◌, ◌<◌, Some, None, List, length, get_or, subst}
use Rattle.std.specs.Prelude.{bytes_eq, slice_get, is_some}
use Rattle.std.specs.List.{list_any}
use Rattle.std.proofs.lemmas.Option.{slice_get-get_or}
use Rattle.lx_words.proofs.Tests.{false_true, first_of}
use Rattle.indexmap.specs.IndexSet.{IndexSet}
use Rattle.lx_ir.specs.declared.module.Block.{Block}
use Rattle.lx_ir.specs.declared.module.Function.{Function}
use Rattle.lx_ir.specs.Lookup.{blocks_of}
use Rattle.lx_ir.specs.Faults.{block_number, has_block, exits_of, goes_to, is_predecessor}
use Rattle.lx_ir_walks.specs.Numbers.{is_named, is_number}
use Rattle.lx_ir_walks.specs.Sources.{HasSources, ArePredecessors, comes_from, names_number, members}
use Rattle.lx_ir_walks.proofs.Members.{in_any}
use Rattle.lx_ir_walks.proofs.FirstBlocks.{present, named_number, number_is, below}

goes_by_number : (f : Function) (name : List ℕ) (n : ℕ) → block_number f name ≡ Some n → (b : Block) → names_number f (exits_of b) n ≡ goes_to b name
goes_by_number f name n e b =
    let p : (λ (label : List ℕ). is_number (block_number f label) n) ≡ (λ label. bytes_eq label name) = λ j label. named_number f label name n e j in
    ap (λ t. list_any t (exits_of b)) p

-- numbers of names serve for the names
pub comes_by_number : (f : Function) (name label : List ℕ) (n q : ℕ) → block_number f name ≡ Some n → block_number f label ≡ Some q → comes_from f (blocks_of f) n q ≡ is_predecessor f name label
comes_by_number f name label n q e h =
    let p : (λ (b : Block). is_number (block_number f b.name) q && names_number f (exits_of b) n) ≡ (λ b. bytes_eq b.name label && goes_to b name) =
    λ j b. named_number f b.name label q h j && goes_by_number f name n e b j in
    ap (λ t. list_any t (blocks_of f)) p

comes_named : (f : Function) (bs : List Block) (n q : ℕ) → comes_from f bs n q ≡ true → (label : List ℕ) × (block_number f label ≡ Some q)
comes_named f bs n q e =
    let r = in_any (λ (b : Block). is_number (block_number f b.name) q && names_number f (exits_of b) n) bs e in
    (r.0.name, number_is (block_number f r.0.name) q (first_of (is_number (block_number f r.0.name) q) (names_number f (exits_of r.0) n) r.2))

pub predecessors_at : {S : Type 0} (f : Function) (table : List (IndexSet ℕ S)) (name : List ℕ) (n : ℕ) → HasSources f table → block_number f name ≡ Some n → ArePredecessors f name (members (slice_get table n))
predecessors_at f table name n s e = record {
  named = λ q h. comes_named f (blocks_of f) n q (sym (s.told n q) ∙ h);
  told = λ label q h. s.told n q ∙ comes_by_number f name label n q e h;
}

-- the set at a number is that of the predecessors
pub before_is : {S : Type 0} (f g : Function) (table : List (IndexSet ℕ S)) (name : List ℕ) (n : ℕ) (set : IndexSet ℕ S) → g ≡ f → HasSources g table → block_number f name ≡ Some n → set ≡ get_or table n set → ArePredecessors f name set.keys
before_is f g table name n set e s b i =
    let t : HasSources f table = subst (λ x. HasSources x table) e s in
    let h : n < length table = subst (λ m. n < m) (sym t.len) (below (is_named name) (blocks_of f) n b) in
    let at : slice_get table n ≡ Some set = slice_get-get_or table n set h ∙ ap (λ x. Some x) (sym i) in
    subst (λ o. ArePredecessors f name (members o)) at (predecessors_at f table name n t b)

-- a name that a block has has a number
pub not_absent : (f : Function) (name : List ℕ) → has_block f name ≡ true → block_number f name ≡ None → ⊥
not_absent f name h e = false_true (sym (ap is_some e) ∙ (sym (present f name) ∙ h))
