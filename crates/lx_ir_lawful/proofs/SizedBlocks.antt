-- What holds of each form of instruction holds of all instructions of a function.
use Rattle.std.proofs.Common.{◌≡◌, inl, inr, ℕ, Bool, true, List, [], ◌∷◌, ◌++◌, refl}
use Rattle.std.specs.List.{list_all}
use Rattle.std.proofs.lemmas.Bool.{and_from}
use Rattle.lx_words.specs.declared.token.Token.{Token}
use Rattle.lx_ir_tokens.specs.declared.token.Tok.{Tok}
use Rattle.lx_ir.specs.declared.module.Block.{Block}
use Rattle.lx_ir.specs.declared.instr.Instr.{Instr}
use Rattle.lx_ir.specs.declared.instr.Op.{Op}
use Rattle.lx_ir_terms.specs.Context.{Context}
use Rattle.lx_ir_calls.specs.declared.intrinsics.TextForm.{TextForm}
use Rattle.lx_ir_instructions.specs.Grammar.{IsForm}
use Rattle.lx_ir_statements.specs.Blocks.{given, with_register}
use Rattle.lx_ir_statements.specs.BlockGrammar.{AreInstrs, IsLabelled, IsFirst, AreFurtherBlocks, AreBlocks, IsBody}

module _ (context : Context) (form : TextForm) (places : List Token) (p : Op → Bool) (each : (o : Op) (ts : List Tok) → IsForm context form o ts → p o ≡ true) where
  abbrev pub all_instrs : List Instr → Bool
  all_instrs is = list_all (λ i. p i.op) is

  instrs_all : (is : List Instr) (first last : _) (ts us : List Tok) → AreInstrs context form places is first last ts us → all_instrs is ≡ true
  instrs_all [] first last ts us h = refl
  instrs_all (i ∷ is) first last ts us (f, b, one, fresh, more, w) =
      and_from (p i.op) (all_instrs is) (each i.op one.0.0 one.0.2) (instrs_all is (with_register first (given f)) last b us more)

  labelled_all : (x : Block) (first last : _) (ts us : List Tok) → IsLabelled context form places x first last ts us → all_instrs x.instrs ≡ true
  labelled_all x first last ts us (l, m, back, k, colon, name, fresh, run, w) = instrs_all x.instrs _ last back us run.1

  first_all : (numbered : ℕ) (x : Block) (first last : _) (ts us : List Tok) → IsFirst context form places numbered x first last ts us → all_instrs x.instrs ≡ true
  first_all numbered x first last ts us (inl h) = labelled_all x first last ts us h
  first_all numbered x first last ts us (inr (none, name, run)) = instrs_all x.instrs _ last ts us run.1

  further_all : (xs : List Block) (first last : _) (ts us : List Tok) → AreFurtherBlocks context form places xs first last ts us → list_all (λ x. all_instrs x.instrs) xs ≡ true
  further_all [] first last ts us h = refl
  further_all (x ∷ xs) first last ts us (f, b, middle, one, more, w) =
      and_from (all_instrs x.instrs) (list_all (λ y. all_instrs y.instrs) xs) (labelled_all x first middle f (b ++ us) one) (further_all xs middle last b us more)

  blocks_all : (numbered : ℕ) (params : List ℕ) (xs : List Block) (ts us : List Tok) → AreBlocks context form places numbered params xs ts us → list_all (λ x. all_instrs x.instrs) xs ≡ true
  blocks_all numbered params [] ts us h = absurd h
  blocks_all numbered params (x ∷ xs) ts us (f, b, middle, last, one, more, w) =
      and_from (all_instrs x.instrs) (list_all (λ y. all_instrs y.instrs) xs) (first_all numbered x _ middle f (b ++ us) one) (further_all xs middle last b us more)

  pub body_all : (numbered : ℕ) (params : List ℕ) (xs : List Block) (ts us : List Tok) → IsBody context form places numbered params xs ts us → list_all (λ x. all_instrs x.instrs) xs ≡ true
  body_all numbered params xs ts us (inner, k, blocks, brace, w) = blocks_all numbered params xs inner (k ∷ us) blocks
