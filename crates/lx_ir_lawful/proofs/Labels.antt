-- The labels of the blocks of a function.
use Rattle.std.proofs.Common.{◌≡◌, inl, inr, ℕ, true, false, not, ◌&&◌, Option, Some, None, List, [], ◌∷◌, ◌++◌, map, refl, sym, ap, ◌∙◌, subst, append_assoc}
use Rattle.std.specs.Prelude.{unwrap_or}
use Rattle.std.specs.List.{list_all, AllByRecursion}
use Rattle.std.proofs.lemmas.List.{map-append, append-nil}
use Rattle.std.proofs.lemmas.Bool.{and_from}
use Rattle.lx_words.specs.declared.token.Token.{Token}
use Rattle.lx_words.specs.Text.{decimal_text}
use Rattle.lx_ir_tokens.specs.declared.token.Tok.{Tok}
use Rattle.lx_ir_tokens.specs.declared.token.Kind.{Kind}
use Rattle.lx_ir_tokens.specs.declared.token.Kind.TheVariants as kinds
use Rattle.lx_ir_tokens.specs.Names.{number_of}
use Rattle.lx_ir.specs.declared.module.Block.{Block}
use Rattle.lx_ir.specs.declared.instr.Instr.{Instr}
use Rattle.lx_ir.specs.Operands.{is_terminator}
use Rattle.lx_ir.specs.Lawful.{is_label, is_distinct, ends_once}
use Rattle.lx_ir_terms.specs.Context.{Context}
use Rattle.lx_ir_calls.specs.declared.intrinsics.TextForm.{TextForm}
use Rattle.lx_ir_statements.specs.Numbers.{has_number, with_some}
use Rattle.lx_ir_statements.specs.Blocks.{given, with_register, with_label, may_be_label}
use Rattle.lx_ir_statements.specs.BlockGrammar.{AreInstrs, is_run, IsLabelled, IsFirst, AreFurtherBlocks, IsBody}
use Rattle.lx_ir_lawful.specs.NamedThings.{somes, numbers_of, AreOnce}
use Rattle.lx_ir_lawful.specs.TokenNames.{IsLabelled as IsLabelName, IsTokenNamed}
use Rattle.lx_ir_lawful.proofs.Placed.{number_at_place}
use Rattle.lx_ir_lawful.proofs.NamedThings.{somes_more, names_grow}
use Rattle.lx_ir_lawful.proofs.HeadNames.{decimal_is_label}

-- Parts of lists of tokens.

module _ (P : Tok → Type 0) where
  split : (f b : List Tok) → AllByRecursion P (f ++ b) → AllByRecursion P f × AllByRecursion P b
  split [] b h = (tt, h)
  split (t ∷ f) b h = let r = split f b h.1 in ((h.0, r.0), r.1)

  pub first_part : (f b ts : List Tok) → ts ≡ f ++ b → AllByRecursion P ts → AllByRecursion P f
  first_part f b ts w n = (split f b (subst (AllByRecursion P) w n)).0

  pub second_part : (f b ts : List Tok) → ts ≡ f ++ b → AllByRecursion P ts → AllByRecursion P b
  second_part f b ts w n = (split f b (subst (AllByRecursion P) w n)).1

-- the instructions of a block end once
pub run_ends : (is : List Instr) → ends_once is ≡ is_run is
run_ends [] = refl
run_ends (i ∷ []) = refl
run_ends (i ∷ j ∷ is) = ap (λ b. not (is_terminator i.op) && b) (run_ends (j ∷ is))

label_by : (names : List (List ℕ)) (t : Tok) (k : Kind) → t.kind ≡ k → may_be_label k ≡ true → IsTokenNamed names t → IsLabelName names t.name
label_by names t (kinds.Word w) e h n = n.word w e
label_by names t (kinds.Number v false) e h n = n.number v e
label_by names t (kinds.Number v true) e h n = absurd (cc h)
label_by names t k e h n = absurd (cc h)

abbrev pub labels_of : List Block → List (List ℕ)
labels_of bs = map (λ b. b.name) bs

module _ (context : Context) (once : AreOnce context.names) (form : TextForm) (places : List Token) where
  abbrev names : List (List ℕ)
  names = context.names

  instrs_keep : (is : List Instr) (first last : _) (ts us : List Tok) → AreInstrs context form places is first last ts us → first.labels ≡ last.labels
  instrs_keep [] first last ts us h = ap (λ l. l.labels) h.0
  instrs_keep (i ∷ is) first last ts us (f, b, one, fresh, more, w) = instrs_keep is (with_register first (given f)) last b us more

  -- blocks whose labels are distinct, behind these
  record GoodBlocks (W : List (List ℕ)) (xs : List Block) : Type 0 where
    distinct : is_distinct (W ++ labels_of xs) ≡ true
    each : list_all (λ x. is_label x.name && ends_once x.instrs) xs ≡ true

  good_block : (x : Block) → is_label x.name ≡ true → is_run x.instrs ≡ true → (is_label x.name && ends_once x.instrs) ≡ true
  good_block x label run = and_from (is_label x.name) (ends_once x.instrs) label (run_ends x.instrs ∙ run)

  -- one label more
  abbrev MoreLabels : List (List ℕ) → List ℕ → Block → Type 0
  MoreLabels W labels x = (is_distinct (W ++ x.name ∷ []) ≡ true) × ((numbers_of names (W ++ x.name ∷ []) ≡ labels) × ((is_label x.name && ends_once x.instrs) ≡ true))

  labelled : (x : Block) (first last : _) (ts us : List Tok) (W : List (List ℕ)) → IsLabelled context form places x first last ts us → AllByRecursion (IsTokenNamed names) ts → is_distinct W ≡ true → numbers_of names W ≡ first.labels → MoreLabels W last.labels x
  labelled x first last ts us W (l, m, rest, k, colon, name, fresh, run, w) all d n =
      let said : IsLabelName names l.name = label_by names l l.kind refl k (subst (AllByRecursion (IsTokenNamed names)) w all).0 in
      let same : said.0 ≡ x.name = ap (λ o. unwrap_or o []) (sym said.1) ∙ name in
      let it : number_of names said.0 ≡ Some l.name = number_at_place names once l.name said.0 said.1 in
      let free : has_number (numbers_of names W) l.name ≡ false = ap (λ ns. has_number ns l.name) n ∙ fresh in
      let distinct = names_grow names W l.name said.0 once said.1 d free in
      let numbers : numbers_of names (W ++ said.0 ∷ []) ≡ with_some first.labels (Some l.name) =
      ap somes (map-append (number_of names) W (said.0 ∷ []) ∙ ap (λ o. map (number_of names) W ++ o ∷ []) it) ∙ somes_more (map (number_of names) W) (Some l.name) first.labels n fresh in
      let keeps = instrs_keep x.instrs (with_label first (Some l.name)) last rest us run.1 in (
        subst (λ v. is_distinct (W ++ v ∷ []) ≡ true) same distinct,
        (
          subst (λ v. numbers_of names (W ++ v ∷ []) ≡ last.labels) same (numbers ∙ keeps),
          good_block x (ap is_label (sym same) ∙ said.2) run.0,
        ),
      )

  further_labels : (xs : List Block) (first last : _) (ts us : List Tok) (W : List (List ℕ)) → AreFurtherBlocks context form places xs first last ts us → AllByRecursion (IsTokenNamed names) ts → is_distinct W ≡ true → numbers_of names W ≡ first.labels → GoodBlocks W xs
  further_labels [] first last ts us W h all d n = record { distinct = ap is_distinct (append-nil W) ∙ d; each = refl }
  further_labels (x ∷ xs) first last ts us W (f, b, middle, one, more, w) all d n =
      let step = labelled x first middle f (b ++ us) W one (first_part (IsTokenNamed names) f b ts w all) d n in
      let rest = further_labels xs middle last b us (W ++ x.name ∷ []) more (second_part (IsTokenNamed names) f b ts w all) step.0 step.1.0 in
      record {
        distinct = ap is_distinct (sym (append_assoc W (x.name ∷ []) (labels_of xs))) ∙ rest.distinct;
        each = and_from (is_label x.name && ends_once x.instrs) (list_all (λ y. is_label y.name && ends_once y.instrs) xs) step.1.1 rest.each;
      }

  one_label : (o : Option ℕ) → somes (o ∷ []) ≡ with_some [] o
  one_label None = refl
  one_label (Some n) = refl

  first_label : (numbered : ℕ) (registers : List ℕ) (x : Block) (last : _) (ts us : List Tok) → IsFirst context form places numbered x (record { registers = registers; labels = [] }) last ts us → AllByRecursion (IsTokenNamed names) ts → MoreLabels [] last.labels x
  first_label numbered registers x last ts us (inl h) all = labelled x (record { registers = registers; labels = [] }) last ts us [] h all refl refl
  first_label numbered registers x last ts us (inr (none, name, run)) all =
      let keeps = instrs_keep x.instrs _ last ts us run.1 in (
        refl,
        (
          subst (λ v. numbers_of names (v ∷ []) ≡ last.labels) name (one_label (number_of names (decimal_text numbered)) ∙ keeps),
          good_block x (subst (λ v. is_label v ≡ true) name (decimal_is_label numbered)) run.0,
        ),
      )

  pub record LawfulLabels (xs : List Block) : Type 0 where
    pub some : (y : Block) × (ys : List Block) × (xs ≡ y ∷ ys)
    pub distinct : is_distinct (labels_of xs) ≡ true
    pub each : list_all (λ x. is_label x.name && ends_once x.instrs) xs ≡ true

  pub body_labels : (numbered : ℕ) (registers : List ℕ) (xs : List Block) (ts us : List Tok) → IsBody context form places numbered registers xs ts us → AllByRecursion (IsTokenNamed names) ts → LawfulLabels xs
  body_labels numbered registers [] ts us (inner, k, blocks, brace, w) all = absurd blocks
  body_labels numbered registers (x ∷ xs) ts us (inner, k, (f, b, middle, last, one, more, w2), brace, w) all =
      let here = first_part (IsTokenNamed names) inner (k ∷ []) ts w all in
      let step = first_label numbered registers x middle f (b ++ (k ∷ us)) one (first_part (IsTokenNamed names) f b inner w2 here) in
      let rest = further_labels xs middle last b (k ∷ us) (x.name ∷ []) more (second_part (IsTokenNamed names) f b inner w2 here) step.0 step.1.0 in
      record {
        some = (x, xs, refl);
        distinct = rest.distinct;
        each = and_from (is_label x.name && ends_once x.instrs) (list_all (λ y. is_label y.name && ends_once y.instrs) xs) step.1.1 rest.each;
      }
