-- Reading and the grammar of operands agree, and so do they on what is passed over around them.
use Rattle.std.specs.Prelude.{◌≡◌, Bool, true, false, List, ◌∷◌, ◌++◌, None, length, Ok, Err}
use Rattle.lx_ir_tokens.specs.declared.token.Tok.{Tok}
use Rattle.lx_ir_tokens.specs.declared.token.Mark.TheVariants.{Colon, OpenBracket, CloseBracket}
use Rattle.lx_ir.specs.declared.types.Scalar.{Scalar}
use Rattle.lx_ir_terms.specs.declared.fault.Fault.{Fault}
use Rattle.lx_ir_terms.specs.Context.{Context}
use Rattle.lx_ir_terms.specs.Reading.{Read, at, is_mark, has}
use Rattle.lx_ir_terms.specs.Words.{is_passed, passed_at}
use Rattle.lx_ir_terms.specs.Grammar.{Part, Is, IsMark, ◌then◌, IsWritten}
use Rattle.lx_ir_terms.specs.Laws.{Reads, Finds, Stops}
use Rattle.lx_ir_constants.specs.Constants.{is_flag_word, skipped}
use Rattle.lx_ir_constants.specs.Grammar.{AreItems, AreFlags}
use Rattle.lx_ir_operands.specs.Steps.{has_further, unbroken_at, metadata_at, has_comma, align_at, has_attribute, attributes_at}
use Rattle.lx_ir_operands.specs.Operands.{flagged_scalar_at, flagged_type_at, is_truth_word, truth_type_at, typed_at, flagged_typed_at, second_at, address_at, again_at, local_at, label_at, next_label_at, edge_at, case_at, cases_at}
use Rattle.lx_ir_operands.specs.Grammar.{Repeated, IsMetadata, IsAlign, IsPassed, IsAttribute, Flagged, IsScalar, IsTyped, IsSecond, IsAddress, IsAgain, IsLocal, IsLabel, IsNextLabel, IsEdge, IsCase, AreInRow}

-- what is in the grammar is read, whatever follows it, and what is read is in the grammar
pub record Agrees {A : Type 0} (read : List Tok → Read A) (part : A → Part) : Type 0 where
  pub reads : (x : A) → Reads read x (part x)
  pub finds : Finds read part

-- the same of a part that may go on: it is read before tokens that do not go on with it
pub record AgreesBefore {A : Type 0} (end : List Tok → Type 0) (read : List Tok → Read A) (part : A → Part) : Type 0 where
  pub reads : (x : A) (ts us : List Tok) → end us → part x ts → read (ts ++ us) ≡ Ok (x, us)
  pub finds : Finds read part

-- the tokens do not begin so
abbrev pub BeginsNot : (List Tok → Bool) → List Tok → Type 0
BeginsNot begins us = begins us ≡ false

-- tokens that do not go on with a call: there are some, and no colon and no word of a call is the first
pub record EndsCall (us : List Tok) : Type 0 where
  pub some : has (λ k. true) us ≡ true
  pub no_colon : has (is_mark Colon) us ≡ false
  pub no_attribute : has_attribute us ≡ false

-- types behind flags, and operands with their types
pub record OperandsAgree : Type 0 where
  pub flagged_scalar : Agrees flagged_scalar_at (λ ty. Flagged (IsScalar ty))
  pub flagged_type : (context : Context) → Agrees (flagged_type_at context) (λ ty. Flagged (IsWritten context ty))
  pub flagged_truth : Agrees (λ ts. truth_type_at (skipped is_flag_word ts)) (λ x. Flagged (Is is_truth_word))
  pub typed : (context : Context) → Agrees (typed_at context) (IsTyped context)
  pub flagged_typed : (context : Context) → Agrees (flagged_typed_at context) (λ a. Flagged (IsTyped context a))
  pub second : (context : Context) (ty : Scalar) → Agrees (second_at context ty) (IsSecond context ty)
  pub address : (context : Context) → Agrees (address_at context) (IsAddress context)
  pub again : (context : Context) (ty : Scalar) → Agrees (again_at context ty) (IsAgain context ty)

-- labels, and what names one
pub record LabelsAgree : Type 0 where
  pub local : (context : Context) → Agrees (local_at context) (IsLocal context)
  pub label : (context : Context) → Agrees (label_at context) (IsLabel context)
  pub next_label : (context : Context) → Agrees (next_label_at context) (IsNextLabel context)
  pub edge : (context : Context) (ty : Scalar) → Agrees (edge_at context ty) (IsEdge context ty)
  pub case : (context : Context) (ty : Scalar) → Agrees (case_at context ty) (IsCase context ty)

-- lists of them: edges and indices up to what is no further item, and cases in their brackets
pub record ListsAgree : Type 0 where
  pub edges : (context : Context) (ty : Scalar) → AgreesBefore (BeginsNot has_further) (unbroken_at (edge_at context ty)) (AreItems (IsEdge context ty))
  pub indices : (context : Context) → AgreesBefore (BeginsNot has_further) (unbroken_at (typed_at context)) (AreItems (IsTyped context))
  pub cases : (context : Context) (ty : Scalar) → Agrees (cases_at context ty) (λ ks. IsMark OpenBracket then AreInRow (IsCase context ty) ks then IsMark CloseBracket)

-- flags are passed over up to a token that is none
abbrev pub FlagsAreSkipped : Type 0
FlagsAreSkipped = (fs us : List Tok) → AreFlags fs → has is_flag_word us ≡ false → skipped is_flag_word (fs ++ us) ≡ us

-- what is passed over so are flags
abbrev pub FlagsAreFound : Type 0
FlagsAreFound = (ts : List Tok) → (front : List Tok) × AreFlags front × (ts ≡ front ++ skipped is_flag_word ts)

-- what is passed over before and behind operands
pub record PassedOverAgrees : Type 0 where
  pub flags_skipped : FlagsAreSkipped
  pub flags_found : FlagsAreFound
  pub metadata : AgreesBefore (BeginsNot has_comma) metadata_at (λ x. Repeated IsMetadata)
  pub align : AgreesBefore (BeginsNot has_further) align_at (λ x. IsAlign)
  pub words : AgreesBefore (BeginsNot (has (is_passed false))) (passed_at false) (λ x. Repeated IsPassed)
  pub attributes : AgreesBefore EndsCall attributes_at (λ x. Repeated IsAttribute)

-- a token at which reading stops cannot stand there, whatever follows it
abbrev pub Refuses : {A : Type 0} → (List Tok → Read A) → Type 0
Refuses read = (ts : List Tok) (fault : Fault) → read ts ≡ Err fault → Stops read ts fault

-- so it is with operands and labels, where no limits are asked: a type that is outside them is refused at its first token by what follows
pub record OperandsAreRefused : Type 0 where
  pub flagged_scalar : Refuses flagged_scalar_at
  pub flagged_type : (context : Context) → context.limits ≡ None → Refuses (flagged_type_at context)
  pub flagged_truth : Refuses (λ ts. truth_type_at (skipped is_flag_word ts))
  pub typed : (context : Context) → context.limits ≡ None → Refuses (typed_at context)
  pub flagged_typed : (context : Context) → context.limits ≡ None → Refuses (flagged_typed_at context)
  pub second : (context : Context) → context.limits ≡ None → (ty : Scalar) → Refuses (second_at context ty)
  pub address : (context : Context) → context.limits ≡ None → Refuses (address_at context)
  pub again : (context : Context) → context.limits ≡ None → (ty : Scalar) → Refuses (again_at context ty)
  pub local : (context : Context) → Refuses (local_at context)
  pub label : (context : Context) → Refuses (label_at context)
  pub next_label : (context : Context) → Refuses (next_label_at context)
  pub edge : (context : Context) → context.limits ≡ None → (ty : Scalar) → Refuses (edge_at context ty)
  pub case : (context : Context) → context.limits ≡ None → (ty : Scalar) → Refuses (case_at context ty)

-- and with lists, and what is passed over
pub record ListsAreRefused : Type 0 where
  pub edges : (context : Context) → context.limits ≡ None → (ty : Scalar) → Refuses (unbroken_at (edge_at context ty))
  pub indices : (context : Context) → context.limits ≡ None → Refuses (unbroken_at (typed_at context))
  pub cases : (context : Context) → context.limits ≡ None → (ty : Scalar) → Refuses (cases_at context ty)
  pub metadata : Refuses metadata_at
  pub align : Refuses align_at
  pub words : Refuses (passed_at false)

-- tokens that make no label of a word before them: there are some, and no colon is the first
pub record NoLabel (us : List Tok) : Type 0 where
  pub some : has (λ k. true) us ≡ true
  pub no_colon : has (is_mark Colon) us ≡ false

-- Some tokens, and then one at which reading stops with this fault, before tokens like these
pub record StopsBefore {A : Type 0} (before : List Tok → Type 0) (read : List Tok → Read A) (ts : List Tok) (fault : Fault) : Type 0 where
  pub front : List Tok
  pub rest : List Tok
  pub whole : ts ≡ front ++ rest
  pub left : fault.left ≡ length rest
  pub again : (t : Tok) (more us : List Tok) → rest ≡ t ∷ more → before us → read (front ++ t ∷ us) ≡ Err (at fault.kind (t ∷ us))

-- so it is with words behind a call: whether a word belongs to the call hangs on the token behind it
abbrev pub AttributesAreRefused : Type 0
AttributesAreRefused = (ts : List Tok) (fault : Fault) → attributes_at ts ≡ Err fault → StopsBefore NoLabel attributes_at ts fault
