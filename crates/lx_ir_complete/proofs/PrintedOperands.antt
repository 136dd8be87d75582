-- The text of operands, labels and lists says them.
use Rattle.std.proofs.Common.{◌≡◌, inl, ℕ, ◌<◌, List, [], ◌∷◌, ◌++◌, Bool, true, map, refl, sym, ap, ◌∙◌, Some, append_assoc}
use Rattle.std.specs.Prelude.{codes, flat_map, nat_le, if◌then◌else◌}
use Rattle.std.specs.List.{list_all, AllByRecursion}
use Rattle.std.proofs.lemmas.Bool.{and_parts, ltb-true, leb-true}
use Rattle.std.proofs.lemmas.List.{append-nil}
use Rattle.lx_ir.specs.declared.types.Scalar.{Scalar}
use Rattle.lx_ir.specs.declared.types.Scalar.TheVariants.{Ptr}
use Rattle.lx_ir.specs.declared.module.Value.{Value}
use Rattle.lx_ir.specs.declared.module.Value.TheVariants as value
use Rattle.lx_ir.specs.declared.module.Function.{Function}
use Rattle.lx_ir.specs.declared.module.Module.{Module}
use Rattle.lx_ir.specs.declared.instr.Argument.{Argument}
use Rattle.lx_ir.specs.declared.instr.Edge.{Edge}
use Rattle.lx_ir.specs.Operands.{argument, register_count}
use Rattle.lx_ir.specs.Text.{Text, scalar_text, local_text, register_name, register_text, value_text, target_text, comma_list, case_text}
use Rattle.lx_ir.specs.Lawful.{is_name, same_scalar, is_lawful_value, is_lawful_constant, nesting_of_constant, is_constant}
use Rattle.lx_ir.proofs.Equality.{scalar_itself}
use Rattle.lx_ir_tokens.specs.declared.token.Kind.TheVariants as kind
use Rattle.lx_ir_tokens.specs.declared.keyword.Keyword.TheVariants as keyword
use Rattle.lx_ir_tokens.specs.declared.token.Mark.TheVariants.{Comma, OpenBracket, CloseBracket}
use Rattle.lx_ir_terms.specs.Context.{Context}
use Rattle.lx_ir_terms.specs.Types.{scalar_in, depth_limit}
use Rattle.lx_ir_terms.specs.Grammar.{Part, ◌then◌}
use Rattle.lx_ir_constants.specs.Constants.{is_register, is_pointer_word}
use Rattle.lx_ir_constants.specs.Grammar.{AreFurther, AreItems, IsValue}
use Rattle.lx_ir_constants.specs.InitGrammar.{AreListed}
use Rattle.lx_ir_operands.specs.Operands.{local_in, is_label_word, misfit}
use Rattle.lx_ir_operands.specs.Grammar.{Repeated, IsAlign, Flagged, IsTyped, IsSecond, IsAddress, IsAgain, IsLocal, IsLabel, IsNextLabel, IsEdge, IsCase}
use Rattle.lx_ir_complete.specs.Pieces.{is_apart}
use Rattle.lx_ir_complete.specs.Printed.{Prints}
use Rattle.lx_ir_complete.specs.Kept.{is_kept_value}
use Rattle.lx_ir_complete.proofs.Joining.{beside, same_text, regroup, reads_as, nothing, space, marked, last_mark, word, picks}
use Rattle.lx_ir_complete.proofs.Names.{local}
use Rattle.lx_ir_complete.proofs.PrintedConstants.{constant_prints}
use Rattle.lx_ir_complete.proofs.PrintedInits.{said_bytes}
use Rattle.lx_ir_complete.proofs.PrintedTypes.{same_scalar_word}
use Rattle.lx_ir_complete.proofs.Sayings.{Saying, Registers}
use Rattle.lx_ir_complete.proofs.Words.{a_scalar, scalar_word, a_label}

pub scalar_said : (ty : Scalar) → scalar_in (kind.Word (keyword.Scalar (scalar_word ty))) ≡ Some ty
scalar_said ty = ap Some (same_scalar_word ty)

-- Texts of lists.

pub further_apart : {A : Type 0} (text : A → List ℕ) (xs : List A) → is_apart (flat_map (λ x. codes ", " ++ text x) xs) ≡ true
further_apart text [] = refl
further_apart text (x ∷ xs) = refl

pub further_mapped : {A : Type 0} (text : A → List ℕ) (xs : List A) → flat_map (λ x. codes ", " ++ text x) xs ≡ flat_map (λ u. codes ", " ++ u) (map text xs)
further_mapped text [] = refl
further_mapped text (x ∷ xs) = ap (λ t. (codes ", " ++ text x) ++ t) (further_mapped text xs)

-- What may stand and does not.

module _ {plain : Bool} {names : List (List ℕ)} where
  pub flagged : {t : List ℕ} {p : Part} → Prints plain names t p → Prints plain names t (Flagged p)
  flagged {p = p} a = reads_as {q = Flagged p} (λ ts h. ([], ts, refl, h, refl)) a

  pub no_words : {t : List ℕ} {q : Part} (p : Part) → Prints plain names t q → Prints plain names t (Repeated p then q)
  no_words {q = q} p a = reads_as {q = Repeated p then q} (λ ts h. ([], ts, (0, refl), h, refl)) a

  pub none_behind : {t : List ℕ} {p : Part} (q : Part) → Prints plain names t p → Prints plain names t (p then Repeated q)
  none_behind {p = p} q a = reads_as {q = p then Repeated q} (λ ts h. (ts, [], h, (0, refl), sym (append-nil ts))) a

  pub no_align : {t : List ℕ} {p : Part} → Prints plain names t p → Prints plain names t (p then IsAlign)
  no_align {p = p} a = reads_as {q = p then IsAlign} (λ ts h. (ts, [], h, inl refl, sym (append-nil ts))) a

  -- Lists.

  pub further : {A : Type 0} (item : A → Part) (text : A → List ℕ) (xs : List A) → AllByRecursion (λ x. Prints plain names (text x) (item x)) xs → Prints plain names (flat_map (λ x. codes ", " ++ text x) xs) (AreFurther item xs)
  further item text [] h = nothing
  further item text (x ∷ xs) h = marked Comma refl (space (beside h.0 (further_apart text xs) (further item text xs h.1)))

  pub items : {A : Type 0} (item : A → Part) (text : A → List ℕ) (x : A) (xs : List A) → AllByRecursion (λ y. Prints plain names (text y) (item y)) (x ∷ xs) → Prints plain names (comma_list (map text (x ∷ xs))) (AreItems item (x ∷ xs))
  items item text x xs h = same_text (ap (λ t. text x ++ t) (further_mapped text xs)) (beside h.0 (further_apart text xs) (further item text xs h.1))

  pub listed : {A : Type 0} (item : A → Part) (text : A → List ℕ) (xs : List A) → AllByRecursion (λ y. Prints plain names (text y) (item y)) xs → Prints plain names (comma_list (map text xs)) (AreListed item xs)
  listed item text [] h = nothing
  listed item text (x ∷ xs) h = items item text x xs h

module _ {plain : Bool} {m : Module} {f : Function} {context : Context} (given : Saying plain m context) (registers : Registers f context) where
  pub register_prints : (ty : Scalar) (r : ℕ) → r < register_count f → Prints plain context.names (register_text f r) (IsValue context ty (value.Register r))
  register_prints ty r lt = local (register_name f r) (registers.register_named r lt) (λ tok e at. (tok, ap is_register e, registers.knows.registers r tok.name lt at, refl))

  -- The text of a value says it.
  pub value_prints : (ty : Scalar) (v : Value) → is_lawful_value m f ty v ≡ true → is_kept_value v ≡ true → Prints plain context.names (value_text m f v) (IsValue context ty v)
  value_prints ty (value.Register r) h k = register_prints ty r (ltb-true r (register_count f) h)
  value_prints ty (value.Constant c) h k =
      let both = and_parts (is_lawful_constant m ty c) (nat_le (nesting_of_constant c) 64) h in
      constant_prints given depth_limit ty c both.0 k (leb-true (nesting_of_constant c) 64 both.1)

  -- a value whose text says it behind its type
  abbrev pub Operand : Argument → Type 0
  Operand a = Prints plain context.names (value_text m f a.value) (IsValue context a.ty a.value)

  pub operands_print : (xs : List Argument) → list_all (λ a. is_lawful_value m f a.ty a.value) xs ≡ true → list_all (λ a. is_kept_value a.value) xs ≡ true → AllByRecursion Operand xs
  operands_print [] h k = tt
  operands_print (a ∷ xs) h k =
      let lawful = and_parts (is_lawful_value m f a.ty a.value) (list_all (λ x. is_lawful_value m f x.ty x.value) xs) h in
      let kept = and_parts (is_kept_value a.value) (list_all (λ x. is_kept_value x.value) xs) k in
      (value_prints a.ty a.value lawful.0 kept.0, operands_print xs lawful.1 kept.1)

-- The forms round operands, whatever their texts.
module _ {plain : Bool} (context : Context) where
  pub typed : {t : Text} (ty : Scalar) (v : Value) → Prints plain context.names t (IsValue context ty v) → Prints plain context.names (scalar_text ty ++ codes " " ++ t) (IsTyped context (argument ty v))
  typed {t} ty v a = same_text (sym (append_assoc (scalar_text ty) (codes " ") t)) (picks scalar_in ty (a_scalar ty) (scalar_said ty) a)

  pub second : {t : Text} (ty : Scalar) (v : Value) → Prints plain context.names t (IsValue context ty v) → Prints plain context.names (codes ", " ++ t) (IsSecond context ty v)
  second ty v a = marked Comma refl (space a)

  pub address : {t : Text} (v : Value) → Prints plain context.names t (IsValue context Ptr v) → Prints plain context.names (codes ", ptr " ++ t) (IsAddress context v)
  address v a = marked Comma refl (space (word is_pointer_word (a_scalar Ptr) refl a))

  pub again : {t : Text} (ty : Scalar) (v : Value) → Prints plain context.names t (IsValue context ty v) → Prints plain context.names (codes ", " ++ (scalar_text ty ++ codes " " ++ t)) (IsAgain context ty v)
  again ty v a = reads_as {q = IsAgain context ty v} (λ ts h. (argument ty v, h, ap (λ b. if b then v else value.Constant (misfit ty)) (scalar_itself ty))) (marked Comma refl (space (typed ty v a)))

  -- Labels.

  pub label : (l : List ℕ) → is_name l ≡ true → Prints plain context.names (local_text l) (IsLocal context l)
  label l h = local l h (λ tok e at. (tok, ap (λ q. local_in context q tok.name) e ∙ ap Some (said_bytes context tok.name l at), refl))

  pub labelled : (l : List ℕ) → is_name l ≡ true → Prints plain context.names (codes "label" ++ 32 ∷ local_text l) (IsLabel context l)
  labelled l h = word is_label_word a_label refl (label l h)

  pub target : (l : List ℕ) → is_name l ≡ true → Prints plain context.names (target_text l) (IsNextLabel context l)
  target l h = marked Comma refl (space (labelled l h))

  pub edge_prints : {t : Text} (ty : Scalar) (e : Edge) → Prints plain context.names t (IsValue context ty e.value) → is_name e.label ≡ true → Prints plain context.names (codes "[ " ++ t ++ codes ", " ++ local_text e.label ++ codes " ]") (IsEdge context ty e)
  edge_prints {t} ty e a h =
      let all = marked OpenBracket refl (space (beside a refl (marked Comma refl (space (beside (label e.label h) refl (space (last_mark CloseBracket refl))))))) in
      same_text (regroup (codes "[ ") (t ∷ codes ", " ∷ local_text e.label ∷ codes " ]" ∷ [])) all

module _ (plain : Bool) (m : Module) (f : Function) (context : Context) where
  pub case_prints : (ty : Scalar) (v : Value) (l : List ℕ) → is_constant v ≡ true → Prints plain context.names (value_text m f v) (IsValue context ty v) → is_name l ≡ true
      → Prints plain context.names (case_text m f ty (record { value = v; label = l })) (IsCase context ty (record { value = v; label = l }))
  case_prints ty (value.Register r) l c a h = cc c
  case_prints ty (value.Constant k) l c a h =
      let all = picks scalar_in ty (a_scalar ty) (scalar_said ty) (beside a refl (target context l h)) in
      let one = reads_as {q = IsCase context ty (record { value = value.Constant k; label = l })} (λ ts e. (ty, k, e, ap (λ b. value.Constant (if b then k else misfit ty)) (scalar_itself ty))) all in
      same_text (simp append_assoc) one
