-- The text of an instruction says it.
use Rattle.std.proofs.Common.{◌≡◌, ℕ, zero, suc, slice_get, ◌<◌, ◌^◌, not, subst, List, [], ◌∷◌, ◌++◌, Bool, true, ◌&&◌, ◌||◌, map, length, refl, sym, ap, ◌∙◌, Option, Some, None, is_some, is_none, append_assoc}
use Rattle.std.specs.Prelude.{codes, flat_map, nat_lt}
use Rattle.std.specs.List.{list_all, AllByRecursion}
use Rattle.std.proofs.lemmas.Bool.{and_parts, ltb-true}
use Rattle.std.proofs.lemmas.List.{append-nil}
use Rattle.lx_words.specs.declared.word.Width.TheVariants.{W1}
use Rattle.lx_words.specs.declared.word.BinOp.{BinOp}
use Rattle.lx_words.specs.declared.word.Pred.{Pred}
use Rattle.lx_ir.specs.declared.types.Scalar.{Scalar}
use Rattle.lx_ir.specs.declared.types.Scalar.TheVariants.{Int, Ptr}
use Rattle.lx_ir.specs.declared.module.Value.{Value}
use Rattle.lx_ir.specs.declared.module.Function.{Function}
use Rattle.lx_ir.specs.declared.module.Module.{Module}
use Rattle.lx_ir.specs.declared.instr.Argument.{Argument}
use Rattle.lx_ir.specs.declared.instr.Conversion.{Conversion}
use Rattle.lx_ir.specs.declared.instr.Conversion.TheVariants as conversion
use Rattle.lx_ir.specs.declared.instr.Edge.{Edge}
use Rattle.lx_ir.specs.declared.instr.SwitchCase.{SwitchCase}
use Rattle.lx_ir.specs.declared.instr.Callee.{Callee}
use Rattle.lx_ir.specs.declared.instr.UnaryOp.TheVariants as unary
use Rattle.lx_ir.specs.declared.instr.Op.{Op}
use Rattle.lx_ir.specs.declared.instr.Op.TheVariants as op
use Rattle.lx_ir.specs.IrType.{IrType}
use Rattle.lx_ir.specs.Layout.{is_lawful_type}
use Rattle.lx_ir.specs.Operands.{argument, register_count, operands_of, labels_of, given_by, is_image_line, callee_operands}
use Rattle.lx_ir.specs.Text.{Text, scalar_text, result_text, register_text, register_name, type_text, value_text, argument_text, operand_text, operator_word, predicate_word, conversion_word, given_text, pair_text, into_text, choices_text, target_text, edge_text, case_text, cases_text, comma_list, callee_text, arguments_text, op_text}
use Rattle.lx_ir.specs.Lawful.{is_name, is_lawful_value, is_constant, is_lawful_callee, has_form, is_lawful_op}
use Rattle.lx_ir_tokens.specs.declared.token.Tok.{Tok}
use Rattle.lx_ir_tokens.specs.declared.token.Kind.{Kind}
use Rattle.lx_ir_tokens.specs.declared.token.Kind.TheVariants as kind
use Rattle.lx_ir_tokens.specs.declared.keyword.Keyword.{Keyword}
use Rattle.lx_ir_tokens.specs.declared.keyword.InstructionWord.{InstructionWord}
use Rattle.lx_ir_tokens.specs.declared.token.Mark.TheVariants.{Comma, Equal, OpenBracket, CloseBracket}
use Rattle.lx_ir_tokens.specs.declared.keyword.InstructionWord.TheVariants as instructions
use Rattle.lx_ir_terms.specs.Context.{Context, register_number}
use Rattle.lx_ir_terms.specs.Reading.{is_to}
use Rattle.lx_ir_terms.specs.Types.{scalar_in, result_in, depth_limit}
use Rattle.lx_ir_terms.specs.Grammar.{Part, Is, IsMark, ◌then◌, IsWritten}
use Rattle.lx_ir_constants.specs.Constants.{is_register}
use Rattle.lx_ir_constants.specs.Grammar.{IsValue}
use Rattle.lx_ir_operands.specs.Operands.{is_truth_word, instruction_in}
use Rattle.lx_ir_operands.specs.Grammar.{Times, Repeated, First, Flagged, IsScalar, IsTyped, IsSecond, IsEdge, IsCase, AreInRow}
use Rattle.lx_ir_calls.specs.Calls.{is_tail_word}
use Rattle.lx_ir_calls.specs.declared.intrinsics.TextForm.{TextForm}
use Rattle.lx_ir_calls.specs.declared.intrinsics.TextForm.TheVariants as forms
use Rattle.lx_ir_instructions.specs.Instructions.{predicate_in, conversion_of}
use Rattle.lx_ir_instructions.specs.Grammar.{Given, IsForm, IsInstr}
use Rattle.lx_ir_complete.specs.Pieces.{is_apart}
use Rattle.lx_ir_complete.specs.Printed.{Prints}
use Rattle.lx_ir_complete.specs.Kept.{is_kept_type, is_kept_value, has_kept_type, has_kept_number, is_kept_op}
use Rattle.lx_ir_complete.specs.Knows.{GivesRegister, StartsWith, may_stand}
use Rattle.lx_ir_tokens.specs.Keywords.{keyword_of}
use Rattle.lx_words.specs.Lexemes.{lexeme_behind}
use Rattle.lx_ir_tokens.specs.declared.keyword.Keyword.TheVariants as keyword
use Rattle.lx_ir_complete.proofs.Joining.{IsWord, beside, same_text, regroup, reads_as, nothing, space, marked, last_mark, word, word_is, word_picks}
use Rattle.lx_ir_complete.proofs.Elements.{StaysBehind, element, type_shut}
use Rattle.lx_ir_complete.proofs.Names.{local}
use Rattle.lx_ir_complete.proofs.PrintedConstants.{grouped}
use Rattle.lx_ir_complete.proofs.PrintedInits.{a_type}
use Rattle.lx_ir_complete.proofs.PrintedOperands.{scalar_said, flagged, no_align, further, further_apart, items, operands_print, typed, second, address, again, labelled, target, edge_prints, case_prints}
use Rattle.lx_ir_complete.proofs.PrintedCalls.{first, a_call, called, copy_prints, fill_prints, guard_prints, check_prints, enter_prints, leave_prints, pre_prints, post_prints}
use Rattle.lx_ir_complete.proofs.Sayings.{Saying, Registers}
use Rattle.lx_ir_complete.proofs.Words.{a_scalar, an_operator, a_predicate, a_conversion, the_conversion, a_void, to, word_icmp, word_select, word_phi, word_alloca, word_load, word_store, word_ret, word_br, word_switch, word_unreachable}

word_freeze : IsWord (codes "freeze") (keyword.Instruction instructions.Freeze)
unfolding keyword_of lexeme_behind
word_freeze = record { word = refl; one_line = refl; keyword = refl; loud = refl; calm = refl }

conversion_back : (c : Conversion) → conversion_of (the_conversion c) ≡ c
conversion_back conversion.Trunc = refl
conversion_back conversion.ZExt = refl
conversion_back conversion.SExt = refl
conversion_back conversion.PtrToInt = refl
conversion_back conversion.IntToPtr = refl

module _ (plain : Bool) (m : Module) (f : Function) (context : Context) where
  abbrev SaysValue : Scalar → Value → Type 0
  SaysValue ty v = Prints plain context.names (value_text m f v) (IsValue context ty v)

  abbrev TheValues : List Argument → Type 0
  TheValues xs = AllByRecursion (λ a. Prints plain context.names (value_text m f a.value) (IsValue context a.ty a.value)) xs

  scalar : (ty : Scalar) → Prints plain context.names (scalar_text ty) (IsScalar ty)
  scalar ty = word_picks scalar_in ty (a_scalar ty) (scalar_said ty)

  -- two operands of a type
  pair : (ty : Scalar) (a b : Value) → SaysValue ty a → SaysValue ty b → Prints plain context.names (pair_text m f ty a b) (IsTyped context (argument ty a) then IsSecond context ty b)
  pair ty a b x y = same_text (sym (append_assoc (operand_text m f ty a) (codes ", ") (value_text m f b))) (beside (typed context ty a x) refl (second context ty b y))

  -- the same behind flags
  flagged_pair : (ty : Scalar) (a b : Value) → SaysValue ty a → SaysValue ty b → Prints plain context.names (pair_text m f ty a b) (Flagged (IsTyped context (argument ty a)) then IsSecond context ty b)
  flagged_pair ty a b x y =
      same_text (sym (append_assoc (operand_text m f ty a) (codes ", ") (value_text m f b))) (beside (flagged (typed context ty a x)) refl (second context ty b y))

  -- Lists.

  indices_print : (xs : List Argument) → TheValues xs → AllByRecursion (λ a. Prints plain context.names (argument_text m f a) (IsTyped context a)) xs
  indices_print [] h = tt
  indices_print (a ∷ xs) h = (typed context a.ty a.value h.0, indices_print xs h.1)

  edges_print : (ty : Scalar) (xs : List Edge) → TheValues (map (λ e. argument ty e.value) xs) → list_all is_name (map (λ e. e.label) xs) ≡ true → AllByRecursion (λ e. Prints plain context.names (edge_text m f e) (IsEdge context ty e)) xs
  edges_print ty [] h k = tt
  edges_print ty (e ∷ xs) h k =
      let named = and_parts (is_name e.label) (list_all is_name (map (λ x. x.label) xs)) k in
      (edge_prints context ty e h.0 named.0, edges_print ty xs h.1 named.1)

  row_apart : (ty : Scalar) (xs : List SwitchCase) → is_apart (flat_map (λ x. codes " " ++ case_text m f ty x) xs ++ codes " ]") ≡ true
  row_apart ty [] = refl
  row_apart ty (x ∷ xs) = refl

  -- cases, each behind a space, before a space and the bracket that closes them
  each_case : (ty : Scalar) (xs : List SwitchCase) → TheValues (map (λ c. argument ty c.value) xs) → list_all is_name (map (λ c. c.label) xs) ≡ true → list_all (λ c. is_constant c.value) xs ≡ true
      → Prints plain context.names (flat_map (λ x. codes " " ++ case_text m f ty x) xs ++ codes " ]") (AreInRow (IsCase context ty) xs then IsMark CloseBracket)
  each_case ty [] h k c = beside nothing refl (space (last_mark CloseBracket refl))
  each_case ty (x ∷ xs) h k c =
      let named = and_parts (is_name x.label) (list_all is_name (map (λ y. y.label) xs)) k in
      let constant = and_parts (is_constant x.value) (list_all (λ y. is_constant y.value) xs) c in
      let rest : Text = flat_map (λ y. codes " " ++ case_text m f ty y) xs in
      space
      (same_text (sym (append_assoc (case_text m f ty x) rest (codes " ]")))
      (grouped (beside (case_prints plain m f context ty x.value x.label constant.0 h.0 named.0) (row_apart ty xs) (each_case ty xs h.1 named.1 constant.1))))

  bracketed : (ty : Scalar) (xs : List SwitchCase) → TheValues (map (λ c. argument ty c.value) xs) → list_all is_name (map (λ c. c.label) xs) ≡ true → list_all (λ c. is_constant c.value) xs ≡ true
      → Prints plain context.names (cases_text m f ty xs) (IsMark OpenBracket then AreInRow (IsCase context ty) xs then IsMark CloseBracket)
  bracketed ty [] h k c = marked OpenBracket refl (beside nothing refl (last_mark CloseBracket refl))
  bracketed ty (x ∷ xs) h k c = marked OpenBracket refl (each_case ty (x ∷ xs) h k c)

-- Instructions.

only_image : (form : TextForm) (o : Op) → is_image_line o ≡ true → may_stand form o ≡ true → form ≡ forms.Image
only_image forms.Image o line h = refl
only_image forms.Program o line h = cc (sym (ap not line) ∙ h)

-- a token that is the register of a function
abbrev Named : Context → Function → ℕ → Part
Named context f r ts = (t : Tok) × (t.kind ≡ kind.Local) × (slice_get context.names t.name ≡ Some (register_name f r)) × (register_number context t.name ≡ r) × (ts ≡ t ∷ [])

-- an instruction, and the register that it begins with
abbrev Formed : Context → Function → TextForm → Op → Part
Formed context f form o ts = IsForm context form o ts × StartsWith context f (given_by o) ts

abbrev pub Lined : Context → Function → TextForm → Op → Part
Lined context f form o ts = IsInstr context form o ts × StartsWith context f (given_by o) ts

word_kind : (w : InstructionWord) (k : Kind) → instruction_in k ≡ Some w → (v : Keyword) × (k ≡ kind.Word v)
word_kind w (kind.Word v) e = (v, refl)
word_kind w kind.Local e = cc e
word_kind w kind.Global e = cc e
word_kind w (kind.Number v minus) e = cc e
word_kind w kind.Text e = cc e
word_kind w kind.Bytes e = cc e
word_kind w (kind.Mark x) e = cc e

tail_kind : (k : Kind) → is_tail_word k ≡ true → (v : Keyword) × (k ≡ kind.Word v)
tail_kind (kind.Word v) e = (v, refl)
tail_kind kind.Local e = cc e
tail_kind kind.Global e = cc e
tail_kind (kind.Number v minus) e = cc e
tail_kind kind.Text e = cc e
tail_kind kind.Bytes e = cc e
tail_kind (kind.Mark x) e = cc e

-- the first token of words that are passed over and what stands behind them
called_word : (f : Function) (context : Context) (q : Part) (ts front back : List Tok) (n : ℕ) → Times (Is is_tail_word) n front → ((us : List Tok) → q us → StartsWith context f None us) → q back → ts ≡ front ++ back → StartsWith context f None ts
called_word f context q ts front back zero h first k e = subst (StartsWith context f None) (sym (e ∙ ap (λ us. us ++ back) h)) (first back k)
called_word f context q ts front back (suc n) h first k e =
    (h.2.0, h.1 ++ back, tail_kind h.2.0.kind h.2.1, e ∙ ap (λ us. us ++ back) (h.4 ∙ ap (λ us. us ++ h.1) h.2.2))

module _ {plain : Bool} {m : Module} {f : Function} {context : Context} (given : Saying plain m context) (registers : Registers f context) (form : TextForm) (program : plain ≡ true → form ≡ forms.Program) where
  -- the register that is given, and what gives it
  to_register : {t : Text} {p : Part} (r : ℕ) → r < register_count f → Prints plain context.names t p → Prints plain context.names (given_text f r ++ t) (λ ts. Given context r p ts × StartsWith context f (Some r) ts)
  to_register {t} {p} r lt a =
      let register : Prints plain context.names (register_text f r) (Named context f r) = local (register_name f r) (registers.register_named r lt) (λ tok e at. (tok, e, at, registers.knows.registers r tok.name lt at, refl)) in
      same_text (sym (append_assoc (register_text f r) (codes " = ") t))
      (reads_as {p = Named context f r then IsMark Equal then p} {q = λ ts. Given context r p ts × StartsWith context f (Some r) ts}
      (λ ts h.
      let whole : ts ≡ h.2.0 ∷ h.1 = h.4 ∙ ap (λ us. us ++ h.1) h.2.4 in
      ((h.2.0 ∷ [], h.1, (h.2.0, ap is_register h.2.1, h.2.3, refl), h.3, whole), (h.2.0, h.1, h.2.1, h.2.2, whole)))
      (beside register refl (space (marked Equal refl (space a)))))

  -- an instruction that begins with its word
  by_word : {t : Text} {q : Part} (w : InstructionWord) → Prints plain context.names t (First w then q) → Prints plain context.names t (λ ts. (First w then q) ts × StartsWith context f None ts)
  by_word {q = q} w a =
      reads_as {p = First w then q}
      (λ ts h. (h, (h.2.0, h.1, word_kind w h.2.0.kind h.2.1, h.4 ∙ ap (λ us. us ++ h.1) h.2.2)))
      a

  -- a call, which may begin with words that are passed over
  by_call : {t : Text} {q : Part} → Prints plain context.names t (Repeated (Is is_tail_word) then First instructions.Call then q) → Prints plain context.names t (λ ts. (Repeated (Is is_tail_word) then First instructions.Call then q) ts × StartsWith context f None ts)
  by_call {q = q} a =
      reads_as {p = Repeated (Is is_tail_word) then First instructions.Call then q} (λ ts h. (h, called_word f context (First instructions.Call then q) ts h.0 h.1 h.2.0 h.2.1 (λ us k. (k.2.0, k.1, word_kind instructions.Call k.2.0.kind k.2.1, k.4 ∙ ap (λ vs. vs ++ k.1) k.2.2)) h.3 h.4)) a

  binary_prints : (r : ℕ) (o : BinOp) (ty : Scalar) (a b : Value) → r < register_count f → TheValues plain m f context (argument ty a ∷ argument ty b ∷ []) → Prints plain context.names (op_text m f (op.Binary r o ty a b)) (Formed context f form (op.Binary r o ty a b))
  binary_prints r o ty a b lt vs =
      same_text (regroup (given_text f r) (operator_word o ∷ codes " " ∷ pair_text m f ty a b ∷ []))
      (to_register r lt (first (instructions.Operator o) (an_operator o) (flagged_pair plain m f context ty a b vs.0 vs.1.0)))

  compare_prints : (r : ℕ) (p : Pred) (ty : Scalar) (a b : Value) → r < register_count f → TheValues plain m f context (argument ty a ∷ argument ty b ∷ []) → Prints plain context.names (op_text m f (op.Compare r p ty a b)) (Formed context f form (op.Compare r p ty a b))
  compare_prints r p ty a b lt vs =
      same_text (regroup (given_text f r) (codes "icmp " ∷ predicate_word p ∷ codes " " ∷ pair_text m f ty a b ∷ []))
      (to_register r lt (first instructions.Compare word_icmp (beside (flagged (word_picks predicate_in p (a_predicate p) refl)) refl (space (pair plain m f context ty a b vs.0 vs.1.0)))))

  convert_prints : (r : ℕ) (how : Conversion) (from : Scalar) (a : Value) (into : Scalar) → r < register_count f → TheValues plain m f context (argument from a ∷ []) → Prints plain context.names (op_text m f (op.Convert r how from a into)) (Formed context f form (op.Convert r how from a into))
  convert_prints r how from a into lt vs =
      let whole = first (instructions.Conversion (the_conversion how)) (a_conversion how) (beside (flagged (typed context from a vs.0)) refl (space (word is_to to refl (scalar plain m f context into)))) in
      same_text (regroup (given_text f r) (conversion_word how ∷ codes " " ∷ operand_text m f from a ∷ into_text into ∷ []))
      (to_register r lt (reads_as (λ ts h. (the_conversion how, h, conversion_back how)) whole))

  freeze_prints : (r : ℕ) (ty : Scalar) (a : Value) → r < register_count f → TheValues plain m f context (argument ty a ∷ []) → Prints plain context.names (op_text m f (op.Unary r unary.Freeze ty a)) (Formed context f form (op.Unary r unary.Freeze ty a))
  freeze_prints r ty a lt vs =
      same_text (regroup (given_text f r) (codes "freeze" ∷ codes " " ∷ operand_text m f ty a ∷ []))
      (to_register r lt (first instructions.Freeze word_freeze (flagged (typed context ty a vs.0))))

  select_prints : (r : ℕ) (c : Value) (ty : Scalar) (a b : Value) → r < register_count f → TheValues plain m f context (argument (Int W1) c ∷ argument ty a ∷ argument ty b ∷ []) → Prints plain context.names (op_text m f (op.Select r c ty a b)) (Formed context f form (op.Select r c ty a b))
  select_prints r c ty a b lt vs =
      let choices =
      same_text (regroup (codes ", ") (operand_text m f ty a ∷ codes ", " ∷ operand_text m f ty b ∷ []))
      (marked Comma refl (space (beside (typed context ty a vs.1.0) refl (again context ty b vs.1.1.0))))
      in
      same_text (regroup (given_text f r) (codes "select i1 " ∷ value_text m f c ∷ choices_text m f ty a b ∷ []))
      (to_register r lt (first instructions.Select word_select (beside (flagged (word_is is_truth_word (a_scalar (Int W1)) refl)) refl (space (beside vs.0 refl choices)))))

  phi_prints : (r : ℕ) (ty : Scalar) (edges : List Edge) → r < register_count f → nat_lt 0 (length edges) ≡ true → TheValues plain m f context (map (λ e. argument ty e.value) edges) → list_all is_name (map (λ e. e.label) edges) ≡ true
      → Prints plain context.names (op_text m f (op.Phi r ty edges)) (Formed context f form (op.Phi r ty edges))
  phi_prints r ty [] lt some vs h = cc some
  phi_prints r ty (e ∷ es) lt some vs h =
      same_text (regroup (given_text f r) (codes "phi " ∷ scalar_text ty ∷ codes " " ∷ comma_list (map (edge_text m f) (e ∷ es)) ∷ []))
      (to_register r lt (first instructions.Phi word_phi
      (beside (flagged (scalar plain m f context ty)) refl (space (items (IsEdge context ty) (edge_text m f) e es (edges_print plain m f context ty (e ∷ es) vs h))))))

  alloca_prints : (r : ℕ) (ty : IrType) → r < register_count f → is_lawful_type m.types ty ≡ true → is_kept_type ty ≡ true → Prints plain context.names (op_text m f (op.Alloca r ty)) (Formed context f form (op.Alloca r ty))
  alloca_prints r ty lt h k =
      same_text (regroup (given_text f r) (codes "alloca " ∷ type_text m.types ty ∷ []))
      (to_register r lt (first instructions.Alloca word_alloca (no_align (flagged (a_type given ty h k)))))

  load_prints : (r : ℕ) (ty : Scalar) (at : Value) → r < register_count f → TheValues plain m f context (argument Ptr at ∷ []) → Prints plain context.names (op_text m f (op.Load r ty at)) (Formed context f form (op.Load r ty at))
  load_prints r ty at lt vs =
      same_text (regroup (given_text f r) (codes "load " ∷ scalar_text ty ∷ codes ", ptr " ∷ value_text m f at ∷ []))
      (to_register r lt (first instructions.Load word_load (beside (flagged (scalar plain m f context ty)) refl (no_align (address context at vs.0)))))

  store_prints : (ty : Scalar) (v at : Value) → TheValues plain m f context (argument ty v ∷ argument Ptr at ∷ []) → Prints plain context.names (op_text m f (op.Store ty v at)) (Formed context f form (op.Store ty v at))
  store_prints ty v at vs =
      same_text (regroup (codes "store ") (operand_text m f ty v ∷ codes ", ptr " ∷ value_text m f at ∷ []))
      (by_word instructions.Store (first instructions.Store word_store (beside (flagged (typed context ty v vs.0)) refl (no_align (address context at vs.1.0)))))

  -- the word `getelementptr`, a type, and what stands behind it
  element_behind_type : {u : Text} {q : Part} (ty : IrType) → is_lawful_type m.types ty ≡ true → is_kept_type ty ≡ true → is_apart u ≡ true → Prints plain context.names u q
      → Prints plain context.names (codes "getelementptr" ++ 32 ∷ (type_text m.types ty ++ u)) (First instructions.GetElementPtr then Flagged (IsWritten context ty) then q)
  element_behind_type {u} {q} ty h k apart a =
      let all = beside (a_type given ty h k) apart a in
      reads_as {p = First instructions.GetElementPtr then IsWritten context ty then q}
      (λ ts e. (e.0, e.1, e.2, (e.3.0, e.3.1, ([], e.3.0, refl, e.3.2, refl), e.3.3, e.3.4), e.4))
      (element {p = First instructions.GetElementPtr} (λ tok e. (tok, ap instruction_in e, refl)) all
      (λ toks more seen. let w = all.says toks seen in subst StaysBehind (sym (ap (λ v. v ++ more) w.4 ∙ append_assoc w.0 w.1 more)) (type_shut context ty depth_limit w.0 (w.1 ++ more) w.2.0)))

  element_prints : (r : ℕ) (ty : IrType) (base : Value) (indices : List Argument) → r < register_count f → is_lawful_type m.types ty ≡ true → is_kept_type ty ≡ true → nat_lt 0 (length indices) ≡ true → TheValues plain m f context (argument Ptr base ∷ indices)
      → Prints plain context.names (op_text m f (op.GetElementPtr r ty base indices)) (Formed context f form (op.GetElementPtr r ty base indices))
  element_prints r ty base [] lt h k some vs = cc some
  element_prints r ty base (i ∷ is) lt h k some vs =
      let all = indices_print plain m f context (i ∷ is) vs.1 in
      let places = marked Comma refl (space (beside all.0 (further_apart (argument_text m f) is) (further (IsTyped context) (argument_text m f) is all.1))) in
      same_text (regroup (given_text f r) (codes "getelementptr " ∷ type_text m.types ty ∷ (codes ", ptr " ++ value_text m f base ++ flat_map (λ a. codes ", " ++ argument_text m f a) (i ∷ is)) ∷ []))
      (to_register r lt (element_behind_type ty h k refl (beside (address context base vs.0) refl places)))

  call_prints : (to : Option ℕ) (ret : Option Scalar) (target : Callee) (xs : List Argument) → GivesRegister f (op.Call to ret target xs) → (is_none to || is_some ret) ≡ true → is_lawful_callee m target ≡ true → TheValues plain m f context (callee_operands target ++ xs)
      → Prints plain context.names (op_text m f (op.Call to ret target xs)) (Formed context f form (op.Call to ret target xs))
  call_prints None ret target xs lt some h vs =
      same_text (regroup (codes "call ") (result_text ret ∷ codes " " ∷ (callee_text m f target ++ arguments_text m f xs) ∷ []))
      (by_call (a_call None ret some (called f given form target xs h vs)))
  call_prints (Some r) None target xs lt some h vs = cc some
  call_prints (Some r) (Some s) target xs lt some h vs =
      same_text (regroup (given_text f r) (codes "call " ∷ scalar_text s ∷ codes " " ∷ (callee_text m f target ++ arguments_text m f xs) ∷ []))
      (to_register r lt (a_call (Some r) (Some s) some (called f given form target xs h vs)))

  branch_prints : (c : Value) (a b : List ℕ) → TheValues plain m f context (argument (Int W1) c ∷ []) → list_all is_name (a ∷ b ∷ []) ≡ true → Prints plain context.names (op_text m f (op.Branch c a b)) (Formed context f form (op.Branch c a b))
  branch_prints c a b vs h =
      let one = and_parts (is_name a) (is_name b && true) h in
      let two = and_parts (is_name b) true one.1 in
      same_text (regroup (codes "br i1 ") (value_text m f c ∷ target_text a ∷ target_text b ∷ []))
      (by_word instructions.Br (first instructions.Br word_br (beside (flagged (word_is is_truth_word (a_scalar (Int W1)) refl)) refl (space (beside vs.0 refl (beside (target context a one.0) refl (target context b two.0)))))))

  switch_prints : (ty : Scalar) (v : Value) (otherwise : List ℕ) (cases : List SwitchCase) → list_all (λ c. is_constant c.value) cases ≡ true → TheValues plain m f context (argument ty v ∷ map (λ c. argument ty c.value) cases)
      → list_all is_name (otherwise ∷ map (λ c. c.label) cases) ≡ true → Prints plain context.names (op_text m f (op.Switch ty v otherwise cases)) (Formed context f form (op.Switch ty v otherwise cases))
  switch_prints ty v otherwise cases c vs h =
      let named = and_parts (is_name otherwise) (list_all is_name (map (λ k. k.label) cases)) h in
      same_text (regroup (codes "switch ") (operand_text m f ty v ∷ target_text otherwise ∷ codes " " ∷ cases_text m f ty cases ∷ []))
      (by_word instructions.Switch (first instructions.Switch word_switch
      (beside (flagged (typed context ty v vs.0)) refl (beside (target context otherwise named.0) refl (space (bracketed plain m f context ty cases vs.1 named.1 c))))))

  -- an image's own names are in no text that is to have none
  unasked : (o : Op) → is_image_line o ≡ true → may_stand form o ≡ true → plain ≡ true → ⊥
  unasked o line h p = apart (sym (program p) ∙ only_image form o line h)
    where
      apart : forms.Program ≡ forms.Image → ⊥
      apart e = cc e

  -- a line that only the text of an image has
  in_image : (o : Op) → is_image_line o ≡ true → may_stand form o ≡ true → Prints plain context.names (op_text m f o) (Formed context f forms.Image o) → Prints plain context.names (op_text m f o) (Formed context f form o)
  in_image o line h a = subst (λ x. Prints plain context.names (op_text m f o) (Formed context f x o)) (sym (only_image form o line h)) a

  -- The text of an instruction says it.
  form_prints : (o : Op) → has_form m o ≡ true → has_kept_type o ≡ true → has_kept_number o ≡ true → TheValues plain m f context (operands_of o) → list_all is_name (labels_of o) ≡ true → GivesRegister f o → may_stand form o ≡ true → Prints plain context.names (op_text m f o) (Formed context f form o)
  form_prints (op.Binary r o ty a b) h k n vs l lt i = binary_prints r o ty a b lt vs
  form_prints (op.Compare r p ty a b) h k n vs l lt i = compare_prints r p ty a b lt vs
  form_prints (op.Convert r how from a into) h k n vs l lt i = convert_prints r how from a into lt vs
  form_prints (op.Unary r unary.Freeze ty a) h k n vs l lt i = freeze_prints r ty a lt vs
  form_prints (op.Select r c ty a b) h k n vs l lt i = select_prints r c ty a b lt vs
  form_prints (op.Phi r ty edges) h k n vs l lt i = phi_prints r ty edges lt h vs l
  form_prints (op.Alloca r ty) h k n vs l lt i = alloca_prints r ty lt h k
  form_prints (op.Load r ty at) h k n vs l lt i = load_prints r ty at lt vs
  form_prints (op.Store ty v at) h k n vs l lt i = store_prints ty v at vs
  form_prints (op.GetElementPtr r ty base indices) h k n vs l lt i =
      let both = and_parts (is_lawful_type m.types ty) (nat_lt 0 (length indices)) h in
      element_prints r ty base indices lt both.0 k both.1 vs
  form_prints (op.Call to ret target xs) h k n vs l lt i =
      let both = and_parts (is_none to || is_some ret) (is_lawful_callee m target) h in
      call_prints to ret target xs lt both.0 both.1 vs
  form_prints (op.CopyBlock moves d s len) h k n vs l lt i = by_call (copy_prints f given form moves d s len h vs)
  form_prints (op.FillBlock d b len) h k n vs l lt i = by_call (fill_prints f given form d b len h vs)
  form_prints (op.Ret None) h k n vs l lt i = by_word instructions.Ret (first instructions.Ret word_ret (flagged (word_picks result_in None a_void refl)))
  form_prints (op.Ret (Some a)) h k n vs l lt i = by_word instructions.Ret (first instructions.Ret word_ret (flagged (typed context a.ty a.value vs.0)))
  form_prints (op.Jump label) h k n vs l lt i = by_word instructions.Br (first instructions.Br word_br (flagged (labelled context label (and_parts (is_name label) true l).0)))
  form_prints (op.Branch c a b) h k n vs l lt i = branch_prints c a b vs l
  form_prints (op.Switch ty v otherwise cases) h k n vs l lt i = switch_prints ty v otherwise cases h vs l
  form_prints op.Unreachable h k n vs l lt i =
      reads_as {p = First instructions.Unreachable} (λ ts e. (e, (e.0, [], word_kind instructions.Unreachable e.0.kind e.1, e.2))) (word_picks instruction_in instructions.Unreachable word_unreachable refl)
  form_prints (op.Guard at size narrow) h k n vs l lt i = in_image (op.Guard at size narrow) refl i (by_call (guard_prints f given (unasked (op.Guard at size narrow) refl i) narrow at size vs.0 vs.1.0))
  form_prints (op.Check target) h k n vs l lt i = in_image (op.Check target) refl i (by_call (check_prints f given (unasked (op.Check target) refl i) target vs.0))
  form_prints (op.Enter s) h k n vs l lt i = in_image (op.Enter s) refl i (by_call (enter_prints f given (unasked (op.Enter s) refl i) s h))
  form_prints (op.Pre s x) h k n vs l lt i = in_image (op.Pre s x) refl i (by_call (pre_prints f given (unasked (op.Pre s x) refl i) s x h (ltb-true x (2 ^ 32) n)))
  form_prints (op.Post s x) h k n vs l lt i = in_image (op.Post s x) refl i (by_call (post_prints f given (unasked (op.Post s x) refl i) s x h (ltb-true x (2 ^ 32) n)))
  form_prints (op.Leave s) h k n vs l lt i = in_image (op.Leave s) refl i (by_call (leave_prints f given (unasked (op.Leave s) refl i) s h))

  pub op_prints : (o : Op) → is_lawful_op m f o ≡ true → is_kept_op o ≡ true → GivesRegister f o → may_stand form o ≡ true → Prints plain context.names (op_text m f o) (Lined context f form o)
  op_prints o h k lt i =
      let labels = and_parts (has_form m o && list_all (λ a. is_lawful_value m f a.ty a.value) (operands_of o)) (list_all is_name (labels_of o)) h in
      let has = and_parts (has_form m o) (list_all (λ a. is_lawful_value m f a.ty a.value) (operands_of o)) labels.0 in
      let kept = and_parts (has_kept_type o && has_kept_number o) (list_all (λ a. is_kept_value a.value) (operands_of o)) k in
      let both = and_parts (has_kept_type o) (has_kept_number o) kept.0 in
      reads_as {p = Formed context f form o} (λ ts e. ((ts, [], e.0, (0, refl), sym (append-nil ts)), e.1)) (form_prints o has.0 both.0 both.1 (operands_print given registers (operands_of o) has.1 kept.1) labels.1 lt i)
