-- The text of a call says it.
use Rattle.std.proofs.Common.{◌≡◌, ℕ, ◌<◌, ◌^◌, is_some, is_none, List, [], ◌∷◌, ◌++◌, Bool, true, false, not, ◌&&◌, ◌||◌, refl, sym, ap, ◌∙◌, Option, Some, None, append_assoc, bytes_eq}
use Rattle.std.specs.Prelude.{codes, option_map, if◌then◌else◌}
use Rattle.std.specs.List.{list_all, AllByRecursion}
use Rattle.std.proofs.lemmas.Bool.{and_parts, or_parts, not-true}
use Rattle.lx_words.specs.declared.word.Width.{Width}
use Rattle.lx_words.specs.declared.word.Width.TheVariants.{W1, W8, W16, W32, W64}
use Rattle.lx_words.specs.Word.{Word}
use Rattle.lx_ir.specs.declared.types.Scalar.{Scalar}
use Rattle.lx_ir.specs.declared.types.Scalar.TheVariants.{Int, Ptr}
use Rattle.lx_ir.specs.declared.module.Symbol.{Symbol}
use Rattle.lx_ir.specs.declared.module.Value.{Value}
use Rattle.lx_ir.specs.declared.module.Function.{Function}
use Rattle.lx_ir.specs.declared.module.Module.{Module}
use Rattle.lx_ir.specs.declared.instr.Argument.{Argument}
use Rattle.lx_ir.specs.declared.instr.Callee.{Callee}
use Rattle.lx_ir.specs.declared.instr.Callee.TheVariants as callee
use Rattle.lx_ir.specs.declared.instr.Op.TheVariants as op
use Rattle.lx_ir.specs.Operands.{argument, callee_operands, guard_width}
use Rattle.lx_ir.specs.Text.{Text, is_name_byte, scalar_text, result_text, symbol_text, symbol_name, value_text, argument_text, arguments_text, callee_text, copy_word, length_text, copied_text, filled_text, number_text, mark_text, guarded_text, action_text, op_text}
use Rattle.lx_ir.specs.Lawful.{is_name, same_scalar, is_lawful_symbol, is_block_write, is_image_name, is_own_name, is_lawful_callee, is_length}
use Rattle.lx_ir.proofs.Equality.{scalar_itself}
use Rattle.lx_ir_tokens.specs.declared.token.Kind.{Kind}
use Rattle.lx_ir_tokens.specs.declared.token.Kind.TheVariants as kind
use Rattle.lx_ir_tokens.specs.declared.token.Mark.TheVariants.{Comma, OpenParenthesis, CloseParenthesis}
use Rattle.lx_ir_tokens.specs.declared.keyword.InstructionWord.{InstructionWord}
use Rattle.lx_ir_tokens.specs.declared.keyword.InstructionWord.TheVariants as instructions
use Rattle.lx_ir_tokens.specs.declared.keyword.Keyword.{Keyword}
use Rattle.lx_ir_tokens.specs.declared.keyword.Keyword.TheVariants as keyword
use Rattle.lx_ir_terms.specs.Context.{Context, register_number}
use Rattle.lx_ir_terms.specs.Types.{scalar_in, result_in}
use Rattle.lx_ir_terms.specs.Grammar.{Part, Is, IsMark, ◌then◌}
use Rattle.lx_ir_constants.specs.Constants.{is_register}
use Rattle.lx_ir_constants.specs.Grammar.{IsValue}
use Rattle.lx_ir_constants.specs.InitGrammar.{AreListed}
use Rattle.lx_ir_operands.specs.Operands.{instruction_in}
use Rattle.lx_ir_operands.specs.Grammar.{Repeated, IsPassed, IsAttribute, First, Flagged}
use Rattle.lx_ir_calls.specs.declared.writes.BlockWrite.TheVariants as writes
use Rattle.lx_ir_calls.specs.declared.image_lines.ImageLine.TheVariants as lines
use Rattle.lx_ir_calls.specs.declared.intrinsics.TextForm.{TextForm}
use Rattle.lx_ir_calls.specs.declared.intrinsics.TextForm.TheVariants as forms
use Rattle.lx_ir_calls.specs.declared.intrinsics.Intrinsic.{Intrinsic}
use Rattle.lx_ir_calls.specs.declared.intrinsics.Intrinsic.TheVariants as intrinsics
use Rattle.lx_ir_calls.specs.Arguments.{is_scalar_word}
use Rattle.lx_ir_calls.specs.Writes.{is_false_word, block_write_named}
use Rattle.lx_ir_calls.specs.ImageLines.{image_line_named, symbol_in, action_in}
use Rattle.lx_ir_calls.specs.Intrinsics.{line_named, write_or_line, intrinsic_named, intrinsic_of}
use Rattle.lx_ir_calls.specs.Calls.{is_tail_word, callee_of, call_result_in}
use Rattle.lx_ir_calls.specs.Grammar.{IsArgument, IsGivenArgument, IsNextArgument, IsNotVolatile, IsSymbolArgument, IsAction, IsCrossing, IsActionOf, IsIntrinsic, IsCallee, IsPlainCall, IsCalled, IsCallResult, IsCall}
use Rattle.lx_ir_complete.specs.Printed.{Prints}
use Rattle.lx_ir_complete.proofs.Joining.{beside, same_text, regroup, reads_as, space, marked, last_mark, word, word_is, word_picks, picks, IsWord}
use Rattle.lx_ir_complete.proofs.Names.{global, not_quoted}
use Rattle.lx_ir_complete.proofs.PrintedConstants.{symbol_token}
use Rattle.lx_ir_complete.proofs.PrintedInits.{said_bytes}
use Rattle.lx_ir_complete.proofs.PrintedOperands.{scalar_said, flagged, no_words, none_behind, listed}
use Rattle.lx_ir_complete.proofs.PrintedTypes.{same_scalar_word}
use Rattle.lx_ir_complete.proofs.Sayings.{Saying}
use Rattle.lx_ir_complete.proofs.SignedNumbers.{number}
use Rattle.lx_ir_complete.proofs.Words.{a_scalar, scalar_word, a_void, falsehood, word_call}

-- The result.

abbrev result_word : Option Scalar → Keyword
result_word None = keyword.Void
result_word (Some s) = keyword.Scalar (scalar_word s)

pub a_result : (ret : Option Scalar) → IsWord (result_text ret) (result_word ret)
a_result None = a_void
a_result (Some s) = a_scalar s

pub result_said : (ret : Option Scalar) → result_in (kind.Word (result_word ret)) ≡ Some ret
result_said None = refl
result_said (Some s) = ap Some (scalar_said s)

-- the result of a call, which is not `void` where a register is given
call_result_said : (to : Option ℕ) (ret : Option Scalar) → (is_none to || is_some ret) ≡ true → call_result_in (is_some to) (kind.Word (result_word ret)) ≡ Some ret
call_result_said None ret h = result_said ret
call_result_said (Some r) None h = cc h
call_result_said (Some r) (Some s) h = ap (option_map Some) (scalar_said s)

is_its_word : (ty : Scalar) → is_scalar_word ty (kind.Word (keyword.Scalar (scalar_word ty))) ≡ true
is_its_word ty = ap (λ s. same_scalar s ty) (same_scalar_word ty) ∙ scalar_itself ty

module _ {plain : Bool} {names : List (List ℕ)} where
  -- the first word of an instruction, and what stands behind a space
  pub first : {bytes t : List ℕ} {q : Part} (w : InstructionWord) → IsWord bytes (keyword.Instruction w) → Prints plain names t q → Prints plain names (bytes ++ 32 ∷ t) (First w then q)
  first w is a = picks instruction_in w is refl a

  -- a call, and what is called behind its result
  pub a_call : {t : List ℕ} {p : Part} (to : Option ℕ) (ret : Option Scalar) → (is_none to || is_some ret) ≡ true → Prints plain names t p
      → Prints plain names (codes "call" ++ 32 ∷ (result_text ret ++ 32 ∷ t)) (Repeated (Is is_tail_word) then First instructions.Call then Flagged (IsCallResult to ret) then p then Repeated IsAttribute)
  a_call to ret h a =
      no_words (Is is_tail_word)
      (first instructions.Call word_call
      (beside (flagged (no_words IsPassed (word_picks (call_result_in (is_some to)) ret (a_result ret) (call_result_said to ret h)))) refl
      (space (none_behind IsAttribute a))))

-- Arguments.

module _ {plain : Bool} (context : Context) where
  pub argument_prints : {t : Text} (ty : Scalar) (v : Value) → Prints plain context.names t (IsValue context ty v) → Prints plain context.names (scalar_text ty ++ codes " " ++ t) (IsArgument context (argument ty v))
  argument_prints {t} ty v a = same_text (sym (append_assoc (scalar_text ty) (codes " ") t)) (picks scalar_in ty (a_scalar ty) (scalar_said ty) (no_words IsPassed a))

  given_argument : {t : Text} (ty : Scalar) (v : Value) → Prints plain context.names t (IsValue context ty v) → Prints plain context.names (scalar_text ty ++ codes " " ++ t) (IsGivenArgument context ty v)
  given_argument {t} ty v a = same_text (sym (append_assoc (scalar_text ty) (codes " ") t)) (word (is_scalar_word ty) (a_scalar ty) (is_its_word ty) (no_words IsPassed a))

  next_argument : {t : Text} (ty : Scalar) (v : Value) → Prints plain context.names t (IsValue context ty v) → Prints plain context.names (codes ", " ++ (scalar_text ty ++ codes " " ++ t)) (IsNextArgument context ty v)
  next_argument ty v a = marked Comma refl (space (given_argument ty v a))

  not_volatile : Prints plain context.names (codes ", i1 false)") IsNotVolatile
  not_volatile = marked Comma refl (space (word (is_scalar_word (Int W1)) (a_scalar (Int W1)) refl (no_words IsPassed (beside (word_is is_false_word falsehood refl) refl (last_mark CloseParenthesis refl)))))

  -- a name that says what its calls do
  intrinsic_name : (form : TextForm) (name : List ℕ) (i : Intrinsic) → is_name name ≡ true → list_all is_name_byte name ≡ true → (plain ≡ true → is_own_name name ≡ false) → intrinsic_named form name ≡ Some i → Prints plain context.names (64 ∷ name) (IsIntrinsic context form i)
  intrinsic_name form name i h k own e =
      same_text (ap (λ t. 64 ∷ t) (not_quoted name k))
      (global name h own (λ tok is at. (tok, ap (λ q. intrinsic_of context form q tok.name) is ∙ ap (intrinsic_named form) (said_bytes context tok.name name at) ∙ e, refl)))

-- What is called.

if_not : {A : Type 0} (v : Bool) (x y z : A) → v ≡ false → y ≡ z → (if v then x else y) ≡ z
if_not v x y z e k = ap (λ b. if b then x else y) e ∙ k

-- a name whose calls are no block writes
pub not_block : (name : List ℕ) → is_block_write name ≡ false → block_write_named name ≡ None
not_block name h =
    let one = or_parts (bytes_eq name (codes "llvm.memcpy.p0.p0.i32")) _ h in
    let two = or_parts (bytes_eq name (codes "llvm.memcpy.p0.p0.i64")) _ one.1 in
    let three = or_parts (bytes_eq name (codes "llvm.memmove.p0.p0.i32")) _ two.1 in
    let four = or_parts (bytes_eq name (codes "llvm.memmove.p0.p0.i64")) _ three.1 in
    let five = or_parts (bytes_eq name (codes "llvm.memset.p0.i32")) _ four.1 in
    let six = or_parts (bytes_eq name (codes "llvm.memset.p0.i64")) _ five.1 in
    if_not _ _ _ None one.0 (if_not _ _ _ None two.0 (if_not _ _ _ None three.0 (if_not _ _ _ None four.0 (if_not _ _ _ None five.0 (if_not _ _ _ None six.0 refl)))))

-- a name whose calls are no lines of an image
not_line : (name : List ℕ) → is_image_name name ≡ false → image_line_named name ≡ None
not_line name h =
    let one = or_parts (bytes_eq name (codes "lxfi.guard")) _ h in
    let two = or_parts (bytes_eq name (codes "lxfi.guard32")) _ one.1 in
    let three = or_parts (bytes_eq name (codes "lxfi.check")) _ two.1 in
    let four = or_parts (bytes_eq name (codes "lxfi.enter")) _ three.1 in
    let five = or_parts (bytes_eq name (codes "lxfi.pre")) _ four.1 in
    let six = or_parts (bytes_eq name (codes "lxfi.post")) _ five.1 in
    let seven = or_parts (bytes_eq name (codes "lxfi.leave")) _ six.1 in
    if_not _ _ _ None one.0 (if_not _ _ _ None two.0 (if_not _ _ _ None three.0 (if_not _ _ _ None four.0 (if_not _ _ _ None seven.0 (if_not _ _ _ None five.0 (if_not _ _ _ None six.0 refl))))))

no_line_named : (form : TextForm) (name : List ℕ) → is_image_name name ≡ false → line_named form name ≡ None
no_line_named forms.Program name h = refl
no_line_named forms.Image name h = not_line name h

not_intrinsic : (form : TextForm) (name : List ℕ) → is_block_write name ≡ false → is_image_name name ≡ false → intrinsic_named form name ≡ None
not_intrinsic form name h k = ap (λ w. write_or_line w (line_named form name)) (not_block name h) ∙ ap (write_or_line None) (no_line_named form name k)

-- a register that is called
register_called : (context : Context) (form : TextForm) (k : Kind) (name : ℕ) → is_register k ≡ true → (callee_of context k name ≡ Some (callee.Register (register_number context name))) × (intrinsic_of context form k name ≡ None)
register_called context form kind.Local name h = (refl, refl)
register_called context form (kind.Word w) name h = cc h
register_called context form kind.Global name h = cc h
register_called context form (kind.Number v minus) name h = cc h
register_called context form kind.Text name h = cc h
register_called context form kind.Bytes name h = cc h
register_called context form (kind.Mark mark) name h = cc h

module _ {plain : Bool} {m : Module} (f : Function) {context : Context} (given : Saying plain m context) (form : TextForm) where
  abbrev TheValues : List Argument → Type 0
  TheValues xs = AllByRecursion (λ a. Prints plain context.names (value_text m f a.value) (IsValue context a.ty a.value)) xs

  arguments_print : (xs : List Argument) → TheValues xs → AllByRecursion (λ a. Prints plain context.names (argument_text m f a) (IsArgument context a)) xs
  arguments_print [] h = tt
  arguments_print (a ∷ xs) h = (argument_prints context a.ty a.value h.0, arguments_print xs h.1)

  -- the arguments of a call in their parentheses
  in_parentheses : (xs : List Argument) → TheValues xs → Prints plain context.names (arguments_text m f xs) (IsMark OpenParenthesis then AreListed (IsArgument context) xs then IsMark CloseParenthesis)
  in_parentheses xs h = marked OpenParenthesis refl (beside (listed (IsArgument context) (argument_text m f) xs (arguments_print xs h)) refl (last_mark CloseParenthesis refl))

  symbol_called : (s : Symbol) → is_lawful_callee m (callee.Symbol s) ≡ true → Prints plain context.names (symbol_text m s) (IsCallee context form (callee.Symbol s))
  symbol_called s h =
      let two = and_parts (is_lawful_symbol m s && not (is_block_write (symbol_name m s))) (not (is_image_name (symbol_name m s))) h in
      let one = and_parts (is_lawful_symbol m s) (not (is_block_write (symbol_name m s))) two.0 in
      let none = not_intrinsic form (symbol_name m s) (not-true (is_block_write (symbol_name m s)) one.1) (not-true (is_image_name (symbol_name m s)) two.1) in
      global (symbol_name m s) (given.symbol_named s one.0) (given.symbol_foreign s one.0)
      (λ tok e at. (
        tok,
        ap (λ k. callee_of context k tok.name) e ∙ ap (option_map callee.Symbol) (given.knows.symbols s tok.name one.0 at),
        ap (λ k. intrinsic_of context form k tok.name) e ∙ ap (intrinsic_named form) (said_bytes context tok.name (symbol_name m s) at) ∙ none,
        refl,
      ))

  -- what is called, with its arguments
  pub called : (target : Callee) (xs : List Argument) → is_lawful_callee m target ≡ true → TheValues (callee_operands target ++ xs) → Prints plain context.names (callee_text m f target ++ arguments_text m f xs) (IsPlainCall context form target xs)
  called (callee.Symbol s) xs h vs = beside (symbol_called s h) refl (in_parentheses xs vs)
  called (callee.Register r) xs h vs =
      beside
      (reads_as {q = IsCallee context form (callee.Register r)}
      (λ ts e. let k = register_called context form e.0.kind e.0.name e.1 in (e.0, k.0 ∙ ap (λ n. Some (callee.Register n)) e.2, k.1, e.3))
      vs.0)
      refl
      (in_parentheses xs vs.1)

  -- Block writes.

  length_prints : (w : Width) (v : Value) → Prints plain context.names (value_text m f v) (IsValue context (Int w) v) → Prints plain context.names (length_text m f (argument (Int w) v)) (IsNextArgument context (Int w) v then IsNotVolatile)
  length_prints w v a = beside (next_argument context (Int w) v a) refl (not_volatile context)

  a_copy : (moves : Bool) (w : Width) (name : List ℕ) → is_name name ≡ true → list_all is_name_byte name ≡ true → is_own_name name ≡ false → block_write_named name ≡ Some (writes.Copy moves w) → (d s : Value) (len : Argument) → len.ty ≡ Int w → TheValues (argument Ptr d ∷ argument Ptr s ∷ argument (Int w) len.value ∷ [])
      → Prints plain context.names (codes "call void @" ++ (name ++ copied_text m f d s (argument (Int w) len.value))) (IsCall context form (op.CopyBlock moves d s len))
  a_copy moves w name h k own e d s len is vs =
      let operands =
      marked OpenParenthesis refl (beside (given_argument context Ptr d vs.0) refl (beside (next_argument context Ptr s vs.1.0) refl (length_prints w len.value vs.1.1.0)))
      in
      let name_is : intrinsic_named form name ≡ Some (intrinsics.Write (writes.Copy moves w)) = ap (λ b. write_or_line b (line_named form name)) e in
      a_call None None refl
      (reads_as {q = IsCalled context form (op.CopyBlock moves d s len)} (λ ts t. (w, is, t))
      (beside (intrinsic_name context form name (intrinsics.Write (writes.Copy moves w)) h k (λ p. own) name_is) refl
      (same_text (regroup (codes "(ptr ") (value_text m f d ∷ codes ", ptr " ∷ value_text m f s ∷ length_text m f (argument (Int w) len.value) ∷ [])) operands)))

  a_fill : (w : Width) (name : List ℕ) → is_name name ≡ true → list_all is_name_byte name ≡ true → is_own_name name ≡ false → block_write_named name ≡ Some (writes.Fill w) → (d b : Value) (len : Argument) → len.ty ≡ Int w → TheValues (argument Ptr d ∷ argument (Int W8) b ∷ argument (Int w) len.value ∷ [])
      → Prints plain context.names (codes "call void @" ++ (name ++ filled_text m f d b (argument (Int w) len.value))) (IsCall context form (op.FillBlock d b len))
  a_fill w name h k own e d b len is vs =
      let operands =
      marked OpenParenthesis refl (beside (given_argument context Ptr d vs.0) refl (beside (next_argument context (Int W8) b vs.1.0) refl (length_prints w len.value vs.1.1.0)))
      in
      let name_is : intrinsic_named form name ≡ Some (intrinsics.Write (writes.Fill w)) = ap (λ x. write_or_line x (line_named form name)) e in
      a_call None None refl
      (reads_as {q = IsCalled context form (op.FillBlock d b len)} (λ ts t. (w, is, t))
      (beside (intrinsic_name context form name (intrinsics.Write (writes.Fill w)) h k (λ p. own) name_is) refl
      (same_text (regroup (codes "(ptr ") (value_text m f d ∷ codes ", i8 " ∷ value_text m f b ∷ length_text m f (argument (Int w) len.value) ∷ [])) operands)))

  -- The text of a copy, and of a fill, whose length has a width that they may have.
  copies : (moves : Bool) (d s : Value) (len : Argument) (ty : Scalar) → len.ty ≡ ty → (same_scalar (Int W32) ty || same_scalar (Int W64) ty) ≡ true → TheValues (argument Ptr d ∷ argument Ptr s ∷ argument ty len.value ∷ [])
      → Prints plain context.names (copy_word moves ++ scalar_text ty ++ copied_text m f d s (argument ty len.value)) (IsCall context form (op.CopyBlock moves d s len))
  copies true d s len (Int W32) is h vs = a_copy true W32 (codes "llvm.memmove.p0.p0.i32") refl refl refl refl d s len is vs
  copies true d s len (Int W64) is h vs = a_copy true W64 (codes "llvm.memmove.p0.p0.i64") refl refl refl refl d s len is vs
  copies false d s len (Int W32) is h vs = a_copy false W32 (codes "llvm.memcpy.p0.p0.i32") refl refl refl refl d s len is vs
  copies false d s len (Int W64) is h vs = a_copy false W64 (codes "llvm.memcpy.p0.p0.i64") refl refl refl refl d s len is vs
  copies moves d s len (Int W1) is h vs = cc h
  copies moves d s len (Int W8) is h vs = cc h
  copies moves d s len (Int W16) is h vs = cc h
  copies moves d s len Ptr is h vs = cc h

  pub copy_prints : (moves : Bool) (d s : Value) (len : Argument) → is_length len ≡ true → TheValues (argument Ptr d ∷ argument Ptr s ∷ len ∷ []) → Prints plain context.names (op_text m f (op.CopyBlock moves d s len)) (IsCall context form (op.CopyBlock moves d s len))
  copy_prints moves d s len h vs = copies moves d s len len.ty refl h vs

  fills : (d b : Value) (len : Argument) (ty : Scalar) → len.ty ≡ ty → (same_scalar (Int W32) ty || same_scalar (Int W64) ty) ≡ true → TheValues (argument Ptr d ∷ argument (Int W8) b ∷ argument ty len.value ∷ [])
      → Prints plain context.names (codes "call void @llvm.memset.p0." ++ scalar_text ty ++ filled_text m f d b (argument ty len.value)) (IsCall context form (op.FillBlock d b len))
  fills d b len (Int W32) is h vs = a_fill W32 (codes "llvm.memset.p0.i32") refl refl refl refl d b len is vs
  fills d b len (Int W64) is h vs = a_fill W64 (codes "llvm.memset.p0.i64") refl refl refl refl d b len is vs
  fills d b len (Int W1) is h vs = cc h
  fills d b len (Int W8) is h vs = cc h
  fills d b len (Int W16) is h vs = cc h
  fills d b len Ptr is h vs = cc h

  pub fill_prints : (d b : Value) (len : Argument) → is_length len ≡ true → TheValues (argument Ptr d ∷ argument (Int W8) b ∷ len ∷ []) → Prints plain context.names (op_text m f (op.FillBlock d b len)) (IsCall context form (op.FillBlock d b len))
  fill_prints d b len h vs = fills d b len len.ty refl h vs

-- The lines that images alone have.

module _ {plain : Bool} {m : Module} (f : Function) {context : Context} (given : Saying plain m context) (unasked : plain ≡ true → ⊥) where
  -- an image's own names are in no text that is to have none
  in_image : (name : List ℕ) → plain ≡ true → is_own_name name ≡ false
  in_image name p = absurd (unasked p)

  abbrev SaysValue : Scalar → Value → Type 0
  SaysValue ty v = Prints plain context.names (value_text m f v) (IsValue context ty v)

  guards : (narrow : Bool) (name : List ℕ) → is_name name ≡ true → list_all is_name_byte name ≡ true → intrinsic_named forms.Image name ≡ Some (intrinsics.Line (lines.Guard narrow)) → (at size : Value) → SaysValue Ptr at → SaysValue (Int (guard_width narrow)) size
      → Prints plain context.names (codes "call void @" ++ (name ++ codes "(ptr " ++ (value_text m f at ++ guarded_text m f narrow size))) (IsCall context forms.Image (op.Guard at size narrow))
  guards narrow name h k e at size x y =
      let rest = beside (next_argument context (Int (guard_width narrow)) size y) refl (last_mark CloseParenthesis refl) in
      let all = a_call None None refl (beside (intrinsic_name context forms.Image name (intrinsics.Line (lines.Guard narrow)) h k (in_image name) e) refl (marked OpenParenthesis refl (beside (given_argument context Ptr at x) refl rest))) in
      same_text (ap (λ t. codes "call void @" ++ t) (sym (append_assoc name (codes "(ptr ") (value_text m f at ++ guarded_text m f narrow size)))) all

  pub guard_prints : (narrow : Bool) (at size : Value) → SaysValue Ptr at → SaysValue (Int (guard_width narrow)) size → Prints plain context.names (op_text m f (op.Guard at size narrow)) (IsCall context forms.Image (op.Guard at size narrow))
  guard_prints true at size x y = same_text (regroup (mark_text (codes "guard32")) (value_text m f at ∷ guarded_text m f true size ∷ [])) (guards true (codes "lxfi.guard32") refl refl refl at size x y)
  guard_prints false at size x y = same_text (regroup (mark_text (codes "guard")) (value_text m f at ∷ guarded_text m f false size ∷ [])) (guards false (codes "lxfi.guard") refl refl refl at size x y)

  pub check_prints : (target : Value) → SaysValue Ptr target → Prints plain context.names (op_text m f (op.Check target)) (IsCall context forms.Image (op.Check target))
  check_prints target x =
      same_text (regroup (mark_text (codes "check")) (value_text m f target ∷ codes ")" ∷ []))
      (a_call None None refl (beside (intrinsic_name context forms.Image (codes "lxfi.check") (intrinsics.Line lines.Check) refl refl (in_image (codes "lxfi.check")) refl) refl
      (marked OpenParenthesis refl (beside (given_argument context Ptr target x) refl (last_mark CloseParenthesis refl)))))

  -- a function or global that is passed by its name
  symbol_argument : (s : Symbol) → is_lawful_symbol m s ≡ true → Prints plain context.names (codes "ptr" ++ 32 ∷ symbol_text m s) (IsSymbolArgument context s)
  symbol_argument s h =
      word (is_scalar_word Ptr) (a_scalar Ptr) refl (no_words IsPassed
      (symbol_token given s h (λ tok e at. (tok, ap (λ k. symbol_in context k tok.name) e ∙ at, refl))))

  crossed : (s : Symbol) → is_lawful_symbol m s ≡ true → Prints plain context.names (40 ∷ (codes "ptr" ++ 32 ∷ (symbol_text m s ++ codes ")"))) (IsCrossing context s)
  crossed s h = marked OpenParenthesis refl (beside (symbol_argument s h) refl (last_mark CloseParenthesis refl))

  pub enter_prints : (s : Symbol) → is_lawful_symbol m s ≡ true → Prints plain context.names (op_text m f (op.Enter s)) (IsCall context forms.Image (op.Enter s))
  enter_prints s h =
      same_text (regroup (mark_text (codes "enter")) (symbol_text m s ∷ codes ")" ∷ []))
      (a_call None None refl (beside (intrinsic_name context forms.Image (codes "lxfi.enter") (intrinsics.Line (lines.Crossing false)) refl refl (in_image (codes "lxfi.enter")) refl) refl (crossed s h)))

  pub leave_prints : (s : Symbol) → is_lawful_symbol m s ≡ true → Prints plain context.names (op_text m f (op.Leave s)) (IsCall context forms.Image (op.Leave s))
  leave_prints s h =
      same_text (regroup (mark_text (codes "leave")) (symbol_text m s ∷ codes ")" ∷ []))
      (a_call None None refl (beside (intrinsic_name context forms.Image (codes "lxfi.leave") (intrinsics.Line (lines.Crossing true)) refl refl (in_image (codes "lxfi.leave")) refl) refl (crossed s h)))

  -- the number of an action
  action_number : (k : ℕ) → k < 2 ^ 32 → Prints plain context.names (codes ", i32 " ++ number_text W32 k) (IsAction k)
  action_number k lt =
      marked Comma refl (space (word (is_scalar_word (Int W32)) (a_scalar (Int W32)) refl (no_words IsPassed
      (number given.laws W32 k lt (λ tok minus e says. (tok, ap action_in e ∙ ap (option_map (λ (w : Word). w.bits)) says, refl))))))

  acted : (s : Symbol) (k : ℕ) → is_lawful_symbol m s ≡ true → k < 2 ^ 32 → Prints plain context.names (40 ∷ (codes "ptr" ++ 32 ∷ (symbol_text m s ++ action_text k))) (IsActionOf context s k)
  acted s k h lt = marked OpenParenthesis refl (beside (symbol_argument s h) refl (beside (action_number k lt) refl (last_mark CloseParenthesis refl)))

  pub pre_prints : (s : Symbol) (k : ℕ) → is_lawful_symbol m s ≡ true → k < 2 ^ 32 → Prints plain context.names (op_text m f (op.Pre s k)) (IsCall context forms.Image (op.Pre s k))
  pre_prints s k h lt =
      same_text (regroup (mark_text (codes "pre")) (symbol_text m s ∷ action_text k ∷ []))
      (a_call None None refl (beside (intrinsic_name context forms.Image (codes "lxfi.pre") (intrinsics.Line (lines.Action false)) refl refl (in_image (codes "lxfi.pre")) refl) refl (acted s k h lt)))

  pub post_prints : (s : Symbol) (k : ℕ) → is_lawful_symbol m s ≡ true → k < 2 ^ 32 → Prints plain context.names (op_text m f (op.Post s k)) (IsCall context forms.Image (op.Post s k))
  post_prints s k h lt =
      same_text (regroup (mark_text (codes "post")) (symbol_text m s ∷ action_text k ∷ []))
      (a_call None None refl (beside (intrinsic_name context forms.Image (codes "lxfi.post") (intrinsics.Line (lines.Action true)) refl refl (in_image (codes "lxfi.post")) refl) refl (acted s k h lt)))
