-- Each form of instruction that tokens say is lawful, but for its registers and labels.
use Rattle.std.proofs.Common.{◌≡◌, ℕ, Bool, true, false, ◌||◌, Option, Some, None, List, [], ◌∷◌, ◌++◌, refl, sym, ap, ◌∙◌, nat_lt, length}
use Rattle.std.specs.Prelude.{codes, bytes_eq, is_none, is_some, if◌then◌else◌}
use Rattle.std.specs.List.{list_all}
use Rattle.std.proofs.lemmas.Bool.{and_from}
use Rattle.lx_words.specs.declared.word.Width.{Width}
use Rattle.lx_words.specs.declared.word.Width.TheVariants.{W1, W8, W32, W64}
use Rattle.lx_words.proofs.Options.{map_some}
use Rattle.lx_ir_tokens.specs.declared.token.Tok.{Tok}
use Rattle.lx_ir_tokens.specs.declared.token.Kind.{Kind}
use Rattle.lx_ir_tokens.specs.declared.token.Kind.TheVariants as kinds
use Rattle.lx_ir.specs.declared.types.Scalar.{Scalar}
use Rattle.lx_ir.specs.declared.types.Scalar.TheVariants.{Int, Ptr}
use Rattle.lx_ir.specs.declared.module.Symbol.{Symbol}
use Rattle.lx_ir.specs.declared.module.Value.{Value}
use Rattle.lx_ir.specs.declared.module.Module.{Module}
use Rattle.lx_ir.specs.declared.instr.Argument.{Argument}
use Rattle.lx_ir.specs.declared.instr.Callee.{Callee}
use Rattle.lx_ir.specs.declared.instr.Callee.TheVariants as callee
use Rattle.lx_ir.specs.declared.instr.Op.{Op}
use Rattle.lx_ir.specs.declared.instr.Op.TheVariants as op
use Rattle.lx_ir.specs.IrType.{IrType}
use Rattle.lx_ir.specs.Layout.{is_lawful_type}
use Rattle.lx_ir.specs.Operands.{argument, callee_operands, guard_width}
use Rattle.lx_ir.specs.Lawful.{same_scalar, is_lawful_symbol, is_lawful_callee, is_length}
use Rattle.lx_ir_terms.specs.Context.{Context, bytes_of}
use Rattle.lx_ir_terms.specs.Types.{scalar_in}
use Rattle.lx_ir_terms.specs.Grammar.{IsWritten}
use Rattle.lx_ir_constants.specs.Grammar.{AreFurther}
use Rattle.lx_ir_constants.specs.InitGrammar.{AreListed}
use Rattle.lx_ir_calls.specs.declared.writes.BlockWrite.{BlockWrite}
use Rattle.lx_ir_calls.specs.declared.writes.BlockWrite.TheVariants as writes
use Rattle.lx_ir_calls.specs.declared.image_lines.ImageLine.{ImageLine}
use Rattle.lx_ir_calls.specs.declared.intrinsics.TextForm.{TextForm}
use Rattle.lx_ir_calls.specs.declared.intrinsics.Intrinsic.TheVariants as intrinsics
use Rattle.lx_ir_calls.specs.Writes.{block_write_named}
use Rattle.lx_ir_calls.specs.ImageLines.{symbol_in}
use Rattle.lx_ir_calls.specs.Intrinsics.{line_named, write_or_line, intrinsic_of}
use Rattle.lx_ir_calls.specs.Calls.{call_result_in}
use Rattle.lx_ir_calls.specs.Grammar.{IsArgument, IsGivenArgument, IsNextArgument, IsSymbolArgument, IsPlainCall}
use Rattle.lx_ir_instructions.specs.Grammar.{IsForm}
use Rattle.lx_ir_lawful.specs.Tells.{Tells}
use Rattle.lx_ir_lawful.proofs.Constants.{symbol_lawful}
use Rattle.lx_ir_lawful.specs.Said.{is_said, Names, Said}
use Rattle.lx_ir_lawful.proofs.Ops.{one, two, three, value_said, typed_said, second_said, address_said, again_said, all_edges_said, all_indices_said, cases_said}
use Rattle.lx_ir_lawful.proofs.Called.{callee_said}

-- Block writes: their lengths have 32 or 64 bits.

abbrev is_long : Width → Bool
is_long w = same_scalar (Int W32) (Int w) || same_scalar (Int W64) (Int w)

abbrev width_in : BlockWrite → Width
width_in (writes.Copy moves w) = w
width_in (writes.Fill w) = w

six_long : (a b c d e f : Bool) (x : BlockWrite) →
    (if a then Some (writes.Copy false W32)
    else if b then Some (writes.Copy false W64)
    else if c then Some (writes.Copy true W32)
    else if d then Some (writes.Copy true W64)
    else if e then Some (writes.Fill W32)
    else if f then Some (writes.Fill W64)
    else None) ≡ Some x → is_long (width_in x) ≡ true
six_long true b c d e f x h = let s : writes.Copy false W32 ≡ x = cc in ap (λ y. is_long (width_in y)) (sym s)
six_long false true c d e f x h = let s : writes.Copy false W64 ≡ x = cc in ap (λ y. is_long (width_in y)) (sym s)
six_long false false true d e f x h = let s : writes.Copy true W32 ≡ x = cc in ap (λ y. is_long (width_in y)) (sym s)
six_long false false false true e f x h = let s : writes.Copy true W64 ≡ x = cc in ap (λ y. is_long (width_in y)) (sym s)
six_long false false false false true f x h = let s : writes.Fill W32 ≡ x = cc in ap (λ y. is_long (width_in y)) (sym s)
six_long false false false false false true x h = let s : writes.Fill W64 ≡ x = cc in ap (λ y. is_long (width_in y)) (sym s)
six_long false false false false false false x h = absurd (cc h)

write_is : (w : Option BlockWrite) (l : Option ImageLine) (x : BlockWrite) → write_or_line w l ≡ Some (intrinsics.Write x) → w ≡ Some x
write_is (Some w) l x e = let s : w ≡ x = cc in ap Some s
write_is None (Some l) x e = absurd (cc e)
write_is None None x e = absurd (cc e)

write_long : (name : List ℕ) (x : BlockWrite) → block_write_named name ≡ Some x → is_long (width_in x) ≡ true
write_long name x h =
    six_long (bytes_eq name (codes "llvm.memcpy.p0.p0.i32")) (bytes_eq name (codes "llvm.memcpy.p0.p0.i64")) (bytes_eq name (codes "llvm.memmove.p0.p0.i32"))
    (bytes_eq name (codes "llvm.memmove.p0.p0.i64")) (bytes_eq name (codes "llvm.memset.p0.i32")) (bytes_eq name (codes "llvm.memset.p0.i64")) x h

length_is : (a : Argument) (w : Width) → a.ty ≡ Int w → is_long w ≡ true → is_length a ≡ true
length_is a w e h = ap (λ t. same_scalar (Int W32) t || same_scalar (Int W64) t) e ∙ h

given_result : (k : Kind) (ret : Option Scalar) → call_result_in true k ≡ Some ret → is_some ret ≡ true
given_result k ret e = let s = map_some Some (scalar_in k) ret e in ap is_some (sym s.2)

module _ (m : Module) (context : Context) (form : TextForm) (tells : Tells m context) (names : Names form m context)
    (written : (t : IrType) (ts : List Tok) → IsWritten context t ts → is_lawful_type m.types t ≡ true) where
  intrinsic_long : (k : Kind) (name : ℕ) (x : BlockWrite) → intrinsic_of context form k name ≡ Some (intrinsics.Write x) → is_long (width_in x) ≡ true
  intrinsic_long kinds.Global name x e = write_long (bytes_of context name) x (write_is (block_write_named (bytes_of context name)) (line_named form (bytes_of context name)) x e)
  intrinsic_long k name x e = absurd (cc e)

  given_said : (ty : Scalar) (v : Value) (ts : List Tok) → IsGivenArgument context ty v ts → is_said m ty v ≡ true
  given_said ty v ts h = value_said m context tells ty v _ h.3.3

  next_said : (ty : Scalar) (v : Value) (ts : List Tok) → IsNextArgument context ty v ts → is_said m ty v ≡ true
  next_said ty v ts h = given_said ty v _ h.3

  symbol_said : (k : Kind) (name : ℕ) (f : Symbol) → symbol_in context k name ≡ Some f → is_lawful_symbol m f ≡ true
  symbol_said kinds.Global name f e = symbol_lawful m context tells name f e
  symbol_said k name f e = absurd (cc e)

  symbol_argument : (f : Symbol) (ts : List Tok) → IsSymbolArgument context f ts → is_lawful_symbol m f ≡ true
  symbol_argument f ts h = let p = h.3.3 in symbol_said p.0.kind p.0.name f p.1

  argument_said : (a : Argument) (ts : List Tok) → IsArgument context a ts → is_said m a.ty a.value ≡ true
  argument_said a ts h = value_said m context tells a.ty a.value _ h.3.3

  further_arguments : (xs : List Argument) (ts : List Tok) → AreFurther (IsArgument context) xs ts → list_all (λ a. is_said m a.ty a.value) xs ≡ true
  further_arguments [] ts h = refl
  further_arguments (x ∷ xs) ts h = and_from (is_said m x.ty x.value) _ (argument_said x _ h.3.2) (further_arguments xs _ h.3.3)

  arguments_said : (xs : List Argument) (ts : List Tok) → AreListed (IsArgument context) xs ts → list_all (λ a. is_said m a.ty a.value) xs ≡ true
  arguments_said [] ts h = refl
  arguments_said (x ∷ xs) ts h = and_from (is_said m x.ty x.value) _ (argument_said x _ h.2) (further_arguments xs _ h.3)

  called_operands : (f : Callee) (xs : List Argument) → list_all (λ a. is_said m a.ty a.value) xs ≡ true → list_all (λ a. is_said m a.ty a.value) (callee_operands f ++ xs) ≡ true
  called_operands (callee.Register r) xs h = h
  called_operands (callee.Symbol s) xs h = h

  call_said : (to : Option ℕ) (ret : Option Scalar) (f : Callee) (args : List Argument) (ts : List Tok) → (is_none to || is_some ret) ≡ true → IsPlainCall context form f args ts → Said m (op.Call to ret f args)
  call_said to ret f args ts r h =
      let c = h.2 in
      record {
        form = and_from (is_none to || is_some ret) (is_lawful_callee m f) r (callee_said m context form tells names c.0.kind c.0.name f c.1 c.2);
        values = called_operands f args (arguments_said args _ h.3.3.2);
      }

  pub form_said : (o : Op) (ts : List Tok) → IsForm context form o ts → Said m o
  form_said (op.Binary to o ty a b) ts h = record { form = refl; values = two (is_said m ty a) (is_said m ty b) (typed_said m context tells (argument ty a) _ h.3.3.3.2.3) (second_said m context tells ty b _ h.3.3.3.3) }
  form_said (op.Compare to p ty a b) ts h = record { form = refl; values = two (is_said m ty a) (is_said m ty b) (typed_said m context tells (argument ty a) _ h.3.3.3.3.2) (second_said m context tells ty b _ h.3.3.3.3.3) }
  form_said (op.Convert to how from a into) ts h = record { form = refl; values = one (is_said m from a) (typed_said m context tells (argument from a) _ h.3.3.1.3.2.3) }
  form_said (op.Unary to o ty a) ts h = record { form = refl; values = one (is_said m ty a) (typed_said m context tells (argument ty a) _ h.3.3.3.3) }
  form_said (op.Select to c ty a b) ts h =
      let body = h.3.3.3.3 in
      record {
        form = refl;
        values =
            three (is_said m (Int W1) c) (is_said m ty a) (is_said m ty b) (value_said m context tells (Int W1) c _ body.2) (typed_said m context tells (argument ty a) _ body.3.3.2)
            (again_said m context tells ty b _ body.3.3.3);
      }
  form_said (op.Phi to ty edges) ts h = let l = all_edges_said m context tells ty edges _ h.3.3.3.3 in record { form = l.0; values = l.1 }
  form_said (op.Alloca to ty) ts h = record { form = written ty _ h.3.3.3.2.3; values = refl }
  form_said (op.Load to ty at) ts h = record { form = refl; values = one (is_said m Ptr at) (address_said m context tells at _ h.3.3.3.3.2) }
  form_said (op.Store ty v at) ts h = record { form = refl; values = two (is_said m ty v) (is_said m Ptr at) (typed_said m context tells (argument ty v) _ h.3.2.3) (address_said m context tells at _ h.3.3.2) }
  form_said (op.GetElementPtr to ty base indices) ts h =
      let body = h.3.3.3 in
      let l = all_indices_said m context tells indices _ body.3.3.3 in
      record {
        form = and_from (is_lawful_type m.types ty) (nat_lt 0 (length indices)) (written ty _ body.2.3) l.0;
        values = and_from (is_said m Ptr base) _ (address_said m context tells base _ body.3.2) l.1;
      }
  form_said (op.Call None ret f args) ts h = call_said None ret f args _ refl h.3.3.3.2
  form_said (op.Call (Some to) ret f args) ts h =
      let c = h.3.3 in
      let r = c.3.3.2.3.3 in
      call_said (Some to) ret f args _ (given_result r.0.kind ret r.1) c.3.3.3.2
  form_said (op.CopyBlock moves d s len) ts h =
      let b = h.3.3.3.2 in
      let w = b.0 in
      let is = b.1 in
      let x = b.2 in
      let parts = x.3.3 in
      record {
        form = length_is len w is (intrinsic_long x.2.0.kind x.2.0.name (writes.Copy moves w) x.2.1);
        values =
            three (is_said m Ptr d) (is_said m Ptr s) (is_said m len.ty len.value) (given_said Ptr d _ parts.2) (next_said Ptr s _ parts.3.2)
            (ap (λ t. is_said m t len.value) is ∙ next_said (Int w) len.value _ parts.3.3.2);
      }
  form_said (op.FillBlock d b len) ts h =
      let body = h.3.3.3.2 in
      let w = body.0 in
      let is = body.1 in
      let x = body.2 in
      let parts = x.3.3 in
      record {
        form = length_is len w is (intrinsic_long x.2.0.kind x.2.0.name (writes.Fill w) x.2.1);
        values =
            three (is_said m Ptr d) (is_said m (Int W8) b) (is_said m len.ty len.value) (given_said Ptr d _ parts.2) (next_said (Int W8) b _ parts.3.2)
            (ap (λ t. is_said m t len.value) is ∙ next_said (Int w) len.value _ parts.3.3.2);
      }
  form_said (op.Ret None) ts h = record { form = refl; values = refl }
  form_said (op.Ret (Some v)) ts h = record { form = refl; values = one (is_said m v.ty v.value) (typed_said m context tells v _ h.3.3) }
  form_said (op.Jump l) ts h = record { form = refl; values = refl }
  form_said (op.Branch c a b) ts h = record { form = refl; values = one (is_said m (Int W1) c) (value_said m context tells (Int W1) c _ h.3.3.2) }
  form_said (op.Switch ty v otherwise cases) ts h =
      let l = cases_said m context tells ty cases _ h.3.3.3.3.2 in
      record { form = l.0; values = and_from (is_said m ty v) _ (typed_said m context tells (argument ty v) _ h.3.2.3) l.1 }
  form_said op.Unreachable ts h = record { form = refl; values = refl }
  form_said (op.Guard at size narrow) ts h =
      let parts = h.3.3.3.2.3.3 in
      record { form = refl; values = two (is_said m Ptr at) (is_said m (Int (guard_width narrow)) size) (given_said Ptr at _ parts.2) (next_said (Int (guard_width narrow)) size _ parts.3.2) }
  form_said (op.Check target) ts h = record { form = refl; values = one (is_said m Ptr target) (given_said Ptr target _ h.3.3.3.2.3.3.2) }
  form_said (op.Enter f) ts h = record { form = symbol_argument f _ h.3.3.3.2.3.3.2; values = refl }
  form_said (op.Pre f k) ts h = record { form = symbol_argument f _ h.3.3.3.2.3.3.2; values = refl }
  form_said (op.Post f k) ts h = record { form = symbol_argument f _ h.3.3.3.2.3.3.2; values = refl }
  form_said (op.Leave f) ts h = record { form = symbol_argument f _ h.3.3.3.2.3.3.2; values = refl }
