-- A called name is that of no block write and of no line of images.
use Rattle.std.proofs.Common.{◌≡◌, ℕ, Bool, true, false, ◌&&◌, ◌||◌, Option, Some, None, List, refl, sym, ap, ◌∙◌}
use Rattle.std.specs.Prelude.{codes, bytes_eq, not, if◌then◌else◌}
use Rattle.lx_words.specs.declared.word.Width.TheVariants.{W32, W64}
use Rattle.lx_words.proofs.Options.{map_some}
use Rattle.lx_ir_tokens.specs.declared.token.Kind.{Kind}
use Rattle.lx_ir_tokens.specs.declared.token.Kind.TheVariants as kinds
use Rattle.lx_ir.specs.declared.module.Symbol.{Symbol}
use Rattle.lx_ir.specs.declared.module.Symbol.TheVariants.{Global}
use Rattle.lx_ir.specs.declared.module.Module.{Module}
use Rattle.lx_ir.specs.declared.instr.Callee.{Callee}
use Rattle.lx_ir.specs.declared.instr.Callee.TheVariants as callee
use Rattle.lx_ir.specs.Text.{symbol_name}
use Rattle.lx_ir.specs.Lawful.{is_block_write, is_image_name, is_lawful_symbol, is_lawful_callee}
use Rattle.lx_ir_terms.specs.Context.{Context, entry, nothing, unless_complete, symbol_of, register_number, bytes_of}
use Rattle.lx_ir_calls.specs.declared.writes.BlockWrite.{BlockWrite}
use Rattle.lx_ir_calls.specs.declared.writes.BlockWrite.TheVariants as writes
use Rattle.lx_ir_calls.specs.declared.image_lines.ImageLine.{ImageLine}
use Rattle.lx_ir_calls.specs.declared.image_lines.ImageLine.TheVariants as lines
use Rattle.lx_ir_calls.specs.declared.intrinsics.TextForm.{TextForm}
use Rattle.lx_ir_calls.specs.declared.intrinsics.TextForm.TheVariants as forms
use Rattle.lx_ir_calls.specs.Writes.{block_write_named}
use Rattle.lx_ir_calls.specs.ImageLines.{image_line_named}
use Rattle.lx_ir_calls.specs.Intrinsics.{line_named, write_or_line, intrinsic_named, intrinsic_of}
use Rattle.lx_ir_calls.specs.Calls.{callee_of}
use Rattle.lx_ir_lawful.specs.Tells.{Tells}
use Rattle.lx_ir_lawful.proofs.Constants.{symbol_lawful}
use Rattle.lx_ir_lawful.specs.Said.{Names}

neither : (w : Option BlockWrite) (l : Option ImageLine) → write_or_line w l ≡ None → (w ≡ None) × (l ≡ None)
neither (Some w) l e = absurd (cc e)
neither None (Some l) e = absurd (cc e)
neither None None e = (refl, refl)

abbrev six : Bool → Bool → Bool → Bool → Bool → Bool → Option BlockWrite
six a b c d e f =
    if a then Some (writes.Copy false W32)
    else if b then Some (writes.Copy false W64)
    else if c then Some (writes.Copy true W32)
    else if d then Some (writes.Copy true W64)
    else if e then Some (writes.Fill W32)
    else if f then Some (writes.Fill W64)
    else None

none_of_six : (a b c d e f : Bool) → six a b c d e f ≡ None → (a || (b || (c || (d || (e || (f || false)))))) ≡ false
none_of_six true b c d e f h = absurd (cc h)
none_of_six false true c d e f h = absurd (cc h)
none_of_six false false true d e f h = absurd (cc h)
none_of_six false false false true e f h = absurd (cc h)
none_of_six false false false false true f h = absurd (cc h)
none_of_six false false false false false true h = absurd (cc h)
none_of_six false false false false false false h = refl

no_write : (name : List ℕ) → block_write_named name ≡ None → is_block_write name ≡ false
no_write name h =
    none_of_six (bytes_eq name (codes "llvm.memcpy.p0.p0.i32")) (bytes_eq name (codes "llvm.memcpy.p0.p0.i64")) (bytes_eq name (codes "llvm.memmove.p0.p0.i32"))
    (bytes_eq name (codes "llvm.memmove.p0.p0.i64")) (bytes_eq name (codes "llvm.memset.p0.i32")) (bytes_eq name (codes "llvm.memset.p0.i64")) h

-- the names of lines, in the order of their readers; those of the definition have `leave` last
abbrev seven : Bool → Bool → Bool → Bool → Bool → Bool → Bool → Option ImageLine
seven a b c d leave e f =
    if a then Some (lines.Guard false)
    else if b then Some (lines.Guard true)
    else if c then Some lines.Check
    else if d then Some (lines.Crossing false)
    else if leave then Some (lines.Crossing true)
    else if e then Some (lines.Action false)
    else if f then Some (lines.Action true)
    else None

none_of_seven : (a b c d leave e f : Bool) → seven a b c d leave e f ≡ None → (a || (b || (c || (d || (e || (f || (leave || false))))))) ≡ false
none_of_seven true b c d leave e f h = absurd (cc h)
none_of_seven false true c d leave e f h = absurd (cc h)
none_of_seven false false true d leave e f h = absurd (cc h)
none_of_seven false false false true leave e f h = absurd (cc h)
none_of_seven false false false false true e f h = absurd (cc h)
none_of_seven false false false false false true f h = absurd (cc h)
none_of_seven false false false false false false true h = absurd (cc h)
none_of_seven false false false false false false false h = refl

no_line : (name : List ℕ) → image_line_named name ≡ None → is_image_name name ≡ false
no_line name h =
    none_of_seven (bytes_eq name (codes "lxfi.guard")) (bytes_eq name (codes "lxfi.guard32")) (bytes_eq name (codes "lxfi.check")) (bytes_eq name (codes "lxfi.enter"))
    (bytes_eq name (codes "lxfi.leave")) (bytes_eq name (codes "lxfi.pre")) (bytes_eq name (codes "lxfi.post")) h

both_not : (a b c : Bool) → a ≡ true → b ≡ false → c ≡ false → (a && not b && not c) ≡ true
both_not a b c p q r = rw (p, q, r) refl

module _ (m : Module) (context : Context) (form : TextForm) (tells : Tells m context) (names : Names form m context) where
  known : (b : Bool) (o : Option Symbol) (other s : Symbol) → b ≡ true → unless_complete b other o ≡ Some s → o ≡ Some s
  known true (Some x) other s h e = e
  known true None other s h e = absurd (cc e)
  known false o other s h e = absurd (cc h)

  there : (name : ℕ) (s : Symbol) → symbol_of context name ≡ Some s → entry context.symbols name ≡ Some s
  there name s e = known context.complete (entry context.symbols name) (Global nothing) s tells.complete e

  no_line_by : (f : TextForm) (name : ℕ) (s : Symbol) → form ≡ f → entry context.symbols name ≡ Some s → line_named f (bytes_of context name) ≡ None → is_image_name (bytes_of context name) ≡ false
  no_line_by forms.Program name s e k h = names.plain name s e k
  no_line_by forms.Image name s e k h = no_line (bytes_of context name) h

  symbol_callee : (name : ℕ) (s : Symbol) → symbol_of context name ≡ Some s → intrinsic_named form (bytes_of context name) ≡ None → is_lawful_callee m (callee.Symbol s) ≡ true
  symbol_callee name s e h =
      let k = there name s e in
      let n = neither (block_write_named (bytes_of context name)) (line_named form (bytes_of context name)) h in
      both_not (is_lawful_symbol m s) (is_block_write (symbol_name m s)) (is_image_name (symbol_name m s)) (symbol_lawful m context tells name s e)
      (ap is_block_write (names.named name s k) ∙ no_write (bytes_of context name) n.0)
      (ap is_image_name (names.named name s k) ∙ no_line_by form name s refl k n.1)

  pub callee_said : (k : Kind) (name : ℕ) (f : Callee) → callee_of context k name ≡ Some f → intrinsic_of context form k name ≡ None → is_lawful_callee m f ≡ true
  callee_said kinds.Local name f e h = let s : callee.Register (register_number context name) ≡ f = cc in ap (is_lawful_callee m) (sym s)
  callee_said kinds.Global name f e h =
      let s = map_some callee.Symbol (symbol_of context name) f e in
      ap (is_lawful_callee m) (sym s.2) ∙ symbol_callee name s.0 s.1 h
  callee_said k name f e h = absurd (cc e)
