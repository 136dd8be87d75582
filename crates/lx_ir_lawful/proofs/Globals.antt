-- The initialisers of globals are those that a text can say.
use Rattle.std.proofs.Common.{◌≡◌, ℕ, ◌≤◌, Bool, true, false, ◌&&◌, List, [], ◌∷◌, ◌++◌, map, nat_le, Option, refl, ◌∙◌, subst, arith}
use Rattle.std.specs.Prelude.{if◌then◌else◌}
use Rattle.std.specs.List.{list_all}
use Rattle.std.proofs.lemmas.Bool.{and_parts, and_from}
use Rattle.std.proofs.lemmas.Bool.Decides.{nat_tests}
use Rattle.std.proofs.lemmas.List.Folds.{list_all-append}
use Rattle.lx_words.specs.declared.token.Token.{Token}
use Rattle.lx_ir.specs.declared.module.GlobalVar.{GlobalVar}
use Rattle.lx_ir.specs.declared.module.Function.{Function}
use Rattle.lx_ir.specs.declared.module.Module.{Module}
use Rattle.lx_ir.specs.Layout.{is_lawful_type}
use Rattle.lx_ir.specs.Lawful.{is_name, is_lawful_init, nesting_of_init, is_lawful_global}
use Rattle.lx_ir_tokens.specs.declared.token.Tok.{Tok}
use Rattle.lx_ir_lawful.proofs.LawfulLimits.{lawful}
use Rattle.lx_ir_terms.specs.Context.{Context, bytes_of}
use Rattle.lx_ir_calls.specs.declared.intrinsics.TextForm.{TextForm}
use Rattle.lx_ir_statements.specs.declared.form.Statement.{Statement}
use Rattle.lx_ir_statements.specs.declared.form.Statement.TheVariants as statements
use Rattle.lx_ir_statements.specs.Defined.{is_block_write}
use Rattle.lx_ir_statements.specs.Grammar.{IsStatement}
use Rattle.lx_ir_tables.specs.Numbering.{Numbering, table_of}
use Rattle.lx_ir_read.specs.declared.first.Found.{Found}
use Rattle.lx_ir_read.specs.declared.draft.Draft.{Draft}
use Rattle.lx_ir_read.specs.Again.{registers_in, with_registers, with_defined, with_declared, import_of, kept}
use Rattle.lx_ir_read.specs.Fault.{line_shown}
use Rattle.lx_ir_read.specs.Grammar.{AddAll}
use Rattle.lx_ir_lawful.specs.Tells.{Tells}
use Rattle.lx_ir_lawful.proofs.Constants.{written_lawful}
use Rattle.lx_ir_lawful.proofs.Initialisers.{init_lawful}

shallow : (n : ℕ) → n ≤ 64 → nat_le n 64 ≡ true
shallow n h = grind (arith, nat_tests, h)

module _ (m : Module) where
  -- a text can say the initialiser
  abbrev pub is_said_global : GlobalVar → Bool
  is_said_global g = is_lawful_init m g.ty g.init && nat_le (nesting_of_init g.init) 64

  one_more : (gs : List GlobalVar) (g : GlobalVar) → list_all is_said_global gs ≡ true → is_said_global g ≡ true → list_all is_said_global (gs ++ g ∷ []) ≡ true
  one_more gs g h e = list_all-append is_said_global gs (g ∷ []) ∙ and_from (list_all is_said_global gs) (is_said_global g && true) h (and_from (is_said_global g) true e refl)

  import_said : (b : Bool) (d : Draft) (f : Function) → list_all is_said_global d.globals ≡ true → list_all is_said_global (if b then d else with_declared d f).globals ≡ true
  import_said true d f g = g
  import_said false d f g = g

  module _ (form : TextForm) (places : List Token) (c : Context) (toks : List Tok) (tells : (registers : List (Option ℕ)) → Tells m (with_registers c registers)) where
    kept_said : (registers : Numbering) (line : ℕ) (d : Draft) (s : Statement) (front back : List Tok) → IsStatement (with_registers c (table_of registers)) form places d.defined s front back → list_all is_said_global d.globals ≡ true → list_all is_said_global (kept c registers line (with_defined c d s) s).globals ≡ true
    kept_said registers line d (statements.Type name ty) front back is g = g
    kept_said registers line d (statements.Global name constant ty init) front back (fresh, (f, b, symbol, (f2, b2, equal, (f3, b3, linkage, (f4, b4, storage, (f5, b5, of, (f6, b6, init_is, align, w6), w5), w4), w3), w2), w)) g =
        let context : Context = with_registers c (table_of registers) in
        let x : GlobalVar = record { name = bytes_of c name; constant = constant; ty = ty; init = init; line = line } in
        let l = init_lawful m context (tells (table_of registers)) (written_lawful m context (tells (table_of registers)) lawful) 64 ty init f6 init_is in
        one_more d.globals x g (and_from (is_lawful_init m ty init) (nat_le (nesting_of_init init) 64) l.lawful (shallow (nesting_of_init init) l.nesting))
    kept_said registers line d (statements.Import name ret params) front back is g =
        import_said (is_block_write c name) (with_defined c d (statements.Import name ret params)) (import_of (bytes_of c name) ret params line) g
    kept_said registers line d (statements.Function name ret params blocks) front back is g = g

    pub all_said : (fs : List Found) (d e : Draft) → AddAll c form places toks d fs e → list_all is_said_global d.globals ≡ true → list_all is_said_global e.globals ≡ true
    all_said [] d e says g = subst (λ (x : Draft). list_all is_said_global x.globals ≡ true) says g
    all_said (f ∷ fs) d e (n, (s, front, back, is, w, k), rest) g =
        all_said fs n e rest (subst (λ (x : Draft). list_all is_said_global x.globals ≡ true) k (kept_said (registers_in c.names f.statement) (line_shown places f.left) d s front back is g))

  -- a name, a type and an initialiser
  pub each_global : (gs : List GlobalVar) → list_all is_name (map (λ g. g.name) gs) ≡ true → list_all (λ g. is_lawful_type m.types g.ty) gs ≡ true → list_all is_said_global gs ≡ true → list_all (is_lawful_global m) gs ≡ true
  each_global [] h k l = refl
  each_global (g ∷ gs) h k l =
      let one = and_parts (is_name g.name) (list_all is_name (map (λ (x : GlobalVar). x.name) gs)) h in
      let two = and_parts (is_lawful_type m.types g.ty) (list_all (λ (x : GlobalVar). is_lawful_type m.types x.ty) gs) k in
      let three = and_parts (is_said_global g) (list_all is_said_global gs) l in
      let both = and_parts (is_lawful_init m g.ty g.init) (nat_le (nesting_of_init g.init) 64) three.0 in
      and_from (is_lawful_global m g) (list_all (is_lawful_global m) gs)
      (and_from ((is_name g.name && is_lawful_type m.types g.ty) && is_lawful_init m g.ty g.init) (nat_le (nesting_of_init g.init) 64)
      (and_from (is_name g.name && is_lawful_type m.types g.ty) (is_lawful_init m g.ty g.init) (and_from (is_name g.name) (is_lawful_type m.types g.ty) one.0 two.0) both.0) both.1)
      (each_global gs one.1 two.1 three.1)
