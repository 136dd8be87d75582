-- Names behind `@` and globals: what is in the grammar is read, and what is read is in the grammar.
use Rattle.std.proofs.Common.{◌≡◌, ℕ, zero, suc, Bool, true, false, Option, Some, None, List, [], ◌∷◌, ◌++◌, Ok, Err, ◌⊎◌, inl, inr, refl, sym, ap, ◌∙◌, subst, append_assoc}
use Rattle.std.specs.Prelude.{if◌then◌else◌}
use Rattle.lx_ir_tokens.specs.declared.token.Tok.{Tok}
use Rattle.lx_ir_tokens.specs.declared.token.Kind.{Kind}
use Rattle.lx_ir_tokens.specs.declared.token.Kind.TheVariants as kinds
use Rattle.lx_ir_tokens.specs.declared.token.Mark.TheVariants.{Comma, Equal}
use Rattle.lx_ir_tokens.specs.declared.keyword.StatementWord.TheVariants as words
use Rattle.lx_ir_tokens.specs.declared.keyword.Keyword.TheVariants as keywords
use Rattle.lx_ir.specs.IrType.{IrType}
use Rattle.lx_ir.specs.Init.{Init}
use Rattle.lx_ir_terms.specs.declared.fault.FaultKind.TheVariants.{Twice}
use Rattle.lx_ir_terms.specs.Context.{Context}
use Rattle.lx_ir_terms.specs.Reading.{Read, ◌>>=◌, at, has, behind, is_mark, pick_at, mark_at}
use Rattle.lx_ir_terms.specs.Types.{written_type_at, depth_limit, count_in, count_at, always_refused}
use Rattle.lx_ir_terms.specs.Words.{count_over}
use Rattle.lx_ir_terms.specs.Grammar.{Part, Picks, Is, IsMark, ◌then◌, IsType}
use Rattle.lx_ir_terms.specs.Laws.{Reads, Finds}
use Rattle.lx_ir_terms.proofs.Marks.{next_token}
use Rattle.lx_ir_terms.proofs.Parts.{pick_finds, next_finds, bind_reads, behind_reads, bind_ok, ok_same}
use Rattle.lx_ir_terms.proofs.Written.{written_again, written_found}
use Rattle.lx_ir_constants.specs.Constants.{skipped, word_refusal, when}
use Rattle.lx_ir_constants.specs.Inits.{init_at}
use Rattle.lx_ir_constants.specs.InitGrammar.{IsInit}
use Rattle.lx_ir_constants.proofs.InitLaws.{init_again}
use Rattle.lx_ir_constants.proofs.InitsFound.{init_found}
use Rattle.lx_ir_constants.proofs.PointerLaws.{when_some}
use Rattle.lx_ir_operands.specs.Steps.{is_align, one_align_at}
use Rattle.lx_ir_operands.specs.Grammar.{IsCount, IsAlign}
use Rattle.lx_ir_statements.specs.Numbers.{has_number, has_some}
use Rattle.lx_ir_statements.specs.declared.form.Statement.{Statement}
use Rattle.lx_ir_statements.specs.declared.form.Statement.TheVariants as statements
use Rattle.lx_ir_statements.specs.declared.defined.Defined.{Defined}
use Rattle.lx_ir_statements.specs.Words.{is_linkage_word}
use Rattle.lx_ir_statements.specs.Statements.{global_align_at, symbol_name, next_symbol, symbol_at, new_symbol_at, storage_in, storage_at, global_at}
use Rattle.lx_ir_statements.specs.Grammar.{IsSymbol, AreLinkage, IsGlobal}
use Rattle.lx_ir_statements.proofs.HeadWords.{linkage_over, linkage_found}

-- Names.

pub symbol_reads : (name : ℕ) → Reads symbol_at name (IsSymbol name)
symbol_reads name ts us (t, e, g) = rw (g, e) refl

pub new_symbol_reads : (defined : Defined) (name : ℕ) → has_number defined.symbols name ≡ false → Reads (new_symbol_at defined) name (IsSymbol name)
new_symbol_reads defined name new ts us (t, e, g) = rw (g, e, new) refl

abbrev pub unless : {A : Type 0} → Bool → Read A → Read A → Read A
unless b other read = if b then other else read

-- a name that was found is new
abbrev pub NewFound : Defined → ℕ → List Tok → List Tok → Type 0
NewFound defined name ts us = (has_number defined.symbols name ≡ false) × ((front : List Tok) × IsSymbol name front × (ts ≡ front ++ us))

pub next_is : (t : Tok) (front ts us : List Tok) (name : ℕ) → symbol_name t.kind t.name ≡ Some name → front ≡ t ∷ [] → ts ≡ front ++ us → next_symbol ts ≡ Some name
next_is t front ts us name e g w = rw (w, g) e

new_found_by : (defined : Defined) (b : Bool) (ts us : List Tok) (name : ℕ) → has_some defined.symbols (next_symbol ts) ≡ b → unless b (Err (at Twice ts)) (symbol_at ts) ≡ Ok (name, us) → NewFound defined name ts us
new_found_by defined true ts us name h e = cc
new_found_by defined false ts us name h e =
    let w = pick_finds (λ t. symbol_name t.kind t.name) always_refused ts us name e in
    (subst (λ m. has_some defined.symbols m ≡ false) (next_is w.1.0 w.0 ts us name w.1.1 w.1.2 w.2) h, (w.0, w.1, w.2))

pub new_symbol_found : (defined : Defined) (ts us : List Tok) (name : ℕ) → new_symbol_at defined ts ≡ Ok (name, us) → NewFound defined name ts us
new_symbol_found defined ts us name e = new_found_by defined (has_some defined.symbols (next_symbol ts)) ts us name refl e

-- Globals.

pub storage_no_linkage : (k : Kind) (constant : Bool) → storage_in k ≡ Some constant → is_linkage_word k ≡ false
storage_no_linkage (kinds.Word (keywords.Statement w)) constant e = refl
storage_no_linkage k constant e = cc

count_reads : Reads count_over tt IsCount
count_reads ts us (n, (t, e, g)) = rw (g, e) refl

align_word_reads : Reads (pick_at (λ t. when (is_align t.kind)) word_refusal) tt (Is is_align)
align_word_reads ts us (t, e, g) = rw (g, e) refl

one_align_reads : Reads one_align_at tt (Is is_align then IsCount)
one_align_reads = bind_reads (pick_at (λ t. when (is_align t.kind)) word_refusal) (λ a. count_over a.1) tt tt _ _ align_word_reads count_reads

align_again : (ts us : List Tok) → has (is_mark Comma) us ≡ false → IsAlign ts → global_align_at (ts ++ us) ≡ Ok (tt, us)
align_again ts us c (inl e) = rw (e, c) refl
align_again ts us c (inr p) =
    let r = behind_reads (is_mark Comma) (Is is_align then IsCount) one_align_at tt ts us p one_align_reads in
    rw r.0 r.1

-- the tokens of a global, one part after the other
pub global_again : (context : Context) (defined : Defined) (name : ℕ) (constant : Bool) (ty : IrType) (init : Init) (ts us : List Tok) → has_number defined.symbols name ≡ false → has (is_mark Comma) us ≡ false → IsGlobal context name constant ty init ts → global_at context defined (ts ++ us) ≡ Ok (statements.Global name constant ty init, us)
global_again context defined name constant ty init ts us new comma (f1, b1, n, (f2, b2, (q, eq, gq), (ws, b3, al, (f4, b4, (k, ek, gk), (t, b5, pt, (i, a, pi, pa, w6), w5), w4), w3), w2), w1) =
    let last : (i ++ a) ++ us ≡ i ++ (a ++ us) = append_assoc i a us in
    let typed : b4 ++ us ≡ t ++ (i ++ (a ++ us)) = rw (w5, w6) (append_assoc t (i ++ a) us ∙ ap (λ r. t ++ r) last) in
    let stored : b3 ++ us ≡ k ∷ (t ++ (i ++ (a ++ us))) = rw (w4, gk) (ap (λ r. k ∷ r) typed) in
    let worded : b2 ++ us ≡ ws ++ (k ∷ (t ++ (i ++ (a ++ us)))) = rw w3 (append_assoc ws b3 us ∙ ap (λ r. ws ++ r) stored) in
    let named : b1 ++ us ≡ q ∷ (ws ++ (k ∷ (t ++ (i ++ (a ++ us))))) = rw (w2, gq) (ap (λ r. q ∷ r) worded) in
    let whole : ts ++ us ≡ f1 ++ (q ∷ (ws ++ (k ∷ (t ++ (i ++ (a ++ us)))))) = rw w1 (append_assoc f1 b1 us ∙ ap (λ r. f1 ++ r) named) in
    let first = new_symbol_reads defined name new f1 (q ∷ (ws ++ (k ∷ (t ++ (i ++ (a ++ us)))))) n in
    let over = linkage_over ws (k ∷ (t ++ (i ++ (a ++ us)))) al (storage_no_linkage k.kind constant ek) in
    let typ = written_again context ty t (i ++ (a ++ us)) pt in
    let initial = init_again context depth_limit ty init i (a ++ us) pi in
    let align = align_again a us comma pa in
    rw (whole, first, eq, over, ek, typ, initial, align) refl

-- What is read as a global is one.

count_finds : Finds count_over (λ (x : Unit {0}). IsCount)
count_finds ts us x e =
    let a = bind_ok (count_at ts) (λ n. Ok (tt, n.1)) (x, us) e in
    let w = pick_finds (λ t. count_in t.kind) always_refused ts a.0.1 a.0.0 a.1 in
    (w.0, (a.0.0, w.1), w.2 ∙ ap (λ r. w.0 ++ r) (ok_same tt x a.0.1 us a.2).1)

one_align_finds : Finds one_align_at (λ (x : Unit {0}). Is is_align then IsCount)
one_align_finds ts us x e =
    let a = bind_ok (pick_at (λ t. when (is_align t.kind)) word_refusal ts) (λ a. count_over a.1) (x, us) e in
    let w = pick_finds (λ t. when (is_align t.kind)) word_refusal ts a.0.1 a.0.0 a.1 in
    let n = count_finds a.0.1 us x a.2 in
    (w.0 ++ n.0, (w.0, n.0, (w.1.0, when_some (is_align w.1.0.kind) a.0.0 w.1.1, w.1.2), n.1, refl), w.2 ∙ ap (λ r. w.0 ++ r) n.2 ∙ sym (append_assoc w.0 n.0 us))

abbrev align_by : Bool → List Tok → Read (Unit {0})
align_by b ts = if b then one_align_at (behind ts) else Ok (tt, ts)

align_found_by : (b : Bool) (ts us : List Tok) (x : Unit {0}) → has (is_mark Comma) ts ≡ b → align_by b ts ≡ Ok (x, us) → (front : List Tok) × IsAlign front × (ts ≡ front ++ us)
align_found_by false ts us x h e = ([], inl refl, (ok_same tt x ts us e).1)
align_found_by true ts us x h e =
    let n = next_token (is_mark Comma) ts h in
    let w = one_align_finds (behind ts) us x e in
    (n.token ∷ w.0, inr (n.token ∷ [], w.0, (n.token, n.kind, refl), w.1, refl), n.whole ∙ ap (λ r. n.token ∷ r) w.2)

storage_found : (ts us : List Tok) (constant : Bool) → storage_at ts ≡ Ok (constant, us) → (front : List Tok) × (AreLinkage then Picks (λ t. storage_in t.kind) constant) front × (ts ≡ front ++ us)
storage_found ts us constant e =
    let f = linkage_found ts in
    let w = pick_finds (λ t. storage_in t.kind) word_refusal (skipped is_linkage_word ts) us constant e in
    (f.0 ++ w.0, (f.0, w.0, f.1, w.1, refl), f.2 ∙ ap (λ r. f.0 ++ r) w.2 ∙ sym (append_assoc f.0 w.0 us))

-- a global that was found, and its name is new
pub record GlobalFound (context : Context) (defined : Defined) (s : Statement) (ts us : List Tok) : Type 0 where
  pub name : ℕ
  pub constant : Bool
  pub ty : IrType
  pub init : Init
  pub front : List Tok
  pub is : IsGlobal context name constant ty init front
  pub new : has_number defined.symbols name ≡ false
  pub says : statements.Global name constant ty init ≡ s
  pub whole : ts ≡ front ++ us

abbrev behind_init : Context → ℕ → Bool → IrType → Init × List Tok → Read Statement
behind_init context name constant ty i = global_align_at i.1 >>= λ a. Ok (statements.Global name constant ty i.0, a.1)

abbrev behind_type : Context → ℕ → Bool → IrType × List Tok → Read Statement
behind_type context name constant t = init_at context depth_limit t.0 t.1 >>= behind_init context name constant t.0

abbrev behind_storage : Context → ℕ → Bool × List Tok → Read Statement
behind_storage context name k = written_type_at context k.1 >>= behind_type context name k.0

abbrev behind_equal : Context → ℕ → Unit {0} × List Tok → Read Statement
behind_equal context name e = storage_at e.1 >>= behind_storage context name

abbrev behind_name : Context → ℕ × List Tok → Read Statement
behind_name context n = mark_at Equal n.1 >>= behind_equal context n.0

pub global_found : (context : Context) (defined : Defined) (s : Statement) (ts us : List Tok) → global_at context defined ts ≡ Ok (s, us) → GlobalFound context defined s ts us
global_found context defined s ts us e =
    let n = bind_ok (new_symbol_at defined ts) (behind_name context) (s, us) e in
    let q = bind_ok (mark_at Equal n.0.1) (behind_equal context n.0.0) (s, us) n.2 in
    let k = bind_ok (storage_at q.0.1) (behind_storage context n.0.0) (s, us) q.2 in
    let t = bind_ok (written_type_at context k.0.1) (behind_type context n.0.0 k.0.0) (s, us) k.2 in
    let i = bind_ok (init_at context depth_limit t.0.0 t.0.1) (behind_init context n.0.0 k.0.0 t.0.0) (s, us) t.2 in
    let a = bind_ok (global_align_at i.0.1) (λ a. Ok (statements.Global n.0.0 k.0.0 t.0.0 i.0.0, a.1)) (s, us) i.2 in
    let l = ok_same (statements.Global n.0.0 k.0.0 t.0.0 i.0.0) s a.0.1 us a.2 in
    let n' = new_symbol_found defined ts n.0.1 n.0.0 n.1 in
    let q' = next_finds (is_mark Equal) n.0.1 q.0.1 q.0.0 q.1 in
    let k' = storage_found q.0.1 k.0.1 k.0.0 k.1 in
    let t' = written_found context k.0.1 t.0.1 t.0.0 t.1 in
    let i' = init_found context depth_limit t.0.0 t.0.1 i.0.1 i.0.0 i.1 in
    let a' = align_found_by (has (is_mark Comma) i.0.1) i.0.1 a.0.1 a.0.0 refl a.1 in
    let w5 = i'.2 ∙ ap (λ r. i'.0 ++ r) a'.2 ∙ sym (append_assoc i'.0 a'.0 a.0.1) in
    let w4 = t'.2 ∙ ap (λ r. t'.0 ++ r) w5 ∙ sym (append_assoc t'.0 (i'.0 ++ a'.0) a.0.1) in
    let b3 = t'.0 ++ (i'.0 ++ a'.0) in
    let w3 = k'.2 ∙ ap (λ r. k'.0 ++ r) w4 ∙ sym (append_assoc k'.0 b3 a.0.1) in
    let w2 = q'.2 ∙ ap (λ r. q'.0 ++ r) w3 ∙ sym (append_assoc q'.0 (k'.0 ++ b3) a.0.1) in
    let w1 = n'.1.2 ∙ ap (λ r. n'.1.0 ++ r) w2 ∙ sym (append_assoc n'.1.0 (q'.0 ++ (k'.0 ++ b3)) a.0.1) in
    let ws = k'.1.0 in
    let wd = k'.1.1 in
    let same : k'.0 ++ b3 ≡ ws ++ (wd ++ b3) = ap (λ r. r ++ b3) k'.1.4 ∙ append_assoc ws wd b3 in
    record {
      name = n.0.0;
      constant = k.0.0;
      ty = t.0.0;
      init = i.0.0;
      front = n'.1.0 ++ (q'.0 ++ (k'.0 ++ b3));
      is = (n'.1.0, q'.0 ++ (k'.0 ++ b3), n'.1.1, (q'.0, k'.0 ++ b3, q'.1, (ws, wd ++ b3, k'.1.2, (wd, b3, k'.1.3, (t'.0, i'.0 ++ a'.0, t'.1, (i'.0, a'.0, i'.1, a'.1, refl), refl), refl), same), refl), refl);
      new = n'.0;
      says = l.0;
      whole = w1 ∙ ap (λ r. (n'.1.0 ++ (q'.0 ++ (k'.0 ++ b3))) ++ r) l.1;
    }
