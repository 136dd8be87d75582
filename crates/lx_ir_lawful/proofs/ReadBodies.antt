-- A function that is read again has a lawful body.
use Rattle.std.proofs.Common.{◌≡◌, ℕ, zero, suc, ◌-◌, ◌+◌, ◌<◌, ◌≤◌, true, false, Option, Some, None, is_some, List, [], ◌∷◌, ◌++◌, length, map, drop, refl, sym, ap, ◌∙◌, subst, arith}
use Rattle.std.specs.Prelude.{unwrap_or}
use Rattle.std.specs.List.{AllByRecursion}
use Rattle.std.proofs.Math.Seq.{drop-append_seam}
use Rattle.std.proofs.lemmas.Bool.{and_parts}
use Rattle.std.proofs.lemmas.List.{length-append, length-drop, length-map, map-append}
use Rattle.lx_words.specs.declared.token.Token.{Token}
use Rattle.lx_ir.specs.declared.types.Scalar.{Scalar}
use Rattle.lx_ir.specs.declared.module.Parameter.{Parameter}
use Rattle.lx_ir.specs.declared.module.Block.{Block}
use Rattle.lx_ir.specs.declared.module.Module.{Module}
use Rattle.lx_ir.specs.Lawful.{is_lawful_body}
use Rattle.lx_ir_tokens.specs.declared.token.Tok.{Tok}
use Rattle.lx_ir_tokens.specs.Names.{number_of}
use Rattle.lx_ir_lawful.proofs.NameNumbers.{named as name_at_number}
use Rattle.lx_ir_terms.specs.Context.{Context, nothing, bytes_of}
use Rattle.lx_ir_calls.specs.declared.intrinsics.TextForm.{TextForm}
use Rattle.lx_ir_statements.specs.declared.form.Statement.{Statement}
use Rattle.lx_ir_statements.specs.declared.form.Statement.TheVariants as statements
use Rattle.lx_ir_statements.specs.declared.defined.Defined.{Defined}
use Rattle.lx_ir_statements.specs.Defined.{is_block_write}
use Rattle.lx_ir_statements.specs.Grammar.{IsFunction, IsStatement}
use Rattle.lx_ir_tables.specs.Numbering.{numbering, table_of, own_numbers}
use Rattle.lx_ir_tables.specs.Registers.{registers_of}
use Rattle.lx_ir_lawful.proofs.SeenBlocks.{head_seen, body_seen}
use Rattle.lx_ir_read.specs.First.{unknown_context}
use Rattle.lx_ir_read.specs.Tables.{tokens_left}
use Rattle.lx_ir_read.specs.Again.{registers_in, with_registers, register_name, local_names}
use Rattle.lx_ir_lawful.specs.Tells.{Tells}
use Rattle.lx_ir_lawful.specs.Said.{Names}
use Rattle.lx_ir_lawful.specs.NamedThings.{has_numbers, named_things, AreOnce}
use Rattle.lx_ir_lawful.specs.TokenNames.{mark_count, IsTokenNamed}
use Rattle.lx_ir_lawful.specs.BodyLaws.{said_by, ReadBody, LawfulBody}
use Rattle.lx_ir_lawful.proofs.LawfulBodies.{body_lawful}
use Rattle.lx_ir_lawful.proofs.Once.{dropped}
use Rattle.lx_ir_lawful.proofs.LastReading.{same_function}

-- Names of registers.

named_by : (names : List (List ℕ)) (o : Option ℕ) (v : List ℕ) → number_of names v ≡ o → is_some o ≡ true → register_name names o ≡ v
named_by names (Some n) v e some = ap (λ x. unwrap_or x []) (name_at_number names v n e)
named_by names None v e some = absurd (cc some)

-- names that have numbers are told by them
told_again : (names vs : List (List ℕ)) → has_numbers names vs ≡ true → map (register_name names) (map (number_of names) vs) ≡ vs
told_again names [] h = refl
told_again names (v ∷ vs) h =
    let both = and_parts (is_some (number_of names v)) (has_numbers names vs) h in
    ap (λ x. x ∷ map (register_name names) (map (number_of names) vs)) (named_by names (number_of names v) v refl both.0) ∙ ap (λ xs. v ∷ xs) (told_again names vs both.1)

-- the names that are kept behind those of the parameters
locals_kept : (names : List (List ℕ)) (ps : List Parameter) (vs : List (List ℕ)) → has_numbers names vs ≡ true → local_names names (length ps) (named_things names (said_by ps ++ vs)) ≡ vs
locals_kept names ps vs h =
    let front : List (Option ℕ) = map (number_of names) (said_by ps) in
    let behind : List (Option ℕ) = map (number_of names) vs in
    let count : length ps ≡ length front = sym (length-map (said_by ps) (number_of names) ∙ length-map ps (λ p. p.name)) in
    let rest : drop (length ps) (map (number_of names) (said_by ps ++ vs)) ≡ behind =
    ap (drop (length ps)) (map-append (number_of names) (said_by ps) vs) ∙ ap (λ n. drop n (front ++ behind)) count ∙ drop-append_seam front behind in
    ap (map (register_name names)) rest ∙ told_again names vs h

-- Parts of the tokens of a text.

marks_joined : (f b : List Tok) → mark_count (f ++ b) ≡ mark_count f + mark_count b
marks_joined [] b = omega arith
marks_joined (t ∷ f) b = let more = marks_joined f b in omega (arith, more)

marks_dropped : (n : ℕ) (ts : List Tok) → mark_count (drop n ts) ≤ mark_count ts
marks_dropped zero ts = omega arith
marks_dropped (suc n) [] = omega arith
marks_dropped (suc n) (t ∷ ts) = let more = marks_dropped n ts in omega (arith, more)

module _ (names : List (List ℕ)) (toks : List Tok) where
  -- tokens whose names may stand in a module, no more than there are
  pub record Among (ts : List Tok) : Type 0 where
    pub named : AllByRecursion (IsTokenNamed names) ts
    pub marks : mark_count ts ≤ mark_count toks
    pub size : length ts ≤ length toks

  pub among_left : (left : ℕ) → AllByRecursion (IsTokenNamed names) toks → Among (tokens_left left toks)
  among_left left all = record {
    named = dropped (IsTokenNamed names) (length toks - left) toks all;
    marks = marks_dropped (length toks - left) toks;
    size = let e = length-drop (length toks - left) toks in omega (arith, e);
  }

  split : (f b : List Tok) → AllByRecursion (IsTokenNamed names) (f ++ b) → AllByRecursion (IsTokenNamed names) f × AllByRecursion (IsTokenNamed names) b
  split [] b h = (tt, h)
  split (t ∷ f) b h = let r = split f b h.1 in ((h.0, r.0), r.1)

  pub among : (f b ts : List Tok) → ts ≡ f ++ b → Among ts → Among f × Among b
  among f b ts w h =
      let two = split f b (subst (AllByRecursion (IsTokenNamed names)) w h.named) in
      let marks : mark_count ts ≡ mark_count f + mark_count b = ap mark_count w ∙ marks_joined f b in
      let size : length ts ≡ length f + length b = ap length w ∙ length-append f b in
      let fewer : mark_count ts ≤ mark_count toks = h.marks in
      let shorter : length ts ≤ length toks = h.size in (
        record { named = two.0; marks = omega (arith, marks, fewer); size = omega (arith, size, shorter) },
        record { named = two.1; marks = omega (arith, marks, fewer); size = omega (arith, size, shorter) },
      )

-- Functions.

module _ (m : Module) (full : Context) (form : TextForm) (places : List Token) (toks : List Tok)
    (tells : Tells m full) (known : Names form m full) (once : AreOnce full.names)
    (named : AllByRecursion (IsTokenNamed full.names) toks) (counted : length full.names + mark_count toks ≤ length toks) (few : length toks + 1 < 4294967296) where
  abbrev names : List (List ℕ)
  names = full.names

  abbrev by_registers : Statement → Context
  by_registers t = with_registers full (table_of (registers_in full.names t))

  tells_by : (t : Statement) → Tells m (by_registers t)
  tells_by t = record { limits = tells.limits; types = tells.types; complete = tells.complete; symbols = tells.symbols }

  names_by : (t : Statement) → Names form m (by_registers t)
  names_by t = record { named = known.named; plain = known.plain }

  few_names : length names ≤ nothing
  few_names = omega (arith, counted, few)

  pub body_of : (t : Statement) (left line name : ℕ) (ret : Option Scalar) (params : List Parameter) (blocks : List Block) (ts us front back : List Tok) (defined : Defined)
      → is_block_write full name ≡ false → IsFunction (by_registers t) form places name ret params blocks ts us → tokens_left left toks ≡ ts ++ us
      → IsStatement (unknown_context full.names) form places defined t front back → tokens_left left toks ≡ front ++ back
      → is_lawful_body m (record { name = bytes_of full name; params = params; locals = local_names names (length params) (registers_in names t); ret = ret; blocks = Some blocks; line = line }) ≡ true
  body_of t left line name ret params blocks ts us front back defined plain (head, opening, body, (f, b, word, (f2, b2, result, (f3, b3, symbol, (f4, b4, opened, rest, w4), w3), w2), w), is, same, whole) there first here =
      let c : Context = by_registers t in
      let own : List (Option ℕ) = own_numbers 0 (length names) in
      let h = head_seen c own head f4 opened in
      let ys = body_seen c own form places head.numbered head.registers blocks body us is in
      let also : IsFunction (unknown_context names) form places name ret params ys.0 ts us =
      (head, opening, body, (f, b, word, (f2, b2, result, (f3, b3, symbol, (f4, b4, h, rest, w4), w3), w2), w), ys.1, same, whole) in
      let it : statements.Function name ret params ys.0 ≡ t = same_function (unknown_context names) form places name ret params ys.0 ts us plain also defined t front back first (sym there ∙ here) in
      let all = among names toks ts us (tokens_left left toks) there (among_left names toks left named) in
      let parts = among names toks opening body ts whole all.0 in
      let one = among names toks f b opening w parts.0 in
      let two = among names toks f2 b2 b w2 one.1 in
      let three = among names toks f3 b3 b2 w3 two.1 in
      let four = among names toks f4 b4 b3 w4 three.1 in
      let marks : mark_count f4 ≤ mark_count toks = four.0.marks in
      let size : length f4 ≤ length toks = four.0.size in
      let registers : c.registers ≡ table_of (registers_of names (numbering (length names) []) head.params ys.0) =
      ap (λ s. table_of (registers_in names s)) (sym it) ∙ ap (λ ps. table_of (registers_of names (numbering (length names) []) ps ys.0)) (sym same) in
      let read : ReadBody c form places head blocks ys.0 = record {
        opening = f4;
        body = body;
        behind = us;
        short = omega (arith, size, few);
        few = omega (arith, marks, counted, few);
        named_opening = four.0.named;
        named_body = parts.1.named;
        is_head = h;
        known_is = is;
        unknown_is = ys.1;
        alike = ys.2;
        registers = registers;
      } in
      let lawful : LawfulBody m c head blocks ys.0 = body_lawful m c form places head blocks ys.0 (tells_by t) (names_by t) once few_names read in
      let locals : local_names names (length params) (registers_in names t) ≡ lawful.locals =
      ap (λ s. local_names names (length params) (registers_in names s)) (sym it)
      ∙ ap (λ ps. local_names names (length ps) (registers_of names (numbering (length names) []) ps ys.0)) (sym same)
      ∙ ap (local_names names (length head.params)) lawful.is
      ∙ locals_kept names head.params lawful.locals lawful.numbers in
      ap (λ ls. is_lawful_body m (record { name = bytes_of full name; params = params; locals = ls; ret = ret; blocks = Some blocks; line = line })) locals
      ∙ ap (λ ps. is_lawful_body m (record { name = bytes_of full name; params = ps; locals = lawful.locals; ret = ret; blocks = Some blocks; line = line })) (sym same)
      ∙ lawful.lawful (bytes_of full name) ret line
