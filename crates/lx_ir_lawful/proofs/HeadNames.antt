-- The names of the parameters of a function.
use Rattle.std.proofs.Common.{◌≡◌, ◌⊎◌, inl, inr, ℕ, suc, ◌+◌, ◌<◌, ◌≤◌, ◌^◌, Bool, true, false, ◌&&◌, ◌||◌, Option, Some, None, List, [], ◌∷◌, ◌++◌, length, map, slice_get, bytes_eq, refl, sym, ap, ◌∙◌, subst, arith}
use Rattle.std.specs.Prelude.{unwrap_or, not}
use Rattle.std.specs.List.{list_all, list_any}
use Rattle.std.proofs.lemmas.Bool.{and_from}
use Rattle.std.proofs.lemmas.List.{length-append, map-append}
use Rattle.std.proofs.lemmas.List.Folds.{list_all-append}
use Rattle.std.proofs.lemmas.Slice.Eq.{bytes_eq-Decides}
use Rattle.lx_words.specs.Text.{decimal_text}
use Rattle.lx_words.proofs.Injective.{number_texts}
use Rattle.lx_ir_tokens.specs.declared.token.Tok.{Tok}
use Rattle.lx_ir_tokens.specs.Names.{number_of}
use Rattle.lx_ir.specs.declared.types.Scalar.{Scalar}
use Rattle.lx_ir.specs.declared.module.Parameter.{Parameter}
use Rattle.lx_ir.specs.Lawful.{is_name, is_digit, is_word_byte, is_distinct, is_label}
use Rattle.lx_ir_tokens.specs.declared.token.Mark.{Mark}
use Rattle.lx_ir_tokens.specs.declared.token.Mark.TheVariants.{Comma, OpenParenthesis}
use Rattle.lx_ir.proofs.DigitNames.{all_stand, decimal_digits}
use Rattle.lx_ir_terms.specs.Context.{Context}
use Rattle.lx_ir_terms.specs.Reading.{is_mark}
use Rattle.lx_ir_terms.proofs.Marks.{mark_is}
use Rattle.lx_ir_constants.specs.Constants.{is_register}
use Rattle.lx_ir_statements.specs.declared.head.Head.{Head}
use Rattle.lx_ir_statements.specs.Numbers.{has_number, has_some}
use Rattle.lx_ir_statements.specs.Parameters.{is_number, counted, no_parameters, with_parameter, next_name, next_number}
use Rattle.lx_ir_statements.specs.HeadGrammar.{IsName, IsParameter, AreFurtherParameters, AreParameters, IsHead}
use Rattle.lx_ir_statements.proofs.TypeNames.{local_name_is}
use Rattle.lx_ir_lawful.specs.Named.{AllNamed}
use Rattle.lx_ir_lawful.proofs.NamedForms.{front, back}
use Rattle.lx_ir_lawful.specs.NamedThings.{somes, numbers_of, AreOnce}
use Rattle.lx_ir_lawful.specs.TokenNames.{counted_mark, mark_count, IsNamed}
use Rattle.lx_ir_lawful.proofs.Placed.{number_at_place}
use Rattle.lx_ir_lawful.proofs.NamedThings.{somes_more, distinct_more, lacks}
use Rattle.lx_ir_lawful.specs.BodyLaws.{said_by}
use Rattle.lx_ir_lawful.proofs.RegisterTables.{unknown}

-- Decimal texts.

name_of_digits : (bs : List ℕ) → 0 < length bs → list_all is_digit bs ≡ true → is_name bs ≡ true
name_of_digits [] some h = absurd (omega (arith, some))
name_of_digits (b ∷ bs) some h = all_stand (b ∷ bs) h

label_of_digits : (bs : List ℕ) → 0 < length bs → list_all is_digit bs ≡ true → is_label bs ≡ true
label_of_digits [] some h = absurd (omega (arith, some))
label_of_digits (b ∷ bs) some h = ap (λ v. v || not (is_digit b) && list_all is_word_byte (b ∷ bs)) h

decimal_is_name : (n : ℕ) → is_name (decimal_text n) ≡ true
decimal_is_name n = name_of_digits (decimal_text n) (number_texts.some n) (decimal_digits n)

pub decimal_is_label : (n : ℕ) → is_label (decimal_text n) ≡ true
decimal_is_label n = label_of_digits (decimal_text n) (number_texts.some n) (decimal_digits n)

-- Parameters.

any_split : (p : List ℕ → Bool) (xs : List (List ℕ)) (x : List ℕ) → list_any p (xs ++ x ∷ []) ≡ true → (list_any p xs ≡ true) ⊎ (p x ≡ true)
any_split p [] x h = inr (one (p x) h)
  where
    one : (b : Bool) → (b || false) ≡ true → b ≡ true
    one true e = refl
    one false e = e
any_split p (y ∷ xs) x h = by (p y) (list_any p (xs ++ x ∷ [])) (list_any p xs) h (any_split p xs x)
  where
    by : (a b c : Bool) → (a || b) ≡ true → (b ≡ true → (c ≡ true) ⊎ (p x ≡ true)) → ((a || c) ≡ true) ⊎ (p x ≡ true)
    by true b c e f = inl refl
    by false b c e f = f e

module _ (names : List (List ℕ)) (once : AreOnce names) where
  abbrev u : Context
  u = unknown names

  -- the parameters so far: distinct names, of which those that are not in the table are numbers below the next
  pub record GoodHead (h : Head) : Type 0 where
    pub distinct : is_distinct (said_by h.params) ≡ true
    pub each : list_all is_name (said_by h.params) ≡ true
    pub numbers : numbers_of names (said_by h.params) ≡ h.registers
    pub numbered : (w : List ℕ) → list_any (bytes_eq w) (said_by h.params) ≡ true → number_of names w ≡ None → (i : ℕ) × (i < h.numbered) × (w ≡ decimal_text i)

  counted_more : (b : Bool) (n : ℕ) → n ≤ counted b n
  counted_more true n = omega arith
  counted_more false n = omega arith

  good_no : GoodHead no_parameters
  good_no = record { distinct = refl; each = refl; numbers = refl; numbered = λ w e n. absurd (cc e) }

  -- one parameter more, whose name none has
  good_more : (h : Head) (name : List ℕ) (ty : Scalar) → GoodHead h → has_some h.registers (number_of names name) ≡ false → list_any (bytes_eq name) (said_by h.params) ≡ false → is_name name ≡ true
      → (number_of names name ≡ None → (i : ℕ) × (i < counted (is_number name) h.numbered) × (name ≡ decimal_text i)) → GoodHead (with_parameter h (number_of names name) name ty)
  good_more h name ty g free absent is_it number =
      let p : Parameter = record { name = name; ty = ty } in
      let said : said_by (h.params ++ p ∷ []) ≡ said_by h.params ++ name ∷ [] = map-append (λ (q : Parameter). q.name) h.params (p ∷ []) in
      let things : map (number_of names) (said_by h.params ++ name ∷ []) ≡ map (number_of names) (said_by h.params) ++ number_of names name ∷ [] = map-append (number_of names) (said_by h.params) (name ∷ []) in
      record {
        distinct = ap is_distinct said ∙ distinct_more (said_by h.params) name g.distinct absent;
        each = ap (list_all is_name) said ∙ list_all-append is_name (said_by h.params) (name ∷ []) ∙ and_from (list_all is_name (said_by h.params)) (is_name name && true) g.each (and_from (is_name name) true is_it refl);
        numbers = ap (numbers_of names) said ∙ ap somes things ∙ somes_more (map (number_of names) (said_by h.params)) (number_of names name) h.registers g.numbers free;
        numbered = λ w e none. by w none (any_split (bytes_eq w) (said_by h.params) name (ap (list_any (bytes_eq w)) (sym said) ∙ e));
      }
    where
      by : (w : List ℕ) → number_of names w ≡ None → (list_any (bytes_eq w) (said_by h.params) ≡ true) ⊎ (bytes_eq w name ≡ true) → (i : ℕ) × (i < counted (is_number name) h.numbered) × (w ≡ decimal_text i)
      by w none (inl e) =
          let old = g.numbered w e none in
          let up : h.numbered ≤ counted (is_number name) h.numbered = counted_more (is_number name) h.numbered in
          let less : old.0 < h.numbered = old.1 in
          (old.0, omega (arith, less, up), old.2)
      by w none (inr e) =
          let same : w ≡ name = (bytes_eq-Decides w name).0 e in
          let new = number (ap (number_of names) (sym same) ∙ none) in
          (new.0, new.1, same ∙ new.2)

  -- a name that is written
  good_written : (h : Head) (n : ℕ) (w : List ℕ) (ty : Scalar) → GoodHead h → slice_get names n ≡ Some w → is_name w ≡ true → has_number h.registers n ≡ false → GoodHead (with_parameter h (number_of names w) w ty)
  good_written h n w ty g at is_it free =
      let it : number_of names w ≡ Some n = number_at_place names once n w at in
      good_more h w ty g (ap (has_some h.registers) it ∙ free) (lacks names (said_by h.params) w n it (ap (λ ns. has_number ns n) g.numbers ∙ free)) is_it
      (λ none. absurd (apart n (sym it ∙ none)))
    where
      apart : (k : ℕ) → Some k ≡ None → ⊥
      apart k e = cc e

  -- the next number
  next_absent : (h : Head) (o : Option ℕ) (b : Bool) → h.numbered < 2 ^ 128 → GoodHead h → number_of names (next_name h) ≡ o → has_some h.registers o ≡ false → list_any (bytes_eq (next_name h)) (said_by h.params) ≡ b → b ≡ false
  next_absent h (Some n) b small g it free e = sym e ∙ lacks names (said_by h.params) (next_name h) n it (ap (λ ns. has_number ns n) g.numbers ∙ free)
  next_absent h None false small g it free e = refl
  next_absent h None true small g it free e =
      let old = g.numbered (next_name h) e it in
      let less : old.0 < h.numbered = old.1 in
      let same : h.numbered ≡ old.0 = number_texts.decimal h.numbered old.0 small (omega (arith, less, small)) old.2 in
      absurd (omega (arith, same, less))

  good_next : (h : Head) (ty : Scalar) → h.numbered < 2 ^ 128 → GoodHead h → has_some h.registers (next_number u h) ≡ false → GoodHead (with_parameter h (next_number u h) (next_name h) ty)
  good_next h ty small g free =
      good_more h (next_name h) ty g free (next_absent h (number_of names (next_name h)) _ small g refl free refl) (decimal_is_name h.numbered)
      (λ none. let up : h.numbered < counted (is_number (next_name h)) h.numbered = subst (λ b. h.numbered < counted b h.numbered) (sym (decimal_digits h.numbered)) (omega arith) in (h.numbered, up, refl))

  good_by : (h : Head) (number : Option ℕ) (name : List ℕ) (ty : Scalar) (ts : List Tok) → h.numbered < 2 ^ 128 → GoodHead h → has_some h.registers number ≡ false → AllNamed (IsNamed names) ts → IsName u h number name ts → GoodHead (with_parameter h number name ty)
  good_by h number name ty ts small g free all (inl (n, (t, e, w), is, said)) =
      let local = local_name_is t.kind t.name n e in
      let named : IsNamed names n = subst (IsNamed names) local.1 ((subst (AllNamed (IsNamed names)) w all).0 (ap is_register local.0)) in
      let it : number_of names named.0 ≡ Some n = number_at_place names once n named.0 named.1 in
      let same : name ≡ named.0 = said ∙ ap (λ o. unwrap_or o []) named.1 in
      let good = good_written h n named.0 ty g named.1 named.2 (ap (has_some h.registers) (sym is) ∙ free) in
      subst (λ o. GoodHead (with_parameter h o name ty)) (it ∙ sym is) (subst (λ v. GoodHead (with_parameter h (number_of names named.0) v ty)) (sym same) good)
  good_by h number name ty ts small g free all (inr (none, is, said)) =
      let good = good_next h ty small g (ap (has_some h.registers) (sym is) ∙ free) in
      subst (λ o. GoodHead (with_parameter h o name ty)) (sym is) (subst (λ v. GoodHead (with_parameter h (next_number u h) v ty)) (sym said) good)

  -- numbers stay small, since each parameter has a token
  counted_less : (b : Bool) (n : ℕ) → counted b n ≤ suc n
  counted_less true n = omega arith
  counted_less false n = omega arith

  one_parameter : (h : Head) (number : Option ℕ) (p : Parameter) (ts : List Tok) → h.numbered + length ts < 2 ^ 128 → GoodHead h → has_some h.registers number ≡ false → AllNamed (IsNamed names) ts → IsParameter u h number p ts
      → GoodHead (with_parameter h number p.name p.ty) × (0 < length ts)
  one_parameter h number p ts small g free all (f, b, (t, e, w3), (f2, b2, passed, name, w2), w) =
      let size : length ts ≡ suc (length b) = ap length (w ∙ ap (λ v. v ++ b) w3) in
      (good_by h number p.name p.ty b2 (omega (arith, small)) g free (back (IsNamed names) f2 b2 b w2 (back (IsNamed names) f b ts w all)) name, omega (arith, size))

  further : (ps : List Parameter) (h last : Head) (ts : List Tok) → h.numbered + length ts < 2 ^ 128 → GoodHead h → AllNamed (IsNamed names) ts → AreFurtherParameters u h ps last ts → GoodHead last
  further [] h last ts small g all (same, none) = subst GoodHead same g
  further (p ∷ ps) h last ts small g all (number, free, (f, b, m, (f2, b2, one, more, w2), w)) =
      let all1 = back (IsNamed names) f b ts w all in
      let size : length ts ≡ length f + length b = ap length w ∙ length-append f b in
      let size2 : length b ≡ length f2 + length b2 = ap length w2 ∙ length-append f2 b2 in
      let step = one_parameter h number p f2 (omega (arith, small, size, size2)) g free (front (IsNamed names) f2 b2 b w2 all1) one in
      let up : counted (is_number p.name) h.numbered ≤ suc h.numbered = counted_less (is_number p.name) h.numbered in
      let some : 0 < length f2 = step.1 in
      further ps (with_parameter h number p.name p.ty) last b2 (omega (arith, small, size, size2, up, some)) step.0 (back (IsNamed names) f2 b2 b w2 all1) more

  parameters : (ps : List Parameter) (last : Head) (ts : List Tok) → length ts < 2 ^ 128 → AllNamed (IsNamed names) ts → AreParameters u ps last ts → GoodHead last
  parameters [] last ts small all (same, none) = subst GoodHead same good_no
  parameters (p ∷ ps) last ts small all (number, (f, b, one, more, w)) =
      let size : length ts ≡ length f + length b = ap length w ∙ length-append f b in
      let step = one_parameter no_parameters number p f (omega (arith, small, size)) good_no (free number) (front (IsNamed names) f b ts w all) one in
      let up : counted (is_number p.name) 0 ≤ 1 = counted_less (is_number p.name) 0 in
      let some : 0 < length f = step.1 in
      further ps (with_parameter no_parameters number p.name p.ty) last b (omega (arith, small, size, up, some)) step.0 (back (IsNamed names) f b ts w all) more
    where
      free : (o : Option ℕ) → has_some [] o ≡ false
      free None = refl
      free (Some n) = refl

  pub head_good : (head : Head) (ts : List Tok) → length ts < 2 ^ 128 → AllNamed (IsNamed names) ts → IsHead u head ts → GoodHead head
  head_good head ts small all (f, b, o, (f2, b2, ps, m, w2), w) =
      let size : length ts ≡ length f + length b = ap length w ∙ length-append f b in
      let size2 : length b ≡ length f2 + length b2 = ap length w2 ∙ length-append f2 b2 in
      parameters head.params head f2 (omega (arith, small, size, size2)) (front (IsNamed names) f2 b2 b w2 (back (IsNamed names) f b ts w all)) ps

  -- Each parameter stands behind a mark.

  marks_joined : (f b : List Tok) → mark_count (f ++ b) ≡ mark_count f + mark_count b
  marks_joined [] b = omega arith
  marks_joined (t ∷ f) b = let e = marks_joined f b in omega (arith, e)

  one_mark : (m : Mark) (t : Tok) (f : List Tok) → is_mark m t.kind ≡ true → f ≡ t ∷ [] → mark_count f ≡ 1
  one_mark m t f k e = let c : counted_mark t.kind ≡ 1 = ap counted_mark (mark_is m t.kind k) in let one : mark_count (t ∷ []) ≡ 1 = omega (arith, c) in ap mark_count e ∙ one

  further_few : (ps : List Parameter) (h last : Head) (ts : List Tok) → AreFurtherParameters u h ps last ts → length last.params ≤ length h.params + mark_count ts
  further_few [] h last ts (same, none) = let e : length h.params ≡ length last.params = ap (λ (x : Head). length x.params) same in omega (arith, e)
  further_few (p ∷ ps) h last ts (number, free, (f, b, (t, k, g), (f2, b2, one, more, w2), w)) =
      let size : mark_count ts ≡ mark_count f + mark_count b = ap mark_count w ∙ marks_joined f b in
      let size2 : mark_count b ≡ mark_count f2 + mark_count b2 = ap mark_count w2 ∙ marks_joined f2 b2 in
      let comma : mark_count f ≡ 1 = one_mark Comma t f k g in
      let longer : length (h.params ++ record { name = p.name; ty = p.ty } ∷ []) ≡ length h.params + 1 = length-append h.params (record { name = p.name; ty = p.ty } ∷ []) in
      let rest : length last.params ≤ length (h.params ++ record { name = p.name; ty = p.ty } ∷ []) + mark_count b2 = further_few ps (with_parameter h number p.name p.ty) last b2 more in
      omega (arith, size, size2, comma, longer, rest)

  parameters_few : (ps : List Parameter) (last : Head) (ts : List Tok) → AreParameters u ps last ts → length last.params ≤ 1 + mark_count ts
  parameters_few [] last ts (same, none) = let e : 0 ≡ length last.params = ap (λ (x : Head). length x.params) same in omega (arith, e)
  parameters_few (p ∷ ps) last ts (number, (f, b, one, more, w)) =
      let size : mark_count ts ≡ mark_count f + mark_count b = ap mark_count w ∙ marks_joined f b in
      let rest : length last.params ≤ 1 + mark_count b = further_few ps (with_parameter no_parameters number p.name p.ty) last b more in
      omega (arith, size, rest)

  pub head_few : (head : Head) (ts : List Tok) → IsHead u head ts → length head.params ≤ mark_count ts
  head_few head ts (f, b, (t, k, g), (f2, b2, ps, m, w2), w) =
      let size : mark_count ts ≡ mark_count f + mark_count b = ap mark_count w ∙ marks_joined f b in
      let size2 : mark_count b ≡ mark_count f2 + mark_count b2 = ap mark_count w2 ∙ marks_joined f2 b2 in
      let opening : mark_count f ≡ 1 = one_mark OpenParenthesis t f k g in
      let rest : length head.params ≤ 1 + mark_count f2 = parameters_few head.params head f2 ps in
      omega (arith, size, size2, opening, rest)
