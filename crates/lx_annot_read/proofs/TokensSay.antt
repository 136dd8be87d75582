-- Two texts with the same tokens say the same interface, lines aside.
use Rattle.std.proofs.Common.{◌≡◌, ℕ, zero, suc, ◌-◌, None, List, [], ◌∷◌, length, take, drop, Result, Ok, Err, refl, sym, ap, ◌∙◌, subst}
use Rattle.std.proofs.lemmas.List.{take-map, drop-map, length-map}
use Rattle.lx_words.specs.declared.token.Token.{Token}
use Rattle.lx_annot.specs.declared.interface.Interface.{Interface}
use Rattle.lx_annot_expressions.specs.Tokens.{Tok, tok_of, toks_of, most_tokens}
use Rattle.lx_annot_expressions.specs.Reading.{Read}
use Rattle.lx_annot_read.specs.declared.fault.Met.{Met}
use Rattle.lx_annot_read.specs.declared.head.Version.{Version}
use Rattle.lx_annot_read.specs.Head.{head_at}
use Rattle.lx_annot_read.specs.Interfaces.{empty, statement_at}
use Rattle.lx_annot_read.specs.Texts.{window, rest_behind, seen, limited, first_at, next_at, ◌and_then◌, body_at, ended, interface_at}
use Rattle.lx_annot_read.proofs.Aside.{Same, SameRead, statement_same}

and_ok : {A B : Type 0} (r : Result A Met) (f : A → Result B Met) (y : B) → (r and_then f) ≡ Ok y → (x : A) × (r ≡ Ok x) × (f x ≡ Ok y)
and_ok (Ok x) f y e = (x, refl, e)
and_ok (Err d) f y e = cc

ok_is : {A : Type 0} (x y : A) (r : Result A Met) → r ≡ Ok x → r ≡ Ok y → x ≡ y
ok_is x y (Ok z) p q = let a : z ≡ x = cc in let b : z ≡ y = cc in sym a ∙ b
ok_is x y (Err d) p q = cc

abbrev Answer : Type 0 → Type 0
Answer A = Result A Met

ok_alike : {A : Type 0} (x y : A) → ◌≡◌ {A = Answer A} (Ok x) (Ok y) → x ≡ y
ok_alike x y e = ok_is x y (Ok x) refl e

module _ (text other : List ℕ) where
  abbrev Alike : List Token → List Token → Type 0
  Alike tokens others = toks_of text tokens ≡ toks_of other others

  seen_alike : (tokens others : List Token) → Alike tokens others → seen text tokens ≡ seen other others
  seen_alike tokens others a = sym (take-map (tok_of text) most_tokens tokens) ∙ ap (take most_tokens) a ∙ take-map (tok_of other) most_tokens others

  window_alike : (tokens others : List Token) → Alike tokens others → length (window tokens) ≡ length (window others)
  window_alike tokens others a = sym (length-map (window tokens) (tok_of text)) ∙ ap length (seen_alike tokens others a) ∙ length-map (window others) (tok_of other)

  rest_alike : (tokens others : List Token) (left : List Tok) → Alike tokens others → Alike (rest_behind tokens left) (rest_behind others left)
  rest_alike tokens others left a =
      sym (drop-map (tok_of text) (length (window tokens) - length left) tokens) ∙ ap (drop (length (window tokens) - length left)) a ∙ ap (λ n. drop (n - length left) (toks_of other others)) (window_alike tokens others a) ∙ drop-map (tok_of other) (length (window others) - length left) others

  head_alike : {A : Type 0} (r : Read A) (x : A) (tokens others rest : List Token) → Alike tokens others → limited text None tokens r ≡ Ok (x, rest) → (rest' : List Token) × (limited other None others r ≡ Ok (x, rest')) × Alike rest rest'
  head_alike {A} (Ok y) x tokens others rest a e =
      let k = ok_alike {A = A × List Token} (y.0, rest_behind tokens y.1) (x, rest) e in
      (rest_behind others y.1, ap (λ (p : A × List Token). Ok (p.0, rest_behind others y.1)) k, subst (λ (p : A × List Token). Alike p.1 (rest_behind others y.1)) k (rest_alike tokens others y.1 a))
  head_alike (Err f) x tokens others rest a e = cc

  abbrev Followed : Interface → List Token → Result (Interface × List Token) Met → Type 0
  Followed i rest r = (j : Interface) × (rest' : List Token) × (r ≡ Ok (j, rest')) × Same i j × Alike rest rest'

  step_alike : (r s : Read Interface) → SameRead r s → (i : Interface) (tokens others rest : List Token) → Alike tokens others → limited text None tokens r ≡ Ok (i, rest) → Followed i rest (limited other None others s)
  step_alike (Ok x) (Ok y) (same, left) i tokens others rest a e =
      let k = ok_alike {A = Interface × List Token} (x.0, rest_behind tokens x.1) (i, rest) e in
      (y.0, rest_behind others y.1, refl, subst (λ (p : Interface × List Token). Same p.0 y.0) k same, subst (λ (p : Interface × List Token). Alike p.1 (rest_behind others y.1)) k (subst (λ l. Alike (rest_behind tokens x.1) (rest_behind others l)) left (rest_alike tokens others x.1 a)))
  step_alike (Ok x) (Err f) same i tokens others rest a e = absurd same
  step_alike (Err d) s same i tokens others rest a e = cc

  next_alike : (v : Version) (l m : ℕ) (i j i' : Interface) (tokens others rest : List Token) → Same i j → Alike tokens others → next_at text None v l i tokens ≡ Ok (i', rest) → Followed i' rest (next_at other None v m j others)
  unfolding next_at
  next_alike v l m i j i' tokens others rest s a e =
      step_alike (statement_at v l i (seen text tokens)) (statement_at v m j (seen other others)) (subst (λ ts. SameRead (statement_at v l i (seen text tokens)) (statement_at v m j ts)) (seen_alike tokens others a) (statement_same v l m i j (seen text tokens) s)) i' tokens others rest a e

  abbrev Said : Interface → Result Interface Met → Type 0
  Said i r = (j : Interface) × (r ≡ Ok j) × Same i j

  stays : (i j i' : Interface) → Same i j → i ≡ i' → Said i' (Ok j)
  stays i j i' s e = (j, refl, subst (λ k. Same k j) e s)

  goes : (v : Version) (n : ℕ) (i' j : Interface) (u : Token) (us : List Token) (x : Interface) (rest : List Token) → Followed x rest (next_at other None v u.line j (u ∷ us)) → ((k : Interface) (rest' : List Token) → Same x k → Alike rest rest' → Said i' (body_at other None v n k rest')) → Said i' (body_at other None v (suc n) j (u ∷ us))
  unfolding body_at
  goes v n i' j u us x rest (k, rest', e, s, a) further = subst (λ r. Said i' (r and_then λ p. body_at other None v n p.0 p.1)) (sym e) (further k rest' s a)

  body_alike : (v : Version) (n : ℕ) (i j i' : Interface) (tokens others : List Token) → Same i j → Alike tokens others → body_at text None v n i tokens ≡ Ok i' → Said i' (body_at other None v n j others)
  unfolding body_at
  body_alike v zero i j i' tokens others s a e = stays i j i' s (ok_alike i i' e)
  body_alike v (suc n) i j i' [] [] s a e = stays i j i' s (ok_alike i i' e)
  body_alike v (suc n) i j i' [] (u ∷ us) s a e = cc
  body_alike v (suc n) i j i' (t ∷ ts) [] s a e = cc
  body_alike v (suc n) i j i' (t ∷ ts) (u ∷ us) s a e =
      let x = and_ok (next_at text None v t.line i (t ∷ ts)) (λ p. body_at text None v n p.0 p.1) i' e in
      goes v n i' j u us x.0.0 x.0.1 (next_alike v t.line u.line i j x.0.0 (t ∷ ts) (u ∷ us) x.0.1 s a x.1) (λ k rest' s' a'. body_alike v n x.0.0 k i' x.0.1 rest' s' a' x.2)

  length_alike : (tokens others : List Token) → Alike tokens others → length tokens ≡ length others
  length_alike tokens others a = sym (length-map tokens (tok_of text)) ∙ ap length a ∙ length-map others (tok_of other)

  ends_alike : (i : Interface) (r : Result Interface Met) → Said i r → Said i (r and_then λ k. ended None k)
  ends_alike i r (j, e, s) = subst (λ q. Said i (q and_then λ k. ended None k)) (sym e) (j, refl, s)

  behind_alike : (v : Version) (i : Interface) (others rest : List Token) (rest' : List Token) → Alike rest rest' → first_at other None others ≡ Ok (v, rest') → body_at text None v (length rest) empty rest ≡ Ok i → Said i (interface_at other None others)
  unfolding interface_at
  behind_alike v i others rest rest' a f e =
      subst (λ q. Said i (q and_then λ h. body_at other None h.0 (length h.1) empty h.1 and_then λ k. ended None k)) (sym f)
      (ends_alike i (body_at other None v (length rest') empty rest')
      (subst (λ n. Said i (body_at other None v n empty rest')) (length_alike rest rest' a) (body_alike v (length rest) empty empty i rest rest' refl a e)))

  first_alike : (v : Version) (tokens others rest : List Token) → Alike tokens others → first_at text None tokens ≡ Ok (v, rest) → (rest' : List Token) × (first_at other None others ≡ Ok (v, rest')) × Alike rest rest'
  unfolding first_at
  first_alike v tokens others rest a e =
      let w = head_alike (head_at (seen text tokens)) v tokens others rest a e in
      (w.0, subst (λ ts. limited other None others (head_at ts) ≡ Ok (v, w.0)) (seen_alike tokens others a) w.1, w.2)

  parts : (tokens : List Token) (i : Interface) → interface_at text None tokens ≡ Ok i → (v : Version) × (rest : List Token) × (first_at text None tokens ≡ Ok (v, rest)) × (body_at text None v (length rest) empty rest ≡ Ok i)
  unfolding interface_at
  parts tokens i e =
      let h = and_ok (first_at text None tokens) (λ h. body_at text None h.0 (length h.1) empty h.1 and_then λ k. ended None k) i e in
      let b = and_ok (body_at text None h.0.0 (length h.0.1) empty h.0.1) (λ k. ended None k) i h.2 in
      (h.0.0, h.0.1, h.1, b.1 ∙ ap Ok (ok_alike b.0 i b.2))

  pub tokens_say : (tokens others : List Token) (i : Interface) → Alike tokens others → interface_at text None tokens ≡ Ok i → (j : Interface) × (interface_at other None others ≡ Ok j) × Same i j
  tokens_say tokens others i a e =
      let p = parts tokens i e in
      let f = first_alike p.0 tokens others p.1 a p.2 in
      behind_alike p.0 i others p.1 f.0 f.2 f.1 p.3
