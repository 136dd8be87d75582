-- Texts whose statements are read one after the other: where the first fault is a token that cannot stand there, it is met again in each
-- text with the same tokens up to it.
use Rattle.std.proofs.Common.{◌≡◌, ◌⊎◌, inl, inr, ℕ, zero, suc, ◌+◌, ◌-◌, ◌≤◌, ◌<◌, min, Option, List, [], ◌∷◌, ◌++◌, length, take, drop, Result, Ok, Err, refl, sym, ap, ◌∙◌, subst, append_assoc, arith, codes, slice_get}
use Rattle.std.specs.Option.{option_map_or}
use Rattle.std.proofs.lemmas.List.{length-append, length-map, length-take, map-append, take-append-drop}
use Rattle.lx_words.specs.declared.token.Token.{Token}
use Rattle.lx_words.specs.declared.token.Stop.{Stop}
use Rattle.lx_annot_expressions.specs.Tokens.{Tok, tok_of, toks_of, most_tokens}
use Rattle.lx_annot_expressions.specs.Reading.{Read}
use Rattle.lx_annot_read.specs.declared.fault.Kind.TheVariants as kinds
use Rattle.lx_annot_read.specs.declared.fault.Met.{Met}
use Rattle.lx_annot_read.specs.Faults.{met_as, last_line}
use Rattle.lx_annot_read.specs.Texts.{seen, limited, ◌and_then◌}
use Rattle.lx_annot_laws.proofs.TextLaws.{further}
use Rattle.lx_annot_laws.proofs.Local.{first_of, Looks, same_split, Same, Local, Plain}
use Rattle.lx_annot_laws.proofs.Loops.{Hungry}
use Rattle.lx_annot_laws.proofs.Limited.{AllTidy, tidy_there, tidy_behind, further_count, count_alike, refused_at, IsSpoken, IsEnded, ok_met, same_met, FailsAt, fails_at, fails_again, Passes, passes}

-- A text stops at a token, and so does each other text with the same tokens up to it.
pub record Stopped (text : List ℕ) (tokens : List Token) (met : Met) (Again : List ℕ → Option Stop → List Token → Met → Type 0) : Type 0 where
  pub before : List Token
  pub token : Token
  pub more : List Token
  pub whole : tokens ≡ before ++ token ∷ more
  pub is : met ≡ refused_at met.kind text token
  pub again : (other : List ℕ) (stop : Option Stop) (front : List Token) (t : Token) (rest : List Token) → toks_of text (before ++ token ∷ []) ≡ toks_of other (front ++ t ∷ []) → Again other stop (front ++ t ∷ rest) (refused_at met.kind other t)

-- The first tokens of two texts.

first_only : (text : List ℕ) (before : List Token) (t : Token) (more : List Token) → first_of (toks_of text (before ++ t ∷ more)) ≡ first_of (toks_of text (before ++ t ∷ []))
first_only text [] t more = refl
first_only text (b ∷ before) t more = refl

-- The other text falls apart where the first one does.
pub record Parted (text other : List ℕ) (front before : List Token) (t : Token) (whole : List Token) (u : Token) : Type 0 where
  pub head : List Token
  pub back : List Token
  pub is : whole ≡ head ++ back
  pub same : toks_of text front ≡ toks_of other head
  pub alike : toks_of text (before ++ t ∷ []) ≡ toks_of other (back ++ u ∷ [])

pub parted : (text other : List ℕ) (front before : List Token) (t : Token) (whole : List Token) (u : Token) → toks_of text ((front ++ before) ++ t ∷ []) ≡ toks_of other (whole ++ u ∷ []) → Parted text other front before t whole u
parted text other front before t whole u e =
    let head : List Token = take (length front) whole in
    let back : List Token = drop (length front) whole in
    let is : head ++ back ≡ whole = take-append-drop (length front) whole in
    let a : length ((front ++ before) ++ t ∷ []) ≡ length (whole ++ u ∷ []) = count_alike text other ((front ++ before) ++ t ∷ []) (whole ++ u ∷ []) e in
    let b : length ((front ++ before) ++ t ∷ []) ≡ length (front ++ before) + 1 = length-append (front ++ before) (t ∷ []) in
    let c : length (front ++ before) ≡ length front + length before = length-append front before in
    let d : length (whole ++ u ∷ []) ≡ length whole + 1 = length-append whole (u ∷ []) in
    let f : length head ≡ min (length front) (length whole) = length-take (length front) whole in
    let g : length whole ≡ length head + length back = ap length (sym is) ∙ length-append head back in
    let h : length (toks_of text (before ++ t ∷ [])) ≡ length before + 1 = length-map (before ++ t ∷ []) (tok_of text) ∙ length-append before (t ∷ []) in
    let i : length (toks_of other (back ++ u ∷ [])) ≡ length back + 1 = length-map (back ++ u ∷ []) (tok_of other) ∙ length-append back (u ∷ []) in
    let one : toks_of text front ++ toks_of text (before ++ t ∷ []) ≡ toks_of text ((front ++ before) ++ t ∷ []) = sym (map-append (tok_of text) front (before ++ t ∷ [])) ∙ ap (toks_of text) (sym (append_assoc front before (t ∷ []))) in
    let two : toks_of other (whole ++ u ∷ []) ≡ toks_of other head ++ toks_of other (back ++ u ∷ []) = ap (λ w. toks_of other (w ++ u ∷ [])) (sym is) ∙ ap (toks_of other) (append_assoc head back (u ∷ [])) ∙ map-append (tok_of other) head (back ++ u ∷ []) in
    let s = same_split (toks_of text front) (toks_of text (before ++ t ∷ [])) (toks_of other head) (toks_of other (back ++ u ∷ [])) (one ∙ e ∙ two) (omega (arith, a, b, c, d, f, g, h, i)) in
    record { head = head; back = back; is = sym is; same = s.0; alike = s.1 }

-- the tokens behind a front begin alike too
pub parted_look : (text other : List ℕ) (before : List Token) (t : Token) (more back : List Token) (u : Token) (rest : List Token) → toks_of text (before ++ t ∷ []) ≡ toks_of other (back ++ u ∷ []) → Looks (toks_of text (before ++ t ∷ more)) (toks_of other (back ++ u ∷ rest))
parted_look text other before t more back u rest e = first_only text before t more ∙ ap first_of e ∙ sym (first_only other back u rest)

pub last_behind : (front rest : List Token) → 0 < length rest → last_line (front ++ rest) ≡ last_line rest
last_behind [] rest some = refl
last_behind (t ∷ front) rest some =
    let count : length (front ++ rest) ≡ length front + length rest = length-append front rest in
    let place : suc (length (front ++ rest)) - 1 ≡ suc (length (front ++ rest) - 1) = omega (arith, count, some) in
    ap (λ k. option_map_or (λ (u : Token). u.line) (slice_get (t ∷ (front ++ rest)) k) 1) place ∙ last_behind front rest some

-- Statements one after the other; the line of each is that of its first token.
module _ {S : Type 0} (step : ℕ → S → List Tok → Read S) where
  abbrev pub loop : List ℕ → Option Stop → ℕ → S → List Token → Result S Met
  loop text stop zero s tokens = Ok s
  loop text stop (suc n) s [] = Ok s
  loop text stop (suc n) s (t ∷ ts) = limited text stop (t ∷ ts) (step t.line s (seen text (t ∷ ts))) and_then λ x. loop text stop n x.0 x.1

  loop_some : (text : List ℕ) (stop : Option Stop) (n : ℕ) (s : S) (tokens : List Token) (met : Met) → loop text stop n s tokens ≡ Err met → 0 < length tokens
  loop_some text stop zero s tokens met e = absurd (ok_met s met e)
  loop_some text stop (suc n) s [] met e = absurd (ok_met s met e)
  loop_some text stop (suc n) s (t ∷ ts) met e = omega arith

  again_first : (other : List ℕ) (stop : Option Stop) (others : List Token) (m : ℕ) (r : S) (met : Met) → ((l : ℕ) → limited other stop others (step l r (seen other others)) ≡ Err met) → 0 < length others → length others ≤ m → loop other stop m r others ≡ Err met
  again_first other stop [] m r met f some le = absurd (omega (arith, some))
  again_first other stop (u ∷ us) zero r met f some le = absurd (omega (arith, le))
  again_first other stop (u ∷ us) (suc m) r met f some le = ap (λ (q : Result (S × List Token) Met). q and_then λ x. loop other stop m x.0 x.1) (f u.line)

  abbrev GoesOn : List ℕ → Option Stop → List Token → S → Met → List Token → ℕ → Type 0
  GoesOn other stop others r met rest l = (y : S) × (limited other stop others (step l r (seen other others)) ≡ Ok (y, rest)) × ((n : ℕ) → length rest ≤ n → loop other stop n y rest ≡ Err met)

  again_next : (other : List ℕ) (stop : Option Stop) (others rest : List Token) (m : ℕ) (r : S) (met : Met) → ((l : ℕ) → GoesOn other stop others r met rest l) → length rest < length others → length others ≤ m → loop other stop m r others ≡ Err met
  again_next other stop [] rest m r met f less le = absurd (omega (arith, less))
  again_next other stop (u ∷ us) rest zero r met f less le = absurd (omega (arith, le))
  again_next other stop (u ∷ us) rest (suc m) r met f less le =
      let g = f u.line in
      ap (λ (q : Result (S × List Token) Met). q and_then λ x. loop other stop m x.0 x.1) g.1 ∙ g.2 m (omega (arith, less, le))

  module _ (R : S → S → Type 0) (same : (s : S) → R s s) (local : (l m : ℕ) (s r : S) → R s r → Local R (step l s) (step m r)) (hungry : (l : ℕ) (s : S) → Hungry (step l s)) where
    abbrev pub LoopAgain : S → List ℕ → Option Stop → List Token → Met → Type 0
    LoopAgain s other stop others met = (m : ℕ) (r : S) → R s r → length others ≤ m → loop other stop m r others ≡ Err met

    abbrev pub LoopHalts : List ℕ → Option Stop → S → List Token → Met → Type 0
    LoopHalts text stop s tokens met = Stopped text tokens met (LoopAgain s) ⊎ IsEnded stop tokens met

    -- the next statement is at fault
    halts_here : (text : List ℕ) (stop : Option Stop) (s : S) (tokens : List Token) (l : ℕ) (met : Met) → AllTidy text tokens → FailsAt text stop tokens (step l s) met → Stopped text tokens met (LoopAgain s)
    halts_here text stop s tokens l met tidy f = record {
      before = f.before;
      token = f.token;
      more = f.more;
      whole = f.whole;
      is = f.is;
      again = λ other stop' front t rest alike m r related le.
          let count : length (front ++ t ∷ rest) ≡ length front + suc (length rest) = length-append front (t ∷ rest) in
          again_first other stop' (front ++ t ∷ rest) m r (refused_at met.kind other t)
          (λ k. fails_again R text stop tokens (step l s) (step k r) met f (local l k s r related) (tidy_there text f.before f.token f.more (subst (AllTidy text) f.whole tidy)) other stop' front t rest alike)
          (omega (arith, count)) le;
    }

    -- a statement is read, and one behind it is at fault
    halts_behind : (text : List ℕ) (stop : Option Stop) (s x : S) (tokens rest : List Token) (l : ℕ) (met : Met) (p : Passes R text stop tokens (step l s) x rest) → 0 < length p.front → Stopped text rest met (LoopAgain x) → Stopped text tokens met (LoopAgain s)
    halts_behind text stop s x tokens rest l met p some st = record {
      before = p.front ++ st.before;
      token = st.token;
      more = st.more;
      whole = p.whole ∙ ap (λ r. p.front ++ r) st.whole ∙ sym (append_assoc p.front st.before (st.token ∷ st.more));
      is = st.is;
      again = λ other stop' front t behind alike m r related le.
          let q = parted text other p.front st.before st.token front t alike in
          let all : front ++ t ∷ behind ≡ q.head ++ (q.back ++ t ∷ behind) = ap (λ w. w ++ t ∷ behind) q.is ∙ append_assoc q.head q.back (t ∷ behind) in
          let count : length (q.head ++ (q.back ++ t ∷ behind)) ≡ length q.head + length (q.back ++ t ∷ behind) = length-append q.head (q.back ++ t ∷ behind) in
          let size : length p.front ≡ length q.head = count_alike text other p.front q.head q.same in
          let look : Looks (toks_of text rest) (toks_of other (q.back ++ t ∷ behind)) = subst (λ w. Looks (toks_of text w) (toks_of other (q.back ++ t ∷ behind))) (sym st.whole) (parted_look text other st.before st.token st.more q.back t behind q.alike) in
          let fits : length (q.head ++ (q.back ++ t ∷ behind)) ≤ m = subst (λ w. length w ≤ m) all le in
          subst (λ w. loop other stop' m r w ≡ Err (refused_at met.kind other t)) (sym all)
          (again_next other stop' (q.head ++ (q.back ++ t ∷ behind)) (q.back ++ t ∷ behind) m r (refused_at met.kind other t)
          (λ k. let a = p.again (step k r) (local l k s r related) other stop' q.head (q.back ++ t ∷ behind) q.same look in (a.0, a.1, λ n room. st.again other stop' q.back t behind q.alike n a.0 a.2 room))
          (omega (arith, count, size, some)) fits);
    }

    taken_first : (n : ℕ) (t : Token) (ts : List Token) → 0 < n → (vs : List Token) × (take n (t ∷ ts) ≡ t ∷ vs)
    taken_first zero t ts some = absurd (omega (arith, some))
    taken_first (suc n) t ts some = (take n ts, refl)

    -- a statement takes a token
    front_some : (text : List ℕ) (stop : Option Stop) (s x : S) (t : Token) (ts rest : List Token) (l : ℕ) (p : Passes R text stop (t ∷ ts) (step l s) x rest) → 0 < length p.front
    front_some text stop s x t ts rest l p =
        let v = taken_first most_tokens t ts (omega arith) in
        let is : seen text (t ∷ ts) ≡ tok_of text t ∷ toks_of text v.0 = ap (toks_of text) v.1 in
        let less = hungry l s (tok_of text t) (toks_of text v.0) (further text stop p.front rest) x (ap (step l s) (sym is) ∙ p.is) in
        let whole = further_count text stop p.front rest p.short in
        let count : length (seen text (t ∷ ts)) ≡ suc (length (toks_of text v.0)) = ap length is in
        let all : length (seen text (t ∷ ts)) ≡ length (seen text (p.front ++ rest)) = ap (λ w. length (seen text w)) p.whole in
        omega (arith, less, whole, count, all)

    ended_behind : (text : List ℕ) (stop : Option Stop) (tokens front rest : List Token) (met : Met) → tokens ≡ front ++ rest → 0 < length rest → IsEnded stop rest met → IsEnded stop tokens met
    ended_behind text stop tokens front rest met whole some (none, is) = (none, is ∙ ap (λ l. met_as kinds.Statement l (codes "end")) (sym (ap last_line whole ∙ last_behind front rest some)))

    module _ (text : List ℕ) (stop : Option Stop) (met : Met) (kind : IsSpoken met) where
      here_or_end : (s : S) (tokens : List Token) (l : ℕ) → AllTidy text tokens → FailsAt text stop tokens (step l s) met ⊎ IsEnded stop tokens met → LoopHalts text stop s tokens met
      here_or_end s tokens l tidy (inl f) = inl (halts_here text stop s tokens l met tidy f)
      here_or_end s tokens l tidy (inr e) = inr e

      behind_or_end : (s x : S) (t : Token) (ts rest : List Token) (l : ℕ) → Passes R text stop (t ∷ ts) (step l s) x rest → 0 < length rest → LoopHalts text stop x rest met → LoopHalts text stop s (t ∷ ts) met
      behind_or_end s x t ts rest l p some (inl st) = inl (halts_behind text stop s x (t ∷ ts) rest l met p (front_some text stop s x t ts rest l p) st)
      behind_or_end s x t ts rest l p some (inr e) = inr (ended_behind text stop (t ∷ ts) p.front rest met p.whole some e)

      by_next : (n : ℕ) (s : S) (t : Token) (ts : List Token) → AllTidy text (t ∷ ts) → ((x : S) (rest : List Token) → AllTidy text rest → loop text stop n x rest ≡ Err met → LoopHalts text stop x rest met)
          → (r : Result (S × List Token) Met) → limited text stop (t ∷ ts) (step t.line s (seen text (t ∷ ts))) ≡ r → (r and_then λ x. loop text stop n x.0 x.1) ≡ Err met → LoopHalts text stop s (t ∷ ts) met
      by_next n s t ts tidy more (Err d) w e =
          here_or_end s (t ∷ ts) t.line tidy
          (fails_at text stop (t ∷ ts) (step t.line s) ((local t.line t.line s s (same s)).stops) met kind (w ∙ ap (λ m. Err m) (same_met {A = S} d met e)))
      by_next n s t ts tidy more (Ok x) w e =
          let p = passes R text stop (t ∷ ts) (step t.line s) ((local t.line t.line s s (same s)).ends) x.0 x.1 w in
          behind_or_end s x.0 t ts x.1 t.line p (loop_some text stop n x.0 x.1 met e) (more x.0 x.1 (tidy_behind text p.front x.1 (subst (AllTidy text) p.whole tidy)) e)

      pub loop_halts : (n : ℕ) (s : S) (tokens : List Token) → AllTidy text tokens → loop text stop n s tokens ≡ Err met → LoopHalts text stop s tokens met
      loop_halts zero s tokens tidy e = absurd (ok_met s met e)
      loop_halts (suc n) s [] tidy e = absurd (ok_met s met e)
      loop_halts (suc n) s (t ∷ ts) tidy e = by_next n s t ts tidy (λ x rest h f. loop_halts n x rest h f) (limited text stop (t ∷ ts) (step t.line s (seen text (t ∷ ts)))) refl e

-- A first line, statements, and what is asked at the end.
module _ {H S I : Type 0} (head : List Tok → Read H) (plain : Plain head) (step : H → ℕ → S → List Tok → Read S) (R : S → S → Type 0) (same : (s : S) → R s s) (local : (h : H) (l m : ℕ) (s r : S) → R s r → Local R (step h l s) (step h m r)) (hungry : (h : H) (l : ℕ) (s : S) → Hungry (step h l s)) (start : S) (finish : List Token → Option Stop → S → Result I Met) where
  abbrev pub whole_at : List ℕ → Option Stop → List Token → Result I Met
  whole_at text stop tokens = limited text stop tokens (head (seen text tokens)) and_then λ h. loop (step h.0) text stop (length h.1) start h.1 and_then λ s. finish tokens stop s

  abbrev pub WholeAgain : List ℕ → Option Stop → List Token → Met → Type 0
  WholeAgain other stop others met = whole_at other stop others ≡ Err met

  abbrev from_head : List ℕ → Option Stop → List Token → Result (H × List Token) Met → Result I Met
  from_head text stop tokens r = r and_then λ h. loop (step h.0) text stop (length h.1) start h.1 and_then λ s. finish tokens stop s

  head_stopped : (text : List ℕ) (stop : Option Stop) (tokens : List Token) (met : Met) → AllTidy text tokens → FailsAt text stop tokens head met → Stopped text tokens met WholeAgain
  head_stopped text stop tokens met tidy f = record {
    before = f.before;
    token = f.token;
    more = f.more;
    whole = f.whole;
    is = f.is;
    again = λ other stop' front t rest alike.
        ap (from_head other stop' (front ++ t ∷ rest)) (fails_again Same text stop tokens head head met f plain (tidy_there text f.before f.token f.more (subst (AllTidy text) f.whole tidy)) other stop' front t rest alike);
  }

  body_stopped : (text : List ℕ) (stop : Option Stop) (tokens rest : List Token) (h : H) (met : Met) → Passes Same text stop tokens head h rest → Stopped text rest met (LoopAgain (step h) R same (local h) (hungry h) start) → Stopped text tokens met WholeAgain
  body_stopped text stop tokens rest h met p st = record {
    before = p.front ++ st.before;
    token = st.token;
    more = st.more;
    whole = p.whole ∙ ap (λ r. p.front ++ r) st.whole ∙ sym (append_assoc p.front st.before (st.token ∷ st.more));
    is = st.is;
    again = λ other stop' front t behind alike.
        let q = parted text other p.front st.before st.token front t alike in
        let all : front ++ t ∷ behind ≡ q.head ++ (q.back ++ t ∷ behind) = ap (λ w. w ++ t ∷ behind) q.is ∙ append_assoc q.head q.back (t ∷ behind) in
        let look : Looks (toks_of text rest) (toks_of other (q.back ++ t ∷ behind)) = subst (λ w. Looks (toks_of text w) (toks_of other (q.back ++ t ∷ behind))) (sym st.whole) (parted_look text other st.before st.token st.more q.back t behind q.alike) in
        let a = p.again head plain other stop' q.head (q.back ++ t ∷ behind) q.same look in
        let read : limited other stop' (q.head ++ (q.back ++ t ∷ behind)) (head (seen other (q.head ++ (q.back ++ t ∷ behind)))) ≡ Ok (h, q.back ++ t ∷ behind) = a.1 ∙ ap (λ k. Ok (k, q.back ++ t ∷ behind)) (sym a.2) in
        let body : loop (step h) other stop' (length (q.back ++ t ∷ behind)) start (q.back ++ t ∷ behind) ≡ Err (refused_at met.kind other t) = st.again other stop' q.back t behind q.alike (length (q.back ++ t ∷ behind)) start (same start) (omega arith) in
        subst (λ w. whole_at other stop' w ≡ Err (refused_at met.kind other t)) (sym all)
        (ap (from_head other stop' (q.head ++ (q.back ++ t ∷ behind))) read ∙ ap (λ (r : Result S Met). r and_then λ s. finish (q.head ++ (q.back ++ t ∷ behind)) stop' s) body);
  }

  module _ (finished : (tokens : List Token) (stop : Option Stop) (s : S) (met : Met) → IsSpoken met → finish tokens stop s ≡ Err met → IsEnded stop tokens met) (text : List ℕ) (stop : Option Stop) (tokens : List Token) (tidy : AllTidy text tokens) (met : Met) (kind : IsSpoken met) where
    abbrev Halts : Type 0
    Halts = Stopped text tokens met WholeAgain ⊎ IsEnded stop tokens met

    head_or_end : FailsAt text stop tokens head met ⊎ IsEnded stop tokens met → Halts
    head_or_end (inl f) = inl (head_stopped text stop tokens met tidy f)
    head_or_end (inr e) = inr e

    body_or_end : (h : H) (rest : List Token) → Passes Same text stop tokens head h rest → 0 < length rest → LoopHalts (step h) R same (local h) (hungry h) text stop start rest met → Halts
    body_or_end h rest p some (inl st) = inl (body_stopped text stop tokens rest h met p st)
    body_or_end h rest p some (inr (none, is)) = inr (none, is ∙ ap (λ l. met_as kinds.Statement l (codes "end")) (sym (ap last_line p.whole ∙ last_behind p.front rest some)))

    by_body : (h : H) (rest : List Token) → Passes Same text stop tokens head h rest → (r : Result S Met) → loop (step h) text stop (length rest) start rest ≡ r → (r and_then λ s. finish tokens stop s) ≡ Err met → Halts
    by_body h rest p (Err d) w e =
        let body = w ∙ ap (λ m. Err m) (same_met {A = I} d met e) in
        body_or_end h rest p (loop_some (step h) text stop (length rest) start rest met body)
        (loop_halts (step h) R same (local h) (hungry h) text stop met kind (length rest) start rest (tidy_behind text p.front rest (subst (AllTidy text) p.whole tidy)) body)
    by_body h rest p (Ok s) w e = inr (finished tokens stop s met kind e)

    by_head : (r : Result (H × List Token) Met) → limited text stop tokens (head (seen text tokens)) ≡ r → from_head text stop tokens r ≡ Err met → Halts
    by_head (Err d) w e = head_or_end (fails_at text stop tokens head (plain.stops) met kind (w ∙ ap (λ m. Err m) (same_met {A = I} d met e)))
    by_head (Ok h) w e = by_body h.0 h.1 (passes Same text stop tokens head (plain.ends) h.0 h.1 w) (loop (step h.0) text stop (length h.1) start h.1) refl e

    pub whole_halts : whole_at text stop tokens ≡ Err met → Halts
    whole_halts e = by_head (limited text stop tokens (head (seen text tokens))) refl e
