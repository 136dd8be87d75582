-- Steps one after the other, as a loop does them.
use Rattle.std.proofs.Common.{◌≡◌, ℕ, zero, suc, ◌+◌, ◌≤◌, ◌<◌, Bool, true, false, List, [], ◌∷◌, ◌++◌, length, Ok, Err, refl, sym, ap, ◌∙◌, subst, arith}
use Rattle.std.specs.Prelude.{◌&&◌, nat_lt}
use Rattle.std.proofs.lemmas.Bool.Decides.{nat_tests}
use Rattle.std.proofs.lemmas.Bool.{and_parts}
use Rattle.lx_annot_expressions.specs.declared.fault.Fault.{Fault}
use Rattle.lx_annot_expressions.specs.declared.fault.ReadError.{ReadError}
use Rattle.lx_annot_expressions.specs.declared.fault.ReadError.TheVariants as errors
use Rattle.lx_annot_expressions.specs.Tokens.{Tok}
use Rattle.lx_annot_expressions.specs.Reading.{Read, Fails, behind, has, steps_at, adding_at}

pub behind_shorter : (text : List ℕ) (ts : List Tok) → has text ts ≡ true → length (behind ts) < length ts
behind_shorter text [] h = cc
behind_shorter text (t ∷ ts) h = omega arith

pub step_once : {S : Type 0} (test : List Tok → Bool) (step : S → List Tok → Read S) (n : ℕ) (s s' : S) (ts us : List Tok) → test ts ≡ true → step s ts ≡ Ok (s', us) → steps_at test step (suc n) s ts ≡ steps_at test step n s' us
unfolding steps_at
step_once test step n s s' ts us h e = rw (h, e) refl

pub step_fails : {S : Type 0} (test : List Tok → Bool) (step : S → List Tok → Read S) (n : ℕ) (s : S) (ts : List Tok) (f : Fault) → test ts ≡ true → step s ts ≡ Err f → steps_at test step (suc n) s ts ≡ Err f
unfolding steps_at
step_fails test step n s ts f h e = rw (h, e) refl

pub steps_end : {S : Type 0} (test : List Tok → Bool) (step : S → List Tok → Read S) (n : ℕ) (s : S) (ts : List Tok) → test ts ≡ false → steps_at test step n s ts ≡ Ok (s, ts)
unfolding steps_at
steps_end test step zero s ts h = refl
steps_end test step (suc n) s ts h = rw h refl

pub no_steps : {S : Type 0} (test : List Tok → Bool) (step : S → List Tok → Read S) (s : S) (ts : List Tok) → steps_at test step 0 s ts ≡ Ok (s, ts)
unfolding steps_at
no_steps test step s ts = refl

-- Steps that may be as many as there are tokens.
pub record Stepping {S : Type 0} (test : List Tok → Bool) (step : S → List Tok → Read S) (s : S) (rest : List Tok) (total : Read S) : Type 0 where
  pub fuel : ℕ
  pub enough : length rest ≤ fuel
  pub so_far : steps_at test step fuel s rest ≡ total

pub steps_begin : {S : Type 0} (test : List Tok → Bool) (step : S → List Tok → Read S) (s : S) (ts : List Tok) (total : Read S) → total ≡ steps_at test step (length ts) s ts → Stepping test step s ts total
steps_begin test step s ts total e = record { fuel = length ts; enough = omega arith; so_far = sym e }

go : {S : Type 0} (test : List Tok → Bool) (step : S → List Tok → Read S) (fuel : ℕ) (s s' : S) (rest us : List Tok) (total : Read S) → length rest ≤ fuel → steps_at test step fuel s rest ≡ total → test rest ≡ true → step s rest ≡ Ok (s', us) → length us < length rest → Stepping test step s' us total
go test step zero s s' rest us total le so_far h e l = absurd (omega (arith, le, l))
go test step (suc fuel) s s' rest us total le so_far h e l =
    record { fuel = fuel; enough = omega (arith, le, l); so_far = sym (step_once test step fuel s s' rest us h e) ∙ so_far }

pub steps_go_on : {S : Type 0} (test : List Tok → Bool) (step : S → List Tok → Read S) (s s' : S) (rest us : List Tok) (total : Read S) → Stepping test step s rest total → test rest ≡ true → step s rest ≡ Ok (s', us) → length us < length rest → Stepping test step s' us total
steps_go_on test step s s' rest us total g h e l = go test step g.fuel s s' rest us total g.enough g.so_far h e l

stop : {S : Type 0} (test : List Tok → Bool) (step : S → List Tok → Read S) (fuel : ℕ) (s : S) (rest : List Tok) (f : Fault) (total : Read S) → length rest ≤ fuel → 0 < length rest → steps_at test step fuel s rest ≡ total → test rest ≡ true → step s rest ≡ Err f → total ≡ Err f
stop test step zero s rest f total le some so_far h e = absurd (omega (arith, le, some))
stop test step (suc fuel) s rest f total le some so_far h e = sym so_far ∙ step_fails test step fuel s rest f h e

pub steps_fail : {S : Type 0} (test : List Tok → Bool) (step : S → List Tok → Read S) (s : S) (rest : List Tok) (e : ReadError) (total : Read S) → Stepping test step s rest total → 0 < length rest → test rest ≡ true → Fails e (step s rest) → Fails e total
steps_fail test step s rest errors.Memory total g some h e = tt
steps_fail test step s rest (errors.Fault f) total g some h e = stop test step g.fuel s rest f total g.enough some g.so_far h e

pub steps_done : {S : Type 0} (test : List Tok → Bool) (step : S → List Tok → Read S) (s : S) (rest : List Tok) (total : Read S) → Stepping test step s rest total → test rest ≡ false → total ≡ Ok (s, rest)
steps_done test step s rest total g h = sym g.so_far ∙ steps_end test step g.fuel s rest h

-- one more value on a list, behind a token
pub added : {A : Type 0} (item : List A → List Tok → Read A) (before new : List A) (rest ts us : List Tok) (x : A) → new ≡ before ++ x ∷ [] → ts ≡ behind rest → item before ts ≡ Ok (x, us) → adding_at item before rest ≡ Ok (new, us)
added item before new rest ts us x n t e =
    let e' : item before (behind rest) ≡ Ok (x, us) = subst (λ r. item before r ≡ Ok (x, us)) t e in
    rw (e', n) refl

pub not_added : {A : Type 0} (item : List A → List Tok → Read A) (before : List A) (rest ts : List Tok) (e : ReadError) → ts ≡ behind rest → Fails e (item before ts) → Fails e (adding_at item before rest)
not_added item before rest ts errors.Memory t e = tt
not_added item before rest ts (errors.Fault f) t e =
    let e' : item before (behind rest) ≡ Err f = subst (λ r. item before r ≡ Err f) t e in
    rw e' refl

-- Steps of which there may be so many.

some_room : (room : ℕ) → nat_lt 0 room ≡ true → 0 < room
some_room room h = grind (arith, nat_tests, h)

no_room : (room : ℕ) → nat_lt 0 room ≡ false → room ≡ 0
no_room room h = grind (arith, nat_tests, h)

pub may_step : (room : ℕ) (b : Bool) → nat_lt 0 room && b ≡ true → (0 < room) × (b ≡ true)
may_step room b h = let k = and_parts (nat_lt 0 room) b h in (some_room room k.0, k.1)

pub counted_step : {S : Type 0} (test : List Tok → Bool) (step : S → List Tok → Read S) (room left : ℕ) (s s' : S) (rest us : List Tok) (total : Read S) → steps_at test step room s rest ≡ total → 0 < room → test rest ≡ true → step s rest ≡ Ok (s', us) → left + 1 ≡ room → steps_at test step left s' us ≡ total
counted_step test step room left s s' rest us total so_far some h e c =
    let n : room ≡ suc left = omega (arith, c) in
    sym (step_once test step left s s' rest us h e) ∙ ap (λ k. steps_at test step k s rest) (sym n) ∙ so_far

pub counted_fails : {S : Type 0} (test : List Tok → Bool) (step : S → List Tok → Read S) (room : ℕ) (s : S) (rest : List Tok) (e : ReadError) (total : Read S) → steps_at test step room s rest ≡ total → 0 < room → test rest ≡ true → Fails e (step s rest) → Fails e total
counted_fails test step room s rest errors.Memory total so_far some h e = tt
counted_fails test step zero s rest (errors.Fault f) total so_far some h e = absurd (omega (arith, some))
counted_fails test step (suc room) s rest (errors.Fault f) total so_far some h e = sym so_far ∙ step_fails test step room s rest f h e

ended : {S : Type 0} (test : List Tok → Bool) (step : S → List Tok → Read S) (room : ℕ) (s : S) (rest : List Tok) (b : Bool) → nat_lt 0 room ≡ b → b && test rest ≡ false → steps_at test step room s rest ≡ Ok (s, rest)
ended test step room s rest true e h = steps_end test step room s rest h
ended test step room s rest false e h = ap (λ k. steps_at test step k s rest) (no_room room e) ∙ no_steps test step s rest

pub counted_end : {S : Type 0} (test : List Tok → Bool) (step : S → List Tok → Read S) (room : ℕ) (s : S) (rest : List Tok) (total : Read S) → steps_at test step room s rest ≡ total → nat_lt 0 room && test rest ≡ false → total ≡ Ok (s, rest)
counted_end test step room s rest total so_far h = sym so_far ∙ ended test step room s rest (nat_lt 0 room) refl h
