-- Types as they are written: what is in the grammar is read, what is read is in the grammar, and where reading stops.
use Rattle.std.proofs.Common.{◌≡◌, ℕ, Bool, true, Option, Some, None, List, ◌∷◌, ◌++◌, length, Result, Ok, Err, refl, sym, ap, ◌∙◌, subst}
use Rattle.lx_ir_tokens.specs.declared.token.Tok.{Tok}
use Rattle.lx_ir.specs.IrType.{IrType}
use Rattle.lx_ir_offsets.specs.Shapes.{Shape, left_behind}
use Rattle.lx_ir_offsets.proofs.Inside.{inside_passes, passes_inside}
use Rattle.lx_ir_terms.specs.declared.fault.Fault.{Fault}
use Rattle.lx_ir_terms.specs.Context.{Context}
use Rattle.lx_ir_terms.specs.Reading.{Read, ◌>>=◌, at}
use Rattle.lx_ir_terms.specs.Types.{type_at, depth_limit, unless_outside, within_at, written_type_at}
use Rattle.lx_ir_terms.specs.Grammar.{IsType, is_inside_limits, IsWritten}
use Rattle.lx_ir_terms.specs.Laws.{Reads, Finds, Stops}
use Rattle.lx_ir_terms.proofs.Parts.{bind_ok, ok_same}
use Rattle.lx_ir_terms.proofs.TypeLaws.{type_again}
use Rattle.lx_ir_terms.proofs.TypesFound.{type_found}
use Rattle.lx_ir_terms.proofs.TypeStops.{type_stops}

limits_pass : (limits : Option (List Shape)) (left : ℕ) (t : IrType) (us : List Tok) → is_inside_limits limits t ≡ true → within_at limits left t us ≡ Ok (tt, us)
limits_pass None left t us i = refl
limits_pass (Some shapes) left t us i = let p = inside_passes shapes t left i in rw p.1 refl

pub written_again : (context : Context) (t : IrType) → Reads (written_type_at context) t (IsWritten context t)
written_again context t ts us (p, i) =
    rw (type_again context t depth_limit ts us p, limits_pass context.limits (length (ts ++ us)) t us i) refl

outside_step : (shapes : List Shape) (t : IrType) (left : ℕ) (ts : List Tok) (w : Unit {0} × List Tok) (r : Result ℕ ℕ) → left_behind shapes t left ≡ r → unless_outside r ts ≡ Ok w → (is_inside_limits (Some shapes) t ≡ true) × (ts ≡ w.1)
outside_step shapes t left ts w (Ok n) g e = let s = ok_same tt w.0 ts w.1 e in (passes_inside shapes t left (n, g), s.1)
outside_step shapes t left ts w (Err n) g e = cc

limits_passed : (limits : Option (List Shape)) (left : ℕ) (t : IrType) (ts : List Tok) (w : Unit {0} × List Tok) → within_at limits left t ts ≡ Ok w → (is_inside_limits limits t ≡ true) × (ts ≡ w.1)
limits_passed None left t ts w e = let s = ok_same tt w.0 ts w.1 e in (refl, s.1)
limits_passed (Some shapes) left t ts w e = outside_step shapes t left ts w (left_behind shapes t left) refl e

pub written_found : (context : Context) → Finds (written_type_at context) (IsWritten context)
written_found context ts us t e =
    let a = bind_ok (type_at context depth_limit ts) (λ t. within_at context.limits (length ts) t.0 t.1 >>= λ w. Ok (t.0, w.1)) (t, us) e in
    let b = bind_ok (within_at context.limits (length ts) a.0.0 a.0.1) (λ w. Ok (a.0.0, w.1)) (t, us) a.2 in
    let k = ok_same a.0.0 t b.0.1 us b.2 in
    let r = limits_passed context.limits (length ts) a.0.0 a.0.1 b.0 b.1 in
    let w = type_found context depth_limit ts a.0.1 a.0.0 a.1 in
    (w.0, subst (λ x. IsWritten context x w.0) k.0 (w.1, r.0), w.2 ∙ ap (λ r. w.0 ++ r) (r.1 ∙ k.1))

abbrev under : Option (List Shape) → ℕ → Read IrType → Read IrType
under limits left r = r >>= λ t. within_at limits left t.0 t.1 >>= λ w. Ok (t.0, w.1)

no_limits : (left : ℕ) (r : Read IrType) → under None left r ≡ r
no_limits left (Ok t) = refl
no_limits left (Err f) = refl

same : (context : Context) → context.limits ≡ None → (ts : List Tok) → written_type_at context ts ≡ type_at context depth_limit ts
same context h ts = ap (λ l. under l (length ts) (type_at context depth_limit ts)) h ∙ no_limits (length ts) (type_at context depth_limit ts)

-- where no limits are asked, a token at which the reading of a type stops cannot stand there
pub written_stops : (context : Context) → context.limits ≡ None → (ts : List Tok) (f : Fault) → written_type_at context ts ≡ Err f → Stops (written_type_at context) ts f
written_stops context h ts f e =
    let s = type_stops context depth_limit ts f (sym (same context h ts) ∙ e) in
    record {
      front = s.front;
      rest = s.rest;
      whole = s.whole;
      left = s.left;
      again = λ t more us c. same context h (s.front ++ t ∷ us) ∙ s.again t more us c;
    }
