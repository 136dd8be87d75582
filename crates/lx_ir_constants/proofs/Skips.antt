-- Tokens passed over.
use Rattle.std.proofs.Common.{◌≡◌, ◌≤◌, ◌<◌, Bool, true, false, List, [], ◌∷◌, refl, ap}
use Rattle.lx_ir_tokens.specs.declared.token.Tok.{Tok}
use Rattle.lx_ir_tokens.specs.declared.token.Kind.{Kind}
use Rattle.lx_ir_terms.specs.Reading.{has, behind}
use Rattle.lx_ir_terms.proofs.Loop.{behind_shorter}
use Rattle.lx_ir_constants.specs.Constants.{skipped}

pub none_skipped : (p : Kind → Bool) (ts : List Tok) → has p ts ≡ false → skipped p ts ≡ ts
none_skipped p [] h = refl
none_skipped p (t ∷ ts) h = rw h refl

pub one_skipped : (p : Kind → Bool) (ts : List Tok) → has p ts ≡ true → skipped p ts ≡ skipped p (behind ts)
one_skipped p [] h = cc
one_skipped p (t ∷ ts) h = rw h refl

pub ruleset skips = (none_skipped, one_skipped, behind_shorter)
