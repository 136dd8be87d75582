-- Words around statements: what is in the grammar is passed over, and what is passed over is in the grammar.
use Rattle.std.proofs.Common.{◌≡◌, ℕ, zero, suc, ◌<◌, Bool, true, false, List, [], ◌∷◌, ◌++◌, length, Ok, ◌⊎◌, inl, inr, refl, sym, ap, ◌∙◌, subst, arith}
use Rattle.std.specs.Prelude.{◌||◌, if◌then◌else◌}
use Rattle.std.specs.List.{list_all}
use Rattle.std.proofs.lemmas.Bool.{and_parts}
use Rattle.lx_ir_tokens.specs.declared.token.Tok.{Tok}
use Rattle.lx_ir_tokens.specs.declared.token.Kind.{Kind}
use Rattle.lx_ir_tokens.specs.declared.token.Kind.TheVariants as kinds
use Rattle.lx_ir_tokens.specs.declared.keyword.Keyword.TheVariants as keywords
use Rattle.lx_ir_terms.specs.Reading.{Read, ◌>>=◌, has, behind}
use Rattle.lx_ir_terms.specs.Laws.{Reads, Finds}
use Rattle.lx_ir_constants.specs.Constants.{skipped}
use Rattle.lx_ir_statements.specs.Words.{is_linkage_word}
use Rattle.lx_ir_statements.specs.Grammar.{AreLinkage}

-- words before a global

pub linkage_over : (ws vs : List Tok) → AreLinkage ws → has is_linkage_word vs ≡ false → skipped is_linkage_word (ws ++ vs) ≡ vs
linkage_over [] [] e n = refl
linkage_over [] (t ∷ vs) e n = rw n refl
linkage_over (w ∷ ws) vs e n =
    let s = and_parts (is_linkage_word w.kind) (list_all (λ u. is_linkage_word u.kind) ws) e in
    rw s.0 (linkage_over ws vs s.1 n)

linkage_step : (b : Bool) (t : Tok) (ts : List Tok) → is_linkage_word t.kind ≡ b → ((front : List Tok) × AreLinkage front × (ts ≡ front ++ skipped is_linkage_word ts)) → (front : List Tok) × AreLinkage front × (t ∷ ts ≡ front ++ skipped is_linkage_word (t ∷ ts))
linkage_step true t ts e w = (t ∷ w.0, rw e w.1, rw e (ap (λ r. t ∷ r) w.2))
linkage_step false t ts e w = ([], refl, rw e refl)

pub linkage_found : (ts : List Tok) → (front : List Tok) × AreLinkage front × (ts ≡ front ++ skipped is_linkage_word ts)
linkage_found [] = ([], refl, refl)
linkage_found (t ∷ ts) = linkage_step (is_linkage_word t.kind) t ts refl (linkage_found ts)
