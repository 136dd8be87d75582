-- Clauses and signatures hang on the tokens that they are, and on the one behind them.
use Rattle.std.proofs.Common.{◌≡◌, ℕ, Bool, true, false, is_some, List, [], ◌∷◌, length, Ok, refl, codes}
use Rattle.std.specs.Prelude.{if◌then◌else◌, ◌||◌}
use Rattle.lx_annot.specs.declared.interface.Parameter.{Parameter}
use Rattle.lx_annot.specs.declared.action.Who.TheVariants as who
use Rattle.lx_annot.specs.declared.action.Annotation.{Annotation}
use Rattle.lx_annot_expressions.specs.Tokens.{Tok}
use Rattle.lx_annot_expressions.specs.declared.fault.FaultKind.TheVariants.{Twice}
use Rattle.lx_annot_expressions.specs.Reading.{Read, ◌>>=◌, has, behind, refused, next_at, always_refused, unless_word, steps_at, adding_at}
use Rattle.lx_annot_expressions.specs.Names.{fresh_of, fresh_at}
use Rattle.lx_annot_expressions.specs.Exprs.{Scope, names_of_params, expr_at}
use Rattle.lx_annot_terms.specs.Lists.{Known}
use Rattle.lx_annot_terms.specs.Actions.{action_at}
use Rattle.lx_annot_terms.specs.Signatures.{Signature, type_of, type_at, is_reserved, param_name_at, param_behind, some_params_at, closed_params_at, params_behind, signature_at}
use Rattle.lx_annot_terms.specs.Clauses.{scope_before, scope_behind, without_lends, who_at, principal_at, enclosed_action_at, with_principal, with_pre, with_post, with_loans_ended, empty_annotation, principal_clause_at, pre_clause_at, post_clause_at, begins_clause, clause_at, written_at, clauses_at}
use Rattle.lx_annot_laws.proofs.Local.{Looks, has_looks, Same, Plain, then_plain, last_plain, over_plain, refused_plain, if_local, if_plain, behind_local, next_plain, pick_plain}
use Rattle.lx_annot_laws.proofs.Loops.{Hungry, refused_hungry, if_hungry, behind_hungry, steps_plain, further_plain}
use Rattle.lx_annot_laws.proofs.Expressions.{expr_plain}
use Rattle.lx_annot_laws.proofs.Lists.{action_plain}

-- Clauses.

who_plain : (scope : Scope) → Plain (who_at scope)
who_plain scope =
    if_plain (codes "shared") (λ ts. Ok (who.Shared, behind ts)) (λ ts. if has (codes "global") ts then Ok (who.Global, behind ts) else expr_at scope ts >>= λ e. Ok (who.Value e.0, e.1)) (over_plain who.Shared)
    (if_plain (codes "global") (λ ts. Ok (who.Global, behind ts)) (λ ts. expr_at scope ts >>= λ e. Ok (who.Value e.0, e.1)) (over_plain who.Global) (last_plain (expr_at scope) (λ e. who.Value e) (expr_plain scope)))

principal_plain : (scope : Scope) → Plain (principal_at scope)
principal_plain scope =
    then_plain (next_at (codes "(")) (λ o. who_at scope o.1 >>= λ w. next_at (codes ")") w.1 >>= λ c. Ok (w.0, c.1)) (next_plain (codes "("))
    (λ o. then_plain (who_at scope) (λ w. next_at (codes ")") w.1 >>= λ c. Ok (w.0, c.1)) (who_plain scope) (λ w. last_plain (next_at (codes ")")) (λ c. w) (next_plain (codes ")"))))

enclosed_action_plain : (scope : Scope) (known : Known) → Plain (enclosed_action_at scope known)
enclosed_action_plain scope known =
    then_plain (next_at (codes "(")) (λ o. action_at scope known o.1 >>= λ a. next_at (codes ")") a.1 >>= λ c. Ok (a.0, c.1)) (next_plain (codes "("))
    (λ o. then_plain (action_at scope known) (λ a. next_at (codes ")") a.1 >>= λ c. Ok (a.0, c.1)) (action_plain scope known) (λ a. last_plain (next_at (codes ")")) (λ c. a) (next_plain (codes ")"))))

begins_looks : (us vs : List Tok) → Looks us vs → begins_clause us ≡ begins_clause vs
begins_looks us vs l = λ i. has_looks (codes "principal") us vs l i || has_looks (codes "pre") us vs l i || has_looks (codes "post") us vs l i

module _ (sig : Signature) (known : Known) where
  module _ (a : Annotation) where
    abbrev of_principal : List Tok → Read Annotation
    of_principal ts = principal_at (scope_before sig) ts >>= λ w. Ok (with_principal a w.0, w.1)

    abbrev of_pre : List Tok → Read Annotation
    of_pre ts = enclosed_action_at (scope_before sig) known ts >>= λ x. Ok (with_pre a x.0, x.1)

    abbrev of_post : List Tok → Read Annotation
    of_post ts = enclosed_action_at (scope_behind sig) (without_lends known) ts >>= λ x. Ok (with_post a x.0, x.1)

    of_principal_plain : Plain of_principal
    of_principal_plain = last_plain (principal_at (scope_before sig)) (λ w. with_principal a w) (principal_plain (scope_before sig))

    of_pre_plain : Plain of_pre
    of_pre_plain = last_plain (enclosed_action_at (scope_before sig) known) (λ x. with_pre a x) (enclosed_action_plain (scope_before sig) known)

    of_post_plain : Plain of_post
    of_post_plain = last_plain (enclosed_action_at (scope_behind sig) (without_lends known)) (λ x. with_post a x) (enclosed_action_plain (scope_behind sig) (without_lends known))

    once_plain : (b : Bool) → Plain (λ ts. if b then refused ts else of_principal (behind ts))
    once_plain true = refused_plain {A = Annotation}
    once_plain false = behind_local Same of_principal of_principal of_principal_plain

    once_hungry : (b : Bool) → Hungry (λ ts. if b then refused ts else of_principal (behind ts))
    once_hungry true = refused_hungry {A = Annotation}
    once_hungry false = behind_hungry of_principal of_principal_plain

    clause_plain : Plain (clause_at sig known a)
    unfolding clause_at
    clause_plain =
        if_plain (codes "principal") (principal_clause_at sig a) (λ ts. if has (codes "pre") ts then pre_clause_at sig known a ts else post_clause_at sig known a ts) (once_plain (is_some a.principal))
        (if_plain (codes "pre") (pre_clause_at sig known a) (post_clause_at sig known a) (behind_local Same of_pre of_pre of_pre_plain) (behind_local Same of_post of_post of_post_plain))

    clause_hungry : Hungry (clause_at sig known a)
    unfolding clause_at
    clause_hungry =
        if_hungry (has (codes "principal")) (principal_clause_at sig a) (λ ts. if has (codes "pre") ts then pre_clause_at sig known a ts else post_clause_at sig known a ts) (once_hungry (is_some a.principal))
        (if_hungry (has (codes "pre")) (pre_clause_at sig known a) (post_clause_at sig known a) (behind_hungry of_pre of_pre_plain) (behind_hungry of_post of_post_plain))

  written_plain : Plain (written_at sig known)
  unfolding written_at
  written_plain = steps_plain begins_clause (clause_at sig known) refl clause_hungry begins_looks clause_plain empty_annotation

  pub clauses_plain : Plain (clauses_at sig known)
  unfolding clauses_at
  clauses_plain = last_plain (written_at sig known) with_loans_ended written_plain

-- Signatures.

pub fresh_plain : (names : List (List ℕ)) → Plain (fresh_at names)
fresh_plain names = pick_plain (λ t. fresh_of names t.kind t.bytes) (unless_word Twice)

reserved_looks : (us vs : List Tok) → Looks us vs → is_reserved us ≡ is_reserved vs
reserved_looks us vs l = λ i. has_looks (codes "return") us vs l i || has_looks (codes "shared") us vs l i || has_looks (codes "global") us vs l i

pub param_name_plain : (names : List (List ℕ)) → Plain (param_name_at names)
param_name_plain names = if_local Same is_reserved is_reserved reserved_looks (λ ts. refused ts) (λ ts. refused ts) (fresh_at names) (fresh_at names) (refused_plain {A = List ℕ}) (fresh_plain names)

type_plain : Plain type_at
type_plain = pick_plain (λ t. type_of t.bytes) always_refused

param_plain : (before : List Parameter) → Plain (param_behind before)
param_plain before =
    then_plain type_at (λ t. param_name_at (names_of_params before) t.1 >>= λ p. Ok (record { name = p.0; ty = t.0 }, p.1)) type_plain
    (λ t. last_plain (param_name_at (names_of_params before)) (λ p. record { name = p; ty = t }) (param_name_plain (names_of_params before)))

some_params_plain : Plain some_params_at
unfolding some_params_at
some_params_plain =
    then_plain (param_behind []) (λ p. steps_at (has (codes ",")) (adding_at param_behind) (length p.1) (p.0 ∷ []) p.1) (param_plain []) (λ p. further_plain param_behind param_plain (codes ",") (p ∷ []))

params_plain : Plain params_behind
params_plain =
    if_plain (codes ")") (λ ts. Ok ([], behind ts)) closed_params_at (over_plain [])
    (then_plain some_params_at (λ ps. next_at (codes ")") ps.1 >>= λ c. Ok (ps.0, c.1)) some_params_plain (λ ps. last_plain (next_at (codes ")")) (λ c. ps) (next_plain (codes ")"))))

pub signature_plain : Plain signature_at
unfolding signature_at
signature_plain =
    then_plain (next_at (codes ":")) (λ c. type_at c.1 >>= λ t. next_at (codes "(") t.1 >>= λ o. params_behind o.1 >>= λ ps. Ok (record { ret = t.0; params = ps.0 }, ps.1)) (next_plain (codes ":"))
    (λ c. then_plain type_at (λ t. next_at (codes "(") t.1 >>= λ o. params_behind o.1 >>= λ ps. Ok (record { ret = t.0; params = ps.0 }, ps.1)) type_plain
    (λ t. then_plain (next_at (codes "(")) (λ o. params_behind o.1 >>= λ ps. Ok (record { ret = t; params = ps.0 }, ps.1)) (next_plain (codes "("))
    (λ o. last_plain params_behind (λ ps. record { ret = t; params = ps }) params_plain)))
