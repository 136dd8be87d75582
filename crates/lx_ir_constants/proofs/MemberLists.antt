-- Items of groups, and their types.
use Rattle.std.proofs.Common.{◌≡◌, List, [], ◌∷◌, ◌++◌, Ok, Err, refl, sym, ap, ◌∙◌, map}
use Rattle.lx_ir_tokens.specs.declared.token.Tok.{Tok}
use Rattle.lx_ir.specs.IrType.{IrType}
use Rattle.lx_ir.specs.Init.{Init}
use Rattle.lx_ir_terms.specs.declared.fault.ReadError.{ReadError}
use Rattle.lx_ir_terms.specs.declared.fault.ReadError.TheVariants as errors
use Rattle.lx_ir_terms.specs.Reading.{Read, ◌>>=◌, Fails, items_at}
use Rattle.lx_ir_constants.specs.declared.inits.Member.{Member}
use Rattle.lx_ir_constants.specs.declared.inits.Members.{Members}
use Rattle.lx_ir_constants.specs.Inits.{members_of, some_members_at}

pub members_fail : (item : List Tok → Read Member) (ts : List Tok) (e : ReadError) → Fails e (items_at item ts) → Fails e (some_members_at item ts)
members_fail item ts errors.Memory h = tt
members_fail item ts (errors.Fault f) h = rw h refl

members_ok : (item : List Tok → Read Member) (ts us : List Tok) (ms : List Member) → items_at item ts ≡ Ok (ms, us) → some_members_at item ts ≡ Ok (members_of ms, us)
members_ok item ts us ms e = rw e refl

abbrev made_of : List IrType → List Init → Members
made_of types inits = record { types = types; inits = inits }

pub members_end : (item : List Tok → Read Member) (ts us : List Tok) (ms : List Member) (types : List IrType) (inits : List Init) → types ≡ map (λ (m : Member). m.ty) ms → inits ≡ map (λ (m : Member). m.init) ms → items_at item ts ≡ Ok (ms, us) → some_members_at item ts ≡ Ok (record { types = types; inits = inits }, us)
members_end item ts us ms types inits a b e =
    let same : members_of ms ≡ made_of types inits = (λ j. made_of (sym a j) (sym b j)) in
    members_ok item ts us ms e ∙ ap (λ m. Ok (m, us)) same

map_snoc : {A : Type 0} (f : Member → A) (xs : List Member) (x : Member) → map f (xs ++ x ∷ []) ≡ map f xs ++ f x ∷ []
map_snoc f [] x = refl
map_snoc f (y ∷ xs) x = ap (λ ys. f y ∷ ys) (map_snoc f xs x)

-- one more member
pub mapped_more : {A : Type 0} (f : Member → A) (xs : List Member) (x : Member) (ys zs : List A) → ys ≡ map f xs → zs ≡ ys ++ f x ∷ [] → zs ≡ map f (xs ++ x ∷ [])
mapped_more f xs x ys zs e g = g ∙ (ap (λ us. us ++ f x ∷ []) e ∙ sym (map_snoc f xs x))
