use Rattle.std.proofs.Common.{rules, ◌≡◌, ◌<◌, ◌∙◌, ap, sym, subst, ℕ, length, suc}
use Rattle.std.specs.Prelude.{slice_set, slice_index, List, cond, Some}
use Rattle.std.specs.Map.{lookup}
use Rattle.lx_caps.specs.Names.{named}
use Rattle.lx_principals.specs.Instances.{Instances}
use Rattle.lx_principals.specs.Kept.{Entry, same_pair}
use Rattle.lx_principals.proofs.Numbers.{made, ok_part}
use Rattle.lx_principals.proofs.Tables.{found}
use Rattle.lx_principals.proofs.principals.Principals.make.Goals as goal

pub put_name-requires : goal.put_name-requires
put_name-requires c =
    found c.self.inside.names.entries c.args.home c.args.value c.self.invariant.distinct
    ∙ ap (λ (i : Instances). named i.names c.args.home c.args.value) c.self.view_is
    ∙ c.requires.unnamed

pub invariant_of-self-2 : goal.invariant_of-self-2
invariant_of-self-2 c =
    let there : c.args.home < length c.self.inside.counts.items = subst (λ (i : Instances). c.args.home < i.modules) (sym c.self.view_is) c.requires.there in
    let read : c.in_ok-number.number ≡ slice_index c.self.inside.counts.items c.args.home = c.in_ok-number.ensures.number ∙ ap (λ (l : List ℕ). slice_index l c.args.home) c.deref.ensures.value in
    let put = c.count_one.ensures ∙ ap (λ (n : ℕ). slice_set c.self.inside.counts.items c.args.home (suc n)) (sym read) in
    made c.self.inside.names.entries c.put_name.new.names.entries c.self.inside.firsts.entries c.insert.new.self.entries c.self.inside.counts.items
    c.count_one.new.counts.items c.args.home c.args.value c.in_ok-number.number c.self.invariant there
    (read ∙ c.self.invariant.counted c.args.home there) c.in_ok-put_name.ensures.ok c.in_ok-put_name.ensures.once
    (λ q. (ok_part c.insert.result (c.insert.ensures.succeeds (search rules)) c.insert.ensures.updates).0 q
    ∙ ap (λ (es : List Entry). cond (same_pair (c.args.home, c.in_ok-number.number) q) (Some c.args.value) (lookup (same_pair q) es)) c.reserve.ensures.entries) put
