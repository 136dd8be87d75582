use Rattle.std.proofs.Common.{◌≡◌, ◌≤◌, ◌++◌, ◌∷◌, [], length, arith, sym, ap, refl, ◌∙◌}
use Rattle.std.proofs.lemmas.Result.{err_from_is_err_and}
use Rattle.lx_ir_tokens.specs.declared.token.Mark.TheVariants.{Comma}
use Rattle.lx_ir_terms.specs.Reading.{has, is_mark, behind, items_at}
use Rattle.lx_ir_terms.proofs.Loop.{took, stayed, behind_shorter, goes_on, item_fails, first_fails, first_item, ends}
use Rattle.lx_ir_constants.specs.declared.inits.Member.{Member}
use Rattle.lx_ir_constants.specs.Inits.{member_at, init_at, some_members_at}
use Rattle.lx_ir_constants.proofs.MemberLists.{members_fail, members_end, mapped_more}
use Rattle.lx_ir_constants.proofs.inits.+inits.Goals as goal

pub some_members-loop-alloc-init : goal.some_members-loop-alloc-init
some_members-loop-alloc-init t c =
    let item = member_at c.args.context.now (init_at c.args.context.now c.args.depth) in
    record {
      members = c.in_ok-first.first ∷ [];
      types = c.in_ok-push.ensures.items ∙ ap (λ xs. xs ++ c.in_ok-first.first.ty ∷ []) c.new-types.ensures;
      inits = c.in_ok-push-2.ensures.items ∙ ap (λ xs. xs ++ c.in_ok-first.first.init ∷ []) c.new-inits.ensures;
      so_far = first_item item c.args.reader.now c.one_member.new.reader c.in_ok-first.first c.in_ok-first.ensures.reads;
      shrinks = c.one_member.ensures.shrinks;
    }

pub some_members-returns-in_err-next-clause-reads : goal.some_members-returns-in_err-next-clause-reads
some_members-returns-in_err-next-clause-reads t c =
    let item = member_at c.args.context.now (init_at c.args.context.now c.args.depth) in
    let p = err_from_is_err_and c.from_residual-in_err-next.result c.from_residual-in_err-next.ensures.1 in
    let k = took c.takes.result (has (is_mark Comma) c.loop-alloc.reader) (behind c.loop-alloc.reader) c.loop-alloc.reader c.takes.new.self c.takes.ensures.taken c.takes.ensures.rest c.loop-alloc-test.true in
    rw (p.1, p.2) (members_fail item c.args.reader.now c.in_err-next.field-0.0 (item_fails item c.loop-alloc.invariant.members c.loop-alloc.reader c.takes.new.self c.in_err-next.field-0.0 (items_at item c.args.reader.now) c.loop-alloc.invariant.so_far k.0 k.1 c.in_err-next.ensures.reads))

pub some_members-loop-alloc-preserved : goal.some_members-loop-alloc-preserved
some_members-loop-alloc-preserved t c =
    let item = member_at c.args.context.now (init_at c.args.context.now c.args.depth) in
    let k = took c.takes.result (has (is_mark Comma) c.loop-alloc.reader) (behind c.loop-alloc.reader) c.loop-alloc.reader c.takes.new.self c.takes.ensures.taken c.takes.ensures.rest c.loop-alloc-test.true in
    let s = behind_shorter (is_mark Comma) c.loop-alloc.reader k.0 in
    let n : length c.takes.new.self ≡ length (behind c.loop-alloc.reader) = (λ j. length (k.1 j)) in
    record {
      members = c.loop-alloc.invariant.members ++ c.in_ok-next.next ∷ [];
      types = mapped_more (λ (m : Member). m.ty) c.loop-alloc.invariant.members c.in_ok-next.next c.loop-alloc.types c.push-in-loop-alloc.new.self c.loop-alloc.invariant.types c.in_ok-push-3.ensures.items;
      inits = mapped_more (λ (m : Member). m.init) c.loop-alloc.invariant.members c.in_ok-next.next c.loop-alloc.inits c.push-in-loop-alloc-2.new.self c.loop-alloc.invariant.inits c.in_ok-push-4.ensures.items;
      so_far = goes_on item c.loop-alloc.invariant.members (c.loop-alloc.invariant.members ++ c.in_ok-next.next ∷ []) c.loop-alloc.reader c.takes.new.self c.one_member-in-loop-alloc.new.reader c.in_ok-next.next (items_at item c.args.reader.now) refl c.loop-alloc.invariant.so_far k.0 k.1 c.in_ok-next.ensures.reads c.one_member-in-loop-alloc.ensures.shrinks;
      shrinks = omega (arith, s, n, c.one_member-in-loop-alloc.ensures.shrinks, c.loop-alloc.invariant.shrinks);
    }

pub some_members-returns-clause-reads : goal.some_members-returns-clause-reads
some_members-returns-clause-reads t c =
    let item = member_at c.args.context.now (init_at c.args.context.now c.args.depth) in
    let k = stayed c.takes.result (has (is_mark Comma) c.loop-alloc.reader) (behind c.loop-alloc.reader) c.loop-alloc.reader c.takes.new.self c.takes.ensures.taken c.takes.ensures.rest c.loop-alloc-test.false in
    members_end item c.args.reader.now c.takes.new.self c.loop-alloc.invariant.members c.loop-alloc.types c.loop-alloc.inits c.loop-alloc.invariant.types c.loop-alloc.invariant.inits (ends item c.loop-alloc.invariant.members c.loop-alloc.reader c.takes.new.self (items_at item c.args.reader.now) k.1 c.loop-alloc.invariant.so_far k.0)
