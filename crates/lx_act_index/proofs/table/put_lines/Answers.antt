use Rattle.std.proofs.Common.{◌≡◌, ◌+◌, ◌∙◌, refl, sym, ap, subst, length, take, arith}
use Rattle.lx_cap_nodes.specs.Pieces.{part_list}
use Rattle.lx_act_index.specs.Table.{ArePut}
use Rattle.lx_act_index.proofs.TableLemmas.{popped, put_more}
use Rattle.lx_act_index.proofs.table.put_lines.Goals as goal

pub loop-line-preserved : goal.loop-line-preserved
loop-line-preserved c =
    let inv = c.loop-line.invariant in
    let fresh = c.args.fresh.items in
    let first = c.args.first in
    let left = c.pop.new.self.items in
    let line = c.in-Some.line in
    let p = popped (length c.loop-line.fresh.items) fresh c.loop-line.fresh.items left line inv.left inv.fewer c.in-Some.ensures.items in
    let n : c.len.result ≡ length left = c.len.ensures ∙ c.pop.new.self.ok.0 in
    let one : length left + 1 ≡ length c.loop-line.fresh.items = p.0 in
    let few = inv.fewer in
    record {
      left = p.2;
      fewer = omega (arith, one, few);
      put = put_more first (length left) fresh left c.args.lines.now.items c.loop-line.lines.items c.put_line.new.lines.items line
          (p.1 ∙ ap (λ k. take k fresh) (sym one)) refl (omega (arith, one, few))
          (λ l is. c.put_line.ensures.put l (ap (λ k. part_list (first + k)) n ∙ is))
          (λ l ne. c.put_line.ensures.others l (λ is. ne (sym (ap (λ k. part_list (first + k)) n) ∙ is)))
          c.put_line.ensures.count
          (subst (λ k. ArePut first k fresh c.args.lines.now.items c.loop-line.lines.items) (sym one) inv.put);
    }
