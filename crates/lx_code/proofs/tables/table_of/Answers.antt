use Rattle.std.proofs.Common.{◌≡◌, ◌∙◌, ap, sym, subst, ℕ, Some, [], ◌∷◌, ◌++◌, length, slice_get, arith}
use Rattle.std.proofs.lemmas.List.{length-append}
use Rattle.std.proofs.lemmas.Option.{slice_get-get_or}
use Rattle.lx_ir.specs.declared.module.Module.{Module}
use Rattle.lx_model.specs.Program.{module_of, target, target_of as target_in}
use Rattle.lx_code.specs.Targets.{target_of}
use Rattle.lx_code.proofs.Filled.{Each, each_more, named_at, has_table}
use Rattle.lx_code.proofs.tables.table_of.Goals as goal

pub loop-function-preserved : goal.loop-function-preserved
loop-function-preserved c =
    let p = c.args.lookup.now in
    let home = c.args.home in
    let ts = c.loop-function.table in
    let fs = c.as_slice-function-items.result.now in
    let t = c.target.result in
    let f = c.function-item.result in
    let is : fs ≡ (module_of p home).functions = c.as_slice-function-items.ensures ∙ ap (λ (m : Module). m.functions) c.requires in
    let at : slice_get fs c.loop-function.function-index ≡ Some f =
    slice_get-get_or fs c.loop-function.function-index f c.loop-function-test.true ∙ ap Some (sym c.function-item.is) in
    let here : slice_get fs (length ts) ≡ Some f = ap (slice_get fs) c.loop-function.invariant.count ∙ at in
    let names : target_of t ≡ target_in p home (length ts) (Some f) = c.target.ensures ∙ ap (λ (n : ℕ). target_in p home n (Some f)) c.len.ensures in
    let more : c.push.new.self ≡ ts ++ t ∷ [] = c.in_ok-push.ensures.items in record {
      count = (let longer = ap length more ∙ length-append ts (t ∷ []) in omega (arith, longer, c.loop-function.invariant.count));
      each = subst (Each (λ k x. target_of x ≡ target p home k)) (sym more)
          (each_more (λ k x. target_of x ≡ target p home k) ts t c.loop-function.invariant.each (named_at p home fs (length ts) f t is here names));
    }

pub returns : goal.returns
returns c =
    let p = c.args.lookup.now in
    let home = c.args.home in
    let is : c.as_slice-function-items.result.now ≡ (module_of p home).functions = c.as_slice-function-items.ensures ∙ ap (λ (m : Module). m.functions) c.requires in
    let long = ap length is in
    has_table p home c.loop-function.table (omega (arith, long, c.loop-function.invariant.count, c.loop-function-test.false, c.loop-function.auto.function-index-end)) c.loop-function.invariant.each
