use Rattle.std.proofs.Common.{◌≡◌, ◌∙◌, ap, sym, subst, ℕ, [], ◌∷◌, ◌++◌, length, arith}
use Rattle.std.proofs.lemmas.List.{length-append}
use Rattle.lx_model.specs.declared.program.Program.{Program}
use Rattle.lx_model.specs.Program.{home_or_kernel}
use Rattle.lx_code.specs.Fits.{AreTablesOf}
use Rattle.lx_image_code.specs.Code.{code_of}
use Rattle.lx_image_code.specs.Jumps.{image_blocks, numbers_at, types_in}
use Rattle.lx_image_code.proofs.Filled.{Each, each_more}
use Rattle.lx_image_code.proofs.Found.{tables_here}
use Rattle.lx_image_code.proofs.jumps.jumps_of.Goals as goal

pub loop-entry-preserved : goal.loop-entry-preserved
loop-entry-preserved c =
    let p = c.args.code.now in
    let code = code_of p c.args.images.now in
    let ts = c.loop-entry.tables in
    let t = c.in_ok-jumps.jumps in
    let here : AreTablesOf (types_in p c.loop-entry.entry-index) (numbers_at p (home_or_kernel p c.loop-entry.entry-index)) (image_blocks code c.loop-entry.entry-index) t =
    tables_here code c.as_slice-entry-items.result.now c.loop-entry.entry-index _ t (c.as_slice-entry-items.ensures ∙ ap (λ (q : Program). q.functions) c.program.ensures.whole) c.loop-entry-test.true
    c.in_ok-jumps.ensures in
    let more : c.push.new.self ≡ ts ++ t ∷ [] = c.in_ok-push.ensures.items in record {
      count = (let longer = ap length more ∙ length-append ts (t ∷ []) in omega (arith, longer, c.loop-entry.invariant.count));
      each = subst (Each (λ k x. AreTablesOf (types_in p k) (numbers_at p (home_or_kernel p k)) (image_blocks code k) x)) (sym more)
          (each_more (λ k x. AreTablesOf (types_in p k) (numbers_at p (home_or_kernel p k)) (image_blocks code k) x) ts t c.loop-entry.invariant.each (subst (λ (n : ℕ). AreTablesOf (types_in p n) (numbers_at p (home_or_kernel p n)) (image_blocks code n) t) (sym c.loop-entry.invariant.count) here));
    }
