use Rattle.std.proofs.Common.{◌≡◌, ℕ, Bool, true, false, Option, Some, None, refl, ap, subst, if◌then◌else◌}
use Rattle.lx_caps.specs.Regions.{covers}
use Rattle.lx_ir.proofs.Fits.{lawful_fits}
use Rattle.lx_trace_text.specs.declared.blocks.Block.{Block}
use Rattle.lx_trace_text.specs.Blocks.{around, fitting_size, nearest}
use Rattle.lx_trace_text.proofs.trace_text_laws.Goals as goal

within : (a : ℕ) (b : Block) (o : Option Block) → around a o ≡ Some b → covers b.start b.size a ≡ true
within a b None h = absurd (cc h)
within a b (Some c) h = by (covers c.start c.size a) refl h
  where
    by : (t : Bool) → covers c.start c.size a ≡ t → (if t then Some c else None) ≡ Some b → covers b.start b.size a ≡ true
    by true e g = let s : c ≡ b = cc g in subst (λ (x : Block). covers x.start x.size a ≡ true) s e
    by false e g = absurd (cc g)

pub returns : goal.returns
returns c = record {
  within = λ bs a b h. within a b (nearest bs a) h;
  sizes = λ types g h. ap fitting_size (lawful_fits types g.ty h);
}
