-- A space is looked at as each memory that it shows.
use Rattle.std.proofs.Common.{◌∙◌, ap, sym, ℕ, List, Option, None}
use Rattle.lx_words.specs.Word.{Word}
use Rattle.lx_caps.specs.Memory.{load64}
use Rattle.lx_actions.specs.Shown.{memory_of}
use Rattle.lx_actions.proofs.Looking.{alike}
use Rattle.lx_annot.specs.Value.{value}
use Rattle.lx_serve.proofs.enter.value_of.Goals as goal

pub returns-in-Ok : goal.returns-in-Ok
returns-in-Ok c = λ m shown.
    ap (λ (look : ℕ → Option ℕ). value look (record { args = c.args.args.now; ret = None }) c.args.e.now) (alike c.args.space.now m shown)
    ∙ ap (λ (words : List Word). value (load64 (memory_of c.args.space.now)) (record { args = words; ret = None }) c.args.e.now) (sym c.as_slice.ensures)
    ∙ c.in-Ok.ensures

pub returns-in-Err : goal.returns-in-Err
returns-in-Err c = λ m shown. (
  c.in-Err.fault.at,
  ap (λ (look : ℕ → Option ℕ). value look (record { args = c.args.args.now; ret = None }) c.args.e.now) (alike c.args.space.now m shown)
      ∙ ap (λ (words : List Word). value (load64 (memory_of c.args.space.now)) (record { args = words; ret = None }) c.args.e.now) (sym c.as_slice.ensures)
      ∙ c.in-Err.ensures,
  c.unmapped.ensures,
)
