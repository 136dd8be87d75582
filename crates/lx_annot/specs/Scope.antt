-- The scope of an expression, as its arguments and its result.
use Rattle.std.specs.Prelude.{option_copied}
use Rattle.lx_annot.specs.declared.expr.Env.{Env}
use Rattle.lx_annot.specs.declared.value.Scope.{Scope}

abbrev pub env_of : Scope → Env
env_of scope = record { args = scope.args.now; ret = option_copied scope.ret }
