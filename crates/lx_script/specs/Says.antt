-- What a function answers of a word.
use Rattle.std.specs.Prelude.{◌≡◌, Result, Ok, Err}
use Rattle.lx_script.specs.declared.run.WordFault.{WordFault}
use Rattle.lx_script.specs.Runs.{Wrong}

abbrev pub SaysWord : {X Y : Type 0} → (X → Y) → Result X WordFault → Result Y Wrong → Type 0
SaysWord view (Ok x) said = said ≡ Ok (view x)
SaysWord view (Err e) said = said ≡ Err (e.kind, e.what.now)
