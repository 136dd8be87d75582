-- The history that an index of acts stands for.
use Rattle.std.specs.Prelude.{◌≡◌, ℕ, Bool, List, ◌∷◌, length}
use Rattle.lx_caps.specs.declared.Principal.{Principal}
use Rattle.lx_caps.specs.declared.Atom.{Atom}
use Rattle.lx_caps.specs.declared.Act.{Act}
use Rattle.lx_caps.specs.Loans.{Endings}
use Rattle.lx_caps.specs.History.{History}
use Rattle.lx_certificates.specs.declared.givers.Gifts.{Gifts}
use Rattle.lx_certificates.specs.Givers.{giver_among, newest_strip}
use Rattle.lx_cap_lists.specs.Tables.{bit_of}
use Rattle.lx_act_index.specs.declared.lines.Entry.{Entry}
use Rattle.lx_act_index.specs.declared.table.Table.{Table}
use Rattle.lx_act_index.specs.declared.threads.Thread.{Thread}
use Rattle.lx_act_index.specs.Lines.{line_giver, line_strip, AreLentBefore}
use Rattle.lx_act_index.specs.Threads.{is_open, AreThreads}
use Rattle.lx_act_index.specs.Table.{IsTable, line_of}

-- a line says of an atom what the history does, whatever loans later acts end
pub record IsLine (h : History) (threads : List Thread) (x : Atom) (line : List Entry) : Type 0 where
  pub giver : (gifts : Gifts) (among : Principal → Bool) (ends : Endings) → line_giver gifts among (is_open ends threads) (bit_of x) line ≡ giver_among gifts among ends h x
  pub strip : line_strip (bit_of x) line ≡ newest_strip h x
  pub before : AreLentBefore (length h) line

-- lines and threads show what the acts of a history said and opened
pub record Shows (t : Table) (now : List Thread) (h : History) : Type 0 where
  pub table : IsTable t
  pub threads : AreThreads h now
  pub lines : (x : Atom) → IsLine h now x (line_of t x)

-- they show one act more, which has this number
unfoldable pub Notes : ℕ → Act → Table → List Thread → Table → List Thread → Type 0
Notes number act t threads new now = (h : History) → number ≡ length h → Shows t threads h → Shows new now (act ∷ h)

-- they show what they did
unfoldable pub Keeps : Table → List Thread → Table → List Thread → Type 0
Keeps t threads new now = (h : History) → Shows t threads h → Shows new now h
