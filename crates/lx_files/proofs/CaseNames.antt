-- The words of a case are text, and so are the names of its files.
use Rattle.std.proofs.Common.{sym, subst, ℕ, ◌+◌, ◌==◌, Bool, true, false, cond, List, [], ◌∷◌, ◌++◌, length, map, Option, inl, inr}
use Rattle.std.specs.Prelude.{filter, nat_lt, codes}
use Rattle.std.specs.List.{slice_split}
use Rattle.std.specs.Str.{IsAscii}
use Rattle.lx_script.specs.declared.case.Origin.{Origin}
use Rattle.lx_script.specs.declared.case.Origin.TheVariants as origins
use Rattle.lx_script.specs.declared.case.CaseModule.{CaseModule}
use Rattle.lx_script.specs.Case.{Case}
use Rattle.lx_script.specs.Lines.{Line, Statement, numbered, lines_from, stop_of, front_of, statement_text, statement_of, says_something, statements_from, statements_of}
use Rattle.lx_script.specs.Reading.{Draft}
use Rattle.lx_script.specs.Grammar.{Has, origin_words, Stands, StandAll, SaysCase}
use Rattle.lx_files.specs.Names.{IsNamed, AreNamed, NamesAreText}
use Rattle.lx_files.proofs.Ascii.{AreAscii, EachAscii, ascii_at, front_ascii, split_ascii, filter_ascii}

-- the lines and statements of a text

abbrev EachLine : List Line → Type 0
EachLine [] = Unit {0}
EachLine (l ∷ ls) = AreAscii l.text × EachLine ls

abbrev EachStatement : List Statement → Type 0
EachStatement [] = Unit {0}
EachStatement (s ∷ ss) = EachAscii s.words × EachStatement ss

numbered_ascii : (row : ℕ) (stop : Option ℕ) (pieces : List (List ℕ)) → EachAscii pieces → EachLine (numbered row stop pieces)
numbered_ascii row stop [] h = tt
numbered_ascii row stop (l ∷ []) h = (h.0, tt)
numbered_ascii row stop (l ∷ m ∷ ls) h = (h.0, numbered_ascii (row + 1) stop (m ∷ ls) h.1)

said_by : (b : ℕ) (bs : List ℕ) (test : Bool) → AreAscii (b ∷ bs) → AreAscii (cond test [] (b ∷ bs))
said_by b bs true h = tt
said_by b bs false h = h

said_ascii : (line : List ℕ) → AreAscii line → AreAscii (statement_text line)
said_ascii [] h = tt
said_ascii (b ∷ bs) h = said_by b bs (b == 35) h

statement_ascii : (l : Line) → AreAscii l.text → EachAscii (statement_of l).words
statement_ascii l h =
    filter_ascii (λ w. nat_lt 0 (length w)) (slice_split (λ b. b == 32) (statement_text l.text))
    (split_ascii (λ b. b == 32) (statement_text l.text) (said_ascii l.text h))

keep_by : (s : Statement) (ss : List Statement) (test : Bool) → EachAscii s.words → EachStatement ss → EachStatement (cond test (s ∷ ss) ss)
keep_by s ss true h e = (h, e)
keep_by s ss false h e = e

lines_ascii : (ls : List Line) → EachLine ls → EachStatement (filter says_something (map statement_of ls))
lines_ascii [] h = tt
lines_ascii (l ∷ ls) h =
    keep_by (statement_of l) (filter says_something (map statement_of ls)) (says_something (statement_of l)) (statement_ascii l h.0) (lines_ascii ls h.1)

text_ascii : (text : List ℕ) → EachStatement (statements_of text)
unfolding statements_from
text_ascii text =
    lines_ascii (lines_from 1 text)
    (numbered_ascii 1 (stop_of text) (slice_split (λ b. b == 10) (front_of text)) (split_ascii (λ b. b == 10) (front_of text) (front_ascii text)))

-- what the statements say

origin_named : (o : Origin) (s : Statement) (keyword : List ℕ) → EachAscii s.words → Has s (keyword ∷ origin_words o) → IsNamed o
origin_named origins.None s keyword h has = tt
origin_named origins.Builtin s keyword h has = tt
origin_named (origins.File name) s keyword h has = ascii_at name (subst EachAscii has.0 h).1.1.0

named_end : (ms : List CaseModule) (m : CaseModule) → AreNamed ms → IsAscii m.file → AreNamed (ms ++ m ∷ [])
named_end [] m h named = (named, tt)
named_end (x ∷ ms) m h named = (h.0, named_end ms m h.1 named)

stands_named : (old new : Draft) (s : Statement) → EachAscii s.words → AreNamed old.modules → Stands old s new → AreNamed new.modules
stands_named old new s h named (inl m) =
    subst (λ (d : Draft). AreNamed d.modules) (sym m.is)
    (named_end old.modules (record { name = m.name; file = m.file }) named (ascii_at m.file (subst EachAscii m.has.0 h).1.1.0))
stands_named old new s h named (inr (inl t)) = subst (λ (d : Draft). AreNamed d.modules) (sym t.is) named
stands_named old new s h named (inr (inr c)) = subst (λ (d : Draft). AreNamed d.modules) (sym c.is) named

all_named : (ss : List Statement) (old new : Draft) → EachStatement ss → AreNamed old.modules → StandAll old ss new → AreNamed new.modules
all_named [] old new h named is = subst (λ (d : Draft). AreNamed d.modules) is named
all_named (s ∷ ss) old new h named is = all_named ss is.0 new h.1 (stands_named old is.0 s h.0 named is.1) is.2

pub names_are_text : (text : List ℕ) (c : Case) → SaysCase text c → NamesAreText c
names_are_text text c says =
    let each : EachStatement (says.version ∷ says.kernel ∷ says.interface ∷ says.body) = subst EachStatement says.whole (text_ascii text) in
    record {
      kernel_named = origin_named c.kernel says.kernel (codes "kernel") each.1.0 says.kernel_has;
      interface_named = origin_named c.interface says.interface (codes "interface") each.1.1.0 says.interface_has;
      modules_named = all_named says.body (record { modules = []; threads = [] }) (record { modules = c.modules; threads = c.threads }) each.1.1.1 tt says.body_stands;
    }
