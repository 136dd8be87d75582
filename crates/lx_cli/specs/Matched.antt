-- The command of what the parser found.
use Rattle.std.specs.Prelude.{List, codes, Option, Some, None, option_map, option_and_then, if◌then◌else◌}
use Rattle.std.specs.Str.{bytes_eq}
use Rattle.clap.specs.Words.{Row, Text, first_of}
use Rattle.lx_cli.specs.Words.{Command, Run, Replay, Instrument, Check, Generate, Surface, Why, count_of}

-- a command by its name, with the words that were found for it

abbrev pub run_by : List Row → Option Command
run_by rows = option_map Run (first_of (codes "case") rows)

abbrev pub replay_by : List Row → Option Command
replay_by rows = option_and_then (λ case. option_map (Replay case) (first_of (codes "schedule") rows)) (first_of (codes "case") rows)

abbrev pub instrument_by : List Row → Option Command
instrument_by rows = option_and_then (λ case. option_map (Instrument case) (first_of (codes "module") rows)) (first_of (codes "case") rows)

abbrev pub check_by : List Row → Option Command
check_by rows =
    option_and_then (λ case. option_and_then (λ part. option_map (Check case part) (first_of (codes "image") rows)) (first_of (codes "module") rows)) (first_of (codes "case") rows)

abbrev pub generate_by : List Row → Option Command
generate_by rows = option_and_then (λ word. option_map Generate (count_of word)) (first_of (codes "count") rows)

abbrev pub surface_by : List Row → Option Command
surface_by rows = option_map Surface (first_of (codes "case") rows)

abbrev pub why_by : List Row → Option Command
why_by rows = option_and_then (λ case. option_map (Why case) (first_of (codes "schedule") rows)) (first_of (codes "case") rows)

abbrev pub command_by : Text → List Row → Option Command
command_by name rows =
    if bytes_eq name (codes "run") then run_by rows
    else (if bytes_eq name (codes "replay") then replay_by rows
    else (if bytes_eq name (codes "instrument") then instrument_by rows
    else (if bytes_eq name (codes "check") then check_by rows
    else (if bytes_eq name (codes "generate") then generate_by rows
    else (if bytes_eq name (codes "surface") then surface_by rows
    else (if bytes_eq name (codes "why") then why_by rows else None))))))

-- the command of what was found, if anything was
abbrev pub command_found : Option (Text × List Row) → Option Command
command_found None = None
command_found (Some p) = command_by p.0 p.1
