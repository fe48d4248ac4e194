-- The program's command, as `clap` reads it.
use Rattle.std.specs.Prelude.{ℕ, List, codes, Some, true}
use Rattle.clap.specs.Words.{App, Rule, Text, new_app, new_rule, with_rule, with_subcommand}

-- an option --ID with one value
abbrev pub option : Text → Rule
option id = record (new_rule id) { long = Some id }

-- one that has to be given
abbrev pub required_option : Text → Rule
required_option id = record (option id) { required = true }

-- how many check at one time, and how many steps a unit may take
abbrev pub with_callers : App → App
with_callers a = with_rule (with_rule a (option (codes "workers"))) (option (codes "steps"))

-- how a check is to go
abbrev pub with_options : App → App
with_options a =
    let memo = with_rule (with_callers a) (option (codes "memo")) in
    with_rule memo (option (codes "allow"))

-- the subcommand of this name, whose one option says how many steps a unit may take
abbrev pub with_steps : Text → App
with_steps name = with_rule (new_app name) (option (codes "steps"))

-- which file is to be made
abbrev pub with_sample : App → App
with_sample a = with_rule (with_rule a (required_option (codes "units"))) (required_option (codes "seed"))

abbrev pub check : App
check = with_options (new_app (codes "check"))

abbrev pub make : App
make = with_sample (new_app (codes "make"))

abbrev pub trial : App
trial = with_options (with_sample (new_app (codes "trial")))

abbrev pub trim : App
trim = with_rule (new_app (codes "trim")) (required_option (codes "name"))

abbrev pub trace : App
trace = with_steps (codes "trace")

abbrev pub replay : App
replay = new_app (codes "replay")

abbrev pub recheck : App
recheck = with_steps (codes "recheck")

abbrev pub session : App
session = with_callers (new_app (codes "session"))

-- the subcommands that check one file, or make one
abbrev pub with_checks : App
with_checks =
    let checked = with_subcommand (new_app (codes "leancheck")) check.top in
    let made = with_subcommand checked make.top in
    with_subcommand made trial.top

-- these, and the subcommands that write what a declaration needs, or a library with derivations
abbrev pub with_writers : App
with_writers =
    let trimmed = with_subcommand with_checks trim.top in
    with_subcommand trimmed trace.top

abbrev pub leancheck : App
leancheck =
    let replayed = with_subcommand with_writers replay.top in
    let rechecked = with_subcommand replayed recheck.top in
    with_subcommand rechecked session.top

abbrev pub usage_line : List ℕ
usage_line =
    codes "usage: leancheck check|make|trial|trim|trace|replay|recheck|session [--workers W] [--steps N] [--memo M] [--allow LIST] [--units N] [--seed S] [--name NAME]\n"
