-- Words, and the command that they ask for.
use Rattle.std.proofs.Common.{◌≡◌, ◌==◌, ℕ, List, [], ◌∷◌, true, false, map, codes, refl}
use Rattle.std.specs.List.{slice_split}
use Rattle.clap.specs.Faults.{walk_fault, defaults_fault}
use Rattle.clap.specs.Walk.{walked}
use Rattle.command_line.specs.Command.{command_of}
use Rattle.command_line.specs.declared.command.Command.{Command}
use Rattle.command_line.specs.declared.command.Command.TheVariants.{Replay, Race, Gen, Soak, Help, Version, Unknown}
use Rattle.command_line.specs.declared.command.Page.TheVariants.{Overview, OfReplay, OfRace, OfGen, OfSoak}

-- the words of a line, which are parted by spaces
abbrev asked : List ℕ → Command
asked line = command_of (slice_split (λ b. b == 32) line)

-- a page of the help, of the first word that is a job, and the version
pages : map asked (codes "--help" ∷ codes "replay --help" ∷ codes "race --state --help"
    ∷ codes "gen --help" ∷ codes "soak --help" ∷ codes "walk --help" ∷ codes "--version" ∷ [])
    ≡ Help Overview ∷ Help OfReplay ∷ Help OfRace
    ∷ Help OfGen ∷ Help OfSoak ∷ Help Overview ∷ Version ∷ []
unfolding command_of walk_fault walked defaults_fault
pages = refl

-- jobs on a trace: with the state, wherever it is asked for, but once, and without numbers
trace_jobs : map asked (codes "replay" ∷ codes "replay --state" ∷ codes "--state race"
    ∷ codes "race --state --state" ∷ codes "replay 5" ∷ codes "race 1 2 3" ∷ [])
    ≡ Replay false ∷ Replay true ∷ Race true
    ∷ Unknown ∷ Unknown ∷ Unknown ∷ []
unfolding command_of walk_fault walked defaults_fault
trace_jobs = refl

-- jobs of a size: a key of 64 bits, at most 200000 records and 1 to 16 processors, with a plus or zeros, after two dashes or none
sized_jobs : asked (codes "gen 18446744073709551615 200000 16") ∷ asked (codes "soak +7 007 01")
    ∷ command_of (codes "gen" ∷ codes "--" ∷ codes "1" ∷ codes "2" ∷ codes "3" ∷ []) ∷ []
    ≡ Gen (record { key = 18446744073709551615; records = 200000; cpus = 16 })
    ∷ Soak (record { key = 7; records = 7; cpus = 1 })
    ∷ Gen (record { key = 1; records = 2; cpus = 3 }) ∷ []
unfolding command_of walk_fault walked defaults_fault
sized_jobs = refl

-- .. and no other, nor with two numbers or with the state
other_sizes : map asked (codes "gen 18446744073709551616 1 1" ∷ codes "gen 1 200001 1" ∷ codes "soak 1 1 17"
    ∷ codes "soak 1 1 0" ∷ codes "gen 1 1" ∷ codes "gen 1 1 1 --state" ∷ [])
    ≡ Unknown ∷ Unknown ∷ Unknown
    ∷ Unknown ∷ Unknown ∷ Unknown ∷ []
unfolding command_of walk_fault walked defaults_fault
other_sizes = refl

-- no other job, and none at all
no_job : map command_of ((codes "walk" ∷ []) ∷ [] ∷ []) ≡ Unknown ∷ Unknown ∷ []
unfolding command_of walk_fault walked defaults_fault
no_job = refl
