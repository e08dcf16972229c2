-- A command that has a size has one that may be.
use Rattle.std.proofs.Common.{◌≡◌, ℕ, Bool, true, false, cond, leb, ltb, List, [], ◌∷◌, ◌&&◌, Option, Some, None, codes, refl}
use Rattle.std.proofs.lemmas.Bool.{and_parts, leb-true}
use Rattle.std.specs.Str.{bytes_eq}
use Rattle.trace_gen.specs.declared.generator.TheConstants.{RECORDS_MAX, CPUS_MAX}
use Rattle.clap.specs.Words.{Kinds, Row, Text, fault_of, first_of, matches_of}
use Rattle.clap.specs.declared.error.kind.ErrorKind.{ErrorKind}
use Rattle.clap.specs.declared.error.kind.ErrorKind.TheVariants.{DisplayHelp, DisplayVersion}
use Rattle.command_line.specs.declared.command.Command.{Command}
use Rattle.command_line.specs.declared.command.Command.TheVariants.{Replay, Race, Gen, Soak, Unknown}
use Rattle.command_line.specs.declared.command.Size.{Size}
use Rattle.std.specs.Option.{option_map_or}
use Rattle.command_line.specs.Command.{IsSize, HasSize, in_range, app, number_in, is_used, trace_job, size_of, job_named, asked_for, refused_for, by_kinds, command_of}

IsSize-in_range : (key records cpus : ℕ) → in_range records cpus ≡ true → IsSize (record { key = key; records = records; cpus = cpus })
IsSize-in_range key records cpus t =
    let parts = and_parts (leb records RECORDS_MAX) (ltb 0 cpus && leb cpus CPUS_MAX) t in
    let more = and_parts (ltb 0 cpus) (leb cpus CPUS_MAX) parts.1 in
    record { records = leb-true records RECORDS_MAX parts.0; some_cpu = leb-true 1 cpus more.0; cpus = leb-true cpus CPUS_MAX more.1 }

HasSize-cond : (t : Bool) (a b : Command) → HasSize a → HasSize b → HasSize (cond t a b)
HasSize-cond true a b x y = x
HasSize-cond false a b x y = y

HasSize-tested : (job : Size → Command) (size : Size) (t : Bool) → (t ≡ true → HasSize (job size)) → HasSize (option_map_or job (cond t (Some size) None) Unknown)
HasSize-tested job size true has = has refl
HasSize-tested job size false has = search

HasSize-sized : (job : Size → Command) → ((size : Size) → IsSize size → HasSize (job size)) → (key records cpus : Option ℕ) (shows_state : Bool)
    → HasSize (option_map_or job (size_of key records cpus shows_state) Unknown)
HasSize-sized job has (Some key) (Some records) (Some cpus) false =
    let size : Size = record { key = key; records = records; cpus = cpus } in
    HasSize-tested job size (in_range records cpus) (λ t. has size (IsSize-in_range key records cpus t))
HasSize-sized job has (Some key) (Some records) (Some cpus) true = search
HasSize-sized job has (Some key) (Some records) None shows_state = search
HasSize-sized job has (Some key) None cpus shows_state = search
HasSize-sized job has None records cpus shows_state = search

HasSize-trace : (command : Command) → HasSize command → (key records cpus : Option ℕ) → HasSize (trace_job command key records cpus)
HasSize-trace command has None None None = has
HasSize-trace command has None None (Some cpus) = search
HasSize-trace command has None (Some records) cpus = search
HasSize-trace command has (Some key) records cpus = search

HasSize-named : (name : Text) (key records cpus : Option ℕ) (shows_state : Bool) → HasSize (job_named name key records cpus shows_state)
HasSize-named name key records cpus shows_state =
    let gen : Command = option_map_or Gen (size_of key records cpus shows_state) Unknown in
    let soak : Command = option_map_or Soak (size_of key records cpus shows_state) Unknown in
    let soak_or : Command = cond (bytes_eq name (codes "soak")) soak Unknown in
    let gen_or : Command = cond (bytes_eq name (codes "gen")) gen soak_or in
    let race : Command = trace_job (Race shows_state) key records cpus in
    let replay : Command = trace_job (Replay shows_state) key records cpus in
    HasSize-cond (bytes_eq name (codes "replay")) replay (cond (bytes_eq name (codes "race")) race gen_or)
    (HasSize-trace (Replay shows_state) (search) key records cpus)
    (HasSize-cond (bytes_eq name (codes "race")) race gen_or (HasSize-trace (Race shows_state) (search) key records cpus)
    (HasSize-cond (bytes_eq name (codes "gen")) gen soak_or (HasSize-sized Gen (λ size is. is) key records cpus shows_state)
    (HasSize-cond (bytes_eq name (codes "soak")) soak Unknown (HasSize-sized Soak (λ size is. is) key records cpus shows_state) (search))))

HasSize-asked : (name : Option Text) (key records cpus : Option ℕ) (shows_state : Bool) → HasSize (asked_for name key records cpus shows_state)
HasSize-asked None key records cpus shows_state = search
HasSize-asked (Some name) key records cpus shows_state = HasSize-named name key records cpus shows_state

pub HasSize-refused : (words : List Text) (kind : ErrorKind) → HasSize (refused_for words kind)
HasSize-refused words DisplayHelp = search
HasSize-refused words DisplayVersion = search
HasSize-refused words kind = search

HasSize-kinds : (words : List Text) (kinds : Kinds) (rows : List Row) → HasSize (by_kinds words kinds rows)
HasSize-kinds words [] rows = HasSize-asked (first_of (codes "job") rows) (number_in (codes "key") rows) (number_in (codes "records") rows)
    (number_in (codes "cpus") rows) (is_used (codes "state") rows)
HasSize-kinds words (kind ∷ kinds) rows = HasSize-refused words kind

pub HasSize-command : (words : List Text) → HasSize (command_of words)
unfolding command_of
HasSize-command words = HasSize-kinds words (fault_of app words) (matches_of app words)
