use Rattle.std.proofs.Common.{◌∙◌, ap, codes}
use Rattle.std.specs.Prelude.{option_and_then, false}
use Rattle.std.specs.Option.{option_map_or}
use Rattle.std.specs.Str.{bytes_eq}
use Rattle.clap.specs.Words.{found_of}
use Rattle.clap.proofs.WalkLemmas.{first_value-rows}
use Rattle.command_line.specs.Command.{number_of}
use Rattle.command_line.proofs.parse.named.Goals as goal

pub returns-clause-job : goal.returns-clause-job
returns-clause-job c = c.get_str.ensures ∙ first_value-rows (found_of c.args.matches.now) (codes "job")

pub returns-clause-key : goal.returns-clause-key
returns-clause-key c = c.number.ensures
    ∙ ap (option_and_then number_of) (c.get_str-2.ensures ∙ first_value-rows (found_of c.args.matches.now) (codes "key"))

pub returns-clause-records : goal.returns-clause-records
returns-clause-records c = c.number-2.ensures
    ∙ ap (option_and_then number_of) (c.get_str-3.ensures ∙ first_value-rows (found_of c.args.matches.now) (codes "records"))

pub returns-clause-cpus : goal.returns-clause-cpus
returns-clause-cpus c = c.number-3.ensures
    ∙ ap (option_and_then number_of) (c.get_str-4.ensures ∙ first_value-rows (found_of c.args.matches.now) (codes "cpus"))

pub returns-clause-state : goal.returns-clause-state
returns-clause-state c = c.is_true.ensures
    ∙ ap (λ o. option_map_or (λ t. bytes_eq t (codes "true")) o false)
    (c.get_str-5.ensures ∙ first_value-rows (found_of c.args.matches.now) (codes "state"))
