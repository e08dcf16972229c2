use Rattle.std.proofs.Common.{◌≡◌, ◌≢◌, ◌∙◌, List, map, true, refl, sym, ap, subst, [], IfOk, OnOk}
use Rattle.std.specs.String.{string_bytes}
use Rattle.clap.specs.Words.{
  App,
  HasKind,
  Text,
  fault_of,
  matches_of,
  is_simple,
  is_simple_and_free,
  app_of,
  found_of,
  rows_of,
}
use Rattle.clap.specs.declared.error.kind.ErrorKind.{ErrorKind}
use Rattle.clap.specs.declared.error.kind.ErrorKind.TheVariants.{OutOfMemory}
use Rattle.std.proofs.lemmas.Result.{IfOk-weaker}
use Rattle.command_line.specs.Command.{app, refused_for, HasSize}
use Rattle.command_line.specs.declared.command.Command.{Command}
use Rattle.command_line.proofs.Sizes.{HasSize-command}
use Rattle.command_line.proofs.Parsed.{took, answered, named}
use Rattle.command_line.proofs.parse.command_of.Goals as goal

pub returns-in-Ok-try_get_matches_from-clause-command : goal.returns-in-Ok-try_get_matches_from-clause-command
returns-in-Ok-try_get_matches_from-clause-command c =
    let words : List Text = map (string_bytes {Z = _}) c.args.words.now in
    let m = c.in-Ok-try_get_matches_from.matches in
    let app_is : app_of c.in-Ok.command ≡ app = c.in-Ok.ensures in
    let free : is_simple_and_free (app_of c.in-Ok.command) ≡ true = ap is_simple_and_free app_is ∙ refl in
    let simple : is_simple (app_of c.in-Ok.command) ≡ true = ap is_simple app_is ∙ refl in
    let given = c.in-Ok-try_get_matches_from.ensures in
    let none : fault_of app words ≡ [] = ap (λ (a : App). fault_of a words) (sym app_is) ∙ given.kinds free in
    let rows : rows_of (found_of m) ≡ matches_of app words = (given.matches simple).0 ∙ ap (λ (a : App). matches_of a words) app_is in
    let n = c.named.ensures in
    c.asked_for.ensures
    ∙ named (rows_of (found_of m)) _ c.named.result.key c.named.result.records c.named.result.cpus c.named.result.shows_state
    n.job n.key n.records n.cpus n.state
    ∙ took words m none rows

pub returns-in-Err-try_get_matches_from-clause-command : goal.returns-in-Err-try_get_matches_from-clause-command
returns-in-Err-try_get_matches_from-clause-command c =
    let app_is : app_of c.in-Ok.command ≡ app = c.in-Ok.ensures in
    let free : is_simple_and_free (app_of c.in-Ok.command) ≡ true = ap is_simple_and_free app_is ∙ refl in
    let words : List Text = map (string_bytes {Z = _}) c.args.words.now in
    let e = c.in-Err-try_get_matches_from.error in
    let has : HasKind (fault_of app words) e =
    subst (λ (a : App). HasKind (fault_of a words) e) app_is (c.in-Err-try_get_matches_from.ensures.kinds free) in
    answered words e c.refused_for.result has
    (subst (λ (k : ErrorKind). IfOk c.refused_for.result (λ x. x ≡ refused_for words k)) c.kind.ensures c.refused_for.ensures.command)
    (subst (λ (k : ErrorKind). OnOk c.refused_for.result (k ≢ OutOfMemory)) c.kind.ensures c.refused_for.ensures.memory)

pub returns-in-Ok-try_get_matches_from-clause-size : goal.returns-in-Ok-try_get_matches_from-clause-size
returns-in-Ok-try_get_matches_from-clause-size c =
    let words : List Text = map (string_bytes {Z = _}) c.args.words.now in
    let given = returns-in-Ok-try_get_matches_from-clause-command c in
    subst HasSize (sym given) (HasSize-command words)

pub returns-in-Err-try_get_matches_from-clause-size : goal.returns-in-Err-try_get_matches_from-clause-size
returns-in-Err-try_get_matches_from-clause-size c =
    IfOk-weaker c.refused_for.result _ _ (λ (x : Command) e. subst HasSize (sym e) (HasSize-command (map (string_bytes {Z = _}) c.args.words.now)))
    (returns-in-Err-try_get_matches_from-clause-command c)
