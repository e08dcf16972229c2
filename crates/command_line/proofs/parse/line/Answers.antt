use Rattle.std.proofs.Common.{◌≡◌, ◌∙◌, ap₂, rules}
use Rattle.std.proofs.lemmas.Result.{IfOk-weaker}
use Rattle.clap.specs.Words.{app_of, rule_of, with_rule}
use Rattle.command_line.specs.Command.{bare, job_rule, state_rule}
use Rattle.command_line.proofs.parse.line.Goals as goal

pub returns : goal.returns
returns c =
    let bare_is : app_of c.version.result ≡ bare = search rules in
    let job_is : rule_of c.required.result ≡ job_rule = search rules in
    let state_is : rule_of c.action.result ≡ state_rule = search rules in
    let one = c.in_ok-arg.ensures.shape (search rules) ∙ ap₂ with_rule bare_is job_is in
    let two = c.in_ok-arg-2.ensures.shape c.number_arg.ensures.local ∙ ap₂ with_rule one c.number_arg.ensures.rule in
    let three = c.in_ok-arg-3.ensures.shape c.number_arg-2.ensures.local ∙ ap₂ with_rule two c.number_arg-2.ensures.rule in
    let four = c.in_ok-arg-4.ensures.shape c.number_arg-3.ensures.local ∙ ap₂ with_rule three c.number_arg-3.ensures.rule in
    IfOk-weaker c.arg-5.result _ _ (λ m h. h.shape (search rules) ∙ ap₂ with_rule four state_is) c.arg-5.ensures
