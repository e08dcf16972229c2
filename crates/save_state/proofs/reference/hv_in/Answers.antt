use Rattle.save_state.proofs.Names.{sym, ◌∙◌, blank}
use Rattle.save_state.proofs.Blocks.{read-page, read-no-page}
use Rattle.save_state.proofs.reference.hv_in.Goals as goal

pub returns-then-format-lt-HV_FORMAT-clause-value : goal.returns-then-format-lt-HV_FORMAT-clause-value
returns-then-format-lt-HV_FORMAT-clause-value c =
    let at = c.args.fields.now in sym (read-no-page c.args.format at.place at.bytes.now blank c.if-format-lt-HV_FORMAT.true)

pub returns-clause-value : goal.returns-clause-value
returns-clause-value c =
    let at = c.args.fields.now in
    c.reference_in.ensures.value ∙ sym (read-page c.args.format at.place at.bytes.now blank c.if-format-lt-HV_FORMAT.false)
