-- Small rows that pin what a check does with a line.
use Rattle.std.proofs.Common.{◌≡◌, ℕ, [], ◌∷◌, refl}
use Rattle.reply_text.specs.Text.{refused_text}
use Rattle.reply_text.specs.declared.ends.Reason.{Reason}
use Rattle.reply_text.specs.declared.ends.Reason.TheVariants.{Form, Cpu, TooMany}
use Rattle.reply_text.specs.declared.ends.Refused.TheVariants.{Invalid}
use Rattle.trace_loop.specs.Progress.{Closing, Ends}
use Rattle.trace_records.specs.declared.Job.TheVariants.{Ask, Save, Move}
use Rattle.trace_records.specs.declared.Record.{Record as Written}
use Rattle.trace_runner.specs.Check.{kept, record_checked, fault_checked, trace_of}
use Rattle.trace_runner.specs.Checking.{Checking}
use Rattle.trace_runner.specs.Checked.{Checked}
use Rattle.trace_runner.specs.Checked.Checked.{Stopped}
use Rattle.trace_records.specs.declared.Call.TheVariants.{ReadPage}
use Rattle.trace_blocks.specs.declared.ends.End.TheVariants.{
  Finish,
  Save as BySave,
  Move as ByMove,
}
use Rattle.trace_replay.specs.declared.status.Verdict.TheVariants.{Stopped as StoppedAt}

abbrev refused : ℕ → Reason → Closing Checked
refused line reason = record { text = refused_text line (Invalid reason); end = Stopped (StoppedAt line (Invalid reason)) }

module _ (s : Checking) where
  -- a refusal is printed alone
  a_refusal : fault_checked 9 (record { line = 9; reason = Form }) (record s { taken = 4 }) ≡ refused 9 Form
  a_refusal = refl

  -- after 200,000 records there is one too many, whatever it is, unless it is out of form and so no record;
  -- the last record may have any reason
  one_record_too_many : (rec : Written) → record_checked 200009 rec (record s { taken = 200000 })
      ≡ Ends (refused 200009 TooMany)
  one_record_too_many rec = refl

  the_last_records : fault_checked 200009 (record { line = 200009; reason = Cpu }) (record s { taken = 200000 })
      ∷ fault_checked 200009 (record { line = 200009; reason = Form }) (record s { taken = 200000 })
      ∷ fault_checked 200008 (record { line = 200008; reason = Cpu }) (record s { taken = 199999 }) ∷ []
      ≡ refused 200009 TooMany ∷ refused 200009 Form ∷ refused 200008 Cpu ∷ []
  the_last_records = refl

  -- phases: a page of processor 0 is read by 1, then the board is saved, and moved
  abbrev first : Checking
  first = kept 4 (record { cpu = 1; h = 700; job = Ask (ReadPage 0) }) (Ask (ReadPage 0)) (record s { phases = []; last = []; taken = 0 })

  abbrev saved : Checking
  saved = kept 5 (record { cpu = 0; h = 900; job = Save }) Save first

  abbrev moved : Checking
  moved = kept 6 (record { cpu = 2; h = 950; job = Move 3000000 500 1000 }) (Move 3000000 500 1000) saved

  a_save_and_a_move_end_their_phases : (trace_of moved).phases
      ≡ record { records = record { line = 4; cpu = 1; h = 700; call = ReadPage 0 } ∷ []; end = BySave 5 0 900 }
      ∷ record { records = []; end = ByMove 6 2 950 (record { khz = 3000000; start = 500; gap = 1000 }) } ∷ record { records = []; end = Finish } ∷ []
  a_save_and_a_move_end_their_phases = refl

  all_three_are_records : moved.taken ≡ 3
  all_three_are_records = refl
