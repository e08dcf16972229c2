use Rattle.std.proofs.Common.{sym, subst}
use Rattle.trace_records.specs.declared.Call.{Call}
use Rattle.trace_records.specs.Calls.{IsFittingCall}
use Rattle.shared_board.specs.Reads.{place_in}
use Rattle.race_phase.specs.private.Workers.{CallTrouble}
use Rattle.race_phase.proofs.Unread.{unread}
use Rattle.race_phase.proofs.Answered.{may_read, read_made, read_trouble}
use Rattle.race_phase.proofs.batch.answer_read.Goals as goal

pub read-requires : goal.read-requires
read-requires g c =
    let s = g.N.Name.state in
    record { may = may_read s c.args.what (subst (λ (call : Call). IsFittingCall s.cpus s.format call) c.requires.call c.requires.fitting.1) }

pub returns-in-Ok : goal.returns-in-Ok
returns-in-Ok g c = record {
  ok = read_made g.N.Name.state c.args.given.now c.args.pass.now c.read.new.pass c.args.what c.in-Ok.reply c.requires.call c.in-Ok.ensures.ok;
  err = tt;
}

pub returns-in-Err : goal.returns-in-Err
returns-in-Err g c =
    let r = c.args.given.now in
    let s = g.N.Name.state in
    let q = c.read.new.pass in
    let t = unread s (place_in s.cpus c.args.what) r.h c.in-Err._fault c.args.pass.now q c.requires.legal c.in-Err.ensures.err in
    record { ok = tt; err = (t.0, subst (λ (call : Call). CallTrouble s r.cpu r.h call q.seen) (sym c.requires.call) (read_trouble s c.args.what r.cpu r.h q.seen t.1)) }
