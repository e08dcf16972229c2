use Rattle.std.proofs.Common.{ℕ, ◌+◌, get_or, refl, arith}
use Rattle.trace_text.proofs.Ports.{two_decimals, pit_port, rtc_port}
use Rattle.trace_text.proofs.bytes.port_at.Goals as goal

pub returns-then-low-le51 : goal.returns-then-low-le51
returns-then-low-le51 c =
    let b : ℕ = get_or c.args.line.now (c.args.at + 1) 0 in
    let spelt =
    two_decimals c.args.at 52 b (b + 16) c.args.line.now c.if-high-eq52.true (omega arith) (omega arith) refl c.if-low-ge48.true
    (omega arith) (omega arith) (omega arith) c.if-not-ends_at.ensures in
    (omega arith, pit_port (b + 16) (omega arith) (omega arith), spelt)

pub returns-then-low-le49 : goal.returns-then-low-le49
returns-then-low-le49 c =
    let b : ℕ = get_or c.args.line.now (c.args.at + 1) 0 in
    let spelt =
    two_decimals c.args.at 55 b (b + 64) c.args.line.now c.if-high-eq55.true (omega arith) (omega arith) refl c.if-low-ge48-2.true
    (omega arith) (omega arith) (omega arith) c.if-not-ends_at.ensures in
    (omega arith, rtc_port (b + 64) (omega arith) (omega arith), spelt)

pub returns-then-low-eq49 : goal.returns-then-low-eq49
returns-then-low-eq49 c =
    let spelt =
    two_decimals c.args.at 54 49 97 c.args.line.now c.if-high-eq54.true (omega arith) (omega arith) c.if-low-eq49.true (omega arith)
    (omega arith) (omega arith) (omega arith) c.if-not-ends_at.ensures in
    (omega arith, refl, spelt)
