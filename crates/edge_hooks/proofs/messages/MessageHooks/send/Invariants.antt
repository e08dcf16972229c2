use Rattle.std.proofs.Common.{◌≡◌, ◌≤◌, length, take}
use Rattle.edge_hooks.proofs.Delivered.{SentAll}
use Rattle.edge_hooks.proofs.messages.MessageHooks.send.Given as goal

abbrev pub invariant-loop-burst : goal.invariant-loop-burst
invariant-loop-burst g l = record {
  bursts : l.burst-items ≡ l.bursts;
  fits : length l.burst-items ≤ 8;
  sent : SentAll l.self.cpus (goal.G-post g l.self.hook) (take l.burst-index l.burst-items) l.sent;
}
