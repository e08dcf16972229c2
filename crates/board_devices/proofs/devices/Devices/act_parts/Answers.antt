use Rattle.std.proofs.Common.{rules, ◌≡◌, ℕ, ◌<◌, ◌++◌, append-nil, List, ap, sym, ◌∙◌, [], IsTrue, subst, arith}
use Rattle.irq_edges.specs.declared.edges.Edge.{Edge}
use Rattle.board_devices.specs.declared.parts.DeviceParts.{DeviceParts}
use Rattle.board_devices.specs.declared.act.Act.{Act}
use Rattle.board_devices.specs.Act.{HasActed, acted, first_part, value_of, reads_byte, act_edges}
use Rattle.board_devices.proofs.ActEdges.{edges-pit_read, edges-index_write, edges-hpet_read}
use Rattle.board_devices.proofs.devices.Devices.act_parts.Goals as goal

-- an access that leaves the ticks as they are, and has no edges
quiet : (a b : Act) (t : ℕ) (before after : DeviceParts) (word : ℕ) (es : List Edge) → a ≡ b → after ≡ acted b before → word ≡ value_of t b before
    → (IsTrue (reads_byte b) → word < 256) → act_edges t b before ≡ [] → after.ticks ≡ before.ticks → HasActed a t before after word es es
quiet a b t before after word es is state value byte none ticks = subst (λ (x : Act). HasActed x t before after word es es) (sym is) (record {
  state = state;
  value = value;
  byte = byte;
  edges = sym (ap (λ (ys : List Edge). es ++ ys) none ∙ append-nil es);
  few = omega arith;
  due = λ k less. rw ticks (omega arith);
})

pub returns-in-PitRead : goal.returns-in-PitRead
unfolding acted first_part value_of
returns-in-PitRead c = quiet c.args.a _ c.args.at c.args.self.now _ _ c.args.edges.now c.in-PitRead.is (search rules) (search rules) (search rules)
    (edges-pit_read c.args.at c.in-PitRead.port c.args.self.now) (search rules)

pub returns-in-IndexWrite : goal.returns-in-IndexWrite
unfolding acted first_part value_of
returns-in-IndexWrite c = quiet c.args.a _ c.args.at c.args.self.now _ _ c.args.edges.now c.in-IndexWrite.is (search rules) (search rules) (search rules)
    (edges-index_write c.args.at c.in-IndexWrite.byte c.args.self.now) (search rules)

pub returns-in-HpetRead : goal.returns-in-HpetRead
unfolding acted first_part value_of
returns-in-HpetRead c = quiet c.args.a _ c.args.at c.args.self.now _ _ c.args.edges.now c.in-HpetRead.is (search rules) (search rules) (search rules)
    (edges-hpet_read c.args.at c.in-HpetRead.offset c.in-HpetRead.width c.args.self.now) (search rules)
