use Rattle.std.proofs.Common.{rules, ℕ, ap, subst, ◌∙◌}
use Rattle.board_types.specs.declared.access.Access.TheVariants.{PortOut}
use Rattle.clockboard_c.specs.Replies.{Told, IsReply}
use Rattle.clockboard_c.specs.Call.{told}
use Rattle.clockboard_c.specs.Kept.{seen}
use Rattle.clockboard_c.proofs.Wide.{told-narrowed}
use Rattle.clockboard_c.proofs.ports.clockboard_port_write.Goals as goal

pub returns : goal.returns
returns c = record {
  reply =
      subst (λ (t : Told). IsReply c.args.reply.now c.call.new.reply t)
      (ap (λ (port : ℕ). told (seen c.args.board.now) c.args.cpu c.args.host (PortOut port c.args.byte)) c.narrowed-port.ensures
      ∙ told-narrowed (seen c.args.board.now) c.args.cpu c.args.host c.args.port c.args.byte)
      c.call.ensures.reply;
  board = search rules;
}
