use Rattle.std.proofs.Common.{arith, ◌<◌, ◌≤◌, sym, subst}
use Rattle.board_types.specs.declared.parts.BoardParts.{BoardParts}
use Rattle.board_types.specs.declared.parts.HvParts.{HvParts}
use Rattle.board_types.specs.declared.parts.TheConstants.{LAST_VERSION}
use Rattle.board_types.specs.declared.setup.TheConstants.{HV_FORMAT}
use Rattle.board_core.specs.Conditions.{IsHv}
use Rattle.board_core.proofs.Joined.{IsHv-published}
use Rattle.board_core.proofs.board.BoardState.publish_hv.Goals as goal

pub invariant_of-self : goal.invariant_of-self
invariant_of-self c =
    let i = c.self.invariant.joined in
    let b = c.self.inside in
    let there : HV_FORMAT ≤ b.format = omega arith in
    let less : b.hv.version < LAST_VERSION = subst (λ (x : BoardParts). x.hv.version < LAST_VERSION) (sym c.self.view_is) c.requires.version in
    record {
      time = c.self.invariant.time;
      joined = record {
        format = i.format;
        messages = i.messages;
        rates = i.rates;
        time = i.time;
        accesses = i.accesses;
        due = i.due;
        wall = i.wall;
        processors = i.processors;
        rises = i.rises;
        apics = i.apics;
        hv = subst (λ (p : HvParts). IsHv b.format b.guest_khz b.cpus p) (sym c.hv_published-self-inside.ensures)
            (IsHv-published b.anchor b.format b.guest_khz b.cpus b.host _ b.hv i.rates.guest there i.hv.version less i.hv.processor);
      };
    }
