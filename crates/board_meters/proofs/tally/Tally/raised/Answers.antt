use Rattle.std.proofs.Common.{◌<◌, ◌≤◌, ℕ, Option, IfSome, subst, sym}
use Rattle.board_meters.specs.declared.meters.Meters.{Meters}
use Rattle.board_meters.proofs.Publishing.{page_place}
use Rattle.board_meters.proofs.tally.Tally.raised.Goals as goal

pub version_at-requires : goal.version_at-requires
version_at-requires c =
    let m = c.args.self.now in
    subst (λ (o : Option ℕ). IfSome o (λ k. k < 64)) (sym c.published_by.ensures)
    (page_place m.cpus m.format c.args.cpu c.args.a (subst (λ (p : Meters). p.cpus ≤ 64) c.self.view_is c.self.invariant.few) c.requires.cpu c.requires.legal)
