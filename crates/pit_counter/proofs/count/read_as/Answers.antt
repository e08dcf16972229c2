use Rattle.std.proofs.Common.{◌≡◌, ◌<◌, true, sym, ◌∙◌}
use Rattle.pit_counter.specs.Mode.{is_bcd}
use Rattle.pit_counter.specs.Count.{modulus}
use Rattle.pit_counter.proofs.count.read_as.Goals as goal

pub to_digits-requires : goal.to_digits-requires
unfolding modulus
to_digits-requires c =
    let bcd : is_bcd c.args.bits ≡ true = sym c.is_bcd.ensures ∙ c.if-is_bcd.true in
    let below : c.args.ce < modulus c.args.bits = c.requires in
    simp bcd at below
