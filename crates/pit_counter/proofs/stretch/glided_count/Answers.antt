use Rattle.std.proofs.Common.{◌≡◌, ◌+◌, ◌-◌, ◌*◌, ◌%◌, ℕ, ap, ◌∙◌}
use Rattle.std.proofs.lemmas.Nat.{mul-mod_second}
use Rattle.pit_counter.specs.Count.{modulus}
use Rattle.pit_counter.specs.private.Stretch.{glided_count}
use Rattle.pit_counter.proofs.stretch.glided_count.Goals as goal

pub returns : goal.returns
unfolding glided_count
returns c =
    let bits = c.args.bits in
    let rest : c.remainder-down.result ≡ c.args.step * c.args.n % modulus bits =
    c.remainder-down.ensures.value ∙ ap (λ (x : ℕ). c.args.step * x % modulus bits) c.remainder.ensures.value
    ∙ mul-mod_second c.args.step c.args.n (modulus bits) in
    c.remainder-2.ensures.value
    ∙ ap (λ (m : ℕ). (c.args.ce + m - c.remainder-down.result) % modulus bits) c.modulus.ensures.value
    ∙ ap (λ (x : ℕ). (c.args.ce + modulus bits - x) % modulus bits) rest
