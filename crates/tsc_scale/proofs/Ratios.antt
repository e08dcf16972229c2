-- A guest whose rate is a multiple of its host's.
use Rattle.std.proofs.Common.{◌≡◌, ℕ, ◌*◌, ◌/◌, ◌%◌, ◌^◌, ◌<◌, ap, sym, ◌∙◌, arith}
use Rattle.std.proofs.Math.Nat.{mul-div_cancel}
use Rattle.tsc_scale.specs.Ratio.{ratio_of}

-- its ratio is whole
pub ratio_whole : (guest_khz host_khz : ℕ) → 0 < host_khz → guest_khz % host_khz ≡ 0 → guest_khz / host_khz * 2 ^ 48 ≡ ratio_of guest_khz host_khz
ratio_whole guest_khz host_khz runs whole =
    let q : ℕ = guest_khz / host_khz in
    let is : guest_khz ≡ q * host_khz = omega arith in
    let turned : guest_khz * 2 ^ 48 ≡ q * 2 ^ 48 * host_khz = ap (λ (g : ℕ). g * 2 ^ 48) is ∙ omega arith in
    sym (ap (λ (n : ℕ). n / host_khz) turned ∙ mul-div_cancel (q * 2 ^ 48) runs)
