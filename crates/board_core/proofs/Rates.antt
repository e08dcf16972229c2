-- A guest that counts as fast as its host.
use Rattle.std.proofs.Common.{◌≡◌, ℕ, ◌+◌, ◌*◌, ◌/◌, ◌%◌, ◌^◌, ◌<◌, ap, ◌∙◌, arith}
use Rattle.std.proofs.Math.Nat.{mul-div_cancel, mul-div_cancel_left}
use Rattle.tsc_scale.specs.Offset.{tsc_by}
use Rattle.tsc_scale.specs.Ratio.{ratio_of}

-- its ratio is one, and its TSC the host's counter and its offset
pub tsc_alike : (offset h guest_khz host_khz : ℕ) → 0 < host_khz → guest_khz ≡ host_khz → tsc_by offset h (ratio_of guest_khz host_khz) ≡ (h + offset) % 2 ^ 64
unfolding tsc_by
tsc_alike offset h guest_khz host_khz runs alike =
    ap (λ (g : ℕ). (h * (g * 2 ^ 48 / host_khz) / 2 ^ 48 + offset) % 2 ^ 64) alike
    ∙ ap (λ (r : ℕ). (h * r / 2 ^ 48 + offset) % 2 ^ 64) (mul-div_cancel_left (2 ^ 48) runs)
    ∙ ap (λ (counts : ℕ). (counts + offset) % 2 ^ 64) (mul-div_cancel h (omega arith))
