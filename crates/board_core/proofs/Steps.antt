-- A board after a run, and after an access, by its parts.
use Rattle.std.proofs.Common.{◌≡◌, ℕ, ◌+◌, max, List, ap, ◌∙◌}
use Rattle.board_types.specs.declared.access.Access.{Access}
use Rattle.board_types.specs.declared.parts.BoardParts.{BoardParts}
use Rattle.board_types.specs.declared.parts.ProcessorParts.{ProcessorParts}
use Rattle.board_types.specs.declared.parts.HvParts.{HvParts}
use Rattle.board_core.specs.Hv.{hv_after}
use Rattle.local_apics.specs.declared.parts.ApicsParts.{ApicsParts}
use Rattle.board_devices.specs.declared.parts.DeviceParts.{DeviceParts}
use Rattle.board_devices.specs.Act.{acted}
use Rattle.board_core.specs.Apics.{apics_in, apics_acted}
use Rattle.board_core.specs.Time.{devices_in}
use Rattle.board_core.specs.Pages.{processors_after}
use Rattle.board_core.specs.Wall.{wall_number_after}
use Rattle.board_meters.specs.Published.{wall_version_after}
use Rattle.board_core.specs.Rises.{rises_after}
use Rattle.board_core.specs.private.Calls.{apics_ran_to}
use Rattle.board_core.specs.Access.{act_of, ran_to, after_run, own_edges, before_look}

abbrev pub with_run : BoardParts → ℕ → DeviceParts → List ℕ → ApicsParts → BoardParts
with_run b host d rises apics = record b {
  host = host;
  pit = d.pit;
  rtc = d.rtc;
  hpet = d.hpet;
  ticks = d.ticks;
  slew_ns = d.slew_ns;
  rises = rises;
  apic = apics.timers;
  apic_ticks = apics.lines;
}

pub with_run-is : (b : BoardParts) (h host : ℕ) (d : DeviceParts) (rises : List ℕ) (apics : ApicsParts) → host ≡ max b.host h → d ≡ (ran_to b h).state
    → rises ≡ rises_after b.format (ran_to b h).edges b.rises → apics ≡ apics_ran_to b h → with_run b host d rises apics ≡ after_run b h
unfolding after_run
with_run-is b h host d rises apics hs ds rs aps =
    ap (λ (x : ℕ). with_run b x d rises apics) hs
    ∙ ap (λ (x : DeviceParts). with_run b (max b.host h) x rises apics) ds
    ∙ ap (λ (x : List ℕ). with_run b (max b.host h) (ran_to b h).state x apics) rs
    ∙ ap (with_run b (max b.host h) (ran_to b h).state (rises_after b.format (ran_to b h).edges b.rises)) aps

abbrev pub with_parts : BoardParts → DeviceParts → ℕ → ℕ → List ProcessorParts → List ℕ → HvParts → ApicsParts → BoardParts
with_parts b d number version ps rises hv apics = record b {
  accesses = b.accesses + 1;
  pit = d.pit;
  rtc = d.rtc;
  hpet = d.hpet;
  ticks = d.ticks;
  slew_ns = d.slew_ns;
  wall_number = number;
  wall_version = version;
  processors = ps;
  rises = rises;
  hv = hv;
  apic = apics.timers;
  apic_ticks = apics.lines;
}

pub with_parts-is : (b : BoardParts) (cpu h : ℕ) (a : Access) (d : DeviceParts) (number version : ℕ) (ps : List ProcessorParts) (rises : List ℕ) (hv : HvParts)
    (apics : ApicsParts) → d ≡ acted (act_of a) (devices_in b) → number ≡ wall_number_after a b.wall_number → version ≡ wall_version_after a b.wall_version
    → ps ≡ processors_after b.anchor b.guest_khz cpu h a b.processors → rises ≡ rises_after b.format (own_edges b a) b.rises
    → hv ≡ hv_after b.anchor b.guest_khz cpu h a b.processors b.hv → apics ≡ apics_acted cpu a (apics_in b)
    → with_parts b d number version ps rises hv apics ≡ before_look b cpu h a
unfolding before_look
with_parts-is b cpu h a d number version ps rises hv apics ds ns vs pss rs hvs aps =
    let after_d : DeviceParts = acted (act_of a) (devices_in b) in
    let after_ps : List ProcessorParts = processors_after b.anchor b.guest_khz cpu h a b.processors in
    let after_rises : List ℕ = rises_after b.format (own_edges b a) b.rises in
    ap (λ (x : DeviceParts). with_parts b x number version ps rises hv apics) ds
    ∙ ap (λ (x : ℕ). with_parts b after_d x version ps rises hv apics) ns
    ∙ ap (λ (x : ℕ). with_parts b after_d (wall_number_after a b.wall_number) x ps rises hv apics) vs
    ∙ ap (λ (x : List ProcessorParts). with_parts b after_d (wall_number_after a b.wall_number) (wall_version_after a b.wall_version) x rises hv apics) pss
    ∙ ap (λ (x : List ℕ). with_parts b after_d (wall_number_after a b.wall_number) (wall_version_after a b.wall_version) after_ps x hv apics) rs
    ∙ ap (λ (x : HvParts). with_parts b after_d (wall_number_after a b.wall_number) (wall_version_after a b.wall_version) after_ps after_rises x apics) hvs
    ∙ ap (with_parts b after_d (wall_number_after a b.wall_number) (wall_version_after a b.wall_version) after_ps after_rises
    (hv_after b.anchor b.guest_khz cpu h a b.processors b.hv)) aps
