-- The edges of accesses that move lines 0 and 8 alone.
use Rattle.std.proofs.Common.{◌≡◌, ℕ, zero, suc, Bool, true, false, cond, ◌&&◌, ◌||◌, not, List, [], ◌∷◌, ◌++◌, get_or, refl, ap, ◌∙◌, append-nil}
use Rattle.irq_edges.specs.declared.edges.Edge.{Edge}
use Rattle.irq_edges.specs.Lines.{change, changes, line_numbers}
use Rattle.irq_edges.proofs.EdgesOf.{changes-same}
use Rattle.pit_readback.specs.declared.parts.PitParts.{PitParts}
use Rattle.rtc_registers.specs.declared.parts.RtcParts.{RtcParts}
use Rattle.rtc_registers.specs.Registers.{irqf_of}
use Rattle.hpet_comparator.specs.Parts.{is_level}
use Rattle.hpet_registers.specs.Parts.{timer_at, is_legacy}
use Rattle.hpet_registers.specs.Outputs.{level_output, is_message}
use Rattle.tick_policy.specs.declared.parts.TickParts.{TickParts}
use Rattle.board_devices.specs.declared.parts.DeviceParts.{DeviceParts}
use Rattle.board_devices.specs.Places.{line_at, no_line}
use Rattle.board_devices.specs.Lines.{output_of, drives, routed, levels}
use Rattle.board_devices.proofs.Places.{same_six}

-- the lines of the timers are the same
abbrev pub SameTimers : List TickParts → DeviceParts → Type 0
SameTimers ls d = (k : ℕ) → get_or ls (suc (suc k)) no_line ≡ line_at (suc (suc k)) d

output-same : (k : ℕ) (d : DeviceParts) (p : PitParts) (r : RtcParts) (ls : List TickParts) → SameTimers ls d
    → output_of k (record d { pit = p; rtc = r; ticks = ls }) ≡ output_of k d
output-same k d p r ls same = ap (λ (l : TickParts). cond (is_level (timer_at k d.hpet)) (level_output k d.hpet) (not (is_message k d.hpet) && l.up)) (same k)

routed-same : (line k : ℕ) (d : DeviceParts) (p : PitParts) (r : RtcParts) (ls : List TickParts) → SameTimers ls d
    → routed line k (record d { pit = p; rtc = r; ticks = ls }) ≡ routed line k d
routed-same line zero d p r ls same = refl
routed-same line (suc k) d p r ls same =
    ap (λ (b : Bool). b || (drives line k d.hpet && output_of k (record d { pit = p; rtc = r; ticks = ls }))) (routed-same line k d p r ls same)
    ∙ ap (λ (b : Bool). routed line k d || (drives line k d.hpet && b)) (output-same k d p r ls same)

-- the levels of lines 20 to 23
abbrev pub back : DeviceParts → List Bool
back d = routed 20 8 d ∷ routed 21 8 d ∷ routed 22 8 d ∷ routed 23 8 d ∷ []

-- the levels, and those of lines 0 and 8 by their parts
pub levels-parts : (d : DeviceParts) → levels d ≡ cond (is_legacy d.hpet) (output_of 0 d) (line_at 0 d).up
    ∷ cond (is_legacy d.hpet) (output_of 1 d) (irqf_of d.rtc) ∷ back d
unfolding levels
levels-parts d = refl

pub levels-front : (d : DeviceParts) (p : PitParts) (r : RtcParts) (ls : List TickParts) → SameTimers ls d
    → levels (record d { pit = p; rtc = r; ticks = ls }) ≡ cond (is_legacy d.hpet) (output_of 0 d) (get_or ls 0 no_line).up
    ∷ cond (is_legacy d.hpet) (output_of 1 d) (irqf_of r) ∷ back d
unfolding levels
levels-front d p r ls same =
    same_six
    (ap (λ (b : Bool). cond (is_legacy d.hpet) b (get_or ls 0 no_line).up) (output-same 0 d p r ls same))
    (ap (λ (b : Bool). cond (is_legacy d.hpet) b (irqf_of r)) (output-same 1 d p r ls same))
    (routed-same 20 8 d p r ls same) (routed-same 21 8 d p r ls same) (routed-same 22 8 d p r ls same) (routed-same 23 8 d p r ls same)

-- the edges of the first two lines
pub changes-front : (t : ℕ) (a b x y : Bool) (d : DeviceParts) → changes t line_numbers (a ∷ b ∷ back d) (x ∷ y ∷ back d) ≡ change t 0 a x ++ change t 8 b y
changes-front t a b x y d =
    ap (λ (es : List Edge). change t 0 a x ++ (change t 8 b y ++ es)) (changes-same t (20 ∷ 21 ∷ 22 ∷ 23 ∷ []) (back d))
    ∙ ap (λ (es : List Edge). change t 0 a x ++ es) (append-nil (change t 8 b y))

pub change-same : (t n : ℕ) (a : Bool) → change t n a a ≡ []
change-same t n true = refl
change-same t n false = refl

-- one line alone
pub changes-first : (t : ℕ) (a b x : Bool) (d : DeviceParts) → changes t line_numbers (a ∷ b ∷ back d) (x ∷ b ∷ back d) ≡ change t 0 a x
changes-first t a b x d = changes-front t a b x b d ∙ ap (λ (es : List Edge). change t 0 a x ++ es) (change-same t 8 b) ∙ append-nil (change t 0 a x)

pub changes-second : (t : ℕ) (a b y : Bool) (d : DeviceParts) → changes t line_numbers (a ∷ b ∷ back d) (a ∷ y ∷ back d) ≡ change t 8 b y
changes-second t a b y d = changes-front t a b a y d ∙ ap (λ (es : List Edge). es ++ change t 8 b y) (change-same t 0 a)

-- legacy replacement hides the clock
pub change-plain : (t n : ℕ) (legacy o x y : Bool) → change t n (cond legacy o x) (cond legacy o y) ≡ change t n (not legacy && x) (not legacy && y)
change-plain t n true o x y = change-same t n o
change-plain t n false o x y = refl

-- the edges where the clock alone moves, and its line
pub changes-clock : (t : ℕ) (d : DeviceParts) (r s : RtcParts) (ks ls : List TickParts) → SameTimers ks d → SameTimers ls d → (get_or ks 0 no_line).up
    ≡ (get_or ls 0 no_line).up
    → changes t line_numbers (levels (record d { rtc = r; ticks = ks })) (levels (record d { rtc = s; ticks = ls }))
    ≡ change t 8 (not (is_legacy d.hpet) && irqf_of r) (not (is_legacy d.hpet) && irqf_of s)
changes-clock t d r s ks ls same_ks same_ls first =
    ap (λ (bs : List Bool). changes t line_numbers bs (levels (record d { rtc = s; ticks = ls }))) (levels-front d d.pit r ks same_ks)
    ∙ ap (changes t line_numbers (cond (is_legacy d.hpet) (output_of 0 d) (get_or ks 0 no_line).up ∷ cond (is_legacy d.hpet) (output_of 1 d) (irqf_of r)
    ∷ back d)) (levels-front d d.pit s ls same_ls)
    ∙ ap (λ (b : Bool). changes t line_numbers (cond (is_legacy d.hpet) (output_of 0 d) b ∷ cond (is_legacy d.hpet) (output_of 1 d) (irqf_of r) ∷ back d)
    (cond (is_legacy d.hpet) (output_of 0 d) (get_or ls 0 no_line).up ∷ cond (is_legacy d.hpet) (output_of 1 d) (irqf_of s) ∷ back d)) first
    ∙ changes-second t (cond (is_legacy d.hpet) (output_of 0 d) (get_or ls 0 no_line).up) (cond (is_legacy d.hpet) (output_of 1 d) (irqf_of r))
    (cond (is_legacy d.hpet) (output_of 1 d) (irqf_of s)) d
    ∙ change-plain t 8 (is_legacy d.hpet) (output_of 1 d) (irqf_of r) (irqf_of s)

-- a change to the same levels is none
pub no_second : (t : ℕ) (es : List Edge) (bs : List Bool) → es ++ changes t line_numbers bs bs ≡ es
no_second t es bs = ap (λ (xs : List Edge). es ++ xs) (changes-same t line_numbers bs) ∙ append-nil es
