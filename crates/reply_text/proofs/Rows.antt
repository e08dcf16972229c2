-- Small rows that pin the definitions, one line of text each.
use Rattle.std.proofs.Common.{◌≡◌, ℕ, ℤ, pos, negsuc, true, false, List, [], ◌∷◌, Some, None, map, refl}
use Rattle.std.specs.Prelude.{codes}
use Rattle.std.specs.Fmt.{digits}
use Rattle.board_types.specs.declared.reply.Value.{Value}
use Rattle.board_types.specs.declared.reply.Value.TheVariants.{Nothing, Byte, Word, Counts, Wall, Next}
use Rattle.pvclock_page.specs.declared.page.Page.{Page}
use Rattle.pvclock_page.specs.declared.page.PageReply.TheVariants.{Off as PageOff, On as PageOn}
use Rattle.pvclock_page.specs.declared.page.ClockReply.TheVariants.{Off as ClockOff, On as ClockOn}
use Rattle.hv_page.specs.declared.page.HvReply.TheVariants.{Off as HvOff, On as HvOn}
use Rattle.reply_text.specs.Words.{hex_text, hexes}
use Rattle.reply_text.specs.Soak.{soak_text}
use Rattle.reply_text.specs.Text.{edge_text, msg_text, value_text, page_text, clock_text, hv_text, save_text, move_text, final_text, state_text, refused_text}
use Rattle.reply_text.specs.declared.ends.Reason.TheVariants.{Form, Steal, Cpu, CounterFell, StateBytes, TooLong, TooMany, NoEnd}
use Rattle.reply_text.specs.declared.ends.Refused.TheVariants.{Invalid, Range, Versions, Spent}

-- edges: the time comes first, then the line's number, and last who gets them
edges : edge_text (record { at = 4191; line = 0; up = true }) None
    ∷ edge_text (record { at = 976563; line = 23; up = false }) None
    ∷ edge_text (record { at = 4191; line = 0; up = true }) (Some (record { cpu = 1; vector = 0xef })) ∷ []
    ≡ codes "edge 4191 0 up\n"
    ∷ codes "edge 976563 23 down\n"
    ∷ codes "edge 4191 0 up 1 ef\n" ∷ []
unfolding edge_text hex_text digits
edges = refl

-- messages: the first one's time, the timer, and who gets them; then how many and how far apart
messages : msg_text (record {
  burst = record { timer = 2; first = 1000; count = 3; every = 500; address = 0xfee01000; «data» = 0x41 };
  to = record { cpu = 1; vector = 0xef };
})
    ≡ codes "msg 1000 2 1 ef 3 500\n"
unfolding msg_text hex_text digits
messages = refl

-- replies: the line, the number and the value
abbrev reply : ℕ → ℕ → Value → List ℕ
reply = value_text

registers : reply 3 1 Nothing ∷ reply 7 5 (Byte 4) ∷ reply 5 3 (Word 2 0xffff)
    ∷ reply 4 2 (Word 4 0x989680) ∷ reply 3 1 (Word 8 0x009896808086a201) ∷ []
    ≡ codes "3 1\n" ∷ codes "7 5 04\n" ∷ codes "5 3 ffff\n"
    ∷ codes "4 2 00989680\n" ∷ codes "3 1 009896808086a201\n" ∷ []
unfolding value_text hex_text digits
registers = refl

counts : reply 8 6 (Counts (record { due = 3; rises = 1; queue = 2; lost = 0 })) ≡ codes "8 6 3 1 2 0\n"
unfolding value_text digits
counts = refl

times : reply 32 25 (Wall 2 1700000000 0) ∷ reply 6 4 (Next (Some 54926240)) ∷ reply 6 4 (Next None) ∷ []
    ≡ codes "32 25 2 1700000000 0\n" ∷ codes "6 4 54926240\n" ∷ codes "6 4 none\n" ∷ []
unfolding value_text digits
times = refl

-- pages, of which one shifts to the right, and clocks
abbrev page : ℕ → ℤ → ℕ → Page
page mul shift flags = record {
  version = 2;
  tsc_timestamp = 0;
  system_time = 0;
  mul = mul;
  shift = shift;
  flags = flags;
  offset = 0;
  enabled = true;
}

pages : map (page_text 8) (PageOn (page 0x80000000 (pos 0) 1) 900 ∷ PageOn (page 0xab (negsuc 0) 3) 7 ∷ PageOff ∷ [])
    ≡ codes "8 page 2 0 0 80000000 0 01 900\n" ∷ codes "8 page 2 0 0 000000ab -1 03 7\n" ∷ codes "8 page off\n" ∷ []
unfolding page_text hex_text digits
pages = refl

clocks : map (clock_text 9) (ClockOn 900 1000 ∷ ClockOff ∷ []) ≡ codes "9 clock 900 1000\n" ∷ codes "9 clock off\n" ∷ []
unfolding clock_text digits
clocks = refl

-- the reference page: a guest sees the half of its version
reference_pages : hv_text 6 (HvOn (record { version = 4; scale = 92233720368547758; offset = 18446744073709551615; tsc_offset = 5 }) 210)
    ∷ hv_text 3 HvOff ∷ []
    ≡ codes "6 hv 2 92233720368547758 18446744073709551615 210\n" ∷ codes "3 hv off\n" ∷ []
unfolding hv_text digits
reference_pages = refl

-- states and moves
states : save_text 3 1 (0x43 ∷ 0x4c ∷ 0x0b ∷ []) ∷ state_text (0xfe ∷ 0xff ∷ []) ∷ []
    ≡ codes "3 1 state 434c0b\n" ∷ codes "state feff\n" ∷ []
unfolding save_text state_text hexes digits
states = refl

moves : move_text 9 5 1000002000 ≡ codes "9 5 moved 1000002000\n"
unfolding move_text digits
moves = refl

-- ends: no line is up, one is, and some are
ends : final_text 0 2 1000 (record { levels = false ∷ false ∷ false ∷ false ∷ false ∷ false ∷ [] })
    ∷ final_text 5000 6 0 (record { levels = true ∷ false ∷ false ∷ false ∷ false ∷ false ∷ [] })
    ∷ final_text 450 9 0 (record { levels = true ∷ true ∷ false ∷ false ∷ true ∷ true ∷ [] }) ∷ []
    ≡ codes "final 0 2 1000 -\n"
    ∷ codes "final 5000 6 0 0\n"
    ∷ codes "final 450 9 0 0,8,22,23\n" ∷ []
unfolding final_text digits
ends = refl

-- what is refused for its form, steal time, its processor, a counter that fell, a state and its length; for too many records,
-- no end, its time, a version and a number
reasons : refused_text 3 (Invalid Form) ∷ refused_text 3 (Invalid Steal) ∷ refused_text 3 (Invalid Cpu)
    ∷ refused_text 4 (Invalid (CounterFell 10)) ∷ refused_text 2 (Invalid (StateBytes 552)) ∷ refused_text 2 (Invalid TooLong)
    ∷ refused_text 200003 (Invalid TooMany) ∷ refused_text 1 (Invalid NoEnd) ∷ refused_text 3 (Range 576460752303423488)
    ∷ refused_text 4 (Versions 4294967294) ∷ refused_text 4 (Spent 4611686018427387904) ∷ []
    ≡ codes "refused 3 form\n" ∷ codes "refused 3 steal\n" ∷ codes "refused 3 cpu\n"
    ∷ codes "refused 4 fell 10\n" ∷ codes "refused 2 state 552\n" ∷ codes "refused 2 long\n"
    ∷ codes "refused 200003 many\n" ∷ codes "refused 1 noend\n" ∷ codes "refused 3 range 576460752303423488\n"
    ∷ codes "refused 4 versions 4294967294\n" ∷ codes "refused 4 spent 4611686018427387904\n" ∷ []
unfolding refused_text digits
reasons = refl

-- a soak: the records come first, then the edges
soak : soak_text 1 0 34774 7 ≡ codes "soak 1 0 34774 7\n"
unfolding soak_text digits
soak = refl
