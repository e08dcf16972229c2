-- Small rows that pin the definitions.
use Rattle.std.proofs.Common.{◌≡◌, [], ◌∷◌, refl}
use Rattle.std.specs.Prelude.{codes}
use Rattle.std.specs.Fmt.{digits}
use Rattle.trace_gen.specs.Draws.{next_state, value_of, at_key, kind_of}
use Rattle.trace_gen.specs.Text.{act_text, record_text, records_text, enable_text, enables_text, header_text, gen_text}

-- the first number of the key 1, and what is used of it: its value and the kind of record
first_draw : next_state 1 ∷ value_of 7806831264735756412 ∷ kind_of 7806831264735756412 ∷ [] ≡ 7806831264735756412 ∷ 908834774 ∷ 0 ∷ []
unfolding next_state
first_draw = refl

-- what records do, by their kinds: the first, one that writes a byte, and the last
acts : act_text 0 0xab ∷ act_text 11 0x0f ∷ act_text 15 0xab ∷ [] ≡ codes "step" ∷ codes "hw 108 8 0f" ∷ codes "refresh 0" ∷ []
unfolding act_text
acts = refl

-- the processors in turn, two of them
three_records : records_text 3 2 (at_key 7) ≡ codes "0 65278 refresh 0\n1 128509 hr f0 8\n0 185262 ack 0\n"
unfolding records_text record_text act_text next_state digits
three_records = refl

-- whole traces: the page of each processor is switched on before the HPET is started
traces : gen_text 1 1 1 ∷ gen_text 0 0 2 ∷ []
    ≡ codes "clockboard 1\nguest 2000000\ncpus 1\nbegin\n0 0 wrmsr 4b564d01 1\n0 0 hw 10 4 1\n0 34774 step\nend\n"
    ∷ codes "clockboard 1\nguest 2000000\ncpus 2\nbegin\n0 0 wrmsr 4b564d01 1\n1 0 wrmsr 4b564d01 1\n0 0 hw 10 4 1\nend\n" ∷ []
unfolding gen_text header_text enables_text enable_text records_text record_text act_text next_state digits
traces = refl
