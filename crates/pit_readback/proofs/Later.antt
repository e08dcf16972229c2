-- What a read of a port gives after pulses, by what they make of the counter that it reads.
use Rattle.std.proofs.Common.{◌≡◌, ◌≢◌, ℕ, ◌+◌, ◌-◌, ◌<◌, ◌≤◌, Bool, true, false, cond, eqb, leb, ◌&&◌, ap, sym, ◌∙◌, inl, inr, arith}
use Rattle.std.proofs.lemmas.Bool.{cases_lt, eqb-true, leb-true, ne_eqb, or_cases, false≢true}
use Rattle.clk_units.specs.Bits.{bit, bit_value}
use Rattle.pit_counter.specs.declared.parts.CounterParts.{CounterParts}
use Rattle.pit_counter.specs.Reading.{byte_read}
use Rattle.pit_counter.specs.Table.{pulsed_times}
use Rattle.pit_readback.specs.declared.parts.PitParts.{PitParts}
use Rattle.pit_readback.specs.Pit.{counter_of, pit_pulsed_times}
use Rattle.pit_readback.specs.Ports.{is_pit_port, read_of_61, port_read}
use Rattle.pit_readback.proofs.Three.{pit_pulsed_times-each, counter_of-pit_pulsed_times}

right : (a b : Bool) → (a && b) ≡ true → b ≡ true
right true b e = e
right false b e = absurd (false≢true e)

module _ (port : ℕ) (other : port ≢ 0x61) (counts : port ≢ 0x43) where
  -- a port that is neither 61h nor 43h is that of a counter
  pub counter-port : is_pit_port port ≡ true → port - 0x40 < 3
  counter-port is = elim (or_cases (leb 0x40 port && leb port 0x43) (eqb port 0x61) is) [
    | inl e ↦
        let most : port ≤ 0x43 = leb-true port 0x43 (right (leb 0x40 port) (leb port 0x43) e) in
        elim (cases_lt port 0x43) [
          | inl less ↦ omega (arith, less)
          | inr more ↦ absurd (counts (omega (arith, most, more)))
        ]
    | inr e ↦ absurd (other (eqb-true port 0x61 e))
  ]

  -- and its byte is one of that counter
  pub byte-pulsed : (at n : ℕ) (p : PitParts) → byte_read (pulsed_times n (counter_of p (port - 0x40))) ≡ port_read at port (pit_pulsed_times n p)
  unfolding port_read
  byte-pulsed at n p =
      let q : PitParts = pit_pulsed_times n p in
      ap byte_read (sym (counter_of-pit_pulsed_times n (port - 0x40) p))
      ∙ sym (ap (λ (b : Bool). cond b 0xff (byte_read (counter_of q (port - 0x40)))) (ne_eqb port 0x43 counts))
      ∙ sym (ap (λ (b : Bool). cond b (read_of_61 at q) (cond (eqb port 0x43) 0xff (byte_read (counter_of q (port - 0x40))))) (ne_eqb port 0x61 other))

-- port 61h
pub system-pulsed : (at n : ℕ) (p : PitParts)
    → bit_value (pulsed_times n (counter_of p 2)).gate 0 + bit_value p.speaker 1 + bit_value (bit 14 at) 4
    + bit_value (pulsed_times n (counter_of p 2)).out 5
    ≡ port_read at 0x61 (pit_pulsed_times n p)
unfolding port_read read_of_61
system-pulsed at n p =
    let byte : CounterParts → Bool → ℕ = λ c speaker. bit_value c.gate 0 + bit_value speaker 1 + bit_value (bit 14 at) 4 + bit_value c.out 5 in
    sym (ap (λ (c : CounterParts). byte c (pit_pulsed_times n p).speaker) (counter_of-pit_pulsed_times n 2 p)
    ∙ ap (λ (q : PitParts). byte (pulsed_times n (counter_of p 2)) q.speaker) (pit_pulsed_times-each n p))
