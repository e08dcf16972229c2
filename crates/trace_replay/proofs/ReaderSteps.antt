-- What is true of each item that a reader may make of a line, and of the stage after it, is true of the item that was taken.
use Rattle.std.proofs.Common.{◌≡◌, ℕ, ◌+◌, Bool, true, false, cond, ltb, codes, List, length, Option, Some, None, is_some, if◌then◌else◌, Result, Ok, Err, refl, subst}
use Rattle.std.specs.Option.{option_map_or}
use Rattle.std.specs.Str.{bytes_eq}
use Rattle.trace_text.specs.Tokens.{words_of}
use Rattle.trace_text.specs.Header.{first_line, header_line, header_of, body_of}
use Rattle.trace_text.specs.Rows.{and_then}
use Rattle.trace_text.specs.Records.{record_of, body_after}
use Rattle.trace_text.specs.Lines.{
  is_skipped,
  Step as Stepped,
  step_of,
  stepped,
  part,
  begun,
  next,
  fault_of,
  answer_in,
  stage_after,
  taken,
  after_line,
}
use Rattle.reply_text.specs.declared.ends.Reason.{Reason}
use Rattle.reply_text.specs.declared.ends.Reason.TheVariants.{TooLong}
use Rattle.trace_text.specs.declared.faults.RecordFault.{RecordFault}
use Rattle.trace_text.specs.declared.header.Head.{Head}
use Rattle.trace_text.specs.declared.records.Body.{Body}
use Rattle.trace_records.specs.declared.Record.{Record}
use Rattle.trace_text.specs.declared.reading.Item.{Item}
use Rattle.trace_text.specs.declared.reading.Item.TheVariants.{Skipped, Part, Begun, Next, End}
use Rattle.trace_text.specs.declared.reading.ReadingParts.{ReadingParts}
use Rattle.trace_text.specs.declared.reading.Stage.{Stage}
use Rattle.trace_text.specs.declared.reading.Stage.TheVariants.{Opening, Heading, Running, Ended}
use Rattle.trace_loop.specs.Progress.{limit_of}

module _ (P : Item → Stage → Type 0) where
  abbrev Holds : Result Stepped Reason → Type 0
  Holds (Ok step) = P step.item step.stage
  Holds (Err reason) = Unit {0}

  -- a line that isn't skipped: a part of the header; `begin`, or a part more; `end`, or a record
  abbrev pub HoldsFrom : Stage → Type 0
  HoldsFrom Opening = (head : Head) → P Part (Heading head)
  HoldsFrom (Heading head) = P (Begun (header_of head)) (Running (body_of head)) × ((more : Head) → P Part (Heading more))
  HoldsFrom (Running body) = P End Ended × ((rec : Record) → P (Next rec) (Running (body_after body rec)))
  HoldsFrom _ = Unit {0}

  part_holds : (x : Result Head Reason) → ((head : Head) → P Part (Heading head)) → Holds (and_then part x)
  part_holds (Ok head) each = each head
  part_holds (Err reason) each = tt

  next_holds : (body : Body) (x : Result Record Reason) → ((rec : Record) → P (Next rec) (Running (body_after body rec))) → Holds (and_then (next body) x)
  next_holds body (Ok rec) each = each rec
  next_holds body (Err reason) each = tt

  either_holds : (t : Bool) (x y : Result Stepped Reason) → Holds x → Holds y → Holds (cond t x y)
  either_holds true x y a b = a
  either_holds false x y a b = b

  step_holds : (line : List ℕ) (s : Stage) → HoldsFrom s → Holds (step_of s line)
  step_holds line Opening each = part_holds (first_line (words_of line)) each
  step_holds line (Heading head) each =
      let more : Result Head Reason = header_line head (words_of line) in
      either_holds (bytes_eq line (codes "begin")) (Ok (begun head)) (and_then part more) each.0 (part_holds more each.1)
  step_holds line (Running body) each =
      let rec : Result Record Reason = record_of body (words_of line) in
      either_holds (bytes_eq line (codes "end")) (Ok (record { item = End; stage = Ended })) (and_then (next body) rec) each.0 (next_holds body rec each.1)
  step_holds line _ each = tt

  stepped_holds : (line : List ℕ) (s : Stage) → P Skipped s → HoldsFrom s → Holds (stepped s line)
  unfolding stepped
  stepped_holds line s skipped each =
      let skips : Result Stepped Reason = Ok (record { item = Skipped; stage = s }) in
      either_holds (ltb (limit_of line) (length line)) (Err TooLong) (cond (is_skipped line) skips (step_of s line)) tt
      (either_holds (is_skipped line) skips (step_of s line) skipped (step_holds line s each))

  item_holds : (n : ℕ) (x : Result Stepped Reason) (item : Item) → Holds x → answer_in n x ≡ Ok item → P item (stage_after n x)
  item_holds n (Ok step) item holds took = let same : step.item ≡ item = cc in subst (λ (i : Item). P i step.stage) same holds
  item_holds n (Err reason) item holds took = cc

  holds_by : (o : Option RecordFault) (line : List ℕ) (r : ReadingParts) (item : Item) → P Skipped r.stage → HoldsFrom r.stage
      → option_map_or Err o (answer_in (r.lines + 1) (stepped r.stage line)) ≡ Ok item
      → (let after : ReadingParts = if is_some o then r
      else record { lines = r.lines + 1; stage = stage_after (r.lines + 1) (stepped r.stage line) } in
      (after.lines ≡ r.lines + 1) × P item after.stage)
  holds_by None line r item skipped each took =
      (refl, item_holds (r.lines + 1) (stepped r.stage line) item (stepped_holds line r.stage skipped each) took)
  holds_by (Some fault) line r item skipped each took = let no : ⊥ = cc in absurd no

  -- an item that was taken
  pub taken_holds : (line : List ℕ) (r : ReadingParts) (item : Item) → P Skipped r.stage → HoldsFrom r.stage
      → taken r line ≡ Ok item → ((after_line line r).lines ≡ r.lines + 1) × P item (after_line line r).stage
  taken_holds line r item skipped each took = holds_by (fault_of r.stage) line r item skipped each took
