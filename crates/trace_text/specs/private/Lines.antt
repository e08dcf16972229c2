-- Lines that are no record, whatever is known after `begin`.
use Rattle.std.specs.Prelude.{ℕ, ◌≡◌, List, None}
use Rattle.trace_text.specs.Lines.{record_in, item_in, stepped}
use Rattle.trace_text.specs.declared.reading.Stage.TheVariants.{Running}
use Rattle.trace_text.specs.declared.records.Body.{Body}

-- the line is no record after `begin`
abbrev pub IsNoRecord : List ℕ → Type 0
IsNoRecord line = (body : Body) → record_in (item_in (stepped (Running body) line)) ≡ None
