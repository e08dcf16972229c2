use Rattle.std.proofs.Common.{◌≡◌, ℕ, ◌++◌, List, [], ◌∷◌, map, take, get_or, ap, sym, ◌∙◌, arith}
use Rattle.std.proofs.lemmas.List.{take_more_set, map_more, take_all, length-set, get_or-set_other}
use Rattle.board_types.specs.declared.parts.ProcessorParts.{ProcessorParts}
use Rattle.board_core.specs.Tsc.{no_processor}
use Rattle.board_reset.specs.Reset.{page_off}
use Rattle.board_reset.proofs.resets.pages_off.Goals as goal

pub loop-cpu-preserved : goal.loop-cpu-preserved
loop-cpu-preserved c =
    let i : ℕ = c.loop-cpu.cpu in
    let xs : List ProcessorParts = c.loop-cpu.off in
    let ys : List ProcessorParts = c.args.processors.now in
    let same : get_or xs i no_processor ≡ get_or ys i no_processor = c.loop-cpu.invariant.rest i (omega arith) in
    let off : ProcessorParts = page_off (get_or xs i no_processor) in
    record {
      long = length-set xs i off ∙ c.loop-cpu.invariant.long;
      front = take_more_set xs i off (omega (arith, c.loop-cpu.invariant.long, c.told-processors, c.loop-cpu-test.true))
          ∙ ap (λ (l : List ProcessorParts). l ++ off ∷ []) c.loop-cpu.invariant.front
          ∙ ap (λ (p : ProcessorParts). map page_off (take i ys) ++ page_off p ∷ []) same
          ∙ sym (map_more page_off ys i no_processor (omega (arith, c.told-processors, c.loop-cpu-test.true)));
      rest = λ k later. get_or-set_other xs i k off no_processor (omega (arith, later)) ∙ c.loop-cpu.invariant.rest k (omega (arith, later));
    }

pub returns : goal.returns
returns c =
    sym (take_all c.loop-cpu.cpu c.loop-cpu.off (omega (arith, c.loop-cpu.invariant.long, c.told-processors, c.loop-cpu-test.false)))
    ∙ c.loop-cpu.invariant.front
    ∙ ap (λ (l : List ProcessorParts). map page_off l)
    (take_all c.loop-cpu.cpu c.args.processors.now (omega (arith, c.told-processors, c.loop-cpu-test.false)))
