use Rattle.std.proofs.Common.{◌≡◌, ◌+◌, ◌-◌, ◌++◌, List, ℕ, length, take, drop, sym, ap, ◌∙◌, arith}
use Rattle.std.proofs.lemmas.List.Edits.{sets-eq}
use lib.Seq.{length-take-le}
use lib.ListN.{length-drop}
use Rattle.state.specs.State.{no_args}
use Rattle.whole_command.proofs.fixed_arguments.Goals as goal

pub returns : goal.returns
returns c =
    let there = take c.args.count (drop 2 c.args.bytes.now) in
    let long : length there ≡ c.args.count = length-take-le c.args.count (drop 2 c.args.bytes.now) (omega (arith, length-drop 2 c.args.bytes.now, c.requires)) in
    let written = sets-eq there no_args 0 (omega (arith, long, c.requires)) in
    let count : 0 + length there ≡ c.args.count = omega (arith, long) in
    let taken : take (2 + c.args.count - 2) (drop 2 c.args.bytes.now) ≡ there = ap (λ (k : ℕ). take k (drop 2 c.args.bytes.now)) (omega arith) in
    rw (c.copy_bytes.ensures.whole (length-take-le c.args.count no_args c.requires.1 ∙ sym (ap (λ (l : List ℕ). length l) taken ∙ long))) (ap (λ (l : List ℕ). l ++ drop c.args.count no_args) taken ∙ ap (λ (k : ℕ). there ++ drop k no_args) (sym count) ∙ sym written)
