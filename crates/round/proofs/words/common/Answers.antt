-- `round::words::common` meets its contract.
use Prim.Native.Nat.{ℕ}
use mathlib.Core.Path.{◌≡◌, ◌∙◌}
use lib.Bits.{bit_and}
use Rattle.std.specs.List.{fold}
use Rattle.std.proofs.Common.{rules}
use Rattle.round.proofs.Lanes.{all_fold}
use Rattle.round.proofs.words.common.Goals as goal

pub returns : goal.returns
returns c =
    let folded : c.fold.result ≡ fold (λ (all word : ℕ). bit_and word all) 18446744073709551615 c.args.w = search rules in
    folded ∙ all_fold c.args.w (search rules) (search rules)
