use Prim.Native.Nat.{◌+◌, ◌*◌}
use mathlib.Core.Path.{◌≡◌}
use borrow.Author.Rules.{rules}
use Rattle.spans.proofs.Windows.{window_is}
use Rattle.spans.proofs.window.Goals as goal

pub returns : goal.returns
returns c =
    let both : c.from_be_bytes-both.result ≡ 256 * c.byte_at.result + c.byte_at-2.result = search rules in
    rw both (window_is _ _ _ _ (search rules) (search rules) (search rules))
