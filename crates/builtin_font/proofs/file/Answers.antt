use mathlib.Core.Path.{refl}
use Rattle.builtin_font.specs.Table.{table}
use Rattle.builtin_font.proofs.file.Goals as goal

pub returns : goal.returns
unfolding table
returns c = refl
