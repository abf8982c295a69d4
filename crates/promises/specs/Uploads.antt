-- When an upload is under way.
-- Assumes nothing.
use Rattle.std.specs.Prelude.{Bool, true, false}
use Rattle.state.specs.declared.Phase.{Phase}
use Rattle.state.specs.declared.Phase.TheVariants.{Idle, Prefix, Gathering, Inline, Upload}

abbrev pub uploads : Phase → Bool
uploads Idle = false
uploads Prefix = false
uploads (Gathering code got) = false
uploads (Inline x1 y1 x2 y2 came) = false
uploads (Upload sort number size stored waiting held waited) = true
