use Rattle.std.proofs.Common.{◌-◌}
use Rattle.pixels.specs.Framebuffer.{width}
use Rattle.listing.proofs.show_row.Given as goal

abbrev pub decreases-loop-x : goal.decreases-loop-x
decreases-loop-x g l = width - l.x
