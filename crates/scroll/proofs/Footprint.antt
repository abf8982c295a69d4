-- The footprint of clearing and of scrolling: the whole framebuffer.
-- Assumes nothing.
use mathlib.Core.Bool.{false}
use mathlib.Core.List.{List}
use Prim.Native.Nat.{ℕ}
use Rattle.pixels.specs.Framebuffer.{fill, plain}
use Rattle.pixels.specs.Regions.{everywhere}
use Rattle.pixels.specs.Footprints.{SameOutside}
use Rattle.pixels.proofs.Footprint.{outside_put}
use Rattle.scroll.specs.Scroll.{raised, scrolled}

pub clear_footprint : (g : List ℕ) → SameOutside everywhere g (fill everywhere false g)
clear_footprint g = outside_put everywhere (plain false) g

pub scroll_footprint : (n : ℕ) (g : List ℕ) → SameOutside everywhere g (scrolled n g)
scroll_footprint n g = outside_put everywhere (raised n g) g
