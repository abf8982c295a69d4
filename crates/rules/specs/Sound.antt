-- When a world is good: its state is sound, with thresholds below 80 and as the record's layout has it, every field fits its type, the store keeps its rules, the kept sum of
-- the file sizes is the directory's own, and an upload under way may still be stored.
-- Assumes nothing.
use Rattle.std.specs.Prelude.{◌≡◌, true, false, cond, List, [], ◌∷◌, ℕ, ◌<◌, ◌≤◌, eqb, ltb, length}
use Rattle.directory.specs.Directory.{entries, bytes_in, sizes_in, valid_of, max_number}
use Rattle.files.specs.Files.{unused_of}
use Rattle.queue.specs.Record.{Bytes}
use Rattle.state.specs.declared.Phase.{Phase}
use Rattle.state.specs.declared.Phase.TheVariants.{Idle, Prefix, Gathering, Inline, Upload}
use Rattle.state.specs.Editions.{newer}
use Rattle.state.specs.Soundness.{sound_state, thresholds_fit}
use Rattle.state.specs.Canonical.{canonical_state}
use Rattle.state.specs.Fits.{Fits}
use Rattle.rules.specs.World.{World, edition, port, panel, used}
use Rattle.rules.specs.Files.{in_use, kind_of, lacks_space}
use Rattle.rules.specs.Step.{Input, byte, time}

-- what comes in: a byte is below 256
abbrev pub Comes : Input → Type 0
Comes (byte b) = b < 256
Comes (time ms) = Unit {0}

abbrev pub ComesAll : List Input → Type 0
ComesAll [] = Unit {0}
ComesAll (i ∷ l) = Comes i × ComesAll l

-- sixteen bars
abbrev pub Shaped : World → Type 0
Shaped w = length (panel w).bars ≡ 16

-- no store is longer, so that two bytes hold the sum of its file sizes
abbrev pub store_most : ℕ
store_most = 32768

pub record StoreKeeps (s : List ℕ) : Type 0 where
  pub bytes : Bytes s
  pub valid : valid_of s ≡ true
  pub most : length s ≤ store_most

-- the kept sum of the file sizes is the directory's own
abbrev pub TrueSum : World → Type 0
TrueSum w = used w ≡ sizes_in (entries w.store)

-- ---- an upload under way would now get none of 19, 25 and 24, and its edition can name it

-- the highest number that a command can name and that is not refused with 19
abbrev pub highest : ℕ → ℕ
highest e = cond (eqb e newer) max_number 255

abbrev pub Welcome : ℕ → Phase → List ℕ → Type 0
Welcome e Idle s = Unit {0}
Welcome e Prefix s = Unit {0}
Welcome e (Gathering code got) s = Unit {0}
Welcome e (Inline x1 y1 x2 y2 came) s = Unit {0}
Welcome e (Upload sort number size stored waiting held waited) s =
    (ltb (highest e) number ≡ false) × (in_use s sort number ≡ false) × (lacks_space (bytes_in (entries s)) (unused_of s (sizes_in (entries s))) (kind_of e sort) size ≡ false)

-- GOOD
pub record Good (w : World) : Type 0 where
  pub sound : sound_state w.state ≡ true
  pub thresholds : thresholds_fit (port w).flow ≡ true
  pub canonical : canonical_state w.state ≡ true
  pub fits : Fits w.state
  pub store : StoreKeeps w.store
  pub framebuffer : Bytes w.framebuffer
  pub upload : Welcome (edition w) (port w).line.phase w.store
  pub sum : TrueSum w
