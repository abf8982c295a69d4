-- The memory that a call is lent, and the checks that it makes first, in their order.
-- Assumes nothing.
use Rattle.std.specs.Prelude.{◌≡◌, List, Bool, true, false, cond, not, ◌&&◌, ◌||◌, ℕ, eqb, leb, ltb, length}
use Rattle.canvas.specs.Sizes.{length_for}
use Rattle.directory.specs.Directory.{entries, bytes_in, sizes_in, valid_of}
use Rattle.files.specs.Files.{unused_of}
use Rattle.state.specs.declared.Phase.{Phase}
use Rattle.state.specs.declared.Phase.TheVariants.{Idle, Prefix, Gathering, Inline, Upload}
use Rattle.record.specs.Reading.{height_in, edition_in, used_in, decode_of}
use Rattle.record.specs.Writing.{encode_of}
use Rattle.record.specs.Record.{recognised, sound_record}
use Rattle.rules.specs.World.{World, world, height}
use Rattle.rules.specs.Files.{in_use, kind_of, lacks_space}
use Rattle.rules.specs.Sound.{store_most, highest, Good}

-- as long as h rows are
abbrev pub framebuffer_fits : ℕ → List ℕ → Bool
framebuffer_fits h g = eqb (length g) (length_for h)

abbrev pub store_fits : List ℕ → Bool
store_fits s = leb 1024 (length s) && leb (length s) store_most

-- the framebuffer, the store and the state record
pub record Memory : Type 0 where
  pub framebuffer : List ℕ
  pub store : List ℕ
  pub state : List ℕ

abbrev pub memory : List ℕ → List ℕ → List ℕ → Memory
memory g s r = record { framebuffer = g; store = s; state = r }

-- an upload under way has a number that edition e cannot name or that would now get 19, or it would get 25 or, by the directory's own sum, 24
abbrev pub upload_refused : ℕ → List ℕ → Phase → Bool
upload_refused e s Idle = false
upload_refused e s Prefix = false
upload_refused e s (Gathering code got) = false
upload_refused e s (Inline x1 y1 x2 y2 came) = false
upload_refused e s (Upload sort number size stored waiting held waited) =
    ltb (highest e) number || in_use s sort number || lacks_space (bytes_in (entries s)) (unused_of s (sizes_in (entries s))) (kind_of e sort) size

-- THE CHECKS OF A PIECE: the answer 1 to 4 that it is refused with, or 0. The record says how long the framebuffer has to be, so that it is recognised first; whether
-- the used room that it keeps is the directory's own sum is asked last
unfoldable pub checked : Memory → ℕ
checked m =
    cond (not (recognised m.state)) 3
    (cond (not (framebuffer_fits (height_in m.state) m.framebuffer)) 1
    (cond (not (store_fits m.store)) 2
    (cond (not (sound_record m.state)) 3
    (cond (not (valid_of m.store) || upload_refused (edition_in m.state) m.store (decode_of m.state).port.line.phase) 4
    (cond (not (eqb (used_in m.state) (sizes_in (entries m.store)))) 3 0)))))

-- memory read, and a world written back
abbrev pub loaded : Memory → World
loaded m = world m.framebuffer m.store (decode_of m.state)

abbrev pub saved : World → Memory
saved w = memory w.framebuffer w.store (encode_of w.state)

-- A WORLD THAT EVERY CHECK PASSES
pub record Kept (w : World) : Type 0 where
  pub good : Good w
  pub framebuffer : length w.framebuffer ≡ length_for (height w)
  pub store : store_fits w.store ≡ true
