-- Starting with the board's choice of height and edition: a white framebuffer, the start's state with the directory's own sum of file sizes, an empty queue; the store
-- stays.
-- Assumes nothing.
use Rattle.std.specs.Prelude.{List, [], ◌∷◌, ◌++◌, cond, not, ◌&&◌, ℕ, eqb, length, take, replicate}
use Rattle.canvas.specs.Sizes.{is_height, length_for}
use Rattle.directory.specs.Directory.{entries, sizes_in, valid_of}
use Rattle.queue.specs.Record as queue-record
use Rattle.state.specs.declared.Config.{Config}
use Rattle.state.specs.Editions.{is_edition}
use Rattle.state.specs.State.{start_state}
use Rattle.rules.specs.World.{World, world}
use Rattle.record.specs.Layout.{record_size}
use Rattle.record.specs.Writing.{encode_of}
use Rattle.calls.specs.Memory.{framebuffer_fits, store_fits, Memory, memory}

pub record Started : Type 0 where
  pub left : Memory
  pub queue : List ℕ
  pub answer : ℕ

abbrev pub started : Memory → List ℕ → ℕ → Started
started m q a = record { left = m; queue = q; answer = a }

-- the chosen height and the lengths of both records (3), the lengths of framebuffer and store (1, 2), the chosen edition (3), then the directory (4)
unfoldable pub start_checked : Config → Memory → List ℕ → ℕ
start_checked c m q =
    cond (not (is_height c.height && eqb (length m.state) record_size && eqb (length q) queue-record.record_size)) 3
    (cond (not (framebuffer_fits c.height m.framebuffer)) 1
    (cond (not (store_fits m.store)) 2
    (cond (not (is_edition c.edition)) 3
    (cond (not (valid_of m.store)) 4 0))))

-- place, held count, mark and lost count are 0; the ring's bytes stay
abbrev pub emptied : List ℕ → List ℕ
emptied q = take 80 q ++ (0 ∷ 0 ∷ 0 ∷ 0 ∷ 0 ∷ [])

unfoldable pub start_of : Config → Memory → List ℕ → Started
start_of c m q =
    cond (eqb (start_checked c m q) 0) (started (memory (replicate (length_for c.height) 0) m.store (encode_of (start_state c (sizes_in (entries m.store))))) (emptied q) 0)
    (started m q (start_checked c m q))

-- the world that a start leaves
abbrev pub start_world : Config → List ℕ → World
start_world c s = world (replicate (length_for c.height) 0) s (start_state c (sizes_in (entries s)))
