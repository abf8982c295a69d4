-- Worked examples, where a slip is likely: on a framebuffer of 8 rows and a store with no file.
-- Assumes nothing.
use mathlib.Core.Path.{◌≡◌, refl}
use mathlib.Core.Bool.{true}
use mathlib.Core.List.{[], ◌∷◌}
use Prim.Native.Nat.{ℕ}
use lib.ListN.{replicate}
use Rattle.directory.specs.Directory.{has_file, entries_from, read_from, step_at}
use Rattle.directory.specs.Directory as directory
use Rattle.state.specs.declared.Phase.{Phase}
use Rattle.state.specs.declared.Phase.TheVariants.{Idle, Inline}
use Rattle.state.specs.declared.Text.{Text}
use Rattle.bar_graph.specs.Bars.{length_of, held_to}
use Rattle.state.specs.State.{config, start_state, bar_at}
use Rattle.state.specs.Commands.{command_of}
use Rattle.rules.specs.World.{World, world, port, panel, refused}
use Rattle.rules.specs.Text.{place, nowhere, place_number, text_of, wrapped, fitted}
use Rattle.rules.specs.Bars.{set_up_bar, write_bar, set_up_strip, shift_strip}
use Rattle.rules.specs.Files.{lacks_space, begin_upload, upload_data, delete_file, purge}
use Rattle.rules.specs.Pictures.{inline_data}
use Rattle.rules.specs.Settings.{flow_on}
use Rattle.rules.specs.Step.{obey, code, argument, after}

abbrev pub blank : World
blank = world (replicate 240 0) (replicate 1024 0) (start_state (config 8 1) 0)

-- THE ORDER OF REFUSALS: everything wrong, then one thing less each time
pub bar_order : (set_up_bar blank 16 4 240 8 0 0 ≡ refused 19 []) × (set_up_bar blank 15 4 240 8 0 0 ≡ refused 20 []) × (set_up_bar blank 15 3 240 8 0 0 ≡ refused 17 [])
    × (set_up_bar blank 15 3 239 7 0 0 ≡ refused 18 [])
unfolding set_up_bar
bar_order = (refl, refl, refl, refl)

pub strip_order : (set_up_strip blank 8 240 8 0 0 ≡ refused 19 []) × (set_up_strip blank 7 240 8 0 0 ≡ refused 17 []) × (set_up_strip blank 7 5 5 5 7 ≡ refused 18 [])
unfolding set_up_strip
strip_order = (refl, refl, refl)

-- bit 7 is the way, and no part of the number
pub strip_number : (shift_strip blank 8 ≡ refused 19 []) × (shift_strip blank 136 ≡ refused 19 []) × (shift_strip blank 135 ≡ refused 21 [])
unfolding shift_strip
strip_number = (refl, refl, refl)

-- font 1 is in use whatever the store has; both refusals are told
pub upload_order : (begin_upload blank 1 1 0 ≡ refused 25 (8 ∷ [])) × (begin_upload blank 2 1 0 ≡ refused 24 (8 ∷ []))
unfolding begin_upload lacks_space has_file entries_from read_from step_at directory.length_of directory.sort_of
upload_order = (refl, refl)

-- a byte in the place of a confirmation ends the upload
pub upload_broken : upload_data blank 2 1 3 0 true 9 254 ≡ refused 26 []
unfolding upload_data
upload_broken = refl

pub delete_order : (delete_file blank 2 1 ≡ refused 20 []) × (delete_file blank 0 1 ≡ refused 22 [])
unfolding delete_file has_file entries_from read_from step_at directory.length_of directory.sort_of
delete_order = (refl, refl)

-- both purge bytes are looked at; thresholds that sum to 80 are too many
pub limits : (purge blank 89 89 ≡ refused 20 []) × (purge blank 33 33 ≡ refused 20 []) × (flow_on blank 40 40 ≡ refused 27 [])
unfolding purge flow_on
limits = (refl, refl, refl)

-- a second 254 is an unknown code; a bitmap that is not there ends its command at the number
pub early_ends : (code blank 254 ≡ refused 16 []) × (argument blank 98 0 7 ≡ refused 22 [])
unfolding code argument obey command_of has_file entries_from read_from step_at directory.length_of directory.sort_of
early_ends = (refl, refl)

-- A CHARACTER'S PLACE: up to column 240 it stays; then the next line, the framebuffer moved up, or the top; and no room is known before anything moves
abbrev pub near : ℕ → ℕ → ℕ → Text
near x y row = text_of 1 x y 0 0 1 1 row true true

pub places : (wrapped (near 235 0 64) 5 7 ≡ place 235 0 0) × (wrapped (near 236 48 64) 5 7 ≡ place 0 56 0) × (wrapped (near 236 50 64) 5 7 ≡ place 0 50 8)
    × (fitted 64 5 7 (wrapped (near 236 58 64) 5 7) ≡ nowhere)
unfolding wrapped fitted
places = (refl, refl, refl, refl)

-- the number of no place
pub place_numbers : (place_number (wrapped (near 235 0 64) 5 7) ≡ 0) × (place_number (fitted 64 5 7 (wrapped (near 236 58 64) 5 7)) ≡ 29)
unfolding wrapped fitted
place_numbers = (refl, refl)

-- A VALUE IS HELD TO THE LENGTH: columns for a horizontal bar, rows for a vertical one
abbrev pub bar_on : ℕ → World
bar_on kind = after blank (set_up_bar blank 0 kind 10 0 19 7)

abbrev pub value_after : ℕ → ℕ → ℕ
value_after kind v = (bar_at (panel (after (bar_on kind) (write_bar (bar_on kind) 0 v))) 0).bar.value

pub values_held : (value_after 0 255 ≡ 8) × (value_after 1 255 ≡ 10) × (value_after 1 9 ≡ 9)
unfolding set_up_bar write_bar after length_of held_to
values_held = (refl, refl, refl)

abbrev pub next_phase : ℕ → Phase
next_phase d = (port (after blank (inline_data blank 0 0 8 1 d 255))).line.phase

-- the data of a rectangle nine columns wide: two bytes to a row, and after the last one no more
pub data_bytes_lem : (next_phase 0 ≡ Inline 0 0 8 1 1) × (next_phase 3 ≡ Idle)
unfolding inline_data after
data_bytes_lem = (refl, refl)
