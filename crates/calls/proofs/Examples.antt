-- Worked examples: the checks in their order and their limits, and each answer of a start and of a piece.
-- Assumes nothing.
use mathlib.Core.Path.{◌≡◌, refl}
use mathlib.Core.Bool.{true, false}
use mathlib.Core.List.{List, [], ◌∷◌}
use Prim.Native.Nat.{ℕ}
use lib.ListN.{set, replicate}
use Rattle.canvas.specs.Sizes.{is_height}
use Rattle.directory.specs.Directory.{length_of, sort_of, step_at, entry_at, read_from, entries_from, bytes_in, sizes_in, has_file, is_fair, keep_rules, zeros, zeros_from, valid_of}
use Rattle.queue.specs.Record as queue-record
use Rattle.state.specs.declared.Phase.{Phase}
use Rattle.state.specs.declared.Phase.TheVariants.{Idle, Prefix, Gathering, Inline, Upload}
use Rattle.state.specs.State.{no_args, config, state, start_port, start_panel, start_state, with_phase}
use Rattle.state.specs.Editions.{is_edition}
use Rattle.state.specs.Soundness.{every, sound_inline, sound_upload, sound_phase, sound_text, sound_port, sound_bar, sound_strip, sound_panel, sound_config, sound_state}
use Rattle.state.specs.Canonical.{canonical_upload, canonical_phase, canonical_port, canonical_bar, canonical_strip, canonical_serial, canonical_panel, canonical_state}
use Rattle.record.specs.Layout.{height_at, record_size}
use Rattle.record.specs.Reading.{many_of, phase_of, port_of, panel_of, decode_of}
use Rattle.record.specs.Writing.{many_bytes, phase_bytes, port_bytes, panel_bytes, encode_of}
use Rattle.record.specs.Record.{same_bytes, recognised, sound_record}
use Rattle.state.specs.Commands.{command_of}
use Rattle.rules.specs.Settings.{set_serial}
use Rattle.rules.specs.Files.{lacks_space}
use Rattle.rules.specs.Step.{obey, code, argument, alone, by_phase, after, step, replies}
use Rattle.rules.specs.Calls.{bytes, run, said, taken}
use Rattle.calls.specs.Memory.{Memory, memory, checked}
use Rattle.calls.specs.Start.{start_checked}
use Rattle.calls.specs.Line.{both_sound}
use Rattle.calls.specs.Feed.{feed_of, piece_of, time_of}

-- white framebuffers
abbrev low : List ℕ
low = replicate 1920 0

abbrev tall : List ℕ
tall = replicate 3840 0

-- the lengths of records, and what a start of h rows writes
abbrev long : List ℕ
long = replicate record_size 0

abbrev queue : List ℕ
queue = replicate 85 0

abbrev started : ℕ → List ℕ
started h = encode_of (start_state (config h 1) 0)

-- with another height
abbrev saying : ℕ → List ℕ
saying h = set (started 64) height_at h

-- everything wrong, then one thing less each time; 9 is the number of no phase
abbrev unsound : List ℕ
unsound = set (set long height_at 64) 0 9

pub checks_order : (checked (memory [] [] (replicate 206 64)) ≡ 3) × (checked (memory [] [] long) ≡ 3) × (checked (memory [] [] unsound) ≡ 1)
    × (checked (memory (replicate 1919 0) [] unsound) ≡ 1) × (checked (memory low (replicate 1023 0) unsound) ≡ 2) × (checked (memory low (replicate 1024 0) unsound) ≡ 3)
unfolding checked recognised is_height sound_record every sound_state sound_config is_edition sound_port sound_phase sound_text sound_panel sound_bar sound_strip canonical_state canonical_port canonical_phase canonical_panel canonical_bar canonical_strip canonical_serial same_bytes decode_of port_of phase_of panel_of many_of encode_of port_bytes phase_bytes panel_bytes many_bytes
checks_order = (refl, refl, refl, refl, refl, refl)

-- the largest store, and one byte more
pub store_limits : (checked (memory low (replicate 32768 0) unsound) ≡ 3) × (checked (memory low (replicate 32769 0) unsound) ≡ 2)
unfolding checked recognised is_height sound_record every sound_state sound_config is_edition sound_port sound_phase sound_text sound_panel sound_bar sound_strip canonical_state canonical_port canonical_phase canonical_panel canonical_bar canonical_strip canonical_serial same_bytes decode_of port_of phase_of panel_of many_of encode_of port_bytes phase_bytes panel_bytes many_bytes
store_limits = (refl, refl)

-- ---- the height

-- a record of zeros is not recognised, nor one with a height that there is not
pub heights : (checked (memory low (replicate 1024 0) long) ≡ 3) × (checked (memory low (replicate 1024 0) (saying 63)) ≡ 3) × (checked (memory low (replicate 1024 0) (saying 65)) ≡ 3)
    × (checked (memory low (replicate 1024 0) (saying 255)) ≡ 3)
unfolding checked recognised is_height encode_of port_bytes phase_bytes panel_bytes many_bytes
heights = (refl, refl, refl, refl)

-- for an arrival and a take too
pub line_heights : (both_sound (saying 64) queue ≡ true) × (both_sound (saying 0) queue ≡ false) × (both_sound (saying 63) queue ≡ false) × (both_sound (saying 255) queue ≡ false)
unfolding is_height sound_record queue-record.sound_record queue-record.decode_of every sound_state sound_config is_edition sound_port sound_phase sound_text sound_panel sound_bar sound_strip canonical_state canonical_port canonical_phase canonical_panel canonical_bar canonical_strip canonical_serial same_bytes decode_of port_of phase_of panel_of many_of encode_of port_bytes phase_bytes panel_bytes many_bytes
line_heights = (refl, refl, refl, refl)

-- a record of one height with the framebuffer of the other
pub heights_mixed : (checked (memory tall (replicate 1024 0) (started 64)) ≡ 1) × (checked (memory low (replicate 1024 0) (started 128)) ≡ 1)
unfolding checked recognised is_height encode_of port_bytes phase_bytes panel_bytes many_bytes
heights_mixed = (refl, refl)

-- at a start: no such height, then a record or a queue of another length, then the framebuffer, the store, the directory
pub start_answers : (start_checked (config 63 1) (memory [] [] []) [] ≡ 3) × (start_checked (config 0 1) (memory [] (replicate 1024 0) long) queue ≡ 3)
    × (start_checked (config 65 1) (memory low (replicate 1024 0) long) queue ≡ 3) × (start_checked (config 255 1) (memory low (replicate 1024 0) long) queue ≡ 3)
    × (start_checked (config 256 1) (memory low (replicate 1024 0) long) queue ≡ 3) × (start_checked (config 4294967295 1) (memory low (replicate 1024 0) long) queue ≡ 3)
    × (start_checked (config 64 1) (memory [] (replicate 1024 0) (replicate 206 0)) queue ≡ 3)
    × (start_checked (config 64 1) (memory [] (replicate 1024 0) long) (replicate 84 0) ≡ 3)
    × (start_checked (config 64 1) (memory tall [] long) queue ≡ 1)
    × (start_checked (config 128 1) (memory low [] long) queue ≡ 1)
    × (start_checked (config 128 1) (memory tall (9 ∷ replicate 1022 0) long) queue ≡ 2)
    × (start_checked (config 128 1) (memory tall (9 ∷ replicate 1023 0) long) queue ≡ 4)
    × (start_checked (config 128 1) (memory tall (replicate 1024 0) long) queue ≡ 0)
    × (start_checked (config 64 1) (memory low (replicate 1024 0) long) queue ≡ 0)
unfolding start_checked is_height is_edition valid_of entries_from read_from step_at length_of bytes_in sizes_in keep_rules zeros zeros_from
start_answers = (refl, refl, refl, refl, refl, refl, refl, refl, refl, refl, refl, refl, refl, refl)

-- ---- a record as the start writes it, and a directory that begins with an unknown kind

abbrev with_store_lem : List ℕ → Memory
with_store_lem s = memory low s (started 64)

pub checked_answers : (checked (with_store_lem (9 ∷ replicate 1023 0)) ≡ 4) × (checked (with_store_lem (replicate 1024 0)) ≡ 0) × (checked (memory tall (replicate 1024 0) (started 128)) ≡ 0)
unfolding checked recognised is_height sound_record every sound_state sound_config is_edition sound_port sound_phase sound_text sound_panel sound_bar sound_strip canonical_state canonical_port canonical_phase canonical_panel canonical_bar canonical_strip canonical_serial same_bytes decode_of port_of phase_of panel_of many_of encode_of port_bytes phase_bytes panel_bytes many_bytes valid_of entries_from read_from step_at length_of bytes_in sizes_in keep_rules zeros zeros_from
checked_answers = (refl, refl, refl)

-- ---- the used room that a record keeps

-- a store with bitmap 5 of 300 bytes, and a record that keeps u in phase f
abbrev holding : List ℕ
holding = 2 ∷ 5 ∷ 44 ∷ 1 ∷ replicate 1020 0

abbrev keeping : Phase → ℕ → List ℕ
keeping f u = encode_of (state (config 64 1) (with_phase (start_port 64) f no_args) (start_panel u))

abbrev answer : Phase → ℕ → ℕ
answer f u = checked (memory low holding (keeping f u))

-- an upload that fits, and one of a number that is in use
abbrev fitting : Phase
fitting = Upload 2 6 468 3 true 9 0

abbrev taken_number : Phase
taken_number = Upload 2 5 3 0 false 0 0

-- one less, one more, a low byte or a high byte alone, in each phase
pub sums : (answer Idle 300 ≡ 0) × (answer Idle 299 ≡ 3) × (answer Idle 301 ≡ 3) × (answer Idle 44 ≡ 3) × (answer Idle 256 ≡ 3) × (answer Idle 0 ≡ 3)
    × (answer Prefix 300 ≡ 0) × (answer Prefix 299 ≡ 3) × (answer (Gathering 98 0) 300 ≡ 0) × (answer (Gathering 98 0) 301 ≡ 3)
    × (answer (Inline 0 0 8 1 3) 300 ≡ 0) × (answer (Inline 0 0 8 1 3) 299 ≡ 3) × (answer fitting 300 ≡ 0) × (answer fitting 301 ≡ 3)
unfolding checked recognised is_height sound_record every sound_state sound_config is_edition sound_port sound_phase sound_inline sound_upload command_of sound_text sound_panel sound_bar sound_strip canonical_state canonical_port canonical_phase canonical_upload canonical_panel canonical_bar canonical_strip canonical_serial same_bytes decode_of port_of phase_of panel_of many_of encode_of port_bytes phase_bytes panel_bytes many_bytes valid_of is_fair entries_from read_from step_at entry_at length_of sort_of bytes_in sizes_in has_file keep_rules zeros zeros_from lacks_space
sums = (refl, refl, refl, refl, refl, refl, refl, refl, refl, refl, refl, refl, refl, refl)

-- the sum is asked last: a directory that breaks its rules, an upload that would be refused by the directory's own sum, a store or a framebuffer of another length
-- come first, and 24 goes by the directory's own sum
pub sums_order : (checked (memory low (9 ∷ replicate 1023 0) (keeping Idle 1)) ≡ 4) × (answer taken_number 299 ≡ 4) × (answer (Upload 2 6 469 0 false 0 0) 0 ≡ 4)
    × (answer (Upload 2 6 468 0 false 0 0) 301 ≡ 3) × (checked (memory low (replicate 1023 0) (keeping Idle 1)) ≡ 2) × (checked (memory tall holding (keeping Idle 1)) ≡ 1)
unfolding checked recognised is_height sound_record every sound_state sound_config is_edition sound_port sound_phase sound_inline sound_upload command_of sound_text sound_panel sound_bar sound_strip canonical_state canonical_port canonical_phase canonical_upload canonical_panel canonical_bar canonical_strip canonical_serial same_bytes decode_of port_of phase_of panel_of many_of encode_of port_bytes phase_bytes panel_bytes many_bytes valid_of is_fair entries_from read_from step_at entry_at length_of sort_of bytes_in sizes_in has_file keep_rules zeros zeros_from lacks_space
sums_order = (refl, refl, refl, refl, refl, refl)

-- before 5; an arrival and a take do not ask
pub sums_elsewhere : ((piece_of (memory low holding (keeping Idle 299)) (254 ∷ []) 1).answer ≡ 3) × ((piece_of (memory low holding (keeping Idle 299)) [] 0).answer ≡ 3)
    × ((time_of (memory low holding (keeping Idle 299)) 1 1).answer ≡ 3) × ((time_of (memory low holding (keeping Idle 300)) 1 1).answer ≡ 5)
    × (both_sound (keeping Idle 299) queue ≡ true) × (both_sound (keeping Idle 65535) queue ≡ true)
unfolding feed_of bytes taken checked recognised is_height sound_record queue-record.sound_record queue-record.decode_of every sound_state sound_config is_edition sound_port sound_phase sound_text sound_panel sound_bar sound_strip canonical_state canonical_port canonical_phase canonical_panel canonical_bar canonical_strip canonical_serial same_bytes decode_of port_of phase_of panel_of many_of encode_of port_bytes phase_bytes panel_bytes many_bytes valid_of is_fair entries_from read_from step_at entry_at length_of sort_of bytes_in sizes_in has_file keep_rules zeros zeros_from
sums_elsewhere = (refl, refl, refl, refl, refl, refl)

-- a byte needs two free reply bytes, whether it replies or not; those that a serial number took are free no longer
pub piece_answers : ((piece_of (with_store_lem (replicate 1024 0)) [] 0).answer ≡ 0)
    × ((piece_of (with_store_lem (replicate 1024 0)) (254 ∷ []) 1).answer ≡ 5)
    × ((piece_of (with_store_lem (replicate 1024 0)) (254 ∷ []) 2).answer ≡ 0)
    × ((piece_of (with_store_lem (replicate 1024 0)) (254 ∷ 52 ∷ 7 ∷ 8 ∷ 254 ∷ []) 3).answer ≡ 5)
    × ((piece_of (with_store_lem (replicate 1024 0)) (254 ∷ 52 ∷ 7 ∷ 8 ∷ 254 ∷ []) 3).consumed ≡ 4)
    × ((piece_of (with_store_lem (replicate 1024 0)) (254 ∷ 52 ∷ 7 ∷ 8 ∷ 254 ∷ []) 3).sent ≡ 7 ∷ 8 ∷ [])
unfolding feed_of bytes run said taken step replies after by_phase alone code argument obey command_of set_serial checked recognised is_height sound_record every sound_state sound_config is_edition sound_port sound_phase sound_text sound_panel sound_bar sound_strip canonical_state canonical_port canonical_phase canonical_panel canonical_bar canonical_strip canonical_serial same_bytes decode_of port_of phase_of panel_of many_of encode_of port_bytes phase_bytes panel_bytes many_bytes valid_of entries_from read_from step_at length_of bytes_in sizes_in keep_rules zeros zeros_from
piece_answers = (refl, refl, refl, refl, refl, refl)
