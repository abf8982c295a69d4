-- THE USED ROOM that the state record keeps is the directory's own sum of file sizes: after each call of a list, and after each input; and worked examples of what
-- changes it.
-- Assumes nothing.
use mathlib.Core.Path.{◌≡◌, refl}
use mathlib.Core.List.{List, [], ◌∷◌, ◌++◌}
use Prim.Native.Nat.{ℕ, zero, suc}
use lib.ListN.{take, replicate}
use Rattle.directory.specs.Directory as directory
use Rattle.files.specs.Files.{appended, record_bytes, deleted, purged}
use Rattle.files.specs.Moves.{files_closed, records_closed, closed}
use Rattle.queue.specs.Record.{Bytes}
use Rattle.state.specs.declared.Config.{Config}
use Rattle.state.specs.Commands.{command_of}
use Rattle.state.specs.Editions.{older, newer}
use Rattle.state.specs.State.{config}
use Rattle.rules.specs.World.{World, used}
use Rattle.rules.specs.Files.{lacks_space, begin_upload, upload_data, upload_waits, delete_file, purge}
use Rattle.rules.specs.Step.{Input, time, obey, code, argument, alone, by_phase, waits, refuse, after, step}
use Rattle.rules.specs.Calls.{bytes, run}
use Rattle.calls.specs.Memory.{Memory, checked}
use Rattle.calls.specs.Start.{Started, start_checked, start_of, start_world}
use Rattle.calls.specs.List.{Board, board}
use Rattle.calls.specs.Bytes.{BytesInAll, ByteMemory}
use Rattle.promises.specs.Made.{Made, fed, timed, arrived, handed, refused_feed, refused_time, refused_arrive, refused_take, refused_start, MeetsAll, left, left_all, calls_of}
use Rattle.promises.specs.Promise.{UsedRoom}
use Rattle.promises.proofs.Bars.{promised, promised_from_start}

-- ---- after each call

take_meets : (n : ℕ) (b : Board) (l : List Made) → MeetsAll b l → MeetsAll b (take n l)
unfolding MeetsAll
take_meets zero b l h = tt
take_meets (suc n) b [] h = tt
take_meets (suc n) b (c ∷ l) h = (h.0, take_meets n (left b c) l h.1)

take_bytes : (n : ℕ) (l : List Made) → BytesInAll (calls_of l) → BytesInAll (calls_of (take n l))
unfolding calls_of
take_bytes zero l h = tt
take_bytes (suc n) [] h = tt
take_bytes (suc n) (fed p r c ∷ l) h = (h.0, take_bytes n l h.1)
take_bytes (suc n) (timed ms r c ∷ l) h = (h.0, take_bytes n l h.1)
take_bytes (suc n) (arrived x s ∷ l) h = (h.0, take_bytes n l h.1)
take_bytes (suc n) (handed s ∷ l) h = (h.0, take_bytes n l h.1)
take_bytes (suc n) (refused_feed z p r c ∷ l) h = take_bytes n l h
take_bytes (suc n) (refused_time z ms r c ∷ l) h = take_bytes n l h
take_bytes (suc n) (refused_arrive t k x s ∷ l) h = take_bytes n l h
take_bytes (suc n) (refused_take t k s ∷ l) h = take_bytes n l h
take_bytes (suc n) (refused_start d z k s ∷ l) h = take_bytes n l h

pub used_room : (m : Memory) (q : List ℕ) (l : List Made) → ByteMemory m → checked m ≡ 0 → MeetsAll (board m q) l → BytesInAll (calls_of l) → (n : ℕ) → UsedRoom (left_all (board m q) (take n l))
used_room m q l b e h i n = (promised m q (take n l) b e (take_meets n (board m q) l h) (take_bytes n l i)).used

pub used_room_from_start : (f : Config) (m : Memory) (q : List ℕ) (s : Started) (l : List Made) → s ≡ start_of f m q → Bytes m.store → start_checked f m q ≡ 0
    → MeetsAll (board s.left s.queue) l → BytesInAll (calls_of l) → (n : ℕ) → UsedRoom (left_all (board s.left s.queue) (take n l))
used_room_from_start f m q s l e b c h i n =
    (promised_from_start f m q s (take n l) e b c (take_meets n (board s.left s.queue) l h) (take_bytes n l i)).used

-- ---- what changes it

-- a display of 64 rows in edition e, just started on a store of 1,024 zeros, and what is used after a stream
abbrev begins : ℕ → World
begins e = start_world (config 64 e) (replicate 1024 0)

abbrev used_after : ℕ → List Input → ℕ
used_after e l = used (run (begins e) l)

-- bitmap 7 of two bytes and bitmap 8 of one, by either edition
abbrev first : List Input
first = bytes (254 ∷ 94 ∷ 7 ∷ 2 ∷ 0 ∷ 9 ∷ 1 ∷ 9 ∷ [])

abbrev both : List Input
both = first ++ bytes (1 ∷ 254 ∷ 94 ∷ 8 ∷ 1 ∷ 0 ∷ 9 ∷ 1 ∷ [])

-- an upload's size is used from its last confirmation on, and not before
pub uploads_use : (used_after older first ≡ 0) × (used_after older (first ++ bytes (1 ∷ [])) ≡ 2) × (used_after older both ≡ 3)
    × (used_after newer (bytes (254 ∷ 94 ∷ 7 ∷ 0 ∷ 1 ∷ 0 ∷ 0 ∷ 0 ∷ 9 ∷ 1 ∷ [])) ≡ 1)
unfolding bytes run step after by_phase alone code argument obey command_of lacks_space begin_upload upload_data appended record_bytes directory.sort_of directory.length_of directory.step_at directory.entries_from directory.read_from directory.entry_at directory.find_in directory.has_file directory.bytes_in directory.sizes_in
uploads_use = (refl, refl, refl, refl)

-- one that is broken off or dropped uses nothing, whatever was confirmed of it
pub ended_uploads : (used_after older (first ++ bytes (2 ∷ [])) ≡ 0) × (used_after older (first ++ (time 2100 ∷ [])) ≡ 0)
unfolding bytes run step after by_phase waits alone code argument obey command_of refuse lacks_space begin_upload upload_data upload_waits directory.sort_of directory.length_of directory.step_at directory.entries_from directory.read_from directory.entry_at directory.find_in directory.has_file directory.bytes_in directory.sizes_in
ended_uploads = (refl, refl)

-- a delete frees the size of its file, a purge all; refused they free nothing
pub deletes_free : (used_after older (both ++ bytes (254 ∷ 173 ∷ 1 ∷ 7 ∷ [])) ≡ 1) × (used_after older (both ++ bytes (254 ∷ 173 ∷ 1 ∷ 8 ∷ [])) ≡ 2)
    × (used_after older (both ++ bytes (254 ∷ 173 ∷ 0 ∷ 7 ∷ [])) ≡ 3) × (used_after older (both ++ bytes (254 ∷ 33 ∷ 89 ∷ 33 ∷ [])) ≡ 0)
    × (used_after older (both ++ bytes (254 ∷ 33 ∷ 89 ∷ 32 ∷ [])) ≡ 3)
unfolding bytes run step after by_phase alone code argument obey command_of refuse lacks_space begin_upload upload_data delete_file purge appended record_bytes deleted closed files_closed records_closed purged directory.sort_of directory.length_of directory.step_at directory.entries_from directory.read_from directory.entry_at directory.find_in directory.has_file directory.bytes_in directory.sizes_in
deletes_free = (refl, refl, refl, refl, refl)

-- a start finds what the store holds, whichever edition wrote it
pub starts_find : (used (start_world (config 128 newer) (run (begins older) both).store) ≡ 3) × (used (start_world (config 64 older) (2 ∷ 9 ∷ 44 ∷ 1 ∷ replicate 1020 0)) ≡ 300)
unfolding bytes run step after by_phase alone code argument obey command_of lacks_space begin_upload upload_data appended record_bytes directory.sort_of directory.length_of directory.step_at directory.entries_from directory.read_from directory.entry_at directory.find_in directory.has_file directory.bytes_in directory.sizes_in
starts_find = (refl, refl)
