-- Worked examples of the editions and of time: how many arguments, each refusal and their order, records of both kinds, and 2,100 milliseconds.
-- Assumes nothing.
use mathlib.Core.Path.{◌≡◌, refl}
use mathlib.Core.Bool.{false}
use mathlib.Core.List.{List, [], ◌∷◌, ◌++◌}
use Prim.Native.Nat.{ℕ}
use lib.ListN.{get_or, replicate}
use Rattle.directory.specs.Directory as directory
use Rattle.files.specs.Files.{appended, record_bytes}
use Rattle.state.specs.declared.Command.TheVariants.{ChooseFont, ShowBitmap, UploadFont, UploadBitmap, DeleteFile}
use Rattle.state.specs.declared.Phase.TheVariants.{Gathering, Upload}
use Rattle.state.specs.Commands.{command_of, arguments_of}
use Rattle.state.specs.Editions.{older, newer}
use Rattle.state.specs.State.{config}
use Rattle.rules.specs.World.{World, port}
use Rattle.rules.specs.Fonts.{open_font, opened_at}
use Rattle.rules.specs.Text.{font_chosen, choose_font}
use Rattle.rules.specs.Files.{lacks_space, begin_upload, upload_data, upload_waits, delete_file}
use Rattle.rules.specs.Step.{Input, byte, time, obey, code, argument, alone, by_phase, waits, refuse, after, step, replies}
use Rattle.rules.specs.Calls.{bytes, run, said}
use Rattle.calls.specs.Start.{start_world}

-- numbers of one byte or two, sizes of two or four
pub counts : (arguments_of older ChooseFont ≡ 1) × (arguments_of newer ChooseFont ≡ 2) × (arguments_of older ShowBitmap ≡ 3) × (arguments_of newer ShowBitmap ≡ 4)
    × (arguments_of older UploadFont ≡ 3) × (arguments_of newer UploadFont ≡ 6) × (arguments_of older UploadBitmap ≡ 3) × (arguments_of newer UploadBitmap ≡ 6)
    × (arguments_of older DeleteFile ≡ 2) × (arguments_of newer DeleteFile ≡ 3)
counts = (refl, refl, refl, refl, refl, refl, refl, refl, refl, refl)

-- a display of 64 rows in edition e, just started on a store of 1,024 zeros, and the last refusal after a stream
abbrev begins : ℕ → World
begins e = start_world (config 64 e) (replicate 1024 0)

abbrev last_after : ℕ → List ℕ → ℕ
last_after e l = (port (run (begins e) (bytes l))).refusals.last

-- ---- 19, and what comes before and after it

-- 49: 19 for 1,024 and 65,535, then 22 for 1,023, which is not there; the older edition's one byte never gets 19
pub fonts_chosen : (last_after newer (254 ∷ 49 ∷ 0 ∷ 4 ∷ []) ≡ 19) × (last_after newer (254 ∷ 49 ∷ 255 ∷ 255 ∷ []) ≡ 19) × (last_after newer (254 ∷ 49 ∷ 255 ∷ 3 ∷ []) ≡ 22)
    × (last_after newer (254 ∷ 49 ∷ 1 ∷ 0 ∷ []) ≡ 0) × (last_after older (254 ∷ 49 ∷ 255 ∷ []) ≡ 22)
unfolding bytes run step after by_phase alone code argument obey command_of refuse choose_font font_chosen open_font opened_at directory.sort_of directory.length_of directory.step_at directory.entries_from directory.read_from directory.entry_at directory.find_in directory.has_file
fonts_chosen = (refl, refl, refl, refl, refl)

-- 98: at its number's last byte, and the byte behind it is read afresh
pub bitmaps_shown : (last_after newer (254 ∷ 98 ∷ 0 ∷ 4 ∷ []) ≡ 19) × (last_after newer (254 ∷ 98 ∷ 255 ∷ 3 ∷ []) ≡ 22) × (last_after older (254 ∷ 98 ∷ 255 ∷ []) ≡ 22)
    × ((port (run (begins newer) (bytes (254 ∷ 98 ∷ 0 ∷ [])))).line.phase ≡ Gathering 98 1) × (last_after newer (254 ∷ 98 ∷ 0 ∷ 4 ∷ 254 ∷ 0 ∷ []) ≡ 16)
unfolding bytes run step after by_phase alone code argument obey command_of refuse directory.sort_of directory.length_of directory.step_at directory.entries_from directory.read_from directory.entry_at directory.find_in directory.has_file
bitmaps_shown = (refl, refl, refl, refl, refl)

-- 173: 20, 19, 22
pub files_deleted : (last_after newer (254 ∷ 173 ∷ 2 ∷ 0 ∷ 4 ∷ []) ≡ 20) × (last_after newer (254 ∷ 173 ∷ 1 ∷ 0 ∷ 4 ∷ []) ≡ 19) × (last_after newer (254 ∷ 173 ∷ 1 ∷ 255 ∷ 3 ∷ []) ≡ 22)
unfolding bytes run step after by_phase alone code argument obey command_of refuse delete_file directory.sort_of directory.length_of directory.step_at directory.entries_from directory.read_from directory.entry_at directory.find_in directory.has_file
files_deleted = (refl, refl, refl)

-- 36 and 94: 19 with any size, 25 for font 1 with size 0, 24 for size 0 and for 2^32 - 1, each with reply 8; then welcome, with reply 1
pub uploads_begun : (last_after newer (254 ∷ 36 ∷ 0 ∷ 4 ∷ 0 ∷ 0 ∷ 0 ∷ 0 ∷ []) ≡ 19) × (last_after newer (254 ∷ 36 ∷ 1 ∷ 0 ∷ 0 ∷ 0 ∷ 0 ∷ 0 ∷ []) ≡ 25)
    × (last_after newer (254 ∷ 94 ∷ 1 ∷ 0 ∷ 0 ∷ 0 ∷ 0 ∷ 0 ∷ []) ≡ 24) × (last_after newer (254 ∷ 94 ∷ 1 ∷ 0 ∷ 255 ∷ 255 ∷ 255 ∷ 255 ∷ []) ≡ 24)
    × (said (begins newer) (bytes (254 ∷ 36 ∷ 0 ∷ 4 ∷ 0 ∷ 0 ∷ 0 ∷ 0 ∷ [])) ≡ 8 ∷ []) × (said (begins newer) (bytes (254 ∷ 94 ∷ 255 ∷ 3 ∷ 0 ∷ 3 ∷ 0 ∷ 0 ∷ [])) ≡ 1 ∷ [])
    × ((port (run (begins newer) (bytes (254 ∷ 94 ∷ 255 ∷ 3 ∷ 0 ∷ 3 ∷ 0 ∷ 0 ∷ [])))).line.phase ≡ Upload 2 1023 768 0 false 0 0)
unfolding bytes run said step replies after by_phase alone code argument obey command_of refuse lacks_space begin_upload directory.sort_of directory.length_of directory.step_at directory.entries_from directory.read_from directory.entry_at directory.find_in directory.has_file directory.bytes_in directory.sizes_in
uploads_begun = (refl, refl, refl, refl, refl, refl, refl)

-- ---- the record that each edition writes

-- bitmap 7 of one byte: kind 4, number 7 0, size 1 0 0 0 in the newer; kind 2, number 7, size 1 0 in the older
abbrev newer_upload : List ℕ
newer_upload = 254 ∷ 94 ∷ 7 ∷ 0 ∷ 1 ∷ 0 ∷ 0 ∷ 0 ∷ 9 ∷ 1 ∷ []

abbrev older_upload : List ℕ
older_upload = 254 ∷ 94 ∷ 7 ∷ 1 ∷ 0 ∷ 9 ∷ 1 ∷ []

abbrev stored : ℕ → List ℕ → ℕ → ℕ
stored e l k = get_or (run (begins e) (bytes l)).store k 0

pub records_written : (stored newer newer_upload 0 ≡ 4) × (stored newer newer_upload 1 ≡ 7) × (stored newer newer_upload 2 ≡ 0) × (stored newer newer_upload 3 ≡ 1)
    × (stored newer newer_upload 7 ≡ 0) × (stored newer newer_upload 256 ≡ 9) × (stored older older_upload 0 ≡ 2) × (stored older older_upload 1 ≡ 7) × (stored older older_upload 2 ≡ 1)
    × (stored older older_upload 256 ≡ 9)
unfolding bytes run step after by_phase alone code argument obey command_of lacks_space begin_upload upload_data appended record_bytes directory.sort_of directory.length_of directory.step_at directory.entries_from directory.read_from directory.entry_at directory.find_in directory.has_file directory.bytes_in directory.sizes_in
records_written = (refl, refl, refl, refl, refl, refl, refl, refl, refl, refl)

-- either is found in either edition, and one number names one bitmap: a second upload of it is 25
abbrev over : ℕ → ℕ → List ℕ → List ℕ → ℕ
over e f l m = (port (run (start_world (config 64 f) (run (begins e) (bytes l)).store) (bytes m))).refusals.last

pub both_kinds : (over newer older newer_upload (254 ∷ 94 ∷ 7 ∷ 1 ∷ 0 ∷ []) ≡ 25) × (over older newer older_upload (254 ∷ 94 ∷ 7 ∷ 0 ∷ 1 ∷ 0 ∷ 0 ∷ 0 ∷ []) ≡ 25) × (over newer older newer_upload (254 ∷ 173 ∷ 1 ∷ 8 ∷ []) ≡ 22)
unfolding bytes run step after by_phase alone code argument obey command_of refuse lacks_space begin_upload upload_data delete_file appended record_bytes directory.sort_of directory.length_of directory.step_at directory.entries_from directory.read_from directory.entry_at directory.find_in directory.has_file directory.bytes_in directory.sizes_in
both_kinds = (refl, refl, refl)

-- ---- 2,100 milliseconds

abbrev begun : List Input
begun = bytes (254 ∷ 94 ∷ 8 ∷ 2 ∷ 0 ∷ [])

-- 2,099 and then 1; a data byte between them, a confirmation between them
pub time_limits : (said (begins older) (begun ++ (time 2099 ∷ [])) ≡ 1 ∷ []) × (said (begins older) (begun ++ (time 2100 ∷ [])) ≡ 1 ∷ 254 ∷ 212 ∷ [])
    × (said (begins older) (begun ++ (time 2099 ∷ time 1 ∷ [])) ≡ 1 ∷ 254 ∷ 212 ∷ [])
    × (said (begins older) (begun ++ (time 2099 ∷ byte 5 ∷ time 2099 ∷ byte 1 ∷ time 2099 ∷ time 0 ∷ [])) ≡ 1 ∷ 5 ∷ [])
    × (said (begins older) (begun ++ (time 4294967295 ∷ time 4294967295 ∷ [])) ≡ 1 ∷ 254 ∷ 212 ∷ []) × (said (begins older) (time 2100 ∷ []) ≡ [])
unfolding bytes run said step replies after by_phase waits alone code argument obey command_of refuse lacks_space begin_upload upload_data upload_waits directory.sort_of directory.length_of directory.step_at directory.entries_from directory.read_from directory.entry_at directory.find_in directory.has_file directory.bytes_in directory.sizes_in
time_limits = (refl, refl, refl, refl, refl, refl)
