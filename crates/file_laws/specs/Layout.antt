-- The store written out from its entries: the directory's bytes, and the files end to end in directory order.
-- Assumes nothing.
use Rattle.std.specs.Prelude.{List, [], ◌∷◌, ◌++◌, Option, Some, None, cond, ℕ, ◌+◌, ◌-◌, take, drop, replicate}
use Rattle.std.proofs.Math.Seq.{paste}
use Rattle.directory.specs.declared.Entry.{Entry}
use Rattle.directory.specs.declared.Location.{Location}
use Rattle.directory.specs.Directory.{entries, bytes_in, sizes_in, is_file}
use Rattle.files.specs.Files.{record_bytes}

unfoldable pub records_of : List Entry → List ℕ
records_of [] = []
records_of (e ∷ es) = record_bytes e ++ records_of es

-- the 256 bytes of a directory of these entries: zeros behind them
unfoldable pub directory_of : List Entry → List ℕ
directory_of es = records_of es ++ replicate (256 - bytes_in es) 0

-- the bytes of a file, where these entries' files lie end to end from the front of the area
unfoldable pub file_in : List Entry → List ℕ → ℕ → ℕ → List ℕ
file_in [] area k n = []
file_in (e ∷ es) area k n = cond (is_file e k n) (take e.size area) (file_in es (drop e.size area) k n)

abbrev pub file_of : List ℕ → ℕ → ℕ → List ℕ
file_of s k n = file_in (entries s) (drop 256 s) k n

-- the bytes of a file that was found
abbrev pub found_bytes : Option Location → List ℕ → List ℕ
found_bytes (Some f) s = take f.size (drop f.start s)
found_bytes None s = []

-- one entry more; the file area stays
unfoldable pub with_record : List ℕ → Entry → List ℕ
with_record s e = directory_of (entries s ++ (e ∷ [])) ++ drop 256 s

-- the entries before the one of this sort and number, those after it, and all but it
unfoldable pub before : List Entry → ℕ → ℕ → List Entry
before [] k n = []
before (e ∷ es) k n = cond (is_file e k n) [] (e ∷ before es k n)

unfoldable pub after : List Entry → ℕ → ℕ → List Entry
after [] k n = []
after (e ∷ es) k n = cond (is_file e k n) es (after es k n)

abbrev pub without : List Entry → ℕ → ℕ → List Entry
without es k n = before es k n ++ after es k n

-- its size
unfoldable pub size_of : List Entry → ℕ → ℕ → ℕ
size_of [] k n = 0
size_of (e ∷ es) k n = cond (is_file e k n) e.size (size_of es k n)

-- m bytes from a + z on moved down to a; all others stay
abbrev pub moved_down : List ℕ → ℕ → ℕ → ℕ → List ℕ
moved_down s a z m = paste s a (drop (a + z) s) m

-- one entry less; later files move down, and bytes from the new end on stay
unfoldable pub without_file : List ℕ → ℕ → ℕ → List ℕ
without_file s k n =
    directory_of (without (entries s) k n)
    ++ moved_down (drop 256 s) (sizes_in (before (entries s) k n)) (size_of (entries s) k n) (sizes_in (after (entries s) k n))

-- no entry; the file area stays
unfoldable pub emptied : List ℕ → List ℕ
emptied s = directory_of [] ++ drop 256 s
