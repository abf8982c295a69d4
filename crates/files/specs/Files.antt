-- What is written to the store: a record more, a file less, none at all, a byte into free room.
-- Of any bytes, whatever their number; where they are a store whose directory keeps its rules, file_laws says what each of these means.
-- Assumes nothing.
use Rattle.std.specs.Prelude.{List, [], ◌∷◌, Option, Some, None, Bool, true, false, cond, ◌&&◌, ℕ, ◌+◌, ◌-◌, ◌/◌, ◌%◌, ◌^◌, min, leb, length, get_or, set, replicate}
use Rattle.std.proofs.Math.Seq.{paste}
use Rattle.directory.specs.declared.Entry.{Entry}
use Rattle.directory.specs.declared.Location.{Location}
use Rattle.directory.specs.Directory.{is_newer, length_of, entries, bytes_in, sizes_in, find_of}
use Rattle.files.specs.Moves.{closed}

-- the room of the file area that files of so many bytes together leave
abbrev pub unused_of : List ℕ → ℕ → ℕ
unused_of s used = length s - (256 + used)

abbrev pub entry : ℕ → ℕ → ℕ → Entry
entry k n z = record { kind = k; number = n; size = z }

-- byte number i of a number, the lowest first
abbrev pub byte_of : ℕ → ℕ → ℕ
byte_of n i = n / 256 ^ i % 256

-- a record's bytes, by its kind
unfoldable pub record_bytes : Entry → List ℕ
record_bytes e =
    cond (is_newer e.kind) (e.kind ∷ byte_of e.number 0 ∷ byte_of e.number 1 ∷ byte_of e.size 0 ∷ byte_of e.size 1 ∷ byte_of e.size 2 ∷ byte_of e.size 3 ∷ [])
    (e.kind ∷ byte_of e.number 0 ∷ byte_of e.size 0 ∷ byte_of e.size 1 ∷ [])

-- behind the last record, if the directory has room for it
unfoldable pub appended : List ℕ → Entry → List ℕ
appended s e =
    cond (leb 256 (length s) && leb (bytes_in (entries s) + length_of e.kind) 256) (paste s (bytes_in (entries s)) (record_bytes e) (length_of e.kind)) s

-- whether there is such a file, all files lying in the store
abbrev pub is_there : Option Location → Bool
is_there (Some found) = true
is_there None = false

unfoldable pub deletes : List ℕ → ℕ → ℕ → Bool
deletes s k n = leb (256 + sizes_in (entries s)) (length s) && is_there (find_of s k n)

-- the record, by its own length, and its file are closed over
abbrev pub deleted_at : Option Location → ℕ → ℕ → List ℕ → List ℕ
deleted_at (Some f) end used s = closed s f.«record» (length_of (get_or s f.«record» 0)) end f.start (f.start + f.size) (256 + used)
deleted_at None end used s = s

unfoldable pub deleted : List ℕ → ℕ → ℕ → List ℕ
deleted s k n =
    cond (leb (256 + sizes_in (entries s)) (length s)) (deleted_at (find_of s k n) (bytes_in (entries s)) (sizes_in (entries s)) s) s

-- the directory is zeros; the file area stays
unfoldable pub purged : List ℕ → List ℕ
purged s = paste s 0 (replicate (min 256 (length s)) 0) (min 256 (length s))

-- byte number k behind files of so many bytes; beyond the store nothing
abbrev pub stored_byte : List ℕ → ℕ → ℕ → ℕ → List ℕ
stored_byte s used k b = set s (256 + used + k) b
