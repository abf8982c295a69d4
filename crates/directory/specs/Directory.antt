-- The directory in the first 256 bytes of the store: records end to end, each one byte of kind and then a body whose length the kind fixes.
-- Its meaning is the list of its entries; a byte behind the store's end reads as 0.
-- Assumes nothing.
use Rattle.std.specs.Prelude.{List, [], ◌∷◌, Option, Some, None, Bool, true, false, cond, ◌&&◌, ◌||◌, not, ℕ, zero, suc, ◌+◌, ◌-◌, ◌*◌, length, get_or, leb, eqb}
use Rattle.refusals.specs.Refusals.{no_such_file, accepted}
use Rattle.directory.specs.declared.Entry.{Entry}
use Rattle.directory.specs.declared.Totals.{Totals}
use Rattle.directory.specs.declared.Location.{Location}

-- kinds of the older edition, font 1 and bitmap 2: a number of one byte, a size of two. Of the newer, font 3 and bitmap 4: a number of two bytes, a size of four.
-- Low bytes come first
abbrev pub is_older : ℕ → Bool
is_older k = eqb k 1 || eqb k 2

abbrev pub is_newer : ℕ → Bool
is_newer k = eqb k 3 || eqb k 4

-- the bytes of a record by its kind; 0 ends the directory, and no other kind is known
unfoldable pub length_of : ℕ → ℕ
length_of k = cond (is_older k) 4 (cond (is_newer k) 7 0)

-- the sort of a kind, whichever edition it is of: 1 for fonts, 2 for bitmaps
unfoldable pub sort_of : ℕ → ℕ
sort_of k = cond (eqb k 1 || eqb k 3) 1 (cond (eqb k 2 || eqb k 4) 2 0)

-- the highest number of a file
abbrev pub max_number : ℕ
max_number = 1023

-- the length of the record at byte p; 0 where no whole record stands
unfoldable pub step_at : List ℕ → ℕ → ℕ
step_at s p = cond (leb (p + length_of (get_or s p 0)) 256) (length_of (get_or s p 0)) 0

-- a number of two bytes, and of four
abbrev pub pair_at : List ℕ → ℕ → ℕ
pair_at s p = get_or s p 0 + 256 * get_or s (p + 1) 0

abbrev pub quad_at : List ℕ → ℕ → ℕ
quad_at s p = pair_at s p + 65536 * pair_at s (p + 2)

unfoldable pub entry_at : List ℕ → ℕ → Entry
entry_at s p =
    cond (is_newer (get_or s p 0)) (record { kind = get_or s p 0; number = pair_at s (p + 1); size = quad_at s (p + 3) })
    (record { kind = get_or s p 0; number = get_or s (p + 1) 0; size = pair_at s (p + 2) })

-- the entries from byte p on, n at most
unfoldable pub read_from : ℕ → ℕ → List ℕ → List Entry
read_from zero p s = []
read_from (suc n) p s = cond (eqb (step_at s p) 0) [] (entry_at s p ∷ read_from n (p + step_at s p) s)

-- no more entries than bytes
unfoldable pub entries_from : ℕ → List ℕ → List Entry
entries_from p s = read_from (256 - p) p s

abbrev pub entries : List ℕ → List Entry
entries s = entries_from 0 s

-- the bytes that records take in the directory, and the room that their files use in the file area
unfoldable pub bytes_in : List Entry → ℕ
bytes_in [] = 0
bytes_in (e ∷ es) = length_of e.kind + bytes_in es

unfoldable pub sizes_in : List Entry → ℕ
sizes_in [] = 0
sizes_in (e ∷ es) = e.size + sizes_in es

abbrev pub totals_of : List Entry → Totals
totals_of es = record { end = bytes_in es; used = sizes_in es }

-- file n of sort k, whichever kind holds it
abbrev pub is_file : Entry → ℕ → ℕ → Bool
is_file e k n = eqb (sort_of e.kind) k && eqb e.number n

unfoldable pub has_file : List Entry → ℕ → ℕ → Bool
has_file [] k n = false
has_file (e ∷ es) k n = is_file e k n || has_file es k n

-- files lie end to end in directory order: the first of these entries has its record at p and its file at a
unfoldable pub find_in : List Entry → ℕ → ℕ → ℕ → ℕ → Option Location
find_in [] p a k n = None
find_in (e ∷ es) p a k n = cond (is_file e k n) (Some (record { «record» = p; start = a; size = e.size })) (find_in es (p + length_of e.kind) (a + e.size) k n)

abbrev pub find_of : List ℕ → ℕ → ℕ → Option Location
find_of s k n = find_in (entries s) 0 256 k n

-- the refusal's number
abbrev pub found_number : Option Location → ℕ
found_number (Some location) = accepted
found_number None = no_such_file

-- the room that its file takes
abbrev pub found_size : Option Location → ℕ
found_size (Some location) = location.size
found_size None = 0

-- no size 0, no number above the highest, and not font 1
unfoldable pub is_fair : Entry → Bool
is_fair e = not (eqb e.size 0) && leb e.number max_number && not (is_file e 1 1)

-- and no sort and number twice
unfoldable pub keep_rules : List Entry → Bool
keep_rules [] = true
keep_rules (e ∷ es) = is_fair e && not (has_file es (sort_of e.kind) e.number) && keep_rules es

unfoldable pub zeros : ℕ → ℕ → List ℕ → Bool
zeros zero p s = true
zeros (suc n) p s = eqb (get_or s p 0) 0 && zeros n (p + 1) s

-- every byte from p to the directory's end is 0
unfoldable pub zeros_from : ℕ → List ℕ → Bool
zeros_from p s = zeros (256 - p) p s

-- the bytes that all records together may have
abbrev pub max_records : ℕ
max_records = 255

-- THE DIRECTORY KEEPS ITS RULES: zeros behind the last record, at most 255 bytes of records, each by the rules, and their sizes sum to at most the file area
unfoldable pub valid_of : List ℕ → Bool
valid_of s =
    zeros_from (bytes_in (entries s)) s && leb (bytes_in (entries s)) max_records && keep_rules (entries s) && leb (256 + sizes_in (entries s)) (length s)

-- its totals, if it does
unfoldable pub survey_of : List ℕ → Option Totals
survey_of s = cond (valid_of s) (Some (totals_of (entries s))) None
