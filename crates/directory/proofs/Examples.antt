-- Worked examples, by computing.
-- Assumes nothing.
use mathlib.Core.Path.{◌≡◌, refl}
use mathlib.Core.Bool.{true, false}
use mathlib.Core.List.{List, [], ◌∷◌, ◌++◌}
use Prim.Native.Nat.{ℕ, zero, suc, ◌-◌}
use lib.ListN.{length, replicate}
use Rattle.std.specs.Prelude.{Some, None}
use Rattle.directory.proofs.Laws.{located}
use Rattle.directory.specs.Directory.{length_of, sort_of, step_at, entry_at, read_from, entries_from, bytes_in, sizes_in, has_file, find_in, find_of, found_number, is_fair, keep_rules, zeros, zeros_from, valid_of}

-- font 2 of 9 bytes, bitmap 2 of 260, and font 300 of 70,000, which is of the newer edition
abbrev pub small : List ℕ
small = 1 ∷ 2 ∷ 9 ∷ 0 ∷ 2 ∷ 2 ∷ 4 ∷ 1 ∷ 3 ∷ 44 ∷ 1 ∷ 112 ∷ 17 ∷ 1 ∷ 0 ∷ replicate 600 0

pub small_found : (find_of small 1 2 ≡ Some (located 0 256 9)) × (find_of small 2 2 ≡ Some (located 4 265 260)) × (find_of small 1 300 ≡ Some (located 8 525 70000)) × (find_of small 3 300 ≡ None)
unfolding length_of sort_of step_at entry_at read_from entries_from find_in
small_found = (refl, refl, refl, refl)

-- the numbers of the two answers: none, and 22
pub small_numbers : (found_number (find_of small 2 2) ≡ 0) × (found_number (find_of small 2 3) ≡ 22)
unfolding length_of sort_of step_at entry_at read_from entries_from find_in
small_numbers = (refl, refl)

-- a store of 600 bytes that begins with these
abbrev stored : List ℕ → List ℕ
stored r = r ++ replicate (600 - length r) 0

-- n bitmaps of a byte each, of the older edition from number 0 on, and of the newer from 768 on
abbrev olders : ℕ → List ℕ
olders zero = []
olders (suc n) = 2 ∷ n ∷ 1 ∷ 0 ∷ olders n

abbrev newers : ℕ → List ℕ
newers zero = []
newers (suc n) = 4 ∷ n ∷ 3 ∷ 1 ∷ 0 ∷ 0 ∷ 0 ∷ newers n

-- 252, 255 and 256 bytes of records
pub record_bytes_lem : (valid_of (stored (newers 36)) ≡ true) × (valid_of (stored (newers 33 ++ olders 6)) ≡ true) × (valid_of (stored (newers 36 ++ olders 1)) ≡ false)
unfolding length_of sort_of step_at entry_at read_from entries_from bytes_in sizes_in has_file is_fair keep_rules zeros zeros_from valid_of
record_bytes_lem = (refl, refl, refl)

-- font 2 of either edition, and then of both; font 2 and bitmap 2
pub editions :
    (valid_of (stored (1 ∷ 2 ∷ 9 ∷ 0 ∷ [])) ≡ true) × (valid_of (stored (3 ∷ 2 ∷ 0 ∷ 9 ∷ 0 ∷ 0 ∷ 0 ∷ [])) ≡ true)
    × (valid_of (stored (1 ∷ 2 ∷ 9 ∷ 0 ∷ 3 ∷ 2 ∷ 0 ∷ 9 ∷ 0 ∷ 0 ∷ 0 ∷ [])) ≡ false)
    × (valid_of (stored (1 ∷ 2 ∷ 9 ∷ 0 ∷ 4 ∷ 2 ∷ 0 ∷ 9 ∷ 0 ∷ 0 ∷ 0 ∷ [])) ≡ true)
unfolding length_of sort_of step_at entry_at read_from entries_from bytes_in sizes_in has_file is_fair keep_rules zeros zeros_from valid_of
editions = (refl, refl, refl, refl)

-- fonts 1,023, 1,024 and 1 of the newer edition
pub numbers :
    (valid_of (stored (3 ∷ 255 ∷ 3 ∷ 9 ∷ 0 ∷ 0 ∷ 0 ∷ [])) ≡ true) × (valid_of (stored (3 ∷ 0 ∷ 4 ∷ 9 ∷ 0 ∷ 0 ∷ 0 ∷ [])) ≡ false)
    × (valid_of (stored (3 ∷ 1 ∷ 0 ∷ 9 ∷ 0 ∷ 0 ∷ 0 ∷ [])) ≡ false)
unfolding length_of sort_of step_at entry_at read_from entries_from bytes_in sizes_in has_file is_fair keep_rules zeros zeros_from valid_of
numbers = (refl, refl, refl)
