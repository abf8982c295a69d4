-- One law for each way through a check.
-- Assumes nothing.
use mathlib.Core.Path.{◌≡◌, sym, ◌∙◌}
use mathlib.Core.List.{List}
use mathlib.Core.Bool.{Bool, true, false, not, ◌&&◌}
use Prim.Native.Nat.{ℕ, suc, ◌+◌, ◌-◌, ◌*◌, ◌/◌, ◌≤◌, ◌<◌}
use native.Mathlib.Omega.{arith}
use native.Mathlib.Nat.{mul-le-mul}
use lib.Dec.{leb, eqb}
use lib.ListN.{length, get_or}
use borrow.Author.Tests.{le-leb, lt-leb}
use Rattle.fonts.specs.declared.Entry.{Entry}
use Rattle.fonts.specs.Checks.{between}
use Rattle.fonts.specs.Bitmaps.{packed_bytes}
use Rattle.fonts.specs.Fonts.{nominal_width, height_of, first_of, last_of, count_of, offset_at, width_at, entry_of, is_entry, are_entries, is_font, max_width}

-- ---- a product of two bytes

pub product : (a b : ℕ) → a < 256 → b < 256 → a * b ≤ 65025
product a b h k =
    let p : a ≤ 255 = omega arith in
    let q : b ≤ 255 = omega arith in
    mul-le-mul p q

pub packed_is : (w h a b : ℕ) → a ≡ w → b ≡ h → (a * b + 7) / 8 ≡ packed_bytes w h
unfolding packed_bytes
packed_is w h a b e f = rw (e, f)

-- ---- 1 to a number

pub between_zero : (m n : ℕ) → n ≡ 0 → not (eqb n 0) ≡ between 1 m n
unfolding between
between_zero m n h = rw h

pub between_rest : (m n : ℕ) → (n ≡ 0 → ⊥) → leb n m ≡ between 1 m n
unfolding between
between_rest m n h = rw (le-leb 1 n (omega arith))

-- ---- an entry

pub offset_is : (s : List ℕ) (k h l a b : ℕ) → h ≡ get_or s (4 + 3 * k) 0 → l ≡ get_or s (4 + 3 * k + 1) 0 → a ≡ h → b ≡ l → 256 * a + b ≡ offset_at s k
unfolding offset_at
offset_is s k h l a b e f g i = rw (g, i, e, f)

pub width_is : (s : List ℕ) (k b : ℕ) → b ≡ get_or s (4 + 3 * k + 2) 0 → b ≡ width_at s k
unfolding width_at
width_is s k b e = e

pub entry_is : (s : List ℕ) (k n o w : ℕ) → n ≡ k → o ≡ offset_at s n → w ≡ width_at s n → ◌≡◌ {A = Entry} (record { offset = o; width = w }) (entry_of s k)
unfolding entry_of
entry_is s k n o w e f g = rw (f, g, e)

-- ---- the entries

pub entry_narrow : (s : List ℕ) (k w : ℕ) (b : Bool) → w ≡ width_at s k → b ≡ between 1 max_width w → b ≡ false → false ≡ is_entry s k
unfolding is_entry
entry_narrow s k w b e f g = rw (← e, ← f, g)

pub entry_ends : (s : List ℕ) (k w h n o : ℕ) (b : Bool) → w ≡ width_at s k → b ≡ between 1 max_width w → b ≡ true → h ≡ height_of s → n ≡ packed_bytes w h → o ≡ offset_at s k
    → leb (o + n) (length s) ≡ is_entry s k
unfolding is_entry
entry_ends s k w h n o b e f g i j l = rw (← e, ← f, g, j, l, i)

pub record Checking (s : List ℕ) (n k : ℕ) : Type 0 where
  pub most : k ≤ n
  pub rest : are_entries (n - k) k s ≡ are_entries n 0 s

pub checking_start : (s : List ℕ) (n : ℕ) → Checking s n 0
checking_start s n = let e : n - 0 ≡ n = omega arith in record { most = omega arith; rest = rw e }

entries_more : (s : List ℕ) (n k : ℕ) → k < n → are_entries (n - k) k s ≡ (is_entry s k && are_entries (n - (k + 1)) (k + 1) s)
unfolding are_entries
entries_more s n k h = let e : n - k ≡ suc (n - (k + 1)) = omega arith in rw e

pub checking_stop : (s : List ℕ) (n k : ℕ) (b : Bool) → Checking s n k → k < n → b ≡ is_entry s k → b ≡ false → false ≡ are_entries n 0 s
checking_stop s n k b w h e f = rw (entries_more s n k h, ← e, f) at w.rest

pub checking_more : (s : List ℕ) (n k : ℕ) (b : Bool) → Checking s n k → k < n → b ≡ is_entry s k → b ≡ true → Checking s n (k + 1)
checking_more s n k b w h e f = record { most = omega arith; rest = rw (entries_more s n k h, ← e, f) at w.rest }

pub checking_end : (s : List ℕ) (n k : ℕ) → Checking s n k → n ≤ k → true ≡ are_entries n 0 s
unfolding are_entries
checking_end s n k w h = let e : n - k ≡ 0 = omega arith in rw e at w.rest

-- ---- a font

module _ (m : ℕ) (s : List ℕ) where
  pub font_short : length s < 4 → false ≡ is_font m s
  unfolding is_font
  font_short h = rw (lt-leb 4 (length s) h)

  module _ (w : ℕ) (b : Bool) (l : 4 ≤ length s) (e : w ≡ nominal_width s) (f : b ≡ between 1 max_width w) where
    pub font_nominal : b ≡ false → false ≡ is_font m s
    unfolding is_font
    font_nominal g = let x : between 1 max_width (nominal_width s) ≡ false = rw e at (sym f ∙ g) in rw (le-leb 4 (length s) l, x)

    module _ (g : b ≡ true) (h : ℕ) (d : Bool) (i : h ≡ height_of s) (j : d ≡ between 1 m h) where
      pub font_height : d ≡ false → false ≡ is_font m s
      unfolding is_font
      font_height k =
          let x : between 1 max_width (nominal_width s) ≡ true = rw e at (sym f ∙ g) in
          let y : between 1 m (height_of s) ≡ false = rw i at (sym j ∙ k) in
          rw (le-leb 4 (length s) l, x, y)

      -- what the first three clauses leave
      font_from : d ≡ true → is_font m s ≡ (leb (first_of s) (last_of s) && leb (4 + 3 * count_of s) (length s) && are_entries (count_of s) 0 s)
      unfolding is_font
      font_from k =
          let x : between 1 max_width (nominal_width s) ≡ true = rw e at (sym f ∙ g) in
          let y : between 1 m (height_of s) ≡ true = rw i at (sym j ∙ k) in
          rw (le-leb 4 (length s) l, x, y)

      module _ (k : d ≡ true) (p q : ℕ) (ep : p ≡ first_of s) (eq : q ≡ last_of s) where
        pub font_order : q < p → false ≡ is_font m s
        font_order o = sym (font_from k ∙ rw (lt-leb (first_of s) (last_of s) (omega arith)))

        pub font_table : (n : ℕ) → p ≤ q → n ≡ q - p → length s < 4 + 3 * (n + 1) → false ≡ is_font m s
        font_table n o en t = sym (font_from k ∙ rw (le-leb (first_of s) (last_of s) (omega arith), lt-leb (4 + 3 * count_of s) (length s) (omega arith)))

        pub font_entries : (n : ℕ) (r : Bool) → p ≤ q → n ≡ q - p → 4 + 3 * (n + 1) ≤ length s → r ≡ are_entries (n + 1) 0 s → r ≡ is_font m s
        font_entries n r o en t er =
            let c : n + 1 ≡ count_of s = omega arith in
            let x : r ≡ are_entries (count_of s) 0 s = rw c at er in
            x ∙ sym (font_from k ∙ rw (le-leb (first_of s) (last_of s) (omega arith), le-leb (4 + 3 * count_of s) (length s) (omega arith)))
