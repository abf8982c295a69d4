-- Where a part of the panel stands in its bytes: what is read there, and what is written there.
-- Assumes nothing.
use mathlib.Core.Path.{◌≡◌, refl, sym, ap, ◌∙◌}
use mathlib.Core.Bool.{Bool, true, false}
use mathlib.Core.List.{List, [], ◌∷◌, ◌++◌}
use Prim.Native.Nat.{ℕ, zero, suc, ◌+◌, ◌*◌, ◌<◌, ◌≤◌}
use native.Mathlib.Omega.{arith}
use native.Mathlib.Nat.{mul-zero, mul-suc}
use lib.Dec.{eqb}
use lib.ListN.{length, get_or, drop, set, length-set, length-append, get_or-append}
use lib.Seq.{set-append_left, get_or-append-add, get_or-drop, take_all, drop_at}
use borrow.Author.Tests.{eqb-true}
use Rattle.bar_graph.specs.declared.Bar.{Bar}
use Rattle.queue.specs.Record.{at, bit, Bytes}
use Rattle.state.specs.declared.BarSlot.{BarSlot}
use Rattle.state.specs.declared.Strip.{Strip}
use Rattle.state.specs.declared.Panel.{Panel}
use Rattle.state.specs.State.{bar_slot, strip, bar_at, strip_at, no_bar, no_strip, with_bars, with_strips, with_serial, with_contrast, with_backlight, with_used}
use Rattle.record.specs.Reading.{slot_of, strip_of, panel_of}
use Rattle.record.specs.Writing.{low, high, many_bytes, slot_bytes, strip_bytes, last_bytes, panel_bytes, over}
use Rattle.record.proofs.Overwriting.{over_front, length-many_bytes}
use Rattle.record.proofs.Whole.{length-panel}
use Rattle.record.proofs.Back.{low_is, high_is}
use Rattle.record.proofs.Filling.{length-many, many_at}
use Rattle.panel.specs.Revised.{merged, revised, serial, backlight}
use Rattle.panel.proofs.Merging.{Writable, merged_over}

-- ---- bytes written into one of two lists

set_behind : (m r : List ℕ) (k b : ℕ) → set (m ++ r) (length m + k) b ≡ m ++ set r k b
set_behind [] r k b = let z : 0 + k ≡ k = omega arith in rw z
set_behind (a ∷ m) r k b = let z : suc (length m) + k ≡ suc (length m + k) = omega arith in rw z (ap (λ (l : List ℕ). a ∷ l) (set_behind m r k b))

over_behind : (l m r : List ℕ) (k : ℕ) → over l (length m + k) (m ++ r) ≡ m ++ over l k r
unfolding over
over_behind [] m r k = refl
over_behind (b ∷ l) m r k =
    let z : length m + k + 1 ≡ length m + (k + 1) = omega arith in
    rw (set_behind m r k b, z) (over_behind l m (set r k b) (k + 1))

over_inside : (l m r : List ℕ) (k : ℕ) → k + length l ≤ length m → over l k (m ++ r) ≡ over l k m ++ r
unfolding over
over_inside [] m r k h = refl
over_inside (b ∷ l) m r k h = rw (set-append_left m r k b (omega arith)) (over_inside l (set m k b) r (k + 1) (omega (arith, length-set m k b)))

over_all : (l m r : List ℕ) → length l ≡ length m → over l 0 (m ++ r) ≡ l ++ r
over_all l m r e =
    over_front l (m ++ r)
    ∙ rw (take_all (length (m ++ r)) l (omega (arith, e, length-append m r)), drop_at m r (length l) (sym e))

-- ---- things of `size` bytes

module _ {A : Type 0} (one : A → List ℕ) (size : ℕ) (sized : (a : A) → length (one a) ≡ size) where
  many_set : (l : List A) (n : ℕ) (a : A) → n < length l → many_bytes one (set l n a) ≡ over (one a) (size * n) (many_bytes one l)
  unfolding many_bytes
  many_set [] n a h = absurd (omega arith)
  many_set (x ∷ l) zero a h = rw (mul-zero size) (sym (over_all (one a) (one x) (many_bytes one l) (sized a ∙ sym (sized x))))
  many_set (x ∷ l) (suc n) a h =
      let z : size * suc n ≡ length (one x) + size * n = omega (arith, mul-suc size n, sized x) in
      rw z (ap (λ (m : List ℕ). one x ++ m) (many_set l n a (omega arith)) ∙ sym (over_behind (one a) (one x) (many_bytes one l) (size * n)))

  many_byte : (l : List A) (n j : ℕ) (d : A) → n < length l → j < size → at (many_bytes one l) (size * n + j) ≡ at (one (get_or l n d)) j
  unfolding many_bytes
  many_byte [] n j d h i = absurd (omega arith)
  many_byte (x ∷ l) zero j d h i =
      let z : size * 0 + j ≡ j = omega (arith, mul-zero size) in
      rw z (get_or-append (one x) (many_bytes one l) 0 j (omega (arith, sized x)))
  many_byte (x ∷ l) (suc n) j d h i =
      let z : size * suc n + j ≡ length (one x) + (size * n + j) = omega (arith, mul-suc size n, sized x) in
      rw z (get_or-append-add (one x) (many_bytes one l) (size * n + j) 0 ∙ many_byte l n j d (omega arith) i)

-- ---- the panel that bytes say, written

module _ (p : List ℕ) where
  length-bars : length (many_bytes slot_bytes (panel_of p).bars) ≡ 112
  unfolding panel_of
  length-bars = length-many_bytes slot_bytes 7 (λ a. refl) (panel_of p).bars ∙ ap (λ (n : ℕ). 7 * n) (length-many slot_of 7 p 16)

  length-strips : length (many_bytes strip_bytes (panel_of p).strips) ≡ 40
  unfolding panel_of
  length-strips = length-many_bytes strip_bytes 5 (λ a. refl) (panel_of p).strips ∙ ap (λ (n : ℕ). 5 * n) (length-many strip_of 5 (drop 112 p) 8)

  pub bars_count : length (panel_of p).bars ≡ 16
  unfolding panel_of
  bars_count = length-many slot_of 7 p 16

  pub strips_count : length (panel_of p).strips ≡ 8
  unfolding panel_of
  strips_count = length-many strip_of 5 (drop 112 p) 8

  pub bar_in : (n : ℕ) → n < 16 → bar_at (panel_of p) n ≡ slot_of (drop (7 * n) p)
  unfolding panel_of
  bar_in n h = many_at slot_of 7 p 16 n no_bar h

  pub strip_in : (n : ℕ) → n < 8 → strip_at (panel_of p) n ≡ strip_of (drop (5 * n) (drop 112 p))
  unfolding panel_of
  strip_in n h = many_at strip_of 5 (drop 112 p) 8 n no_strip h

  -- ---- its bytes, in terms of the bytes that say it

  bar_byte : (n j : ℕ) → n < 16 → j < 7 → at (panel_bytes (panel_of p)) (7 * n + j) ≡ at (slot_bytes (slot_of (drop (7 * n) p))) j
  unfolding panel_bytes
  bar_byte n j h i =
      get_or-append (many_bytes slot_bytes (panel_of p).bars) _ 0 (7 * n + j) (omega (arith, length-bars))
      ∙ many_byte slot_bytes 7 (λ a. refl) (panel_of p).bars n j no_bar (omega (arith, bars_count)) i
      ∙ ap (λ (s : BarSlot). at (slot_bytes s) j) (bar_in n h)

  strip_byte : (n j : ℕ) → n < 8 → j < 5 → at (panel_bytes (panel_of p)) (112 + (5 * n + j)) ≡ at (strip_bytes (strip_of (drop (5 * n) (drop 112 p)))) j
  unfolding panel_bytes
  strip_byte n j h i =
      ap (λ (k : ℕ). at (panel_bytes (panel_of p)) (k + (5 * n + j))) (sym length-bars)
      ∙ get_or-append-add (many_bytes slot_bytes (panel_of p).bars) _ (5 * n + j) 0
      ∙ get_or-append (many_bytes strip_bytes (panel_of p).strips) _ 0 (5 * n + j) (omega (arith, length-strips))
      ∙ many_byte strip_bytes 5 (λ a. refl) (panel_of p).strips n j no_strip (omega (arith, strips_count)) i
      ∙ ap (λ (s : Strip). at (strip_bytes s) j) (strip_in n h)

  last_byte : (j : ℕ) → at (panel_bytes (panel_of p)) (152 + j) ≡ at (last_bytes (panel_of p)) j
  unfolding panel_bytes
  last_byte j =
      let z : 152 + j ≡ length (many_bytes slot_bytes (panel_of p).bars) + (length (many_bytes strip_bytes (panel_of p).strips) + j) = omega (arith, length-bars, length-strips) in
      ap (at (panel_bytes (panel_of p))) z
      ∙ get_or-append-add (many_bytes slot_bytes (panel_of p).bars) _ (length (many_bytes strip_bytes (panel_of p).strips) + j) 0
      ∙ get_or-append-add (many_bytes strip_bytes (panel_of p).strips) _ j 0

-- ---- bytes that are written as they were read

raw_six : (m : List ℕ) (j : ℕ) → j < 6 → at (at m 1 ∷ at m 2 ∷ at m 3 ∷ at m 4 ∷ at m 5 ∷ at m 6 ∷ []) j ≡ at m (suc j)
raw_six m zero h = refl
raw_six m (suc zero) h = refl
raw_six m (suc (suc zero)) h = refl
raw_six m (suc (suc (suc zero))) h = refl
raw_six m (suc (suc (suc (suc zero)))) h = refl
raw_six m (suc (suc (suc (suc (suc zero))))) h = refl
raw_six m (suc (suc (suc (suc (suc (suc j)))))) h = absurd (omega arith)

raw_four : (m : List ℕ) (j : ℕ) → j < 4 → at (at m 1 ∷ at m 2 ∷ at m 3 ∷ at m 4 ∷ []) j ≡ at m (suc j)
raw_four m zero h = refl
raw_four m (suc zero) h = refl
raw_four m (suc (suc zero)) h = refl
raw_four m (suc (suc (suc zero))) h = refl
raw_four m (suc (suc (suc (suc j)))) h = absurd (omega arith)

-- a flag that says 1 is 1
flag_one : (x : ℕ) (t : Bool) → eqb x 1 ≡ t → bit t ≡ 1 → x ≡ 1
flag_one x true e h = eqb-true x 1 e
flag_one x false e h = absurd (omega (arith, h))

module _ (p : List ℕ) where
  -- ---- one bar

  bar_flag : (n : ℕ) → n < 16 → at (panel_bytes (panel_of p)) (7 * n) ≡ 1 → at p (7 * n) ≡ 1
  bar_flag n h e =
      let z : 7 * n + 0 ≡ 7 * n = omega arith in
      let f : bit (eqb (at p (7 * n)) 1) ≡ 1 = sym (ap (λ (k : ℕ). bit (eqb (at p k) 1)) z) ∙ sym (ap (λ (x : ℕ). bit (eqb x 1)) (get_or-drop (7 * n) p 0 0)) ∙ sym (bar_byte p n 0 h (omega arith)) ∙ ap (at (panel_bytes (panel_of p))) z ∙ e in
      flag_one (at p (7 * n)) (eqb (at p (7 * n)) 1) refl f

  bar_raw : (n k j b : ℕ) → n < 16 → j < 6 → k ≡ 7 * n + suc j → at (panel_bytes (panel_of p)) k ≡ b → at p k ≡ b
  bar_raw n k j b h i z e =
      ap (at p) z ∙ sym (get_or-drop (7 * n) p (suc j) 0) ∙ sym (raw_six (drop (7 * n) p) j i) ∙ sym (bar_byte p n (suc j) h (omega arith)) ∙ ap (at (panel_bytes (panel_of p))) (sym z) ∙ e

  bar_bytes : (n : ℕ) (s : BarSlot) → n < 16 → panel_bytes (with_bars (panel_of p) (set (panel_of p).bars n s)) ≡ over (slot_bytes s) (7 * n) (panel_bytes (panel_of p))
  unfolding panel_bytes
  bar_bytes n s h =
      ap (λ (l : List ℕ). l ++ (many_bytes strip_bytes (panel_of p).strips ++ last_bytes (panel_of p))) (many_set slot_bytes 7 (λ a. refl) (panel_of p).bars n s (omega (arith, bars_count p)))
      ∙ sym (over_inside (slot_bytes s) (many_bytes slot_bytes (panel_of p).bars) _ (7 * n) (omega (arith, length-bars p)))

  pub bar_written : (n : ℕ) (b : Bar) → n < 16
      → over (slot_bytes (bar_slot true b)) (7 * n) p ≡ revised p (with_bars (panel_of p) (set (panel_of p).bars n (bar_slot true b)))
  unfolding revised
  bar_written n b h =
      merged_over (slot_bytes (bar_slot true b)) p (panel_bytes (panel_of p)) (7 * n) (omega (arith, length-panel (panel_of p) (bars_count p) (strips_count p))) (
        bar_flag n h,
        (
          bar_raw n _ 0 _ h (omega arith) (omega arith),
          (
            bar_raw n _ 1 _ h (omega arith) (omega arith),
            (
              bar_raw n _ 2 _ h (omega arith) (omega arith),
              (bar_raw n _ 3 _ h (omega arith) (omega arith), (bar_raw n _ 4 _ h (omega arith) (omega arith), (bar_raw n _ 5 _ h (omega arith) (omega arith), tt))),
            ),
          ),
        ),
      )
      ∙ ap (merged p (panel_bytes (panel_of p))) (sym (bar_bytes n (bar_slot true b) h))

  -- ---- one strip

  strip_at_lem : (n k j : ℕ) → k ≡ 112 + (5 * n + j) → at p k ≡ at (drop (5 * n) (drop 112 p)) j
  strip_at_lem n k j z = ap (at p) z ∙ sym (get_or-drop 112 p (5 * n + j) 0) ∙ sym (get_or-drop (5 * n) (drop 112 p) j 0)

  strip_flag : (n k : ℕ) → n < 8 → k ≡ 112 + 5 * n → at (panel_bytes (panel_of p)) k ≡ 1 → at p k ≡ 1
  strip_flag n k h z e =
      let y : k ≡ 112 + (5 * n + 0) = omega (arith, z) in
      let f : bit (eqb (at p k) 1) ≡ 1 = ap (λ (x : ℕ). bit (eqb x 1)) (strip_at_lem n k 0 y) ∙ sym (strip_byte p n 0 h (omega arith)) ∙ ap (at (panel_bytes (panel_of p))) (sym y) ∙ e in
      flag_one (at p k) (eqb (at p k) 1) refl f

  strip_raw : (n k j b : ℕ) → n < 8 → j < 4 → k ≡ 112 + (5 * n + suc j) → at (panel_bytes (panel_of p)) k ≡ b → at p k ≡ b
  strip_raw n k j b h i z e =
      strip_at_lem n k (suc j) z ∙ sym (raw_four (drop (5 * n) (drop 112 p)) j i) ∙ sym (strip_byte p n (suc j) h (omega arith)) ∙ ap (at (panel_bytes (panel_of p))) (sym z) ∙ e

  strip_bytes_lem : (n : ℕ) (s : Strip) → n < 8 → panel_bytes (with_strips (panel_of p) (set (panel_of p).strips n s)) ≡ over (strip_bytes s) (112 + 5 * n) (panel_bytes (panel_of p))
  unfolding panel_bytes
  strip_bytes_lem n s h =
      ap (λ (l : List ℕ). many_bytes slot_bytes (panel_of p).bars ++ (l ++ last_bytes (panel_of p))) (many_set strip_bytes 5 (λ a. refl) (panel_of p).strips n s (omega (arith, strips_count p)))
      ∙ ap (λ (l : List ℕ). many_bytes slot_bytes (panel_of p).bars ++ l) (sym (over_inside (strip_bytes s) (many_bytes strip_bytes (panel_of p).strips) _ (5 * n) (omega (arith, length-strips p))))
      ∙ sym (over_behind (strip_bytes s) (many_bytes slot_bytes (panel_of p).bars) _ (5 * n))
      ∙ ap (λ (k : ℕ). over (strip_bytes s) (k + 5 * n) (panel_bytes (panel_of p))) (length-bars p)

  pub strip_written : (n x1 y1 x2 y2 : ℕ) → n < 8
      → over (strip_bytes (strip true x1 y1 x2 y2)) (112 + 5 * n) p ≡ revised p (with_strips (panel_of p) (set (panel_of p).strips n (strip true x1 y1 x2 y2)))
  unfolding revised
  strip_written n x1 y1 x2 y2 h =
      merged_over (strip_bytes (strip true x1 y1 x2 y2)) p (panel_bytes (panel_of p)) (112 + 5 * n) (omega (arith, length-panel (panel_of p) (bars_count p) (strips_count p))) (
        strip_flag n _ h refl,
        (
          strip_raw n _ 0 _ h (omega arith) (omega arith),
          (
            strip_raw n _ 1 _ h (omega arith) (omega arith),
            (strip_raw n _ 2 _ h (omega arith) (omega arith), (strip_raw n _ 3 _ h (omega arith) (omega arith), tt)),
          ),
        ),
      )
      ∙ ap (merged p (panel_bytes (panel_of p))) (sym (strip_bytes_lem n (strip true x1 y1 x2 y2) h))

  -- ---- the eight bytes behind them

  last_bytes_lem : (q : Panel) (l : List ℕ) (j : ℕ) → q.bars ≡ (panel_of p).bars → q.strips ≡ (panel_of p).strips → last_bytes q ≡ over l j (last_bytes (panel_of p))
      → panel_bytes q ≡ over l (152 + j) (panel_bytes (panel_of p))
  unfolding panel_bytes
  last_bytes_lem q l j e f d =
      let z : 152 + j ≡ length (many_bytes slot_bytes (panel_of p).bars) + (length (many_bytes strip_bytes (panel_of p).strips) + j) = omega (arith, length-bars p, length-strips p) in
      rw (e, f, d)
      (sym
      (ap (λ (k : ℕ). over l k (panel_bytes (panel_of p))) z
      ∙ over_behind l (many_bytes slot_bytes (panel_of p).bars) _ (length (many_bytes strip_bytes (panel_of p).strips) + j)
      ∙ ap (λ (m : List ℕ). many_bytes slot_bytes (panel_of p).bars ++ m) (over_behind l (many_bytes strip_bytes (panel_of p).strips) _ j)))

  last_written : (q : Panel) (l : List ℕ) (j : ℕ) → q.bars ≡ (panel_of p).bars → q.strips ≡ (panel_of p).strips → last_bytes q ≡ over l j (last_bytes (panel_of p))
      → j + length l ≤ 8 → Writable p (panel_bytes (panel_of p)) (152 + j) l → over l (152 + j) p ≡ revised p q
  unfolding revised
  last_written q l j e f d h w =
      merged_over l p (panel_bytes (panel_of p)) (152 + j) (omega (arith, length-panel (panel_of p) (bars_count p) (strips_count p))) w ∙ ap (merged p (panel_bytes (panel_of p))) (sym (last_bytes_lem q l j e f d))

  last_raw : (k j b x : ℕ) → k ≡ 152 + j → at (last_bytes (panel_of p)) j ≡ x → x ≡ at p k → at (panel_bytes (panel_of p)) k ≡ b → at p k ≡ b
  last_raw k j b x z f g e = sym g ∙ sym f ∙ sym (last_byte p j) ∙ ap (at (panel_bytes (panel_of p))) (sym z) ∙ e

  last_flag : (k j x : ℕ) → k ≡ 152 + j → at (last_bytes (panel_of p)) j ≡ bit (eqb x 1) → x ≡ at p k → at (panel_bytes (panel_of p)) k ≡ 1 → at p k ≡ 1
  last_flag k j x z f g e = sym g ∙ flag_one x (eqb x 1) refl (sym f ∙ sym (last_byte p j) ∙ ap (at (panel_bytes (panel_of p))) (sym z) ∙ e)

  pub serial_written : (a b : ℕ) → over (1 ∷ a ∷ b ∷ []) 152 p ≡ revised p (with_serial (panel_of p) (serial true a b))
  unfolding panel_of over
  serial_written a b =
      last_written (with_serial (panel_of p) (serial true a b)) (1 ∷ a ∷ b ∷ []) 0 refl refl refl (omega arith)
      (last_flag _ 0 _ (omega arith) refl (get_or-drop 152 p 0 0), (last_raw _ 1 _ _ (omega arith) refl (get_or-drop 152 p 1 0), (last_raw _ 2 _ _ (omega arith) refl (get_or-drop 152 p 2 0), tt)))

  pub contrast_written : (c : ℕ) → over (c ∷ []) 155 p ≡ revised p (with_contrast (panel_of p) c)
  unfolding panel_of over
  contrast_written c = last_written (with_contrast (panel_of p) c) (c ∷ []) 3 refl refl refl (omega arith) (last_raw _ 3 _ _ (omega arith) refl refl, tt)

  pub lit_written : (m : ℕ) → over (1 ∷ m ∷ []) 156 p ≡ revised p (with_backlight (panel_of p) (backlight true m))
  unfolding panel_of over
  lit_written m =
      last_written (with_backlight (panel_of p) (backlight true m)) (1 ∷ m ∷ []) 4 refl refl refl (omega arith)
      (last_flag _ 4 _ (omega arith) refl (get_or-drop 156 p 0 0), (last_raw _ 5 _ _ (omega arith) refl (get_or-drop 156 p 1 0), tt))

  -- off: its flag says on, or all stays
  pub dark_written : at p 156 ≡ 1 → over (0 ∷ []) 156 p ≡ revised p (with_backlight (panel_of p) (backlight false (panel_of p).backlight.minutes))
  unfolding panel_of over
  dark_written e =
      last_written (with_backlight (panel_of p) (backlight false (panel_of p).backlight.minutes)) (0 ∷ []) 4 refl refl refl (omega arith)
      ((λ f. absurd (omega (arith, e, f, last_byte p 4, ap (λ (x : ℕ). bit (eqb x 1)) (get_or-drop 156 p 0 0 ∙ e)))), tt)

  -- two bytes are written as they are read
  pub used_written : Bytes p → (u : ℕ) → over (low u ∷ high u ∷ []) 158 p ≡ revised p (with_used (panel_of p) u)
  unfolding panel_of over
  used_written b u =
      last_written (with_used (panel_of p) u) (low u ∷ high u ∷ []) 6 refl refl refl (omega arith)
      (last_raw _ 6 _ _ (omega arith) refl (low_is (at p 158) (at p 159) (b 158)), (last_raw _ 7 _ _ (omega arith) refl (high_is (at p 158) (at p 159) (b 158)), tt))
