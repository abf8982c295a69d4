-- Clearing and scrolling go byte by byte: what the bytes say of the pixels.
-- Assumes nothing.
use mathlib.Core.Path.{◌≡◌, refl, sym, ap, ◌∙◌}
use mathlib.Core.Bool.{Bool, true, false, cond}
use mathlib.Core.List.{List}
use Prim.Native.Nat.{ℕ, ◌+◌, ◌-◌, ◌*◌, ◌/◌, ◌%◌, ◌<◌, ◌≤◌}
use native.Mathlib.Omega.{arith}
use native.Mathlib.Decide.{dec_lt, ℕ_discrete}
use lib.Dec.{ltb}
use lib.ListN.{length, get_or, set, length-set, replicate, length-replicate, get_or-replicate, get_or-eq_default}
use lib.Seq.{get_or-set_same, get_or-set_other, ext_get_or}
use borrow.Author.Tests.{lt-ltb, le-ltb}
use borrow.Rule.Slice.PartMut.{put_mid, mid_of, same_len_mid, mid_len}
use Rattle.pixels.specs.Framebuffer.{digit, bit_of, byte_of, pixel, picture, repaint, fill, plain}
use Rattle.pixels.specs.Regions.{everywhere}
use Rattle.pixels.proofs.Bits.{bit_zero}
use Rattle.pixels.proofs.Pictures.{Bytes, length-picture, get_or-picture, pixel_behind}
use Rattle.pixels.proofs.Painting.{is_repaint, length-repaint, bytes_repaint, put_same}
use Rattle.pixels.proofs.Intervals.{within_yes, within_before}
use Rattle.pixels.proofs.Rows.{get_or-back, bytes_back}
use Rattle.scroll.specs.Scroll.{raised, scrolled, Moved}

-- ---- clear

-- every byte of it is 0
cleared_byte : (g : List ℕ) (j : ℕ) → get_or (fill everywhere false g) j 0 ≡ 0
unfolding repaint byte_of digit
cleared_byte g j =
    elim (dec_lt j (length g)) [
      | yes h ↦ get_or-picture (λ x y. false) (length g) j h
      | no h ↦ get_or-eq_default (picture (λ x y. false) (length g)) 0 {n = j} (rw (length-picture (λ x y. false) (length g)) (omega arith))
    ]

pub cleared_zeros : (g : List ℕ) (n : ℕ) → length g ≡ n → fill everywhere false g ≡ replicate n 0
unfolding repaint
cleared_zeros g n e =
    ext_get_or 0 (fill everywhere false g) (replicate n 0) (length-picture (λ x y. false) (length g) ∙ e ∙ sym (length-replicate {A = ℕ} n 0))
    (λ i h. cleared_byte g i ∙ sym (get_or-replicate {A = ℕ} n i 0 0 (rw (length-picture (λ x y. false) (length g), e) at h)))

-- ---- move_up

pub record Moving (by n i : ℕ) (g₀ g : List ℕ) : Type 0 where
  pub high : i ≤ n
  pub now_is : Moved by i g₀ g

pub moving_none : {by n : ℕ} (g : List ℕ) → Moving by n 0 g g
moving_none g = record { high = omega arith; now_is = record { long = refl; byte = λ k. rw (le-ltb k 0 (omega arith)) } }

-- byte i + by, not yet written over, is put to place i
pub moving_more : {by n i : ℕ} {g₀ g : List ℕ} → Moving by n i g₀ g → i < n → n + by ≤ length g₀ → Moving by n (i + 1) g₀ (set g i (get_or g (i + by) 0))
moving_more {by} {n} {i} {g₀} {g} s l m =
    record { high = omega arith; now_is = record { long = length-set g i _ ∙ s.now_is.long; byte = byte } }
  where
    source : get_or g (i + by) 0 ≡ get_or g₀ (i + by) 0
    source = s.now_is.byte (i + by) ∙ rw (le-ltb (i + by) i (omega arith))

    byte : (k : ℕ) → get_or (set g i (get_or g (i + by) 0)) k 0 ≡ cond (ltb k (i + 1)) (get_or g₀ (k + by) 0) (get_or g₀ k 0)
    byte k =
        elim (ℕ_discrete k i) [
          | yes e ↦ rw (e, get_or-set_same g i (get_or g (i + by) 0) 0 (omega (arith, s.now_is.long)), lt-ltb i (i + 1) (omega arith)) source
          | no q ↦ get_or-set_other g i k (get_or g (i + by) 0) 0 q ∙ s.now_is.byte k ∙ elim (dec_lt k i) [
            | yes h ↦ rw (lt-ltb k i h, lt-ltb k (i + 1) (omega arith))
            | no h ↦ rw (le-ltb k i (omega arith), le-ltb k (i + 1) (omega arith))
          ]
        ]

pub moving_all : {by n i : ℕ} {g₀ g : List ℕ} → Moving by n i g₀ g → n ≤ i → Moved by n g₀ g
moving_all {by} {n} {i} {g₀} {g} s l =
    let e : i ≡ n = omega arith in
    record { long = s.now_is.long; byte = λ k. s.now_is.byte k ∙ ap (λ (m : ℕ). cond (ltb k m) (get_or g₀ (k + by) 0) (get_or g₀ k 0)) e }

-- ---- scroll_up

-- more rows than there are
pub scrolled_off : (g h : List ℕ) (n by : ℕ) → by ≡ 30 * n → length g ≤ by → h ≡ fill everywhere false g → h ≡ scrolled n g
scrolled_off g h n by e l q =
    q ∙ put_same everywhere everywhere (plain false) (raised n g) g (λ x y on. refl) (λ x y on t. sym (pixel_behind g x (y + n) (omega arith)))

-- the rows that stay moved to the front, and the others cleared
module _ (g h t : List ℕ) (n by kept end : ℕ) (eb : by ≡ 30 * n) (ee : end ≡ length g) (ek : kept ≡ end - by) (l : by < end) (b : Bytes g) (m : Moved by kept g h)
    (e : t ≡ fill everywhere false (mid_of kept (end - kept) h)) where
  tail_long : length t ≡ end - kept
  tail_long = ap length e ∙ length-repaint _ (mid_of kept (end - kept) h) ∙ mid_len kept end h (omega (arith, m.long))

  moved_bytes : Bytes h
  moved_bytes k = rw (m.byte k) (pick (ltb k kept))
    where
      pick : (s : Bool) → cond s (get_or g (k + by) 0) (get_or g k 0) < 256
      pick true = b (k + by)
      pick false = b k

  white : (x y : ℕ) → bit_of (get_or t (30 * y + x / 8 - kept) 0) (x % 8) ≡ false
  white x y = rw (e, cleared_byte (mid_of kept (end - kept) h) (30 * y + x / 8 - kept)) (bit_zero (x % 8))

  pub scrolled_on : put_mid kept (end - kept) h t ≡ scrolled n g
  unfolding pixel
  scrolled_on =
      is_repaint (put_mid kept (end - kept) h t) (λ x y o. pixel g x (y + n)) g
      (same_len_mid kept (end - kept) h t (tail_long ∙ sym (mid_len kept end h (omega (arith, m.long)))) ∙ m.long)
      (bytes_back kept end h t (omega arith) (omega (arith, m.long)) tail_long moved_bytes (rw e (bytes_repaint _ (mid_of kept (end - kept) h))))
      (λ x y on. rw (get_or-back kept end h t (omega arith) (omega (arith, m.long)) tail_long (30 * y + x / 8)) (elim (dec_lt (30 * y + x / 8) kept) [
        | yes p ↦ (let z : 30 * y + x / 8 + by ≡ 30 * (y + n) + x / 8 = omega arith in
            rw (within_before kept end (30 * y + x / 8) p, m.byte (30 * y + x / 8), lt-ltb (30 * y + x / 8) kept p, z))
        | no p ↦ rw (within_yes kept end (30 * y + x / 8) (omega arith) (omega arith), white x y) (sym (pixel_behind g x (y + n) (omega arith)))
      ]))
