-- The loops that write over bytes: byte by byte, and thing by thing.
-- Assumes nothing.
use mathlib.Core.Path.{◌≡◌, refl, sym, ap, ◌∙◌}
use mathlib.Core.List.{List, [], ◌++◌}
use Prim.Native.Nat.{ℕ, suc, ◌+◌, ◌-◌, ◌*◌, ◌<◌, ◌≤◌}
use native.Mathlib.Omega.{arith}
use native.Mathlib.Nat.{mul-zero, mul-suc}
use native.Mathlib.Numerals.{add-one}
use lib.ListN.{length, get_or, take, drop, drop_of_length-le}
use lib.Seq.{drop-cons, drop-drop, take_all}
use borrow.Rule.Slice.PartMut.{put_mid}
use Rattle.record.specs.Writing.{over, many_bytes}
use Rattle.record.proofs.Overwriting.{length_over, over_is, over_next}

-- ---- a part of it put back

-- h, all of l, from k on
pub over_inside : (l g h : List ℕ) (k e : ℕ) → k + length l ≤ length g → e ≡ k + length l → h ≡ l → put_mid k (e - k) g h ≡ over l k g
over_inside l g h k e q f i =
    let n : e - k ≡ length l = omega arith in
    rw (n, i) (ap (λ (m : List ℕ). take k g ++ (m ++ drop (length l) (drop k g))) (sym (take_all (length g - k) l (omega arith))) ∙ rw (drop-drop (length l) k g) (sym (over_is l k g (omega arith))))

-- ---- thing by thing, each of `size` bytes: those in front of number i are written

pub record Laying {A : Type 0} (one : A → List ℕ) (size k : ℕ) (l : List A) (g₀ g : List ℕ) (i : ℕ) : Type 0 where
  pub long : length g ≡ length g₀
  pub rest : over (many_bytes one (drop i l)) (k + size * i) g ≡ over (many_bytes one l) k g₀

module _ {A : Type 0} (one : A → List ℕ) (size k : ℕ) where
  pub laying_start : (l : List A) (g : List ℕ) → Laying one size k l g g 0
  laying_start l g = let z : k + size * 0 ≡ k = omega (arith, mul-zero size) in record { long = refl; rest = rw z }

  module _ {l : List A} {g₀ g : List ℕ} {i : ℕ} (y : Laying one size k l g₀ g i) where
    pub laying_step : {h b : List ℕ} (d : A) → ((a : A) → length (one a) ≡ size) → i < length l → b ≡ one (get_or l i d) → h ≡ over b (k + size * i) g → Laying one size k l g₀ h (i + 1)
    unfolding many_bytes
    laying_step {h} {b} d f q e p =
        let z : k + size * (i + 1) ≡ k + size * i + size = omega (arith, mul-suc size i, ap (λ (n : ℕ). size * n) (add-one i)) in
        let r : over (one (get_or l i d) ++ many_bytes one (drop (suc i) l)) (k + size * i) g ≡ over (many_bytes one l) k g₀ = rw (drop-cons l i d q) at y.rest in
        let s : h ≡ over (one (get_or l i d)) (k + size * i) g = rw e at p in
        record {
          long = rw p (length_over b (k + size * i) g ∙ y.long);
          rest = rw (z, add-one i) (sym (over_next (one (get_or l i d)) (many_bytes one (drop (suc i) l)) (k + size * i) size g h (f (get_or l i d)) s) ∙ r);
        }

    pub laying_end : length l ≤ i → g ≡ over (many_bytes one l) k g₀
    unfolding many_bytes over
    laying_end h =
        let d : drop i l ≡ [] = drop_of_length-le l {i = i} h in
        let r : over (many_bytes one []) (k + size * i) g ≡ over (many_bytes one l) k g₀ = rw d at y.rest in r
