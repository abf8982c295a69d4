-- Bytes that are moved down: the invariant of the loop; and the three moves of a delete.
-- Assumes nothing.
use mathlib.Core.Path.{◌≡◌, refl, sym, ap, ◌∙◌}
use mathlib.Core.List.{List}
use Prim.Native.Nat.{ℕ, ◌+◌, ◌-◌, ◌≤◌, ◌<◌}
use native.Mathlib.Omega.{arith}
use native.Mathlib.Numerals.{add-one}
use lib.ListN.{length, get_or, drop, set, replicate, length-set}
use lib.Seq.{paste, paste-zero, paste-suc, drop-paste, get_or-drop}
use Rattle.files.specs.Moves.{files_closed, records_closed, closed}

-- i of the n bytes of r are pasted
pub record Pasting (s₀ s r : List ℕ) (at n i : ℕ) : Type 0 where
  pub room : at + n ≤ length s₀
  pub long : n ≤ length r
  pub within : i ≤ n
  pub same : s ≡ paste s₀ at r i
  pub len : length s ≡ length s₀

pub pasting_start : (s r : List ℕ) (at n : ℕ) → at + n ≤ length s → n ≤ length r → Pasting s s r at n 0
pasting_start s r at n h k = record { room = h; long = k; within = omega arith; same = paste-zero s at r; len = refl }

pub pasting_more : (s₀ s r : List ℕ) (at n i v : ℕ) → Pasting s₀ s r at n i → i < n → v ≡ get_or r i 0 → Pasting s₀ (set s (at + i) v) r at n (i + 1)
pasting_more s₀ s r at n i v p h e =
    record {
      room = p.room;
      long = p.long;
      within = omega arith;
      same = rw (e, p.same, add-one) (paste-suc s₀ at r i 0 (omega (arith, p.room)) (omega (arith, p.long)));
      len = length-set s (at + i) v ∙ p.len;
    }

pub pasting_end : (s₀ s r : List ℕ) (at n i : ℕ) → Pasting s₀ s r at n i → n ≤ i → s ≡ paste s₀ at r n
pasting_end s₀ s r at n i p h = let e : i ≡ n = omega (arith, p.within) in rw e at p.same

-- what has not been moved yet is as it was
pub unmoved : (s₀ s : List ℕ) (to from n i : ℕ) → Pasting s₀ s (drop from s₀) to n i → to ≤ from → i < n → get_or s (from + i) 0 ≡ get_or (drop from s₀) i 0
unmoved s₀ s to from n i p h k =
    let d : drop (to + i) s ≡ drop (to + i) s₀ = rw p.same (drop-paste s₀ to (drop from s₀) i (omega (arith, p.room)) (omega (arith, p.long))) in
    let e : from + i ≡ to + i + (from - to) = omega arith in
    let x : get_or s (from + i) 0 ≡ get_or (drop (to + i) s) (from - to) 0 = rw e (sym (get_or-drop (to + i) s (from - to) 0)) in
    let y : get_or (drop (to + i) s₀) (from - to) 0 ≡ get_or s₀ (from + i) 0 = rw e (get_or-drop (to + i) s₀ (from - to) 0) in
    x ∙ (ap (λ (l : List ℕ). get_or l (from - to) 0) d ∙ (y ∙ sym (get_or-drop from s₀ i 0)))

pub closed_is : (s s₁ s₂ s₃ : List ℕ) (at n end start next top : ℕ)
    → s₁ ≡ paste s start (drop next s) (top - next) → s₂ ≡ paste s₁ at (drop (at + n) s₁) (end - (at + n)) → s₃ ≡ paste s₂ (end - n) (replicate n 0) n
    → s₃ ≡ closed s at n end start next top
unfolding files_closed records_closed closed
closed_is s s₁ s₂ s₃ at n end start next top a b c =
    c ∙ ap (λ (x : List ℕ). paste x (end - n) (replicate n 0) n) (b ∙ ap (λ (x : List ℕ). paste x at (drop (at + n) x) (end - (at + n))) a)
