-- Bytes that are copied one by one: the invariant of the loop.
-- Assumes nothing.
use mathlib.Core.Path.{◌≡◌, refl, subst, ◌∙◌}
use mathlib.Core.List.{List}
use Prim.Native.Nat.{ℕ, ◌+◌, ◌≤◌, ◌<◌, min}
use native.Mathlib.Omega.{arith}
use lib.ListN.{length, get_or, set, length-set}
use lib.Seq.{paste}
use Rattle.std.proofs.lemmas.List.{drop_all, append-nil}
use Rattle.std.proofs.lemmas.List.Edits.{paste_none, paste_more, paste_all}

-- i of the n bytes of r are copied
pub record Copying (s₀ s r : List ℕ) (n i : ℕ) : Type 0 where
  pub room : n ≤ length s₀
  pub long : n ≤ length r
  pub within : i ≤ n
  pub same : s ≡ paste s₀ 0 r i
  pub len : length s ≡ length s₀

pub copying_start : (s r : List ℕ) (n : ℕ) → n ≡ min (length s) (length r) → Copying s s r n 0
copying_start s r n e = record { room = omega arith; long = omega arith; within = omega arith; same = paste_none s 0 r; len = refl }

pub copying_more : (s₀ s r : List ℕ) (n i v : ℕ) → Copying s₀ s r n i → i < n → v ≡ get_or r i 0 → Copying s₀ (set s i v) r n (i + 1)
copying_more s₀ s r n i v p h e =
    record {
      room = p.room;
      long = p.long;
      within = omega arith;
      same =
          let z : 0 + i ≡ i = omega arith in
          let m = paste_more s₀ 0 r i 0 (omega (arith, p.room)) (omega (arith, p.long)) in
          rw (e, p.same) (subst (λ (j : ℕ). set (paste s₀ 0 r i) j (get_or r i 0) ≡ paste s₀ 0 r (i + 1)) z m);
      len = length-set s i v ∙ p.len;
    }

module _ (s₀ s r : List ℕ) (n i : ℕ) (p : Copying s₀ s r n i) (h : n ≤ i) (e : n ≡ min (length s₀) (length r)) where
  pub copied_part : s ≡ paste s₀ 0 r (min (length s₀) (length r))
  copied_part = let k : i ≡ min (length s₀) (length r) = omega (arith, p.within) in rw k at p.same

  pub copied_whole : length s₀ ≡ length r → s ≡ r
  copied_whole q =
      let k : i ≡ length r = omega (arith, p.within) in
      p.same ∙ paste_all s₀ 0 r i k ∙ rw (drop_all (0 + i) s₀ (omega arith)) (append-nil r)
