-- The bytes that the code takes from a place of a record on; rest is what it has from there on.
-- Assumes nothing.
use Rattle.std.proofs.Common.{◌≡◌, ℕ, ◌+◌, ◌-◌, ◌<◌, ◌≤◌, List, ◌++◌, length, take, drop, sym, ap, ◌∙◌, arith, length-drop, take_all}
use Rattle.std.specs.Prelude.{min, replicate}
use Rattle.std.proofs.lemmas.Grind.{same_number_lists, common_steps}
use Rattle.std.proofs.lemmas.List.{drop_min}
use Rattle.queue.specs.Record.{at, bytes_from}
use Rattle.queue.proofs.Tables.{length-bytes_from, at_bytes_from}

module _ (r : List ℕ) (k m : ℕ) (e : m ≡ min k (length r)) where
  rest_is : take (length r - m) (drop m r) ≡ drop k r
  rest_is = rw e (take_all _ (drop (min k (length r)) r) (omega (arith, length-drop (min k (length r)) r)) ∙ drop_min k r)

window_of : (l w : List ℕ) (n : ℕ) → length w ≡ n → ((i : ℕ) → i < n → at w i ≡ at l i) → w ≡ bytes_from l 0 n
window_of l w n e h =
    same_number_lists w (bytes_from l 0 n) (e ∙ sym (length-bytes_from l 0 n))
    (λ i k. let z : 0 + i ≡ i = omega arith in h i (omega arith) ∙ sym (at_bytes_from l 0 n i (omega arith) ∙ ap (at l) z))

-- the first n of those that there are
window_whole : (l : List ℕ) (n : ℕ) → n ≤ length l → take n l ≡ bytes_from l 0 n
window_whole l n h = window_of l (take n l) n (grind (arith, common_steps)) (λ i k. grind (arith, common_steps))

-- all that there are, and zeros behind them
window_short : (l : List ℕ) (n : ℕ) → length l ≤ n → l ++ drop (length l) (replicate n 0) ≡ bytes_from l 0 n
window_short l n h = window_of l _ n (grind (arith, common_steps)) (λ i k. grind (arith, common_steps))

module _ (r : List ℕ) (k m : ℕ) (e : m ≡ min k (length r)) (w : List ℕ) (n : ℕ) where
  abbrev rest : List ℕ
  rest = take (length r - m) (drop m r)

  pub whole_part : n ≤ length rest → w ≡ take n rest → w ≡ bytes_from (drop k r) 0 n
  whole_part h f =
      let i = rest_is r k m e in
      f ∙ rw i (window_whole (drop k r) n (rw i at h))

  pub short_part : length rest < n → w ≡ rest → w ++ drop (length rest) (replicate n 0) ≡ bytes_from (drop k r) 0 n
  short_part h f =
      let i = rest_is r k m e in
      rw (f, i) (window_short (drop k r) n (omega (arith, ap length i)))
