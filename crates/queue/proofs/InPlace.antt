-- A record changed in a few of its bytes is that of the changed queue.
-- Assumes nothing.
use Rattle.std.proofs.Common.{◌≡◌, ℕ, suc, ◌+◌, ◌-◌, ◌*◌, ◌/◌, ◌%◌, ◌<◌, Bool, List, [], ◌∷◌, ◌++◌, length, set, sym, ap, ◌∙◌, subst, arith, length-set}
use lib.Seq.{set-append_left}
use Rattle.queue.specs.Queue.{Queue, queue, stored, counted, oldest, advanced}
use Rattle.queue.specs.Record.{at, bit, bytes_from, decode_of, encode_of, Passed, Bytes}
use Rattle.queue.proofs.Tables.{length-bytes_from, at_bytes_from}
use Rattle.queue.proofs.Round.{rewritten}

-- ---- one byte of a written queue

set_behind : (l m : List ℕ) (i v : ℕ) → set (l ++ m) (length l + i) v ≡ l ++ set m i v
set_behind [] m i v = let e : 0 + i ≡ i = omega arith in ap (λ (k : ℕ). set m k v) e
set_behind (x ∷ l) m i v =
    let e : suc (length l) + i ≡ suc (length l + i) = omega arith in
    ap (λ (k : ℕ). set (x ∷ (l ++ m)) k v) e ∙ ap (λ (n : List ℕ). x ∷ n) (set_behind l m i v)

module _ (q : Queue) (s : length q.ring ≡ 80) where
  after_ring : (i v : ℕ) → set (encode_of q) (80 + i) v ≡ q.ring ++ set (q.place ∷ q.held ∷ bit q.mark ∷ q.lost % 256 ∷ q.lost / 256 ∷ []) i v
  unfolding encode_of
  after_ring i v = rw (← s) (set_behind q.ring (q.place ∷ q.held ∷ bit q.mark ∷ q.lost % 256 ∷ q.lost / 256 ∷ []) i v)

  set_ring : (i v : ℕ) → i < 80 → set (encode_of q) i v ≡ encode_of (queue (set q.ring i v) q.place q.held q.mark q.lost)
  unfolding encode_of
  set_ring i v l = set-append_left q.ring _ i v (omega arith)

  set_place_lem : (v : ℕ) → set (encode_of q) 80 v ≡ encode_of (queue q.ring v q.held q.mark q.lost)
  unfolding encode_of
  set_place_lem = after_ring 0

  set_held : (v : ℕ) → set (encode_of q) 81 v ≡ encode_of (queue q.ring q.place v q.mark q.lost)
  unfolding encode_of
  set_held = after_ring 1

  set_mark : (v : Bool) → set (encode_of q) 82 (bit v) ≡ encode_of (queue q.ring q.place q.held v q.lost)
  unfolding encode_of
  set_mark v = after_ring 2 (bit v)

  -- both bytes of it
  set_lost : (v : ℕ) → set (set (encode_of q) 83 (v % 256)) 84 (v / 256) ≡ encode_of (queue q.ring q.place q.held q.mark v)
  unfolding encode_of
  set_lost v =
      ap (λ (l : List ℕ). set l 84 (v / 256)) (after_ring 3 (v % 256))
      ∙ subst (λ (n : ℕ). set (q.ring ++ low) (n + 4) (v / 256) ≡ q.ring ++ set low 4 (v / 256)) s (set_behind q.ring low 4 (v / 256))
    where
      low : List ℕ
      low = q.place ∷ q.held ∷ bit q.mark ∷ v % 256 ∷ q.lost / 256 ∷ []

-- ---- the three changes of a record

-- a change of a written queue is that of the record that it was read from
from_record : (r : List ℕ) (f : List ℕ → List ℕ) {r' : List ℕ} → Bytes r → Passed r → f (encode_of (decode_of r)) ≡ r' → f r ≡ r'
from_record r f b e h = ap f (sym (rewritten r b e)) ∙ h

module _ (r : List ℕ) (b : Bytes r) (e : Passed r) where
  size : length (bytes_from r 0 80) ≡ 80
  size = length-bytes_from r 0 80

  pub stored_in : (p h v k : ℕ) (m : Bool) → p ≡ at r 80 → h ≡ at r 81 → k ≡ bit m
      → set (set (set r ((p + h) % 80) v) 81 (at r 81 + 1)) 82 k ≡ encode_of (stored (decode_of r) v m)
  unfolding decode_of stored
  stored_in p h v k m ep eh ek =
      let at_end : ℕ = (at r 80 + at r 81) % 80 in
      let long : length (set (bytes_from r 0 80) at_end v) ≡ 80 = length-set (bytes_from r 0 80) at_end v ∙ size in
      rw (ep, eh, ek)
      (from_record r (λ (l : List ℕ). set (set (set l at_end v) 81 (at r 81 + 1)) 82 (bit m)) b e
      (ap (λ (l : List ℕ). set (set l 81 (at r 81 + 1)) 82 (bit m)) (set_ring _ size at_end v (omega arith))
      ∙ ap (λ (l : List ℕ). set l 82 (bit m)) (set_held _ long (at r 81 + 1))
      ∙ set_mark _ long m))

  pub counted_in : (n low high : ℕ) → n ≡ (at r 83 + 256 * at r 84 + 1) % 65536 → low ≡ n % 256 → high ≡ n / 256
      → set (set r 83 low) 84 high ≡ encode_of (counted (decode_of r))
  unfolding decode_of counted
  counted_in n low high en el eh =
      rw (el, eh)
      (from_record r (λ (l : List ℕ). set (set l 83 (n % 256)) 84 (n / 256)) b e (set_lost _ size n ∙ rw en))

  pub advanced_in : (p k : ℕ) (m : Bool) → p ≡ at r 80 → k ≡ bit m
      → set (set (set r 80 ((p + 1) % 80)) 81 (at r 81 - 1)) 82 k ≡ encode_of (advanced (decode_of r) m)
  unfolding decode_of advanced
  advanced_in p k m ep ek =
      rw (ep, ek)
      (from_record r (λ (l : List ℕ). set (set (set l 80 ((at r 80 + 1) % 80)) 81 (at r 81 - 1)) 82 (bit m)) b e
      (ap (λ (l : List ℕ). set (set l 81 (at r 81 - 1)) 82 (bit m)) (set_place_lem _ size ((at r 80 + 1) % 80))
      ∙ ap (λ (l : List ℕ). set l 82 (bit m)) (set_held _ size (at r 81 - 1))
      ∙ set_mark _ size m))

  pub oldest_in : (p : ℕ) → p ≡ at r 80 → p < 80 → at r p ≡ oldest (decode_of r)
  unfolding decode_of oldest
  oldest_in p ep l =
      let i : at r 80 % 80 ≡ p = omega arith in
      let z : 0 + p ≡ p = omega arith in
      rw i (sym (at_bytes_from r 0 80 p l ∙ ap (at r) z))
