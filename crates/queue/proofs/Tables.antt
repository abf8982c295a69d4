-- The bytes of a record, and lists that a loop fills from the front.
-- Assumes nothing.
use Rattle.std.proofs.Common.{◌≡◌, ℕ, zero, suc, ◌+◌, ◌/◌, ◌%◌, ◌<◌, ◌≤◌, List, [], ◌∷◌, ◌++◌, length, get_or, take, drop, set, sym, refl, ap, ◌∙◌, append-nil, add-one, arith, length-append, length-set, take-append-drop, drop_of_length-le, take_all, take-suc, drop-drop, take-suc-set, get_or-append-add, drop-set-lt}
use lib.ListN.{get_or-append}
use Rattle.queue.specs.Queue.{Queue}
use Rattle.queue.specs.Record.{at, bit, bytes_from, encode_of}

-- ---- tables

pub length-bytes_from : (r : List ℕ) (k n : ℕ) → length (bytes_from r k n) ≡ n
unfolding bytes_from
length-bytes_from r k zero = refl
length-bytes_from r k (suc n) = ap suc (length-bytes_from r (k + 1) n)

pub at_bytes_from : (r : List ℕ) (k n i : ℕ) → i < n → at (bytes_from r k n) i ≡ at r (k + i)
unfolding bytes_from
at_bytes_from r k zero i h = absurd (omega arith)
at_bytes_from r k (suc n) zero h = ap (at r) (omega arith)
at_bytes_from r k (suc n) (suc i) h =
    let e : k + 1 + i ≡ k + suc i = omega arith in
    at_bytes_from r (k + 1) n i (omega arith) ∙ ap (at r) e

pub length-encode : (q : Queue) → length q.ring ≡ 80 → length (encode_of q) ≡ 85
unfolding encode_of
length-encode q s = length-append q.ring _ ∙ rw s

-- the five bytes behind the ring
pub behind : (q : Queue) (i : ℕ) → length q.ring ≡ 80 → at (encode_of q) (80 + i) ≡ get_or (q.place ∷ q.held ∷ bit q.mark ∷ q.lost % 256 ∷ q.lost / 256 ∷ []) i 0
unfolding encode_of
behind q i s =
    rw (← s)
    (get_or-append-add q.ring (q.place ∷ q.held ∷ bit q.mark ∷ q.lost % 256 ∷ q.lost / 256 ∷ []) i 0)

pub byte_ring : (q : Queue) (k : ℕ) → length q.ring ≡ 80 → k < 80 → at (encode_of q) k ≡ at q.ring k
unfolding encode_of
byte_ring q k s h = get_or-append q.ring _ 0 k (omega arith)

pub next_byte : (r : List ℕ) (k b : ℕ) → k < 80 → b ≡ at r k → b ≡ at (bytes_from r 0 80) k
next_byte r k b h e = let z : 0 + k ≡ k = omega arith in e ∙ sym (at_bytes_from r 0 80 k h ∙ ap (at r) z)

-- ---- a loop that writes the first n bytes of l over those of g₀: k of them are written

pub record Over (l g₀ g : List ℕ) (n k : ℕ) : Type 0 where
  pub enough : n ≤ length l
  pub room : n ≤ length g₀
  pub long : length g ≡ length g₀
  pub reached : k ≤ n
  pub front : take k g ≡ take k l
  pub back : drop k g ≡ drop k g₀

module _ {l : List ℕ} {n : ℕ} where
  pub over_start : {g : List ℕ} → n ≤ length l → n ≤ length g → Over l g g n 0
  over_start h k = record { enough = h; room = k; long = refl; reached = omega arith; front = refl; back = refl }

  module _ {g₀ g : List ℕ} {k : ℕ} (o : Over l g₀ g n k) where
    pub over_step : {b : ℕ} → k < n → b ≡ at l k → Over l g₀ (set g k b) n (k + 1)
    over_step {b} h e =
        record {
          enough = o.enough;
          room = o.room;
          long = length-set g k b ∙ o.long;
          reached = omega arith;
          front = rw (add-one, take-suc-set g k b (omega arith), take-suc l k 0 (omega arith), o.front, e);
          back = drop-set-lt (k + 1) g k b (omega arith) ∙ sym (drop-drop 1 k g) ∙ ap (drop 1) o.back ∙ drop-drop 1 k g₀;
        }

    over_all : n ≤ k → g ≡ take n l ++ drop n g₀
    over_all h = let e : n ≡ k = omega arith in rw (e, ← o.front, ← o.back) (sym (take-append-drop k g))

    -- all of l, over as many bytes
    pub over_whole : n ≤ k → length l ≡ n → length g₀ ≡ n → g ≡ l
    over_whole h e f = over_all h ∙ rw (take_all n l (omega arith), drop_of_length-le g₀ {i = n} (omega arith)) (append-nil l)
