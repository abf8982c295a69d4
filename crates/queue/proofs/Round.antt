-- A record and its queue are one thing, both ways, and a record is sound exactly when it is that of a sound queue.
-- Assumes nothing.
use Rattle.std.proofs.Common.{◌≡◌, ℕ, zero, suc, ◌+◌, ◌-◌, ◌*◌, ◌/◌, ◌%◌, ◌<◌, ◌≤◌, Bool, true, false, ◌&&◌, eqb, ltb, leb, ◌↔◌, List, [], ◌∷◌, ◌++◌, length, sym, refl, ap, ◌∙◌, arith, lit<, get_or-append-add, ext_get_or, ltb-true, lt-ltb, eq-eqb, eqb-true, le-leb, leb-true}
use mathlib.Core.Bool.{false≢true}
use native.Mathlib.Decide.{dec_lt}
use lib.ListN.{get_or-append, get_or-eq_default}
use Rattle.queue.specs.Queue.{Queue, Sound}
use Rattle.queue.specs.Record.{at, bit, bytes_from, decode_of, encode_of, sound_ring, canonical_mark, sound_record, Passed, Fits, Bytes}
use Rattle.queue.proofs.Tables.{length-bytes_from, at_bytes_from, next_byte, length-encode, behind, byte_ring}

-- ---- from the queue

ring_back : (q : Queue) → length q.ring ≡ 80 → bytes_from (encode_of q) 0 80 ≡ q.ring
ring_back q s =
    ext_get_or 0 (bytes_from (encode_of q) 0 80) q.ring (length-bytes_from (encode_of q) 0 80 ∙ sym s)
    (λ i h. let k : i < 80 = rw (length-bytes_from (encode_of q) 0 80) at h in sym (next_byte (encode_of q) i (at q.ring i) k (sym (byte_ring q i s k))))

bit_back : (m : Bool) → eqb (bit m) 1 ≡ m
bit_back true = refl
bit_back false = refl

-- READING WHAT WAS WRITTEN
pub decode_encode : (q : Queue) → length q.ring ≡ 80 → decode_of (encode_of q) ≡ q
unfolding decode_of
decode_encode q s =
    let n : q.lost % 256 + 256 * (q.lost / 256) ≡ q.lost = omega arith in
    rw (
      ring_back q s,
      behind q 0 s,
      behind q 1 s,
      behind q 2 s,
      behind q 3 s,
      behind q 4 s,
      bit_back q.mark,
      n,
    )

-- ---- from the record

both : (a b : Bool) → (a && b) ≡ true → (a ≡ true) × (b ≡ true)
both true b e = (refl, e)
both false b e = absurd (false≢true e)

pub passed : (r : List ℕ) → sound_record r ≡ true → Passed r
unfolding sound_record
passed r e =
    let a = both (eqb (length r) 85 && sound_ring r) (canonical_mark r) e in
    let b = both (eqb (length r) 85) (sound_ring r) a.0 in
    let c = both (ltb (at r 80) 80) (leb (at r 81) 80) b.1 in
    record {
      long = eqb-true (length r) 85 b.0;
      place_below = ltb-true (at r 80) 80 c.0;
      held_most = leb-true (at r 81) 80 c.1;
      mark_bit = leb-true (at r 82) 1 a.1;
    }

pub passes : (r : List ℕ) → Passed r → sound_record r ≡ true
unfolding sound_record
passes r p = rw (eq-eqb (length r) 85 p.long, lt-ltb (at r 80) 80 p.place_below, le-leb (at r 81) 80 p.held_most, le-leb (at r 82) 1 p.mark_bit)

mark_back : (m : ℕ) → m ≤ 1 → bit (eqb m 1) ≡ m
mark_back zero h = refl
mark_back (suc zero) h = refl
mark_back (suc (suc m)) h = absurd (omega arith)

whole : (r : List ℕ) → length r ≡ 85 → bytes_from r 0 85 ≡ r
whole r e =
    ext_get_or 0 (bytes_from r 0 85) r (length-bytes_from r 0 85 ∙ sym e)
    (λ i h. let k : i < 85 = rw (length-bytes_from r 0 85) at h in
    let z : 0 + i ≡ i = omega arith in at_bytes_from r 0 85 i k ∙ ap (at r) z)

split : (r : List ℕ) → bytes_from r 0 80 ++ (at r 80 ∷ at r 81 ∷ at r 82 ∷ at r 83 ∷ at r 84 ∷ []) ≡ bytes_from r 0 85
unfolding bytes_from
split r = refl

pub rewritten : (r : List ℕ) → Bytes r → Passed r → encode_of (decode_of r) ≡ r
unfolding encode_of decode_of
rewritten r b p =
    let low : (at r 83 + 256 * at r 84) % 256 ≡ at r 83 = omega (arith, b 83) in
    let high : (at r 83 + 256 * at r 84) / 256 ≡ at r 84 = omega (arith, b 83) in
    rw (mark_back (at r 82) p.mark_bit, low, high) (split r ∙ whole r p.long)

-- WRITING WHAT WAS READ
pub encode_decode : (r : List ℕ) → Bytes r → sound_record r ≡ true → encode_of (decode_of r) ≡ r
encode_decode r b e = rewritten r b (passed r e)

-- ---- sound both ways

pub decoded_sound : (r : List ℕ) → sound_record r ≡ true → Sound (decode_of r)
unfolding decode_of
decoded_sound r e = let p = passed r e in record { size = length-bytes_from r 0 80; below = p.place_below; most = p.held_most }

bytes_ring : (r : List ℕ) (n : ℕ) → Bytes r → Bytes (bytes_from r 0 n)
bytes_ring r n b k =
    elim (dec_lt k n) [
      | yes l ↦ rw (at_bytes_from r 0 n k l) (b (0 + k))
      | no l ↦ rw (get_or-eq_default (bytes_from r 0 n) 0 {n = k} (omega (arith, length-bytes_from r 0 n))) (lit< tt)
    ]

pub decoded_fits : (r : List ℕ) → Bytes r → Fits (decode_of r)
unfolding decode_of
decoded_fits r b =
    record {
      size = length-bytes_from r 0 80;
      bytes = bytes_ring r 80 b;
      place_fits = b 80;
      held_fits = b 81;
      lost_fits = omega (arith, b 83, b 84);
    }

bit_small : (m : Bool) → bit m ≤ 1
bit_small true = omega arith
bit_small false = omega arith

pub encoded_sound : (q : Queue) → Sound q → sound_record (encode_of q) ≡ true
encoded_sound q s =
    passes (encode_of q) (record {
      long = length-encode q s.size;
      place_below = rw (behind q 0 s.size) s.below;
      held_most = rw (behind q 1 s.size) s.most;
      mark_bit = rw (behind q 2 s.size) (bit_small q.mark);
    })

bytes_five : (a b c d e : ℕ) → a < 256 → b < 256 → c < 256 → d < 256 → e < 256 → Bytes (a ∷ b ∷ c ∷ d ∷ e ∷ [])
bytes_five a b c d e ha hb hc hd he zero = ha
bytes_five a b c d e ha hb hc hd he (suc zero) = hb
bytes_five a b c d e ha hb hc hd he (suc (suc zero)) = hc
bytes_five a b c d e ha hb hc hd he (suc (suc (suc zero))) = hd
bytes_five a b c d e ha hb hc hd he (suc (suc (suc (suc zero)))) = he
bytes_five a b c d e ha hb hc hd he (suc (suc (suc (suc (suc k))))) = lit< tt

bytes_append : (l m : List ℕ) → Bytes l → Bytes m → Bytes (l ++ m)
bytes_append l m f g k =
    elim (dec_lt k (length l)) [
      | yes h ↦ rw (get_or-append l m 0 k h) (f k)
      | no h ↦ (let e : k ≡ length l + (k - length l) = omega arith in
          rw (e, get_or-append-add l m (k - length l) 0) (g (k - length l)))
    ]

-- a queue that fits is written in bytes
pub encoded_bytes : (q : Queue) → Fits q → Bytes (encode_of q)
unfolding encode_of
encoded_bytes q f =
    bytes_append q.ring _ f.bytes
    (bytes_five q.place q.held (bit q.mark) (q.lost % 256) (q.lost / 256) f.place_fits f.held_fits (omega (arith, bit_small q.mark)) (omega arith)
    (omega (arith, f.lost_fits)))

-- A RECORD OF BYTES IS SOUND EXACTLY WHEN IT IS THAT OF A SOUND QUEUE
pub sound_exactly : (r : List ℕ) → Bytes r → (sound_record r ≡ true) ↔ ((q : Queue) × Fits q × Sound q × (encode_of q ≡ r))
sound_exactly r b = (
  λ e. (decode_of r, decoded_fits r b, decoded_sound r e, encode_decode r b e),
  λ w. rw (← w.3) (encoded_sound w.0 w.2),
)
