-- DEMAND 2: however a stream is cut, with two free reply bytes before each input, the world after it and what it sent are those of the whole.
-- Assumes nothing.
use mathlib.Core.Path.{◌≡◌, refl, sym, ap, ◌∙◌}
use mathlib.Core.List.{List, [], ◌∷◌, ◌++◌, append_assoc}
use Prim.Native.Nat.{ℕ, zero, suc, ◌-◌, ◌≤◌}
use native.Mathlib.Omega.{arith}
use native.Mathlib.Decide.{dec_lt}
use lib.ListN.{length, take, drop}
use lib.Seq.{take_all}
use borrow.Author.Tests.{lt-ltb, le-ltb}
use Rattle.rules.specs.World.{World}
use Rattle.rules.specs.Step.{Input, byte, step, replies}
use Rattle.rules.specs.Calls.{bytes, run, said, taken}
use Rattle.rules.specs.Chunks.{Chunk, fed_inputs, fed_all, said_all, joined, Enough, EnoughAll}

-- one part of a stream after another
pub run_append : (w : World) (l m : List Input) → run w (l ++ m) ≡ run (run w l) m
unfolding run
run_append w [] m = refl
run_append w (i ∷ l) m = run_append (step w i) l m

pub said_append : (w : World) (l m : List Input) → said w (l ++ m) ≡ said w l ++ said (run w l) m
unfolding run said
said_append w [] m = refl
said_append w (i ∷ l) m = rw (said_append (step w i) l m) (sym (append_assoc (replies w i) (said (step w i) l) (said (run (step w i) l) m)))

-- no more is taken than there is
pub taken_most : (w : World) (room : ℕ) (l : List Input) → taken w room l ≤ length l
unfolding taken
taken_most w room [] = omega arith
taken_most w room (i ∷ l) =
    elim (dec_lt room 2) [
      | yes h ↦ rw (lt-ltb room 2 h) (omega arith)
      | no h ↦ rw (le-ltb room 2 (omega arith)) (omega (arith, taken_most (step w i) (room - length (replies w i)) l))
    ]

-- with enough room everything is taken
pub taken_whole : (w : World) (room : ℕ) (l : List Input) → Enough w room l → taken w room l ≡ length l
unfolding taken Enough
taken_whole w room [] e = refl
taken_whole w room (i ∷ l) e = rw (le-ltb room 2 e.0) (omega (arith, taken_whole (step w i) (room - length (replies w i)) l e.1))

fed_whole : (w : World) (p : Chunk) → Enough w p.room p.inputs → fed_inputs w p ≡ p.inputs
fed_whole w p e = rw (taken_whole w p.room p.inputs e) (take_all (length p.inputs) p.inputs (omega arith))

pub demand_2 : (w : World) (ps : List Chunk) → EnoughAll w ps → (fed_all w ps ≡ run w (joined ps)) × (said_all w ps ≡ said w (joined ps))
unfolding fed_all said_all joined EnoughAll run said
demand_2 w [] e = (refl, refl)
demand_2 w (p ∷ ps) e =
    let q = fed_whole w p e.0 in
    let j = demand_2 (run w p.inputs) ps e.1 in
    (rw q (j.0 ∙ sym (run_append w p.inputs (joined ps))), rw (q, j.1) (sym (said_append w p.inputs (joined ps))))

-- ---- the bytes of a piece

pub bytes_length : (l : List ℕ) → length (bytes l) ≡ length l
unfolding bytes
bytes_length [] = refl
bytes_length (b ∷ l) = ap suc (bytes_length l)

pub bytes_take : (n : ℕ) (l : List ℕ) → bytes (take n l) ≡ take n (bytes l)
unfolding bytes
bytes_take zero l = refl
bytes_take (suc n) [] = refl
bytes_take (suc n) (b ∷ l) = ap (λ (m : List Input). byte b ∷ m) (bytes_take n l)

pub bytes_drop : (n : ℕ) (l : List ℕ) → bytes (drop n l) ≡ drop n (bytes l)
unfolding bytes
bytes_drop zero l = refl
bytes_drop (suc n) [] = refl
bytes_drop (suc n) (b ∷ l) = bytes_drop n l
