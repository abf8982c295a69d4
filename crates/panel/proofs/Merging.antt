-- Bytes merged: nothing to change, all to change, and some written where they stand.
-- Assumes nothing.
use mathlib.Core.Path.{◌≡◌, refl, sym, ap, ◌∙◌}
use mathlib.Core.Bool.{Bool, true, false, cond}
use mathlib.Core.List.{List, [], ◌∷◌}
use Prim.Native.Nat.{ℕ, zero, suc, ◌+◌, ◌<◌, ◌≤◌}
use native.Mathlib.Omega.{arith}
use lib.Dec.{eqb}
use lib.ListN.{length, set, length-set}
use lib.Seq.{get_or-set_same, get_or-set_other}
use borrow.Author.Tests.{eq-eqb, eqb-true}
use Rattle.queue.specs.Record.{at}
use Rattle.record.specs.Writing.{over}
use Rattle.panel.specs.Revised.{merged}

pub merged_same : (l m : List ℕ) → merged l m m ≡ l
unfolding merged
merged_same [] m = refl
merged_same (b ∷ l) [] = refl
merged_same (b ∷ l) (c ∷ m) = rw (eq-eqb c c refl, merged_same l m)

chosen : (c d : ℕ) (t : Bool) → eqb c d ≡ t → cond t c d ≡ d
chosen c d true e = eqb-true c d e
chosen c d false e = refl

-- bytes that are written as the layout has it
pub merged_all : (l n : List ℕ) → length l ≡ length n → merged l l n ≡ n
unfolding merged
merged_all [] [] e = refl
merged_all [] (d ∷ n) e = absurd (omega arith)
merged_all (b ∷ l) [] e = absurd (omega arith)
merged_all (b ∷ l) (d ∷ n) e = rw (chosen b d (eqb b d) refl, merged_all l n (omega arith))

-- ---- some written where they stand

settled : (b c d : ℕ) (t : Bool) → eqb c d ≡ t → (c ≡ d → b ≡ d) → cond t b d ≡ d
settled b c d true e f = f (eqb-true c d e)
settled b c d false e f = refl

-- a byte that becomes d may be written before the others are looked at
merged_one : (l m n : List ℕ) (k d : ℕ) → k < length m → k < length n → at n k ≡ d → (at m k ≡ d → at l k ≡ d) → merged l m n ≡ merged (set l k d) (set m k d) n
unfolding merged
merged_one [] m n k d h i e f = refl
merged_one (b ∷ l) [] n k d h i e f = absurd (omega arith)
merged_one (b ∷ l) (c ∷ m) [] k d h i e f = absurd (omega arith)
merged_one (b ∷ l) (c ∷ m) (x ∷ n) zero d h i e f = rw (e, settled b c d (eqb c d) refl f, eq-eqb d d refl)
merged_one (b ∷ l) (c ∷ m) (x ∷ n) (suc k) d h i e f = ap (λ (y : List ℕ). cond (eqb c x) b x ∷ y) (merged_one l m n k d (omega arith) (omega arith) e f)

-- bytes l that may be written from index k on: where one says already what is to be written, it is that
abbrev pub Writable : List ℕ → List ℕ → ℕ → List ℕ → Type 0
Writable g m k [] = Unit
Writable g m k (b ∷ l) = (at m k ≡ b → at g k ≡ b) × Writable g m (k + 1) l

over_front : (l g : List ℕ) (k i : ℕ) → i < k → at (over l k g) i ≡ at g i
unfolding over
over_front [] g k i h = refl
over_front (b ∷ l) g k i h = over_front l (set g k b) (k + 1) i (omega arith) ∙ get_or-set_other g k i b 0 (λ e. absurd (omega (arith, e)))

length_over : (l : List ℕ) (k : ℕ) (g : List ℕ) → length (over l k g) ≡ length g
unfolding over
length_over [] k g = refl
length_over (b ∷ l) k g = length_over l (k + 1) (set g k b) ∙ length-set g k b

writable_set : (g m : List ℕ) (k i b : ℕ) (l : List ℕ) → i < k → Writable g m k l → Writable (set g i b) (set m i b) k l
writable_set g m k i b [] h w = tt
writable_set g m k i b (d ∷ l) h w =
    let n : (k ≡ i) → ⊥ = λ e. absurd (omega (arith, e)) in
    ((λ e. get_or-set_other g i k b 0 n ∙ w.0 (sym (get_or-set_other m i k b 0 n) ∙ e)), writable_set g m (k + 1) i b l (omega arith) w.1)

pub merged_over : (l g m : List ℕ) (k : ℕ) → k + length l ≤ length m → Writable g m k l → over l k g ≡ merged g m (over l k m)
unfolding over
merged_over [] g m k h w = sym (merged_same g m)
merged_over (b ∷ l) g m k h w =
    let s : k < length m = omega arith in
    merged_over l (set g k b) (set m k b) (k + 1) (omega (arith, length-set m k b)) (writable_set g m (k + 1) k b l (omega arith) w.1)
    ∙ sym
    (merged_one g m (over l (k + 1) (set m k b)) k b s (omega (arith, s, length_over l (k + 1) (set m k b), length-set m k b))
    (over_front l (set m k b) (k + 1) k (omega arith) ∙ get_or-set_same m k b 0 s) w.0)
