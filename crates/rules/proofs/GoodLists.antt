-- Lists of bytes, of bars and of strips: what an element put anew keeps.
-- Assumes nothing.
use mathlib.Core.Path.{◌≡◌, refl, ◌∙◌}
use mathlib.Core.Bool.{true}
use mathlib.Core.List.{List, [], ◌∷◌, ◌++◌}
use Prim.Native.Nat.{ℕ, zero, suc, ◌+◌, ◌<◌}
use native.Mathlib.Omega.{arith}
use lib.ListN.{get_or, set, take, drop, replicate, length-set}
use lib.Seq.{paste, drop-set-lt, drop-drop}
use Rattle.queue.specs.Record.{Bytes}
use Rattle.state.specs.declared.BarSlot.{BarSlot}
use Rattle.state.specs.declared.Strip.{Strip}
use Rattle.state.specs.State.{no_args, no_bar, no_strip}
use Rattle.state.specs.Soundness.{sound_bar, sound_strip}
use Rattle.state.specs.Canonical.{is_zero, all_zero, canonical_bar, canonical_strip}
use Rattle.state.specs.Fits.{ArgsFit, BarFits, StripFits}
use Rattle.state.proofs.Every.{every_set, every_tail}
use Rattle.state.proofs.Start.{all_replicate}
use Rattle.rules.proofs.Good.{BarsGood, StripsGood}

-- what holds of every element and of a new one holds of every element afterwards
pub set_all : {A : Type 0} (P : A → Type 0) (l : List A) (i : ℕ) (a d : A) → P a → ((j : ℕ) → P (get_or l j d)) → (j : ℕ) → P (get_or (set l i a) j d)
set_all P [] i a d h f j = f j
set_all P (x ∷ l) zero a d h f zero = h
set_all P (x ∷ l) zero a d h f (suc j) = f (suc j)
set_all P (x ∷ l) (suc i) a d h f zero = f zero
set_all P (x ∷ l) (suc i) a d h f (suc j) = set_all P l i a d h (λ k. f (suc k)) j

-- ---- bytes

pub bytes_set : (l : List ℕ) (i a : ℕ) → Bytes l → a < 256 → Bytes (set l i a)
bytes_set l i a b h = set_all (λ x. x < 256) l i a 0 h b

pub bytes_none : Bytes []
bytes_none i = omega arith

pub bytes_cons : (a : ℕ) (l : List ℕ) → a < 256 → Bytes l → Bytes (a ∷ l)
bytes_cons a l h b zero = h
bytes_cons a l h b (suc i) = b i

pub bytes_append : (l k : List ℕ) → Bytes l → Bytes k → Bytes (l ++ k)
bytes_append [] k b c = c
bytes_append (a ∷ l) k b c = bytes_cons a (l ++ k) (b 0) (bytes_append l k (λ i. b (suc i)) c)

pub bytes_take : (n : ℕ) (l : List ℕ) → Bytes l → Bytes (take n l)
bytes_take zero l b = bytes_none
bytes_take (suc n) [] b = bytes_none
bytes_take (suc n) (a ∷ l) b = bytes_cons a (take n l) (b 0) (bytes_take n l (λ i. b (suc i)))

pub bytes_drop : (n : ℕ) (l : List ℕ) → Bytes l → Bytes (drop n l)
bytes_drop zero l b = b
bytes_drop (suc n) [] b = bytes_none
bytes_drop (suc n) (a ∷ l) b = bytes_drop n l (λ i. b (suc i))

pub bytes_zeros : (n : ℕ) → Bytes (replicate n 0)
bytes_zeros n = all_replicate (λ x. x < 256) 0 (omega arith) n

pub bytes_paste : (d : List ℕ) (at : ℕ) (s : List ℕ) (n : ℕ) → Bytes d → Bytes s → Bytes (paste d at s n)
bytes_paste d at s n b c =
    bytes_append (take at d ++ take n s) (drop (at + n) d) (bytes_append (take at d) (take n s) (bytes_take at d b) (bytes_take n s c)) (bytes_drop (at + n) d b)

-- ---- arguments

pub no_args_lem : ArgsFit no_args
no_args_lem = record { six = refl; bytes = bytes_zeros 6 }

pub args_set : (a : List ℕ) (g b : ℕ) → ArgsFit a → b < 256 → ArgsFit (set a g b)
args_set a g b f h = record { six = length-set a g b ∙ f.six; bytes = bytes_set a g b f.bytes h }

-- one more argument: those behind it are 0
pub zeros_set : (a : List ℕ) (g b : ℕ) → all_zero (drop g a) ≡ true → all_zero (drop (g + 1) (set a g b)) ≡ true
zeros_set a g b h = rw (drop-set-lt (g + 1) a g b (omega arith), ← drop-drop 1 g a) (every_tail is_zero (drop g a) h)

-- ---- bars and strips

pub bars_good : {h : ℕ} {l : List BarSlot} → BarsGood h l → (i : ℕ) (s : BarSlot) → sound_bar h s ≡ true → canonical_bar s ≡ true → BarFits s → BarsGood h (set l i s)
bars_good {h} {l} g i s p k f =
    record {
      sound = every_set (sound_bar h) l i s g.sound p;
      canonical = every_set canonical_bar l i s g.canonical k;
      long = length-set l i s ∙ g.long;
      fits = set_all BarFits l i s no_bar f g.fits;
    }

pub strips_good : {h : ℕ} {l : List Strip} → StripsGood h l → (i : ℕ) (s : Strip) → sound_strip h s ≡ true → canonical_strip s ≡ true → StripFits s → StripsGood h (set l i s)
strips_good {h} {l} g i s p k f =
    record {
      sound = every_set (sound_strip h) l i s g.sound p;
      canonical = every_set canonical_strip l i s g.canonical k;
      long = length-set l i s ∙ g.long;
      fits = set_all StripFits l i s no_strip f g.fits;
    }
