-- One law for each phase that is read, by its tag as the code has it.
-- Assumes nothing.
use mathlib.Core.Path.{◌≡◌, ◌∙◌}
use mathlib.Core.List.{List}
use Prim.Native.Nat.{ℕ}
use borrow.Author.Tests.{ne_eqb}
use lib.ListN.{drop}
use Rattle.queue.specs.Record.{at}
use Rattle.state.specs.declared.Phase.{Phase}
use Rattle.state.specs.declared.Phase.TheVariants.{Idle, Prefix, Gathering}
use Rattle.record.specs.Layout.{phase_at, code_at, got_at, inline_at, upload_at}
use Rattle.record.specs.Reading.{inline_of, upload_of, phase_of}

module _ (r : List ℕ) (t : ℕ) (e : t ≡ at r phase_at) where
  pub phase_prefix : t ≡ 1 → Prefix ≡ phase_of r
  unfolding phase_of
  phase_prefix h = rw (← e, h)

  pub phase_gathering : (c g : ℕ) → t ≡ 2 → c ≡ at r code_at → g ≡ at r got_at → Gathering c g ≡ phase_of r
  unfolding phase_of
  phase_gathering c g h f k = rw (f, k, ← e, h)

  pub phase_inline : (p : Phase) → t ≡ 3 → p ≡ inline_of (drop inline_at r) → p ≡ phase_of r
  unfolding phase_of
  phase_inline p h k = k ∙ rw (← e, h)

  pub phase_upload : (p : Phase) → t ≡ 4 → p ≡ upload_of (drop upload_at r) → p ≡ phase_of r
  unfolding phase_of
  phase_upload p h k = k ∙ rw (← e, h)

  pub phase_idle : (t ≡ 1 → ⊥) → (t ≡ 2 → ⊥) → (t ≡ 3 → ⊥) → (t ≡ 4 → ⊥) → Idle ≡ phase_of r
  unfolding phase_of
  phase_idle h1 h2 h3 h4 = rw (← e, ne_eqb t 1 h1, ne_eqb t 2 h2, ne_eqb t 3 h3, ne_eqb t 4 h4)
