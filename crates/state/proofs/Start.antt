-- What stands at the start is sound and canonical, and fits.
-- Assumes nothing.
use mathlib.Core.Path.{◌≡◌, refl}
use mathlib.Core.Bool.{true, false}
use Prim.Native.Nat.{ℕ, zero, suc, ◌<◌}
use native.Mathlib.Omega.{arith}
use lib.ListN.{get_or, replicate}
use Rattle.canvas.specs.Sizes.{is_height}
use Rattle.state.specs.declared.Config.{Config}
use Rattle.state.specs.Editions.{is_edition}
use Rattle.state.specs.State.{no_bar, no_strip, config, start_port, start_state}
use Rattle.state.specs.Soundness.{every, sound_phase, sound_text, sound_port, sound_bar, sound_strip, sound_panel, sound_config, sound_state, thresholds_fit}
use Rattle.state.specs.Canonical.{canonical_phase, canonical_port, canonical_bar, canonical_strip, canonical_serial, canonical_panel, canonical_state}
use Rattle.state.specs.Fits.{BarFits, StripFits, ConfigFits, Fits}

pub start_sound : (c : Config) (u : ℕ) → sound_config c ≡ true → sound_state (start_state c u) ≡ true
unfolding every sound_phase sound_text sound_port sound_bar sound_strip sound_panel sound_state
start_sound c u e = rw e

-- with a height or an edition that there is not it would be unsound
pub start_unsound : (sound_state (start_state (config 63 1) 0) ≡ false) × (sound_state (start_state (config 64 3) 0) ≡ false)
unfolding sound_state sound_config is_height is_edition
start_unsound = (refl, refl)

pub start_thresholds : (h : ℕ) → thresholds_fit (start_port h).flow ≡ true
start_thresholds h = refl

pub start_canonical : (c : Config) (u : ℕ) → canonical_state (start_state c u) ≡ true
unfolding every canonical_phase canonical_port canonical_bar canonical_strip canonical_serial canonical_panel canonical_state
start_canonical c u = refl

-- one thing again and again, and behind the end too
pub all_replicate : {A : Type 0} (P : A → Type 0) (a : A) → P a → (n i : ℕ) → P (get_or (replicate n a) i a)
all_replicate P a h zero i = h
all_replicate P a h (suc n) zero = h
all_replicate P a h (suc n) (suc i) = all_replicate P a h n i

pub start_fits : (c : Config) (u : ℕ) → ConfigFits c → u < 65536 → Fits (start_state c u)
start_fits c u f h =
    record {
      config = f;
      port = record {
        phase = tt;
        args = record { six = refl; bytes = all_replicate (λ n. n < 256) 0 (omega arith) 6 };
        text = omega (arith, f.height);
        drawing = omega arith;
        flow = omega arith;
        refusals = omega arith;
      };
      panel = record {
        sixteen = refl;
        bars = all_replicate BarFits no_bar (omega arith) 16;
        eight = refl;
        strips = all_replicate StripFits no_strip (omega arith) 8;
        serial = omega arith;
        contrast = omega arith;
        minutes = omega arith;
        used = h;
      };
    }
